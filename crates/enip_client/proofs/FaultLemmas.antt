-- A lasting fault.
use Rattle.std.proofs.Common.{◌≡◌, ℕ, Bool, false, cond, Some, None, Result, Err, List, [], ◌∷◌, refl, ap, ◌∙◌}
use Rattle.enip_client.specs.declared.fault.ClientFault.{ClientFault}
use Rattle.enip_client.specs.declared.fault.SubmitFault.TheVariants as submit_faults
use Rattle.enip_client.specs.declared.state.State.{State}
use Rattle.enip_client.specs.Calls.{Lent, refusal, unless, registers, opens, asks, submits, closes, unregisters}
use Rattle.enip_client.specs.Calls.{resends, gives_up}
use Rattle.enip_client.specs.Calls.{submits_unless, is_connected, after_lending, can_register, can_open, can_ask}
use Rattle.enip_client.specs.Calls.{can_submit, can_close}
use Rattle.enip_client.specs.Client.{ClientState, Fed, fed, fed_unless, with_state}
use Rattle.enip_client.specs.Hears.HeardEvent.{Nothing}
use Rattle.enip_client.specs.Runs.{Action, Call, Act, Feed, after_action, frame_lent, after_call, lent_by_call}
use Rattle.enip_client.specs.Runs.{heard_events_of_call}
use Rattle.enip_client.specs.Runs.{after_calls, frames_lent, heard_events_of_calls, frame_before, heard_events_before, lent_in}
use Rattle.enip_client.specs.Runs.Action.{Register, Open, Unconnected, Submit, Resend, GiveUp, Close, Unregister}
use Rattle.enip_client.specs.Runs.Action.{OpenOver, UnconnectedOver, CloseOver}

module _ (s : State) (fault : ClientFault) (lasts : s.fault ≡ Some fault) where
  refused : (possible : Bool) → refusal s possible ≡ Some fault
  refused possible = rw lasts refl

  not-connected : is_connected s ≡ false
  not-connected = rw lasts refl

  refused-by : (possible : Bool) (lent : Result Lent ClientFault) → unless (refusal s possible) lent ≡ Err fault
  refused-by possible lent = ap (λ o. unless o lent) (refused possible)

  not-then : {A : Type 0} (x y : A) → cond (is_connected s) x y ≡ y
  not-then x y = ap (λ b. cond b x y) not-connected

  pub register-fault : registers s ≡ Err fault
  register-fault = refused-by (can_register s) _

  pub open-fault : opens s ≡ Err fault
  open-fault = refused-by (can_open s) _

  pub ask-fault : (request : List ℕ) → asks s request ≡ Err fault
  ask-fault request = refused-by (can_ask s) _

  pub submit-fault : (request : List ℕ) → submits s request ≡ Err (submit_faults.Client fault)
  submit-fault request = ap (submits_unless s request) (refused (can_submit s))

  pub close-fault : closes s ≡ Err fault
  close-fault = refused-by (can_close s) _

  pub unregister-fault : unregisters s ≡ Err fault
  unregister-fault = refused-by (can_ask s) _

  pub resend-fault : resends s ≡ None
  resend-fault = not-then _ None

  pub give_up-fault : gives_up s ≡ false
  give_up-fault = rw not-connected refl

  action-same : (a : Action) → after_action s a ≡ s
  action-same Register = ap (after_lending s) register-fault
  action-same Open = ap (after_lending s) open-fault
  action-same (Unconnected request) = ap (after_lending s) (ask-fault request)
  action-same (Submit request) = ap (after_lending s) (submit-fault request)
  action-same Resend = refl
  action-same GiveUp = not-then _ s
  action-same Close = ap (after_lending s) close-fault
  action-same (OpenOver route) = ap (after_lending s) (refused-by (can_open s) _)
  action-same (UnconnectedOver [] request) = ap (after_lending s) (ask-fault request)
  action-same (UnconnectedOver (byte ∷ route) request) = ap (after_lending s) (refused-by (can_ask s) _)
  action-same (CloseOver route) = ap (after_lending s) (refused-by (can_close s) _)
  action-same Unregister = ap (after_lending s) unregister-fault

  action-none : (a : Action) → frame_lent s a ≡ None
  action-none Register = ap lent_in register-fault
  action-none Open = ap lent_in open-fault
  action-none (Unconnected request) = ap lent_in (ask-fault request)
  action-none (Submit request) = ap lent_in (submit-fault request)
  action-none Resend = resend-fault
  action-none GiveUp = refl
  action-none Close = ap lent_in close-fault
  action-none (OpenOver route) = ap lent_in (refused-by (can_open s) _)
  action-none (UnconnectedOver [] request) = ap lent_in (ask-fault request)
  action-none (UnconnectedOver (byte ∷ route) request) = ap lent_in (refused-by (can_ask s) _)
  action-none (CloseOver route) = ap lent_in (refused-by (can_close s) _)
  action-none Unregister = ap lent_in unregister-fault

pub fed-fault : (c : ClientState) (fault : ClientFault) (piece : List ℕ) → c.state.fault ≡ Some fault
    → fed c piece ≡ record { client = c; taken = 0; heard_event = Nothing }
fed-fault c fault piece lasts = ap (fed_unless c piece) lasts

call-same : (c : ClientState) (fault : ClientFault) (call : Call) → c.state.fault ≡ Some fault → after_call c call ≡ c
call-same c fault (Act a) lasts = ap (with_state c) (action-same c.state fault lasts a)
call-same c fault (Feed piece) lasts = ap (λ (f : Fed). f.client) (fed-fault c fault piece lasts)

call-none : (c : ClientState) (fault : ClientFault) (call : Call) → c.state.fault ≡ Some fault
    → lent_by_call c call ≡ None
call-none c fault (Act a) lasts = action-none c.state fault lasts a
call-none c fault (Feed piece) lasts = refl

call-nothing : (c : ClientState) (fault : ClientFault) (call : Call) → c.state.fault ≡ Some fault
    → heard_events_of_call c call ≡ Nothing
call-nothing c fault (Act a) lasts = refl
call-nothing c fault (Feed piece) lasts = ap (λ (f : Fed). f.heard_event) (fed-fault c fault piece lasts)

pub same-client : (c : ClientState) (fault : ClientFault) (calls : List Call) → c.state.fault ≡ Some fault
    → after_calls c calls ≡ c
same-client c fault [] lasts = refl
same-client c fault (call ∷ calls) lasts =
    ap (λ d. after_calls d calls) (call-same c fault call lasts) ∙ same-client c fault calls lasts

pub none-lent : (c : ClientState) (fault : ClientFault) (calls : List Call) → c.state.fault ≡ Some fault
    → frames_lent c calls ≡ []
none-lent c fault [] lasts = refl
none-lent c fault (call ∷ calls) lasts =
    ap (λ o. frame_before o (frames_lent (after_call c call) calls)) (call-none c fault call lasts)
    ∙ (ap (λ d. frames_lent d calls) (call-same c fault call lasts) ∙ none-lent c fault calls lasts)

pub none-heard : (c : ClientState) (fault : ClientFault) (calls : List Call) → c.state.fault ≡ Some fault
    → heard_events_of_calls c calls ≡ []
none-heard c fault [] lasts = refl
none-heard c fault (call ∷ calls) lasts =
    ap (λ n. heard_events_before n (heard_events_of_calls (after_call c call) calls)) (call-nothing c fault call lasts)
    ∙ (ap (λ d. heard_events_of_calls d calls) (call-same c fault call lasts) ∙ none-heard c fault calls lasts)

pub none-taken : (c : ClientState) (fault : ClientFault) (piece : List ℕ) → c.state.fault ≡ Some fault
    → (fed c piece).taken ≡ 0
none-taken c fault piece lasts = ap (λ (f : Fed). f.taken) (fed-fault c fault piece lasts)

pub all-answer : (c : ClientState) (fault : ClientFault) (request : List ℕ) → c.state.fault ≡ Some fault
    → (registers c.state ≡ Err fault) × (opens c.state ≡ Err fault) × (asks c.state request ≡ Err fault)
    × (submits c.state request ≡ Err (submit_faults.Client fault)) × (closes c.state ≡ Err fault)
    × (unregisters c.state ≡ Err fault) × (resends c.state ≡ None) × (gives_up c.state ≡ false)
all-answer c fault request lasts = (
  register-fault c.state fault lasts,
  open-fault c.state fault lasts,
  ask-fault c.state fault lasts request,
  submit-fault c.state fault lasts request,
  close-fault c.state fault lasts,
  unregister-fault c.state fault lasts,
  resend-fault c.state fault lasts,
  give_up-fault c.state fault lasts,
)
