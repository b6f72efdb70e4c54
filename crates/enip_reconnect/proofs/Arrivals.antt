-- A command of the originator's arrives: the ledger does what the numbered world says.
use Rattle.std.proofs.Common.{◌≡◌, ℕ, ◌+◌, ◌==◌, nat_lt, Bool, true, false, not, if◌then◌else◌, Option, Some, None, List, [], ◌∷◌, length, add-one, refl, ap, ◌∙◌}
use Rattle.cip_message.specs.declared.ledger_services.TheConstants as services
use Rattle.cip_ledger.specs.declared.target.Standing.{Standing}
use Rattle.cip_ledger.specs.declared.target.Standing.TheVariants as standings
use Rattle.cip_ledger.specs.Ledger.{LedgerState, SlotState, slot_of}
use Rattle.cip_message.specs.LedgerCommand.{Command}
use Rattle.cip_ledger.specs.Standings.{embedded_standing, by_standing, at_router}
use Rattle.cip_ledger.specs.Services.{Answer, Action, Replies, Executes, do_new, do_by_slot, do_command, success, within, reply_to, DONE, HEAD_SIZE}
use Rattle.cip_ledger.specs.Turn.{Served, fate, Turn, turn, turn_of, turn_by, acted, after_embedded, embedded_reply}
use Rattle.cip_ledger.specs.Runs.{Event, Executed, events_by}
use Rattle.cip_commander.specs.CommanderRule.{do_once}
use Rattle.enip_reconnect.specs.NumberedWorld.{IsDone, IsRefused, said_bytes, Arrival, Appended, Answered, Device, arrival, arrival_by, new_number, last_again, with_blank}
use Rattle.enip_reconnect.proofs.DoOnce.{IsCommand, fate-do_once}
use Rattle.enip_reconnect.proofs.Filled.{own_slot, slot_of-fill, with_slot-blank, with_slot-filled}
use Rattle.enip_reconnect.proofs.OtherOriginators.{filled}

-- the ledger with the last number and its reply in the originator's slot
abbrev pub filled_by : ℕ → Option (ℕ × List ℕ) → LedgerState → LedgerState
filled_by originator None ledger = ledger
filled_by originator (Some last) ledger = filled (own_slot originator last.0 last.1) ledger

-- the originator has a slot exactly if it has a last number
abbrev pub IsPlaced : ℕ → Option (ℕ × List ℕ) → List SlotState → Type 0
IsPlaced originator None taken = slot_of originator taken ≡ None
IsPlaced originator (Some last) taken = (was : SlotState) × (slot_of originator taken ≡ Some was)

module _ {M : Type 0} (after : M → ℕ → List ℕ → M) (answer : M → ℕ → List ℕ → List ℕ)
    (ledger : LedgerState) (router : M) (life originator number : ℕ) (request : List ℕ) (max_size : ℕ) where
  abbrev command : Command
  command = record { life = life; originator = originator; number = number; request = request }

  abbrev reply : List ℕ
  reply = embedded_reply after answer router request

  abbrev pub arrived_turn : Option (ℕ × List ℕ) → Arrival → Turn M
  arrived_turn last Appended =
      turn_of (Some (filled_by originator (Some (number, reply)) (with_blank originator ledger)))
      (after_embedded after answer router request) (said_bytes (IsDone reply))
  arrived_turn last (Answered said) = turn_of (Some (filled_by originator last ledger)) router (said_bytes said)

  -- what an arrival executes
  abbrev pub arrived_events : Arrival → List Event
  arrived_events Appended = Executed command reply ∷ []
  arrived_events (Answered said) = []

module _ {M : Type 0} (after : M → ℕ → List ℕ → M) (answer : M → ℕ → List ℕ → List ℕ) (standing : M → List ℕ → Standing)
    (ledger : LedgerState) (router : M) (life originator number : ℕ) (request : List ℕ) (max_size : ℕ)
    (final : embedded_standing standing router request ≡ standings.Final) where
  abbrev own : Command
  own = record { life = life; originator = originator; number = number; request = request }

  abbrev reply_of : List ℕ
  reply_of = embedded_reply after answer router request

  abbrev turn_at : Option (ℕ × List ℕ) → Arrival → Turn M
  turn_at last what = arrived_turn after answer ledger router life originator number request max_size last what

  abbrev events_at : Arrival → List Event
  events_at what = arrived_events after answer ledger router life originator number request max_size what

  abbrev Agrees : Option (ℕ × List ℕ) → Action → Arrival → Type 0
  Agrees last action arrived =
      (acted after answer (at_router standing router action) services.DO_ONCE (Some (filled_by originator last ledger)) router
      ≡ turn_at last arrived)
      × (events_by after answer (Served services.DO_ONCE (at_router standing router action)) router ≡ events_at arrived)

  agree_if : (last : Option (ℕ × List ℕ)) (is : Bool) (a b : Action) (c d : Arrival) → Agrees last a c → Agrees last b d →
      Agrees last (if is then a else b) (if is then c else d)
  agree_if last true a b c d if_true if_false = if_true
  agree_if last false a b c d if_true if_false = if_false

  -- the router executes a command at once
  executes-final : (last : Option (ℕ × List ℕ)) (done : Turn M) →
      acted after answer (Executes own) services.DO_ONCE (Some (filled_by originator last ledger)) router ≡ done →
      acted after answer (at_router standing router (Executes own)) services.DO_ONCE (Some (filled_by originator last ledger)) router
      ≡ done
  executes-final last done is =
      ap (λ s. acted after answer (by_standing s own) services.DO_ONCE (Some (filled_by originator last ledger)) router) final ∙ is

  executes-event : events_by after answer (Served services.DO_ONCE (at_router standing router (Executes own))) router
      ≡ Executed own reply_of ∷ []
  executes-event = ap (λ s. events_by after answer (Served services.DO_ONCE (by_standing s own)) router) final

  abbrev executed_with : List SlotState → Turn M
  executed_with taken =
      turn_of (Some (record ledger { taken = taken })) (after_embedded after answer router request) (said_bytes (IsDone reply_of))

  executes-agree : (last : Option (ℕ × List ℕ)) → Agrees last (Executes own) Appended
  executes-agree None =
      (executes-final None _ (ap executed_with (with_slot-blank originator number reply_of ledger.taken)), executes-event)
  executes-agree (Some last) = (
    executes-final (Some last) _ (ap executed_with (with_slot-filled originator number last.0 reply_of last.1 ledger.taken)),
    executes-event,
  )

  new-agree : (last : Option (ℕ × List ℕ)) → Agrees last (do_new max_size own) (new_number max_size)
  new-agree last = agree_if last (nat_lt max_size 485) _ _ _ _ (refl, refl) (executes-agree last)

  again-agree : (last : ℕ × List ℕ) →
      Agrees (Some last) (Replies (within max_size (success (DONE ∷ last.1)))) (last_again max_size last.1)
  again-agree last = rw add-one (go _ (nat_lt max_size (HEAD_SIZE + length (DONE ∷ last.1))) refl)
    where
      go : (refused : Answer) (long : Bool) → reply_to services.DO_ONCE refused ≡ said_bytes (IsRefused 0x11) →
          Agrees (Some last) (Replies (if long then refused else success (DONE ∷ last.1)))
          (if long then Answered (IsRefused 0x11) else Answered (IsDone last.1))
      go refused true is = (ap (λ text. turn_of (Some (filled_by originator (Some last) ledger)) router text) is, refl)
      go refused false is = (refl, refl)

  by_slot-agree : (last : Option (ℕ × List ℕ)) → IsPlaced originator last ledger.taken →
      Agrees last
      (do_by_slot (filled_by originator last ledger) max_size own (slot_of originator (filled_by originator last ledger).taken))
      (arrival_by ledger max_size number last)
  by_slot-agree None placed =
      rw placed (agree_if None (nat_lt (length ledger.taken) ledger.slots) _ _ _ _ (new-agree None) (refl, refl))
  by_slot-agree (Some last) placed =
      rw (slot_of-fill (own_slot originator last.0 last.1) placed.0 ledger.taken placed.1)
      (agree_if (Some last) (nat_lt number last.0) _ _ _ _ (refl, refl)
      (agree_if (Some last) (number == last.0) _ _ _ _ (again-agree last) (new-agree (Some last))))

  abbrev device : Option (ℕ × List ℕ) → Device M
  device last = record { ledger = ledger; router = router; last = last }

  command-agrees : (last : Option (ℕ × List ℕ)) → IsPlaced originator last ledger.taken →
      Agrees last (do_command (filled_by originator last ledger) max_size own) (arrival life (device last) max_size number)
  command-agrees None placed =
      agree_if None (not (life == ledger.life)) _ _ _ _ (refl, refl) (by_slot-agree None placed)
  command-agrees (Some last) placed =
      agree_if (Some last) (not (life == ledger.life)) _ _ _ _ (refl, refl) (by_slot-agree (Some last) placed)

  pub arrival-turn : (last : Option (ℕ × List ℕ)) → IsPlaced originator last ledger.taken → IsCommand own →
      turn after answer standing (Some (filled_by originator last ledger)) router max_size (do_once own)
      ≡ turn_at last (arrival life (device last) max_size number)
  arrival-turn last placed is =
      ap (λ fate. turn_by after answer fate (Some (filled_by originator last ledger)) router max_size (do_once own))
      (fate-do_once standing (filled_by originator last ledger) router max_size own is)
      ∙ (command-agrees last placed).0

  pub arrival-events : (last : Option (ℕ × List ℕ)) → IsPlaced originator last ledger.taken → IsCommand own →
      events_by after answer (fate standing (Some (filled_by originator last ledger)) router max_size (do_once own)) router
      ≡ events_at (arrival life (device last) max_size number)
  arrival-events last placed is =
      ap (λ fate. events_by after answer fate router)
      (fate-do_once standing (filled_by originator last ledger) router max_size own is)
      ∙ (command-agrees last placed).1
