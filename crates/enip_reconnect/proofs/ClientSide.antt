-- A client on a line: what it sends, and what it hears in the frames that answer it.
use Rattle.std.proofs.Common.{◌≡◌, ℕ, ◌+◌, ◌<◌, ◌≤◌, ◌^◌, ◌==◌, Bool, true, false, if◌then◌else◌, None, Some, Option}
use Rattle.std.proofs.Common.{Result, option_map, List, [], ◌++◌, length, slice_index, Ok, Err, refl, subst, sym, ap}
use Rattle.std.proofs.Common.{◌∙◌, arith, append-nil}
use Rattle.std.proofs.lemmas.Bool.{eq-eqb, leb-true, and_from, and_left, and_right, and_parts}
use Rattle.byteorder.specs.Numbers.{little_number-reads_back}
use Rattle.cip_bytes.specs.Numbers.{le, number_at}
use Rattle.cip_bytes.specs.Protocol.{command_number}
use Rattle.cip_bytes.specs.declared.protocol.Command.{Command}
use Rattle.cip_bytes.specs.declared.protocol.Command.TheVariants as commands
use Rattle.enip_wire.specs.Bodies.{rr_body_bytes}
use Rattle.enip_wire.specs.Frames.{Frame, IsFrame}
use Rattle.enip_wire.proofs.WriteLemmas.{rr_again}
use Rattle.enip_client.specs.declared.fault.ClientFault.TheVariants as faults
use Rattle.enip_client.specs.declared.wants.Wants.{Wants}
use Rattle.enip_client.specs.declared.fault.ClientFault.{ClientFault}
use Rattle.enip_client.specs.Calls.{Lent, lending, refusal, unless, registers, asks, next_number, can_register, can_ask}
use Rattle.enip_client.specs.Calls.{is_unconnected}
use Rattle.enip_client.specs.Client.{ClientState, new_client, with_state}
use Rattle.enip_client.specs.Frames.{sent, register_frame, request_frame}
use Rattle.enip_client.specs.Hears.{command_awaited, Answer, answer_read, answer_in, answer_to, TurnResult, hears}
use Rattle.enip_client.specs.Hears.{hears_awaiting, answer_turn, other_turn, reply_turn, faulted, shaped}
use Rattle.enip_client.specs.Hears.HeardEvent.{Registered, Replied}
use Rattle.enip_client.specs.Runs.{Action, awaited_by}
use Rattle.enip_client.specs.Runs.Action.{Register, Unconnected}
use Rattle.enip_client.specs.State.{is_not_registered, is_registered, session_in, is_free}
use Rattle.enip_reconnect.proofs.ClientReplies.{IsTaken}

-- ---- what a client may be

-- it has no session yet, and awaits nothing
pub record IsNew (c : ClientState) : Type 0 where
  pub fresh : is_not_registered c.state.registration ≡ true
  pub registered : is_registered c.state.registration ≡ false
  pub awaiting : c.state.awaiting ≡ None
  pub fault : c.state.fault ≡ None

-- it awaits the reply to its RegisterSession with this number
pub record IsRegistering (c : ClientState) (number : ℕ) : Type 0 where
  pub awaiting : c.state.awaiting
      ≡ option_map (λ what. record { number = number; awaited = what }) (awaited_by Register)
  pub fault : c.state.fault ≡ None
  pub fits : number < 2 ^ 64

-- it has the session with this handle, and can't have another
pub record HasSession (c : ClientState) (session : ℕ) : Type 0 where
  pub registered : is_registered c.state.registration ≡ true
  pub begun : is_not_registered c.state.registration ≡ false
  pub handle : session_in c.state.registration ≡ session

-- it has this session, and awaits nothing
pub record IsFree (c : ClientState) (session : ℕ) : Type 0 where
  pub has : HasSession c session
  pub awaiting : c.state.awaiting ≡ None
  pub fault : c.state.fault ≡ None

-- it has this session, and awaits the reply to this message, which it sent with this number
pub record IsAsking (c : ClientState) (session number : ℕ) (message : List ℕ) : Type 0 where
  pub has : HasSession c session
  pub awaiting : c.state.awaiting
      ≡ option_map (λ what. record { number = number; awaited = what }) (awaited_by (Unconnected message))
  pub fault : c.state.fault ≡ None
  pub fits : number < 2 ^ 64

pub new-is : (wants : Wants) → IsNew (new_client wants)
new-is wants = record { fresh = refl; registered = refl; awaiting = refl; fault = refl }

-- ---- frames

-- a frame with a command of the standard, as a client sends it, or an adapter
is_sent : (command : Command) (session number : ℕ) (body : List ℕ) → command_number command < 2 ^ 16 →
    session < 2 ^ 32 → length body ≤ 65511 → IsFrame (sent command session number body)
is_sent command session number body c s l = record {
  fields = record {
    command = c;
    data_length = omega arith;
    session = s;
    status = omega arith;
    context = refl;
    options = omega arith;
  };
  counted = refl;
  within = l;
}

-- the adapter's reply to RegisterSession, with the handle of the session
abbrev pub registered_frame : ℕ → ℕ → Frame
registered_frame session number = sent commands.RegisterSession session number (le 2 1 ++ le 2 0)

pub register-framed : (number : ℕ) → IsFrame (register_frame number)
register-framed number =
    is_sent commands.RegisterSession 0 number (le 2 1 ++ le 2 0) (omega arith) (omega arith) (omega arith)

pub registered-framed : (session number : ℕ) → session < 2 ^ 32 → IsFrame (registered_frame session number)
registered-framed session number small =
    is_sent commands.RegisterSession session number (le 2 1 ++ le 2 0) (omega arith) small (omega arith)

length-rr_body_bytes : (bytes : List ℕ) → length (rr_body_bytes bytes) ≡ 16 + length bytes
length-rr_body_bytes bytes = omega (arith, ap length (append-nil bytes))

-- a request, or the adapter's reply to it, whose frame has the same session and number
pub request-framed : (session number : ℕ) (bytes : List ℕ) → session < 2 ^ 32 → length bytes ≤ 504 →
    IsFrame (request_frame session number bytes)
request-framed session number bytes small short =
    is_sent commands.SendRRData session number (rr_body_bytes bytes) (omega arith) small
    (omega (arith, length-rr_body_bytes bytes, short))

-- ---- calls

-- the client once it sent the frame of this call, whose reply it awaits
abbrev pub after_sending : ClientState → Action → ClientState
after_sending c action = with_state c (record c.state {
  awaiting = option_map (λ what. record { number = next_number c.state; awaited = what }) (awaited_by action);
  frames = next_number c.state;
})

abbrev registers_unless : ClientState → Option ClientFault → Result Lent ClientFault
registers_unless c refused =
    unless refused (Ok (lending (register_frame (next_number c.state)) (after_sending c Register).state))

-- the client sends RegisterSession, and awaits the reply
pub record Registers (c : ClientState) : Type 0 where
  pub lent : registers c.state
      ≡ Ok (lending (register_frame (next_number c.state)) (after_sending c Register).state)
  pub after : IsRegistering (after_sending c Register) (next_number c.state)

pub registers-new : (c : ClientState) → IsNew c → Registers c
registers-new c is =
    let free : refusal c.state (can_register c.state) ≡ None = rw (is.fault, is.fresh, is.awaiting) refl in
    record {
      lent = ap (registers_unless c) free;
      after = record { awaiting = refl; fault = is.fault; fits = omega arith };
    }

-- the client sends a message, and awaits the reply
pub record Asks (c : ClientState) (session : ℕ) (message : List ℕ) : Type 0 where
  pub lent : asks c.state message
      ≡ Ok (lending (request_frame session (next_number c.state) message) (after_sending c (Unconnected message)).state)
  pub after : IsAsking (after_sending c (Unconnected message)) session (next_number c.state) message

-- a message of a client with this session is sent if it is one that is sent unconnected
abbrev lends_message : ClientState → ℕ → List ℕ → Bool → Result Lent ClientFault
lends_message c session message fits =
    if fits then Ok (
    lending (request_frame session (next_number c.state) message) (after_sending c (Unconnected message)).state
    )
    else Err faults.Request

abbrev lends_unless : ClientState → List ℕ → Option ClientFault → Result Lent ClientFault
lends_unless c message refused =
    unless refused (lends_message c (session_in c.state.registration) message (is_unconnected message))

asks-by : (c : ClientState) (session : ℕ) (message : List ℕ) (fits : Bool) → IsFree c session →
    is_unconnected message ≡ fits → asks c.state message ≡ lends_message c session message fits
asks-by c session message fits is e =
    let free : refusal c.state (can_ask c.state) ≡ None = rw (is.fault, is.has.registered, is.awaiting) refl in
    ap (lends_unless c message) free
    ∙ ap (lends_message c (session_in c.state.registration) message) e
    ∙ ap (λ handle. lends_message c handle message fits) is.has.handle

pub asks-free : (c : ClientState) (session : ℕ) (message : List ℕ) → IsFree c session → is_unconnected message ≡ true →
    Asks c session message
asks-free c session message is fits = record {
  lent = asks-by c session message true is fits;
  after = record {
    has = record { registered = is.has.registered; begun = is.has.begun; handle = is.has.handle };
    awaiting = refl;
    fault = is.fault;
    fits = omega arith;
  };
}

-- no other message is sent
pub asks-other : (c : ClientState) (session : ℕ) (message : List ℕ) → IsFree c session →
    is_unconnected message ≡ false → asks c.state message ≡ Err faults.Request
asks-other c session message is never = asks-by c session message false is never

-- ---- messages

-- a message that is sent unconnected has at least two bytes, and at most 504
pub record IsShort (message : List ℕ) : Type 0 where
  pub from : 2 ≤ length message
  pub to : length message ≤ 504

pub unconnected-short : (message : List ℕ) → is_unconnected message ≡ true → IsShort message
unconnected-short message fits =
    let (sizes, service) = and_parts _ _ fits in
    let (from, to) = and_parts _ _ sizes in
    record { from = leb-true _ _ from; to = leb-true _ _ to }

-- ---- calls that are not possible now

refused-now : (c : ClientState) (possible : Bool) → c.state.fault ≡ None → possible ≡ false →
    refusal c.state possible ≡ Some faults.State
refused-now c possible fine never = rw (fine, never) refl

registers-refused : (c : ClientState) → c.state.fault ≡ None → can_register c.state ≡ false →
    registers c.state ≡ Err faults.State
registers-refused c fine never =
    ap (registers_unless c) (refused-now c (can_register c.state) fine never)

asks-refused : (c : ClientState) (message : List ℕ) → c.state.fault ≡ None → can_ask c.state ≡ false →
    asks c.state message ≡ Err faults.State
asks-refused c message fine never = ap (lends_unless c message) (refused-now c (can_ask c.state) fine never)

-- RegisterSession is sent once
pub registers-registering : (c : ClientState) (number : ℕ) → IsRegistering c number →
    registers c.state ≡ Err faults.State
registers-registering c number is =
    registers-refused c is.fault
    (and_right (is_not_registered c.state.registration) (is_free c.state) (rw is.awaiting refl))

pub registers-free : (c : ClientState) (session : ℕ) → IsFree c session → registers c.state ≡ Err faults.State
registers-free c session is = registers-refused c is.fault (and_left _ _ is.has.begun)

pub registers-asking : (c : ClientState) (session number : ℕ) (message : List ℕ) → IsAsking c session number message →
    registers c.state ≡ Err faults.State
registers-asking c session number message is = registers-refused c is.fault (and_left _ _ is.has.begun)

-- no message is sent without a session, or while a reply is awaited
pub asks-new : (c : ClientState) (message : List ℕ) → IsNew c → asks c.state message ≡ Err faults.State
asks-new c message is = asks-refused c message is.fault (and_left _ _ is.registered)

pub asks-registering : (c : ClientState) (number : ℕ) (message : List ℕ) → IsRegistering c number →
    asks c.state message ≡ Err faults.State
asks-registering c number message is =
    asks-refused c message is.fault
    (and_right (is_registered c.state.registration) (is_free c.state) (rw is.awaiting refl))

pub asks-asking : (c : ClientState) (session number : ℕ) (other message : List ℕ) → IsAsking c session number other →
    asks c.state message ≡ Err faults.State
asks-asking c session number other message is =
    asks-refused c message is.fault
    (and_right (is_registered c.state.registration) (is_free c.state) (rw is.awaiting refl))

-- ---- replies

-- a frame with the awaited command and context is heard by its shape
hears-awaited : (c : ClientState) (f : Frame) (number : ℕ) (what : _) →
    c.state.awaiting ≡ Some (record { number = number; awaited = what }) →
    (f.header.command == command_number (command_awaited what)) ≡ true → f.header.context ≡ le 8 number →
    number < 2 ^ 64 → f.header.status ≡ 0 → hears c.state f ≡ shaped c.state what f
hears-awaited c f number what awaits same context small status =
    let back : number_at 0 8 (le 8 number) ≡ number = little_number-reads_back 8 number [] small in
    let named : (number_at 0 8 f.header.context == number) ≡ true
    = eq-eqb _ _ (ap (λ bytes. number_at 0 8 bytes) context ∙ back) in
    ap (hears_awaiting c.state f) awaits
    ∙ ap (λ b. if b then answer_turn c.state what f else other_turn c.state f) (and_from _ _ same named)
    ∙ ap (λ n. if n == 0 then shaped c.state what f else faulted c.state (faults.Status n)) status

-- the client hears that the session is registered, and has it
pub record HearsRegistered (session : ℕ) (turned : TurnResult) : Type 0 where
  pub heard_event : turned.heard_event ≡ Registered
  pub after : IsFree (record { state = turned.state; held = [] }) session

pub hears-registered : (c : ClientState) (session number : ℕ) → IsRegistering c number →
    HearsRegistered session (hears c.state (registered_frame session number))
hears-registered c session number is =
    subst (HearsRegistered session)
    (sym (hears-awaited c (registered_frame session number) number _ is.awaiting refl refl is.fits refl)) (record {
      heard_event = refl;
      after = record {
        has = record { registered = refl; begun = refl; handle = refl };
        awaiting = refl;
        fault = is.fault;
      };
    })

-- the client hears these bytes as the reply, and keeps its session
pub record HearsReplied (session : ℕ) (bytes : List ℕ) (turned : TurnResult) : Type 0 where
  pub heard_event : turned.heard_event ≡ Replied bytes
  pub after : IsFree (record { state = turned.state; held = [] }) session

read-again : (service : ℕ) (bytes : List ℕ) (is : IsTaken service bytes) →
    answer_to service (rr_body_bytes bytes) ≡ Some (record { bytes = bytes; reply = is.reply })
read-again service bytes is =
    let short : length bytes ≤ 504 = is.within in
    ap (answer_in service) (rr_again bytes (omega (arith, short)))
    ∙ ap (answer_read service bytes) is.read
    ∙ ap (λ b. if b then Some (let a : Answer = record { bytes = bytes; reply = is.reply } in a) else None)
    (eq-eqb _ _ is.service_is)

pub hears-replied : (c : ClientState) (session number : ℕ) (message bytes : List ℕ) →
    IsAsking c session number message → IsTaken (slice_index message 0) bytes →
    HearsReplied session bytes (hears c.state (request_frame session number bytes))
hears-replied c session number message bytes is taken =
    subst (HearsReplied session bytes)
    (sym (hears-awaited c (request_frame session number bytes) number _ is.awaiting refl refl is.fits refl
    ∙ ap (reply_turn c.state) (read-again (slice_index message 0) bytes taken))) (record {
      heard_event = refl;
      after = record {
        has = record { registered = is.has.registered; begun = is.has.begun; handle = is.has.handle };
        awaiting = refl;
        fault = is.fault;
      };
    })
