-- What becomes of what is in flight to the adapter.
use Rattle.std.proofs.Common.{◌≡◌, ℕ, zero, suc, ◌<◌, ◌≤◌, ◌^◌, Bool, true, Some, List, [], ◌∷◌, ◌++◌, length, take}
use Rattle.std.proofs.Common.{drop, refl, ap, sym, ◌∙◌, subst, arith, append_assoc, append-nil}
use Rattle.std.specs.List.{slice_get}
use Rattle.std.proofs.lemmas.List.{take-append-drop}
use Rattle.cip_bytes.specs.declared.protocol.TheConstants.{UNCONNECTED_LIMIT}
use Rattle.cip_commander.specs.CommanderRule.{do_once}
use Rattle.cip_ledger.specs.Device.{Device, exec_device}
use Rattle.cip_message.specs.LedgerCommand.{Command}
use Rattle.cip_ledger.specs.Runs.{Request}
use Rattle.enip_adapter.specs.Calls.{AdapterState, Call, call_meaning, call_answer, after_call}
use Rattle.enip_adapter.specs.Calls.Call.{Feeds}
use Rattle.enip_adapter.specs.DeviceRuns.{requests_of_calls}
use Rattle.enip_adapter.specs.Runs.{IsForOther}
use Rattle.enip_adapter.specs.SendRRData.{Executes, route_of}
use Rattle.enip_adapter.specs.Serving.{output_bytes}
use Rattle.enip_adapter.specs.Turn.{Answer}
use Rattle.enip_adapter.proofs.SoundLemmas.{IsSound}
use Rattle.enip_client.specs.Frames.{register_frame, request_frame}
use Rattle.enip_wire.specs.Frames.{Frame, frame, IsFrame}
use Rattle.enip_reconnect.proofs.AdapterSide.{Holds, holds-other, TakesPart, takes-part, takes-nothing, Registers}
use Rattle.enip_reconnect.proofs.AdapterSide.{registers-peer, Reaches, reaches-device, route_of-do_once}
use Rattle.enip_reconnect.proofs.AdapterSide.{registered_session, is-request}
use Rattle.enip_reconnect.proofs.ClientSide.{registered_frame, register-framed}
use Rattle.enip_reconnect.proofs.Tracking.{Flight, Nothing, Registration, Message, Inquiry, session_in, bytes_in}
use Rattle.enip_reconnect.proofs.Tracking.{WasSent, Carries}

-- ---- lists

pub found-front : {X : Type 0} (xs more : List X) (position : ℕ) (x : X) → slice_get xs position ≡ Some x →
    slice_get (xs ++ more) position ≡ Some x
found-front [] more position x found = absurd (cc)
found-front (y ∷ xs) more zero x found = found
found-front (y ∷ xs) more (suc position) x found = found-front xs more position x found

pub found-last : {X : Type 0} (xs : List X) (x : X) → slice_get (xs ++ x ∷ []) (length xs) ≡ Some x
found-last [] x = refl
found-last (y ∷ xs) x = found-last xs x

-- as many bytes are left as were not taken
pub left-over : (count : ℕ) (bytes : List ℕ) → drop (length (take count bytes)) bytes ≡ drop count bytes
left-over zero bytes = refl
left-over (suc count) [] = refl
left-over (suc count) (byte ∷ bytes) = left-over count bytes

pub take-none : (count : ℕ) → take {A = ℕ} count [] ≡ []
take-none zero = refl
take-none (suc count) = refl

-- ---- what stays

pub sent-more : (own : ℕ) (sent more : List (ℕ × List ℕ)) (flight : Flight) → WasSent own sent flight → WasSent own (sent ++ more) flight
sent-more own sent more (Nothing registered) is = tt
sent-more own sent more (Registration context) is = tt
sent-more own sent more (Inquiry context request) is = is
sent-more own sent more (Message context position command) is =
    record { at = found-front sent more position (command.number, do_once command) is.at; small = is.small }

pub carries-more : (own : ℕ) (a : AdapterState) (sent more : List (ℕ × List ℕ)) (peer : ℕ) (in_flight : List ℕ) (flight : Flight) →
    Carries own a sent peer in_flight flight → Carries own a (sent ++ more) peer in_flight flight
carries-more own a sent more peer in_flight flight is = record {
  below = is.below;
  held = is.held;
  holds = is.holds;
  stream = is.stream;
  was_sent = sent-more own sent more flight is.was_sent;
}

-- Calls for others leave it.
pub carries-other : (own : ℕ) (a : AdapterState) (call : Call) (sent : List (ℕ × List ℕ)) (peer : ℕ) (in_flight : List ℕ) (flight : Flight) →
    IsForOther peer call → Carries own a sent peer in_flight flight → Carries own (after_call a call) sent peer in_flight flight
carries-other own a call sent peer in_flight flight other is = record {
  below = is.below;
  held = is.held;
  holds = holds-other a call peer (session_in peer flight) is.held other is.holds;
  stream = is.stream;
  was_sent = is.was_sent;
}

-- ---- what arrives

-- So many of the bytes in flight arrive.
abbrev pub arrival : ℕ → ℕ → ℕ → List ℕ → Call
arrival now peer count in_flight = Feeds now peer (take count in_flight)

-- This is answered, the device has this state, these requests reached it, and this
-- is still in flight.
pub record Arrives (own : ℕ) (a : AdapterState) (sent : List (ℕ × List ℕ)) (now peer count : ℕ) (in_flight : List ℕ)
    (answer : List ℕ) (device : Device) (requests : List Request) (flight : Flight) : Type 0 where
  pub answer_is : output_bytes (call_answer a (arrival now peer count in_flight)).output ≡ answer
  pub device_is : (after_call a (arrival now peer count in_flight)).state.shared.objects ≡ device
  pub requests_are : requests_of_calls a (arrival now peer count in_flight ∷ []) ≡ requests
  pub carries : Carries own (after_call a (arrival now peer count in_flight)) sent peer
      (drop (call_meaning a (arrival now peer count in_flight)).taken in_flight) flight

-- Nothing happens but that the adapter holds more of it.
abbrev pub Waits : ℕ → AdapterState → List (ℕ × List ℕ) → ℕ → ℕ → ℕ → List ℕ → Flight → Type 0
Waits own a sent now peer count in_flight flight =
    Arrives own a sent now peer count in_flight [] a.state.shared.objects [] flight

waits-by : (own : ℕ) (a : AdapterState) (sent : List (ℕ × List ℕ)) (now peer count : ℕ) (in_flight held : List ℕ) (flight : Flight) →
    peer < 2 ^ 32 → WasSent own sent flight → TakesPart a now peer (session_in peer flight) held (take count in_flight) →
    (held ++ take count in_flight) ++ drop count in_flight ≡ bytes_in peer flight →
    Waits own a sent now peer count in_flight flight
waits-by own a sent now peer count in_flight held flight below was_sent takes stream = record {
  answer_is = ap (λ (x : Answer). output_bytes x.output) takes.answer;
  device_is = takes.device;
  requests_are = takes.requests;
  carries = record {
    below = below;
    held = held ++ take count in_flight;
    holds = takes.holds;
    stream = ap (λ n. (held ++ take count in_flight) ++ drop n in_flight) takes.taken
        ∙ (ap (λ bytes. (held ++ take count in_flight) ++ bytes) (left-over count in_flight) ∙ stream);
    was_sent = was_sent;
  };
}

-- the bytes that arrive, and those that do not yet
pub joined : (held : List ℕ) (count : ℕ) (in_flight : List ℕ) →
    (held ++ take count in_flight) ++ drop count in_flight ≡ held ++ in_flight
joined held count in_flight =
    append_assoc held (take count in_flight) (drop count in_flight)
    ∙ ap (λ bytes. held ++ bytes) (take-append-drop count in_flight)

-- nothing is in flight
pub none-left : (xs ys : List ℕ) → xs ++ ys ≡ [] → ys ≡ []
none-left [] ys is = is
none-left (x ∷ xs) ys is = absurd (cc)

pub nothing-arrives : (own : ℕ) (a : AdapterState) (sent : List (ℕ × List ℕ)) (now peer count : ℕ) (in_flight : List ℕ) (registered : Bool) →
    IsSound a → Carries own a sent peer in_flight (Nothing registered) →
    Waits own a sent now peer count in_flight (Nothing registered)
nothing-arrives own a sent now peer count in_flight registered sound is =
    let session = session_in peer (Nothing registered) in
    let none : in_flight ≡ [] = none-left is.held in_flight is.stream in
    let piece : take count in_flight ≡ [] = ap (take count) none ∙ take-none count in
    let takes : TakesPart a now peer session is.held (take count in_flight) =
    subst (TakesPart a now peer session is.held) (sym piece) (takes-nothing a now peer session is.held sound is.holds) in
    waits-by own a sent now peer count in_flight is.held (Nothing registered) is.below tt takes
    (joined is.held count in_flight ∙ is.stream)

-- Either the frame is whole now, or the adapter waits for more.
pub data Whole (own : ℕ) (a : AdapterState) (sent : List (ℕ × List ℕ)) (now peer count : ℕ) (in_flight answer : List ℕ) (device : Device)
    (requests : List Request) (after before : Flight) : Type 0 where
  IsWhole : Arrives own a sent now peer count in_flight answer device requests after →
      Whole own a sent now peer count in_flight answer device requests after before
  IsPart : Waits own a sent now peer count in_flight before →
      Whole own a sent now peer count in_flight answer device requests after before

frame-arrives : (own : ℕ) (a : AdapterState) (sent : List (ℕ × List ℕ)) (now peer count : ℕ) (in_flight answer : List ℕ) (device : Device)
    (requests : List Request) (after before : Flight) (f : Frame) → IsSound a → IsFrame f → bytes_in peer before ≡ frame f →
    (is : Carries own a sent peer in_flight before) →
    (is.held ++ take count in_flight ≡ frame f → drop count in_flight ≡ [] →
    Arrives own a sent now peer count in_flight answer device requests after) →
    Whole own a sent now peer count in_flight answer device requests after before
frame-arrives own a sent now peer count in_flight answer device requests after before f sound ok bytes is whole =
    by_rest (drop count in_flight) refl
  where
    all : (is.held ++ take count in_flight) ++ drop count in_flight ≡ frame f
    all = joined is.held count in_flight ∙ (is.stream ∙ bytes)

    by_rest : (rest : List ℕ) → drop count in_flight ≡ rest →
        Whole own a sent now peer count in_flight answer device requests after before
    by_rest [] none =
        IsWhole (whole (sym (append-nil (is.held ++ take count in_flight))
        ∙ (ap (λ rest. (is.held ++ take count in_flight) ++ rest) (sym none) ∙ all)) none)
    by_rest (byte ∷ rest) some =
        IsPart (waits-by own a sent now peer count in_flight is.held before is.below is.was_sent
        (takes-part a now peer (session_in peer before) is.held (take count in_flight) (drop count in_flight) f sound is.holds ok
        (sym (append_assoc is.held (take count in_flight) (drop count in_flight)) ∙ all) (omega (arith, ap length some)))
        (joined is.held count in_flight ∙ is.stream))

none-after : (count taken : ℕ) (in_flight : List ℕ) → taken ≡ length (take count in_flight) → drop count in_flight ≡ [] →
    drop taken in_flight ≡ []
none-after count taken in_flight is none = ap (λ n. drop n in_flight) is ∙ (left-over count in_flight ∙ none)

abbrev pub RegistrationArrives : ℕ → AdapterState → List (ℕ × List ℕ) → ℕ → ℕ → ℕ → List ℕ → ℕ → Type 0
RegistrationArrives own a sent now peer count in_flight context =
    Whole own a sent now peer count in_flight (frame (registered_frame peer context)) a.state.shared.objects [] (Nothing true)
    (Registration context)

pub registration-arrives : (own : ℕ) (a : AdapterState) (sent : List (ℕ × List ℕ)) (now peer count : ℕ) (in_flight : List ℕ) (context : ℕ) →
    IsSound a → Carries own a sent peer in_flight (Registration context) →
    RegistrationArrives own a sent now peer count in_flight context
registration-arrives own a sent now peer count in_flight context sound is =
    frame-arrives own a sent now peer count in_flight (frame (registered_frame peer context)) a.state.shared.objects []
    (Nothing true) (Registration context) (register_frame context) sound (register-framed context) refl is whole
  where
    whole : is.held ++ take count in_flight ≡ frame (register_frame context) → drop count in_flight ≡ [] →
        Arrives own a sent now peer count in_flight (frame (registered_frame peer context)) a.state.shared.objects [] (Nothing true)
    whole all none =
        let done : Registers a now peer (take count in_flight) context =
        registers-peer a now peer is.held (take count in_flight) context sound is.holds all in
        record {
          answer_is = ap (λ (x : Answer). output_bytes x.output) done.answer;
          device_is = done.device;
          requests_are = done.requests;
          carries = record {
            below = is.below;
            held = [];
            holds = done.holds;
            stream = none-after count _ in_flight done.taken none;
            was_sent = tt;
          };
        }

-- What the device answers to a request, and its state after it.
abbrev pub answer_at : AdapterState → List ℕ → List ℕ
answer_at a request = (exec_device a.state.shared.objects UNCONNECTED_LIMIT request).answer

abbrev pub device_at : AdapterState → List ℕ → Device
device_at a request = (exec_device a.state.shared.objects UNCONNECTED_LIMIT request).after

-- A request that reaches the device.
abbrev pub RequestArrives : ℕ → AdapterState → List (ℕ × List ℕ) → ℕ → ℕ → ℕ → List ℕ → ℕ → List ℕ → Flight → Type 0
RequestArrives own a sent now peer count in_flight context request before =
    Whole own a sent now peer count in_flight (frame (request_frame peer context (answer_at a request)))
    (device_at a request) ((UNCONNECTED_LIMIT, request) ∷ []) (Nothing true) before

request-arrives : (own : ℕ) (a : AdapterState) (sent : List (ℕ × List ℕ)) (now peer count : ℕ) (in_flight : List ℕ)
    (context : ℕ) (request : List ℕ) (before : Flight) → session_in peer before ≡ registered_session peer →
    bytes_in peer before ≡ frame (request_frame peer context request) → 2 ≤ length request →
    length request ≤ UNCONNECTED_LIMIT → route_of request ≡ Executes → IsSound a →
    Carries own a sent peer in_flight before →
    RequestArrives own a sent now peer count in_flight context request before
request-arrives own a sent now peer count in_flight context request before session bytes least small routes sound is =
    frame-arrives own a sent now peer count in_flight (frame (request_frame peer context (answer_at a request)))
    (device_at a request) ((UNCONNECTED_LIMIT, request) ∷ []) (Nothing true) before (request_frame peer context request) sound
    (is-request peer context request is.below small) bytes is whole
  where
    whole : is.held ++ take count in_flight ≡ frame (request_frame peer context request) → drop count in_flight ≡ [] →
        Arrives own a sent now peer count in_flight (frame (request_frame peer context (answer_at a request)))
        (device_at a request) ((UNCONNECTED_LIMIT, request) ∷ []) (Nothing true)
    whole all none =
        let holds : Holds a peer (registered_session peer) is.held =
        subst (λ s. Holds a peer s is.held) session is.holds in
        let done : Reaches a now peer (take count in_flight) context request =
        reaches-device a now peer is.held (take count in_flight) context request sound is.below holds least small routes all in
        record {
          answer_is = ap (λ (x : Answer). output_bytes x.output) done.answer;
          device_is = done.device;
          requests_are = done.requests;
          carries = record {
            below = is.below;
            held = [];
            holds = done.holds;
            stream = none-after count _ in_flight done.taken none;
            was_sent = tt;
          };
        }

pub message-arrives : (own : ℕ) (a : AdapterState) (sent : List (ℕ × List ℕ)) (now peer count : ℕ) (in_flight : List ℕ)
    (context position : ℕ) (command : Command) → IsSound a →
    Carries own a sent peer in_flight (Message context position command) →
    RequestArrives own a sent now peer count in_flight context (do_once command) (Message context position command)
message-arrives own a sent now peer count in_flight context position command sound is =
    request-arrives own a sent now peer count in_flight context (do_once command) (Message context position command) refl refl
    (omega arith) is.was_sent.small (route_of-do_once command) sound is

pub inquiry-arrives : (own : ℕ) (a : AdapterState) (sent : List (ℕ × List ℕ)) (now peer count : ℕ) (in_flight : List ℕ)
    (context : ℕ) (request : List ℕ) → IsSound a → Carries own a sent peer in_flight (Inquiry context request) →
    RequestArrives own a sent now peer count in_flight context request (Inquiry context request)
inquiry-arrives own a sent now peer count in_flight context request sound is =
    request-arrives own a sent now peer count in_flight context request (Inquiry context request) refl refl
    is.was_sent.from is.was_sent.to is.was_sent.route sound is
