-- What an event comes to in messages.
use Rattle.std.proofs.Common.{◌≡◌, ℕ, Option, Some, List, [], ◌∷◌, ◌++◌, refl, ap, sym, ◌∙◌, append-nil}
use Rattle.std.specs.Prelude.{fold}
use Rattle.std.specs.List.{AllByRecursion}
use Rattle.cip_commander.specs.CommanderRule.{command_refusal}
use Rattle.enip_reconnect.specs.CommanderLaws.{IsOthers, requests_of}
use Rattle.enip_reconnect.specs.Worlds.{BothEnds, gives}
use Rattle.enip_reconnect.specs.Worlds as messages
use Rattle.cip_ledger.specs.Device.{Device, owned_standing}
use Rattle.cip_owner.specs.Owned.{OwnedState}
use Rattle.enip_adapter.specs.Calls.{AdapterState, Call, after_call}
use Rattle.enip_adapter.specs.DeviceRuns.{objects_after, objects_answer, requests_of_calls}
use Rattle.enip_adapter.specs.Runs.{IsForOther}
use Rattle.enip_adapter.proofs.ListLemmas.{first_with-number}
use Rattle.enip_reconnect.specs.Events.{Event, NewCommand, Abandon}
use Rattle.enip_reconnect.specs.Laws.{MessageEvent, decisions_in, decisions_in_messages}
use Rattle.enip_reconnect.specs.World.{TcpConnection, Stream, Ends, stream_with, calls_at, ends_step}
use Rattle.enip_reconnect.proofs.Flights.{carries-more, carries-other}
use Rattle.enip_reconnect.proofs.Tracking.{Tracks, IsFlying, AreFlying, in_messages}

abbrev pub message_step : BothEnds OwnedState → MessageEvent → BothEnds OwnedState
message_step ends event = messages.ends_step objects_after objects_answer owned_standing ends event

abbrev pub message_run : BothEnds OwnedState → List MessageEvent → BothEnds OwnedState
message_run ends events = fold message_step ends events

-- The commands that are given in messages, with their numbers.
abbrev pub given_at : BothEnds OwnedState → MessageEvent → List (ℕ × List ℕ)
given_at ends (messages.NewCommand request) = gives ends.commander request (command_refusal ends.commander request)
given_at ends other = []

abbrev pub given_by : BothEnds OwnedState → List MessageEvent → List (ℕ × List ℕ)
given_by ends [] = []
given_by ends (event ∷ events) = given_at ends event ++ given_by (message_step ends event) events

-- Both ends come from before to after with these calls of the adapter and these decisions, as they do in messages.
pub record Comes (own : ℕ) (before after : Ends) (calls : List Call) (decisions : List MessageEvent)
    (sent back : List (ℕ × List ℕ)) : Type 0 where
  pub more : List MessageEvent
  pub new_sent : List (ℕ × List ℕ)
  pub new_back : List (ℕ × List ℕ)
  pub tracks : Tracks own after new_sent new_back
  pub image : message_run (in_messages before sent back) more ≡ in_messages after new_sent new_back
  pub reached : requests_of_calls before.adapter calls
      ≡ requests_of objects_after objects_answer owned_standing (in_messages before sent back) more
  pub decided : decisions ≡ decisions_in_messages more
  pub given : after.given ≡ before.given ++ given_by (in_messages before sent back) more
  pub others : AllByRecursion (IsOthers own) more

abbrev pub StepComes : ℕ → Ends → Event → List (ℕ × List ℕ) → List (ℕ × List ℕ) → Type 0
StepComes own before event sent back =
    Comes own before (ends_step before event) (calls_at before event) (decisions_in (event ∷ [])) sent back

-- Nothing happens in messages.
pub stays : (own : ℕ) (before after : Ends) (calls : List Call) (sent back : List (ℕ × List ℕ)) → Tracks own after sent back →
    in_messages before sent back ≡ in_messages after sent back → requests_of_calls before.adapter calls ≡ [] →
    after.given ≡ before.given → Comes own before after calls [] sent back
stays own before after calls sent back tracks image none given = record {
  more = [];
  new_sent = sent;
  new_back = back;
  tracks = tracks;
  image = image;
  reached = none;
  decided = refl;
  given = given ∙ sym (append-nil before.given);
  others = tt;
}

-- Both ends in messages, with this device.
abbrev pub with_device : Ends → List (ℕ × List ℕ) → List (ℕ × List ℕ) → Device → BothEnds OwnedState
with_device ends sent back device = record (in_messages ends sent back) { device = device }

-- The ends with this connection.
abbrev pub on : Ends → Option TcpConnection → Ends
on ends connection = record ends { connection = connection }

-- ---- the originator's decisions

pub new-command : (own : ℕ) (ends : Ends) (sent back : List (ℕ × List ℕ)) (request : List ℕ) → Tracks own ends sent back →
    StepComes own ends (NewCommand request) sent back
new-command own ends sent back request is = record {
  more = messages.NewCommand request ∷ [];
  new_sent = sent;
  new_back = back;
  tracks = record { sound = is.sound; connection = is.connection; streams = is.streams };
  image = refl;
  reached = refl;
  decided = refl;
  given = ap (λ more. ends.given ++ more)
      (sym (append-nil (gives ends.commander request (command_refusal ends.commander request))));
  others = (tt, tt);
}

pub abandon : (own : ℕ) (ends : Ends) (sent back : List (ℕ × List ℕ)) → Tracks own ends sent back →
    StepComes own ends Abandon sent back
abandon own ends sent back is = record {
  more = messages.Abandon ∷ [];
  new_sent = sent;
  new_back = back;
  tracks = record { sound = is.sound; connection = is.connection; streams = is.streams };
  image = refl;
  reached = refl;
  decided = refl;
  given = sym (append-nil ends.given);
  others = (tt, tt);
}

-- ---- streams

-- A call for others leaves them.
pub flying-call : (own : ℕ) (a : AdapterState) (call : Call) (sent : List (ℕ × List ℕ)) (streams : List Stream) →
    ((peer : ℕ) (s : Stream) → stream_with peer streams ≡ Some s → IsForOther s.peer call) →
    AreFlying own a sent streams → AreFlying own (after_call a call) sent streams
flying-call own a call sent streams other flying peer s found =
    let is : IsFlying own a sent s = flying peer s found in
    record {
      flight = is.flight;
      carries = carries-other own a call sent s.peer s.in_flight is.flight (other peer s found) is.carries;
    }

pub flying-more : (own : ℕ) (a : AdapterState) (sent more : List (ℕ × List ℕ)) (streams : List Stream) → AreFlying own a sent streams →
    AreFlying own a (sent ++ more) streams
flying-more own a sent more streams flying peer s found =
    let is : IsFlying own a sent s = flying peer s found in
    record { flight = is.flight; carries = carries-more own a sent more s.peer s.in_flight is.flight is.carries }

-- The stream that is found has the handle.
pub stream-number : (streams : List Stream) (peer : ℕ) (s : Stream) → stream_with peer streams ≡ Some s → s.peer ≡ peer
stream-number streams peer s found = first_with-number (λ (x : Stream). x.peer) peer s streams found
