-- Connections break and end, and others call the adapter.
use Rattle.std.proofs.Common.{◌≡◌, ◌≢◌, ℕ, Bool, true, false, not, cond, eqb, is_some, Option, Some, None}
use Rattle.std.proofs.Common.{List, [], ◌∷◌, ◌++◌, refl, ap, sym, ◌∙◌, append-nil}
use Rattle.std.proofs.lemmas.Bool.{eqb-true, eqb-false}
use Rattle.std.specs.List.{AllByRecursion}
use Rattle.enip_reconnect.specs.CommanderLaws.{IsOthers, requests_of}
use Rattle.enip_reconnect.specs.Worlds.{BothEnds}
use Rattle.enip_reconnect.specs.Worlds as messages
use Rattle.cip_ledger.specs.Device.{owned_standing}
use Rattle.cip_ledger.specs.Laws.{IsOfAnother}
use Rattle.cip_ledger.specs.Runs.{Request}
use Rattle.cip_owner.specs.Owned.{OwnedState}
use Rattle.enip_adapter.specs.Calls.{AdapterState, Call, after_call}
use Rattle.enip_adapter.specs.Calls.Call.{Begins_peer, Feeds, Ends_peer, Ticks, Writes}
use Rattle.enip_adapter.specs.DeviceRuns.{objects_after, objects_answer, requests_of_calls, IsNoWrite}
use Rattle.enip_adapter.specs.Runs.{IsForOther, after_calls}
use Rattle.enip_adapter.proofs.SoundLemmas.{sound-call}
use Rattle.enip_reconnect.specs.Events.{Break, End, Other}
use Rattle.enip_reconnect.specs.Laws.{IsOfOthers, decisions_in_messages}
use Rattle.enip_reconnect.specs.World.{TcpConnection, Stream, Ends, stream_with, other_streams, end_calls}
use Rattle.enip_reconnect.specs.World.{is_originators, is_for_originator}
use Rattle.enip_reconnect.proofs.AdapterSide.{device-ended, device-run, others_requests, others-run}
use Rattle.enip_reconnect.proofs.Flights.{carries-other}
use Rattle.enip_reconnect.proofs.Steps.{Comes, StepComes, flying-call, stays, stream-number, with_device}
use Rattle.enip_reconnect.proofs.Steps.{message_step, given_by}
use Rattle.enip_reconnect.proofs.Tracking.{IsOnIfAny, Tracks, flight_in, in_messages}

-- A call for others than the streams leaves the connection.
on-other : (own : ℕ) (a : AdapterState) (call : Call) (sent back : List (ℕ × List ℕ)) (streams : List Stream)
    (connection : Option TcpConnection) →
    ((peer : ℕ) (stream : Stream) → stream_with peer streams ≡ Some stream → IsForOther stream.peer call) →
    IsOnIfAny own a sent back streams connection → IsOnIfAny own (after_call a call) sent back streams connection
on-other own a call sent back streams None other is = tt
on-other own a call sent back streams (Some c) other is = record {
  below = is.below;
  phase = is.phase;
  runs = is.runs;
  flies = λ stream found.
      carries-other own a call sent stream.peer stream.in_flight (flight_in is.phase) (other c.peer stream found)
      (is.flies stream found);
}

-- ---- the connection breaks

pub breaks : (own : ℕ) (ends : Ends) (sent back : List (ℕ × List ℕ)) → Tracks own ends sent back →
    StepComes own ends Break sent back
breaks own ends sent back is =
    stays own _ _ _ sent back (record { sound = is.sound; connection = tt; streams = is.streams }) refl refl refl

-- ---- a TCP connection ends at the adapter

-- What is found among the others is found, and is another.
found-other : (peer q : ℕ) (streams : List Stream) (stream : Stream) →
    stream_with q (other_streams peer streams) ≡ Some stream → (stream_with q streams ≡ Some stream) × (q ≢ peer)
found-other peer q [] stream found = absurd (cc)
found-other peer q (first ∷ streams) stream found =
    by (eqb first.peer peer) (eqb first.peer q) refl refl found (found-other peer q streams stream)
  where
    by : (ended same : Bool) → eqb first.peer peer ≡ ended → eqb first.peer q ≡ same →
        stream_with q (cond (not ended) (first ∷ other_streams peer streams) (other_streams peer streams)) ≡ Some stream →
        (stream_with q (other_streams peer streams) ≡ Some stream →
        (stream_with q streams ≡ Some stream) × (q ≢ peer)) →
        (cond same (Some first) (stream_with q streams) ≡ Some stream) × (q ≢ peer)
    by true true e f g rest =
        let later = rest g in
        absurd (later.1 (sym (eqb-true first.peer q f) ∙ eqb-true first.peer peer e))
    by true false e f g rest = rest g
    by false true e f g rest =
        let taken : cond (eqb first.peer q) (Some first) (stream_with q (other_streams peer streams)) ≡ Some stream = g in
        let is_first : cond true (Some first) (stream_with q (other_streams peer streams)) ≡ Some stream =
        ap (λ c. cond c (Some first) (stream_with q (other_streams peer streams))) (sym f) ∙ taken in
        (is_first, λ same. eqb-false first.peer peer e (eqb-true first.peer q f ∙ same))
    by false false e f g rest =
        let taken : cond (eqb first.peer q) (Some first) (stream_with q (other_streams peer streams)) ≡ Some stream = g in
        rest (ap (λ c. cond c (Some first) (stream_with q (other_streams peer streams))) (sym f) ∙ taken)

on-ended : (own : ℕ) (a : AdapterState) (sent back : List (ℕ × List ℕ)) (streams : List Stream) (peer : ℕ)
    (connection : Option TcpConnection) → IsOnIfAny own a sent back streams connection →
    IsOnIfAny own a sent back (other_streams peer streams) connection
on-ended own a sent back streams peer None is = tt
on-ended own a sent back streams peer (Some c) is = record {
  below = is.below;
  phase = is.phase;
  runs = is.runs;
  flies = λ stream found. is.flies stream (found-other peer c.peer streams stream found).0;
}

ended-as : (own : ℕ) (ends : Ends) (sent back : List (ℕ × List ℕ)) (peer : ℕ) (found : Option Stream) →
    stream_with peer ends.streams ≡ found → Tracks own ends sent back →
    Comes own ends (record ends {
      streams = other_streams peer ends.streams;
      adapter = after_calls ends.adapter (end_calls found);
    }) (end_calls found) [] sent back
ended-as own ends sent back peer None none is =
    stays own _ _ _ sent back (record {
      sound = is.sound;
      connection = on-ended own ends.adapter sent back ends.streams peer ends.connection is.connection;
      streams = λ q stream found. is.streams q stream (found-other peer q ends.streams stream found).0;
    }) refl refl refl
ended-as own ends sent back peer (Some ended) there is =
    let a : AdapterState = ends.adapter in
    let call : Call = Ends_peer ended.peer in
    let number : ended.peer ≡ peer = stream-number ends.streams peer ended there in
    let other : (q : ℕ) (stream : Stream) → stream_with q (other_streams peer ends.streams) ≡ Some stream →
    ended.peer ≢ stream.peer =
    λ q stream found e.
    let other = found-other peer q ends.streams stream found in
    other.1 (sym (stream-number ends.streams q stream other.0) ∙ (sym e ∙ number)) in
    stays own _ _ _ sent back (record {
      sound = sound-call a call is.sound;
      connection =
          on-other own a call sent back (other_streams peer ends.streams) ends.connection other
          (on-ended own a sent back ends.streams peer ends.connection is.connection);
      streams =
          flying-call own a call sent (other_streams peer ends.streams) other
          (λ q stream found. is.streams q stream (found-other peer q ends.streams stream found).0);
    }) (ap (with_device ends sent back) (sym (device-ended a ended.peer))) refl refl

pub end : (own : ℕ) (ends : Ends) (sent back : List (ℕ × List ℕ)) (peer : ℕ) → Tracks own ends sent back →
    StepComes own ends (End peer) sent back
end own ends sent back peer is = ended-as own ends sent back peer (stream_with peer ends.streams) refl is

-- ---- calls of others

-- A call that is not for the originator's peers is for others than each of them.
for-other : (ends : Ends) (call : Call) (peer : ℕ) → is_for_originator ends call ≡ false →
    is_originators ends peer ≡ true → IsForOther peer call
for-other ends (Begins_peer rights group) peer others own = tt
for-other ends (Feeds now other piece) peer others own = λ same.
    let bad : true ≡ false = sym own ∙ (ap (is_originators ends) (sym same) ∙ others) in cc
for-other ends (Ends_peer other) peer others own = λ same.
    let bad : true ≡ false = sym own ∙ (ap (is_originators ends) (sym same) ∙ others) in cc
for-other ends (Ticks now) peer others own = tt
for-other ends (Writes write) peer others own = tt

own-stream : (ends : Ends) (peer : ℕ) (stream : Stream) → stream_with peer ends.streams ≡ Some stream →
    is_originators ends stream.peer ≡ true
own-stream ends peer stream found =
    ap is_some (ap (λ n. stream_with n ends.streams) (stream-number ends.streams peer stream found) ∙ found)

-- What others' requests are in messages.
reached-others : (ends : BothEnds OwnedState) (requests : List Request) →
    requests ≡ requests_of objects_after objects_answer owned_standing ends (others_requests requests)
reached-others ends [] = refl
reached-others ends (request ∷ requests) =
    ap (λ more. request ∷ more)
    (reached-others (message_step ends (messages.Other request.0 request.1)) requests)

decided-others : (requests : List Request) → [] ≡ decisions_in_messages (others_requests requests)
decided-others [] = refl
decided-others (request ∷ requests) = decided-others requests

given-others : (ends : BothEnds OwnedState) (requests : List Request) → [] ≡ given_by ends (others_requests requests)
given-others ends [] = refl
given-others ends (request ∷ requests) =
    given-others (message_step ends (messages.Other request.0 request.1)) requests

are-others : (own : ℕ) (requests : List Request) → AllByRecursion (IsOfAnother own) requests →
    AllByRecursion (IsOthers own) (others_requests requests)
are-others own [] is = tt
are-others own (request ∷ requests) is = (is.0, are-others own requests is.1)

called : (own : ℕ) (ends : Ends) (sent back : List (ℕ × List ℕ)) (call : Call) (ours : Bool) →
    is_for_originator ends call ≡ ours → Tracks own ends sent back → IsNoWrite call →
    AllByRecursion (IsOfAnother own) (requests_of_calls ends.adapter (cond ours [] (call ∷ []))) →
    Comes own ends (record ends { adapter = after_calls ends.adapter (cond ours [] (call ∷ [])) })
    (cond ours [] (call ∷ [])) [] sent back
called own ends sent back call true ours is free others =
    stays own _ _ _ sent back (record { sound = is.sound; connection = is.connection; streams = is.streams }) refl refl refl
called own ends sent back call false theirs is free others =
    let a : AdapterState = ends.adapter in
    let requests : List Request = requests_of_calls a (call ∷ []) in
    let other : (peer : ℕ) (stream : Stream) → stream_with peer ends.streams ≡ Some stream → IsForOther stream.peer call =
    λ peer stream found. for-other ends call stream.peer theirs (own-stream ends peer stream found) in
    record {
      more = others_requests requests;
      new_sent = sent;
      new_back = back;
      tracks = record {
        sound = sound-call a call is.sound;
        connection = on-other own a call sent back ends.streams ends.connection other is.connection;
        streams = flying-call own a call sent ends.streams other is.streams;
      };
      image = others-run (in_messages ends sent back) requests
          ∙ ap (with_device ends sent back) (sym (device-run a call free));
      reached = reached-others (in_messages ends sent back) requests;
      decided = decided-others requests;
      given = sym (append-nil ends.given)
          ∙ ap (λ more. ends.given ++ more) (given-others (in_messages ends sent back) requests);
      others = are-others own requests others;
    }

pub others-call : (own : ℕ) (ends : Ends) (sent back : List (ℕ × List ℕ)) (call : Call) → Tracks own ends sent back →
    IsOfOthers own ends (Other call) → StepComes own ends (Other call) sent back
others-call own ends sent back call is others =
    called own ends sent back call (is_for_originator ends call) refl is others.0 others.1
