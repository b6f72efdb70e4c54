-- Bytes arrive at the adapter.
use Rattle.std.proofs.Common.{◌≡◌, ◌≢◌, ℕ, ◌==◌, if◌then◌else◌, Bool, true, false, Option, Some, None, List, [], ◌∷◌}
use Rattle.std.proofs.Common.{◌++◌, length, refl, ap, sym, ◌∙◌, subst, append-nil, arith}
use Rattle.std.specs.List.{slice_get}
use Rattle.std.proofs.lemmas.Bool.{eqb-true, eqb-false}
use Rattle.cip_bytes.specs.declared.protocol.TheConstants.{UNCONNECTED_LIMIT}
use Rattle.cip_commander.specs.CommanderRule.{do_once}
use Rattle.enip_reconnect.specs.CommanderLaws.{request_in}
use Rattle.enip_reconnect.specs.Worlds.{BothEnds, ends_reach}
use Rattle.enip_reconnect.specs.Worlds as messages
use Rattle.cip_ledger.specs.Device.{owned_standing}
use Rattle.cip_message.specs.LedgerCommand.{Command}
use Rattle.cip_owner.specs.Owned.{OwnedState}
use Rattle.enip_adapter.specs.Calls.{AdapterState, Call, call_answer, after_call}
use Rattle.enip_adapter.specs.DeviceRuns.{objects_after, objects_answer, requests_of_calls}
use Rattle.enip_adapter.specs.Runs.{after_calls}
use Rattle.enip_adapter.specs.Serving.{output_bytes}
use Rattle.enip_adapter.proofs.SoundLemmas.{sound-call}
use Rattle.enip_client.specs.Frames.{request_frame}
use Rattle.enip_wire.specs.Frames.{frame}
use Rattle.enip_reconnect.specs.Events.{Arrive}
use Rattle.enip_reconnect.specs.World.{TcpConnection, Stream, Ends, stream_with, with_stream, feed, feed_calls, taken}
use Rattle.enip_reconnect.specs.World.{answered, arrived}
use Rattle.enip_reconnect.proofs.ClientReplies.{exec_device-taken}
use Rattle.enip_reconnect.proofs.ClientSide.{registered_frame}
use Rattle.enip_reconnect.proofs.Connecting.{behind-nothing}
use Rattle.enip_reconnect.proofs.Flights.{Arrives, Waits, Whole, IsWhole, IsPart, nothing-arrives, registration-arrives}
use Rattle.enip_reconnect.proofs.Flights.{message-arrives, inquiry-arrives, RequestArrives, answer_at, device_at}
use Rattle.enip_reconnect.proofs.Flights.{carries-other, found-front, found-last}
use Rattle.enip_reconnect.proofs.Steps.{Comes, StepComes, stays, with_device, message_run, on, stream-number}
use Rattle.enip_reconnect.proofs.Streams.{IsReplaced, replaced, others-after, other-found}
use Rattle.enip_reconnect.proofs.Tracking.{Flight, Nothing, Registration, Message, Inquiry, IsInquiry, Phase, New}
use Rattle.enip_reconnect.proofs.Tracking.{Registering, Registered, Free, Asking, Answered, Inquiring, Informed}
use Rattle.enip_reconnect.proofs.Tracking.{flight_in, Runs, Flies, IsFlying, IsOn, IsOnIfAny, Tracks, WasBack}
use Rattle.enip_reconnect.proofs.Tracking.{in_messages}

-- ---- a message reaches the device

abbrev answered_back : AdapterState → Command → ℕ × List ℕ
answered_back a command = (command.number, answer_at a (do_once command))

-- Both ends in messages once it has.
abbrev reached : Ends → List (ℕ × List ℕ) → List (ℕ × List ℕ) → Command → BothEnds OwnedState
reached ends sent back command = record (in_messages ends sent back) {
  device = device_at ends.adapter (do_once command);
  back = back ++ answered_back ends.adapter command ∷ [];
}

reach-image : (ends : Ends) (sent back : List (ℕ × List ℕ)) (position : ℕ) (command : Command) →
    slice_get sent position ≡ Some (command.number, do_once command) →
    message_run (in_messages ends sent back) (messages.Reach position UNCONNECTED_LIMIT ∷ []) ≡ reached ends sent back command
reach-image ends sent back position command at =
    ap (ends_reach objects_after objects_answer owned_standing (in_messages ends sent back) UNCONNECTED_LIMIT) at

-- After a call of the adapter that has this message reach the device.
reaches : (own : ℕ) (before after : Ends) (call : Call) (sent back : List (ℕ × List ℕ)) (position : ℕ) (command : Command) →
    slice_get sent position ≡ Some (command.number, do_once command) →
    Tracks own after sent (back ++ answered_back before.adapter command ∷ []) →
    reached before sent back command ≡ in_messages after sent (back ++ answered_back before.adapter command ∷ []) →
    requests_of_calls before.adapter (call ∷ []) ≡ (UNCONNECTED_LIMIT, do_once command) ∷ [] →
    after.given ≡ before.given → Comes own before after (call ∷ []) [] sent back
reaches own before after call sent back position command at tracks image requests given = record {
  more = messages.Reach position UNCONNECTED_LIMIT ∷ [];
  new_sent = sent;
  new_back = back ++ answered_back before.adapter command ∷ [];
  tracks = tracks;
  image = reach-image before sent back position command at ∙ image;
  reached = requests ∙ sym (ap (λ found. request_in UNCONNECTED_LIMIT found ++ []) at);
  decided = refl;
  given = given ∙ sym (append-nil before.given);
  others = (tt, tt);
}

-- After a call of the adapter that has another request reach it.
informs : (own : ℕ) (before after : Ends) (call : Call) (sent back : List (ℕ × List ℕ)) (request : List ℕ) →
    IsInquiry own request → Tracks own after sent back →
    with_device before sent back (device_at before.adapter request) ≡ in_messages after sent back →
    requests_of_calls before.adapter (call ∷ []) ≡ (UNCONNECTED_LIMIT, request) ∷ [] →
    after.given ≡ before.given → Comes own before after (call ∷ []) [] sent back
informs own before after call sent back request is tracks image requests given = record {
  more = messages.Other UNCONNECTED_LIMIT request ∷ [];
  new_sent = sent;
  new_back = back;
  tracks = tracks;
  image = image;
  reached = requests;
  decided = refl;
  given = given ∙ sym (append-nil before.given);
  others = (is.others, tt);
}

was_back-more : (back more : List (ℕ × List ℕ)) (phase : Phase) → WasBack back phase → WasBack (back ++ more) phase
was_back-more back more New is = tt
was_back-more back more (Registering context) is = tt
was_back-more back more (Registered context) is = tt
was_back-more back more Free is = tt
was_back-more back more (Asking context position command) is = tt
was_back-more back more (Inquiring context request) is = tt
was_back-more back more (Informed context request answer) is = is
was_back-more back more (Answered context position number message answer) is =
    record { at = found-front back more position (number, answer) is.at; taken = is.taken }

-- ---- the stream on which they arrive

module _ (own : ℕ) (ends : Ends) (sent back : List (ℕ × List ℕ)) (now peer count : ℕ) (stream : Stream)
    (found : stream_with peer ends.streams ≡ Some stream) where
  abbrev a : AdapterState
  a = ends.adapter

  abbrev this : Call
  this = feed now count stream

  abbrev out : List ℕ
  out = output_bytes (call_answer a this).output

  abbrev streams_after : List Stream
  streams_after = with_stream (taken a this stream) ends.streams

  -- The ends before and after, with these connections.
  abbrev before : Option TcpConnection → Ends
  before connection = on ends connection

  abbrev after : Option TcpConnection → Ends
  after connection = record ends {
    adapter = after_call a this;
    connection = connection;
    streams = streams_after;
  }

  there : stream_with stream.peer ends.streams ≡ Some stream
  there = ap (λ n. stream_with n ends.streams) (stream-number ends.streams peer stream found) ∙ found

  replaced-by : (flight : Flight) (old : Option TcpConnection) → Tracks own (before old) sent back →
      Flies own (after_call a this) sent (taken a this stream) flight →
      IsReplaced own (after_call a this) sent streams_after stream.peer flight
  replaced-by flight old is flies =
      replaced own (after_call a this) sent ends.streams stream (taken a this stream) flight there
      (others-after own a this sent ends.streams stream.peer (λ q other same. other (sym same)) is.streams) flies

  -- Nothing reaches the device.
  quiet : (old new : Option TcpConnection) (answer : List ℕ) (flight : Flight) → Tracks own (before old) sent back →
      Arrives own a sent now stream.peer count stream.in_flight answer a.state.shared.objects [] flight →
      IsOnIfAny own (after_call a this) sent back streams_after new →
      Comes own (before old) (after new) (this ∷ []) [] sent back
  quiet old new answer flight is arrives on_it =
      stays own (before old) (after new) (this ∷ []) sent back (record {
        sound = sound-call a this is.sound;
        connection = on_it;
        streams = (replaced-by flight old is arrives.carries).all;
      }) (ap (with_device ends sent back) (sym arrives.device_is)) arrives.requests_are refl

  -- A message does.
  served : (old new : Option TcpConnection) (answer : List ℕ) (flight : Flight) (position : ℕ) (command : Command) →
      Tracks own (before old) sent back → slice_get sent position ≡ Some (command.number, do_once command) →
      Arrives own a sent now stream.peer count stream.in_flight answer (device_at a (do_once command))
      ((UNCONNECTED_LIMIT, do_once command) ∷ []) flight →
      IsOnIfAny own (after_call a this) sent (back ++ answered_back a command ∷ []) streams_after new →
      Comes own (before old) (after new) (this ∷ []) [] sent back
  served old new answer flight position command is at arrives on_it =
      reaches own (before old) (after new) this sent back position command at (record {
        sound = sound-call a this is.sound;
        connection = on_it;
        streams = (replaced-by flight old is arrives.carries).all;
      }) (ap (with_device ends sent (back ++ answered_back a command ∷ [])) (sym arrives.device_is)) arrives.requests_are refl

  -- Another request does.
  informed : (old new : Option TcpConnection) (answer : List ℕ) (flight : Flight) (request : List ℕ) → IsInquiry own request →
      Tracks own (before old) sent back →
      Arrives own a sent now stream.peer count stream.in_flight answer (device_at a request)
      ((UNCONNECTED_LIMIT, request) ∷ []) flight →
      IsOnIfAny own (after_call a this) sent back streams_after new →
      Comes own (before old) (after new) (this ∷ []) [] sent back
  informed old new answer flight request inquiry is arrives on_it =
      informs own (before old) (after new) this sent back request inquiry (record {
        sound = sound-call a this is.sound;
        connection = on_it;
        streams = (replaced-by flight old is arrives.carries).all;
      }) (ap (with_device ends sent back) (sym arrives.device_is)) arrives.requests_are refl

  -- ---- not the stream of the originator's connection

  -- Whatever was on its way, the connection goes on.
  on-another : (old new : Option TcpConnection) → Tracks own (before old) sent back →
      ((more : List (ℕ × List ℕ)) → IsOnIfAny own (after_call a this) sent (back ++ more) streams_after new) →
      (flight : Flight) → Flies own a sent stream flight → Comes own (before old) (after new) (this ∷ []) [] sent back
  on-another old new is on_it (Nothing registered) flies =
      quiet old new [] (Nothing registered) is
      (nothing-arrives own a sent now stream.peer count stream.in_flight registered is.sound flies) same
    where
      same : IsOnIfAny own (after_call a this) sent back streams_after new
      same = subst (λ b. IsOnIfAny own (after_call a this) sent b streams_after new) (append-nil back) (on_it [])
  on-another old new is on_it (Registration context) flies =
      go (registration-arrives own a sent now stream.peer count stream.in_flight context is.sound flies)
    where
      same : IsOnIfAny own (after_call a this) sent back streams_after new
      same = subst (λ b. IsOnIfAny own (after_call a this) sent b streams_after new) (append-nil back) (on_it [])

      go : Whole own a sent now stream.peer count stream.in_flight (frame (registered_frame stream.peer context))
          a.state.shared.objects [] (Nothing true) (Registration context) →
          Comes own (before old) (after new) (this ∷ []) [] sent back
      go (IsPart waits) = quiet old new [] (Registration context) is waits same
      go (IsWhole done) = quiet old new (frame (registered_frame stream.peer context)) (Nothing true) is done same
  on-another old new is on_it (Message context position command) flies =
      go (message-arrives own a sent now stream.peer count stream.in_flight context position command is.sound flies)
    where
      go : RequestArrives own a sent now stream.peer count stream.in_flight context (do_once command)
          (Message context position command) →
          Comes own (before old) (after new) (this ∷ []) [] sent back
      go (IsPart waits) =
          quiet old new [] (Message context position command) is waits
          (subst (λ b. IsOnIfAny own (after_call a this) sent b streams_after new) (append-nil back) (on_it []))
      go (IsWhole done) =
          served old new (frame (request_frame stream.peer context (answer_at a (do_once command)))) (Nothing true) position command is
          flies.was_sent.at done (on_it (answered_back a command ∷ []))
  on-another old new is on_it (Inquiry context request) flies =
      go (inquiry-arrives own a sent now stream.peer count stream.in_flight context request is.sound flies)
    where
      same : IsOnIfAny own (after_call a this) sent back streams_after new
      same = subst (λ b. IsOnIfAny own (after_call a this) sent b streams_after new) (append-nil back) (on_it [])

      go : RequestArrives own a sent now stream.peer count stream.in_flight context request (Inquiry context request) →
          Comes own (before old) (after new) (this ∷ []) [] sent back
      go (IsPart waits) = quiet old new [] (Inquiry context request) is waits same
      go (IsWhole done) =
          informed old new (frame (request_frame stream.peer context (answer_at a request))) (Nothing true) request
          flies.was_sent is done same

  goes-on : (connection : TcpConnection) → connection.peer ≢ stream.peer → Tracks own (before (Some connection)) sent back →
      (more : List (ℕ × List ℕ)) → IsOn own (after_call a this) sent (back ++ more) streams_after connection
  goes-on connection other is more = record {
    below = is.connection.below;
    phase = is.connection.phase;
    runs = record {
      client = is.connection.runs.client;
      stream = is.connection.runs.stream;
      asked = is.connection.runs.asked;
      was_back = was_back-more back more is.connection.phase is.connection.runs.was_back;
    };
    flies = λ s at.
        let was : stream_with connection.peer ends.streams ≡ Some s =
        sym (other-found ends.streams (taken a this stream) connection.peer other) ∙ at in
        let number : s.peer ≡ connection.peer = stream-number ends.streams connection.peer s was in
        carries-other own a this sent s.peer s.in_flight (flight_in is.connection.phase)
        (λ same. other (sym number ∙ sym same)) (is.connection.flies s was);
  }

  -- ---- the stream of the originator's connection

  module _ (connection : TcpConnection) (own_stream : connection.peer ≡ stream.peer)
      (is : Tracks own (before (Some connection)) sent back) where
    -- The connection with the answer in flight.
    abbrev new : TcpConnection
    new = record connection { in_flight = connection.in_flight ++ out }

    abbrev ThisComes : Type 0
    ThisComes = Comes own (before (Some connection)) (after (Some new)) (this ∷ []) [] sent back

    is-on : (phase : Phase) (more : List (ℕ × List ℕ)) → Runs (back ++ more) new phase →
        Flies own (after_call a this) sent (taken a this stream) (flight_in phase) →
        IsOn own (after_call a this) sent (back ++ more) streams_after new
    is-on phase more runs flies = record {
      below = is.connection.below;
      phase = phase;
      runs = runs;
      flies = λ s at. (replaced-by (flight_in phase) (Some connection) is flies).this s
          (ap (λ n. stream_with n streams_after) (sym own_stream) ∙ at);
    }

    still-on : (phase : Phase) → Runs back new phase → Flies own (after_call a this) sent (taken a this stream) (flight_in phase) →
        IsOn own (after_call a this) sent back streams_after new
    still-on phase runs flies =
        subst (λ b. IsOn own (after_call a this) sent b streams_after new) (append-nil back)
        (is-on phase [] (subst (λ b. Runs b new phase) (sym (append-nil back)) runs) flies)

    -- Nothing is answered.
    waits-on : (phase : Phase) → Runs back connection phase →
        Waits own a sent now stream.peer count stream.in_flight (flight_in phase) → ThisComes
    waits-on phase runs waits =
        quiet (Some connection) (Some new) [] (flight_in phase) is waits (still-on phase (record {
          client = runs.client;
          stream = ap (λ bytes. connection.client.held ++ (connection.in_flight ++ bytes)) waits.answer_is
              ∙ (ap (λ bytes. connection.client.held ++ bytes) (append-nil connection.in_flight) ∙ runs.stream);
          asked = runs.asked;
          was_back = runs.was_back;
        }) waits.carries)

    -- An answer is in flight.
    answer-flies : (answer : ℕ → List ℕ) → connection.client.held ++ connection.in_flight ≡ [] → out ≡ answer stream.peer →
        connection.client.held ++ (connection.in_flight ++ out) ≡ answer connection.peer
    answer-flies answer none is_out =
        behind-nothing connection.client.held connection.in_flight _ none ∙ (is_out ∙ ap answer (sym own_stream))

    arrives-in : (phase : Phase) → Runs back connection phase → Flies own a sent stream (flight_in phase) → ThisComes
    arrives-in New runs flies =
        waits-on New runs (nothing-arrives own a sent now stream.peer count stream.in_flight false is.sound flies)
    arrives-in (Registering context) runs flies =
        go (registration-arrives own a sent now stream.peer count stream.in_flight context is.sound flies)
      where
        go : Whole own a sent now stream.peer count stream.in_flight (frame (registered_frame stream.peer context))
            a.state.shared.objects [] (Nothing true) (Registration context) → ThisComes
        go (IsPart waits) = waits-on (Registering context) runs waits
        go (IsWhole done) =
            quiet (Some connection) (Some new) (frame (registered_frame stream.peer context)) (Nothing true) is done
            (still-on (Registered context) (record {
              client = runs.client;
              stream = answer-flies (λ peer. frame (registered_frame peer context)) runs.stream done.answer_is;
              asked = runs.asked;
              was_back = tt;
            }) done.carries)
    arrives-in (Registered context) runs flies =
        waits-on (Registered context) runs (nothing-arrives own a sent now stream.peer count stream.in_flight true is.sound flies)
    arrives-in Free runs flies =
        waits-on Free runs (nothing-arrives own a sent now stream.peer count stream.in_flight true is.sound flies)
    arrives-in (Asking context position command) runs flies =
        go (message-arrives own a sent now stream.peer count stream.in_flight context position command is.sound flies)
      where
        go : RequestArrives own a sent now stream.peer count stream.in_flight context (do_once command)
            (Message context position command) → ThisComes
        go (IsPart waits) = waits-on (Asking context position command) runs waits
        go (IsWhole done) =
            served (Some connection) (Some new) (frame (request_frame stream.peer context (answer_at a (do_once command)))) (Nothing true)
            position command is flies.was_sent.at done
            (is-on (Answered context (length back) command.number (do_once command) (answer_at a (do_once command)))
            (answered_back a command ∷ []) (record {
              client = runs.client;
              stream = answer-flies (λ peer. frame (request_frame peer context (answer_at a (do_once command)))) runs.stream
                  done.answer_is;
              asked = runs.asked;
              was_back = record {
                at = found-last back (answered_back a command);
                taken = exec_device-taken a.state.shared.objects (do_once command) (omega arith);
              };
            }) done.carries)
    arrives-in (Answered context position number message answer) runs flies =
        waits-on (Answered context position number message answer) runs
        (nothing-arrives own a sent now stream.peer count stream.in_flight true is.sound flies)
    arrives-in (Inquiring context request) runs flies =
        go (inquiry-arrives own a sent now stream.peer count stream.in_flight context request is.sound flies)
      where
        go : RequestArrives own a sent now stream.peer count stream.in_flight context request (Inquiry context request) →
            ThisComes
        go (IsPart waits) = waits-on (Inquiring context request) runs waits
        go (IsWhole done) =
            informed (Some connection) (Some new) (frame (request_frame stream.peer context (answer_at a request)))
            (Nothing true) request flies.was_sent is done
            (still-on (Informed context request (answer_at a request)) (record {
              client = runs.client;
              stream = answer-flies (λ peer. frame (request_frame peer context (answer_at a request))) runs.stream
                  done.answer_is;
              asked = runs.asked;
              was_back = exec_device-taken a.state.shared.objects request flies.was_sent.from;
            }) done.carries)
    arrives-in (Informed context request answer) runs flies =
        waits-on (Informed context request answer) runs
        (nothing-arrives own a sent now stream.peer count stream.in_flight true is.sound flies)

  -- By whether it is that stream.
  arrives-on : (old : Option TcpConnection) → Tracks own (before old) sent back →
      Comes own (before old) (after (answered stream.peer out old)) (this ∷ []) [] sent back
  arrives-on None is =
      let flying : IsFlying own a sent stream = is.streams peer stream found in
      on-another None None is (λ more. tt) flying.flight flying.carries
  arrives-on (Some connection) is = go (connection.peer == stream.peer) refl
    where
      go : (its : Bool) → (connection.peer == stream.peer) ≡ its →
          Comes own (before (Some connection))
          (after (Some (if its then record connection { in_flight = connection.in_flight ++ out } else connection)))
          (this ∷ []) [] sent back
      go true e =
          let same : connection.peer ≡ stream.peer = eqb-true connection.peer stream.peer e in
          arrives-in connection same is is.connection.phase is.connection.runs
          (is.connection.flies stream (ap (λ n. stream_with n ends.streams) same ∙ there))
      go false e =
          let flying : IsFlying own a sent stream = is.streams peer stream found in
          on-another (Some connection) (Some connection) is
          (goes-on connection (eqb-false connection.peer stream.peer e) is) flying.flight flying.carries

-- The ends after bytes arrived, by what is found.
abbrev after_arrival : Ends → ℕ → ℕ → Option Stream → Ends
after_arrival ends now count found =
    record (arrived ends now count found) { adapter = after_calls ends.adapter (feed_calls now count found) }

pub arrives : (own : ℕ) (ends : Ends) (sent back : List (ℕ × List ℕ)) (now peer count : ℕ) → Tracks own ends sent back →
    StepComes own ends (Arrive now peer count) sent back
arrives own ends sent back now peer count is = go (stream_with peer ends.streams) refl
  where
    go : (found : Option Stream) → stream_with peer ends.streams ≡ found →
        Comes own ends (after_arrival ends now count found) (feed_calls now count found) [] sent back
    go None found = stays own _ _ _ sent back is refl refl refl
    go (Some stream) found = arrives-on own ends sent back now peer count stream found ends.connection is
