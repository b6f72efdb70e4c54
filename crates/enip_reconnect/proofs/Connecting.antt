-- TCP connections begin, and frames are sent on them.
use Rattle.std.proofs.Common.{◌≡◌, ℕ, ◌==◌, if◌then◌else◌, Bool, true, false, Option, Some, None, List, [], ◌∷◌, ◌++◌}
use Rattle.std.proofs.Common.{length, Result, Err, refl, ap, sym, ◌∙◌, subst, append_assoc, append-nil}
use Rattle.std.proofs.lemmas.Bool.{eq-eqb}
use Rattle.cip_bytes.specs.declared.protocol.TheConstants.{UNCONNECTED_LIMIT}
use Rattle.cip_commander.specs.CommanderRule.{do_once, command_with, message_of}
use Rattle.enip_reconnect.specs.Worlds as messages
use Rattle.cip_ledger.specs.Laws.{IsOfAnother}
use Rattle.cip_message.specs.LedgerCommand.{Command}
use Rattle.enip_adapter.specs.Calls.{AdapterState, call_answer, after_call}
use Rattle.enip_adapter.specs.SendRRData.{Executes, route_of}
use Rattle.enip_adapter.specs.Turn.{Output}
use Rattle.enip_adapter.specs.Turn.Output.{NoReply, Sends, Begins, Refuses}
use Rattle.enip_adapter.proofs.SoundLemmas.{sound-call}
use Rattle.enip_client.specs.Calls.{Lent, registers, asks, next_number, is_unconnected}
use Rattle.enip_client.specs.Frames.{register_frame, request_frame}
use Rattle.enip_client.specs.declared.fault.ClientFault.{ClientFault}
use Rattle.enip_client.specs.declared.wants.Wants.{Wants}
use Rattle.enip_wire.specs.Frames.{frame}
use Rattle.enip_reconnect.specs.Events.{Connect, Register, Send, Ask}
use Rattle.enip_reconnect.specs.World.{TcpConnection, Stream, Ends, stream_with, begins_peer, begun, appended, sending}
use Rattle.enip_reconnect.proofs.AdapterSide.{BeginsAs, begins-as, device-same}
use Rattle.enip_reconnect.proofs.ClientSide.{new-is, registers-new, registers-registering, registers-free}
use Rattle.enip_reconnect.proofs.ClientSide.{registers-asking, Registers, asks-free, asks-other, asks-new}
use Rattle.enip_reconnect.proofs.ClientSide.{asks-registering, asks-asking, Asks, unconnected-short, IsShort}
use Rattle.enip_reconnect.proofs.Flights.{found-last}
use Rattle.enip_reconnect.proofs.Steps.{Comes, StepComes, stays, with_device, on, flying-call, flying-more}
use Rattle.enip_reconnect.proofs.Steps.{stream-number}
use Rattle.enip_reconnect.proofs.Streams.{IsReplaced, appends}
use Rattle.enip_reconnect.proofs.Tracking.{Flight, Nothing, Registration, Message, Inquiry, Phase, New, Registering}
use Rattle.enip_reconnect.proofs.Tracking.{Registered, Free, Asking, Answered, Inquiring, Informed, flight_in, Runs}
use Rattle.enip_reconnect.proofs.Tracking.{Flies, IsFlying, AreFlying, Tracks, in_messages}

-- ---- a connection begins

-- The stream of a connection that begins comes first.
abbrev new_stream : ℕ → Stream
new_stream handle = record { peer = handle; in_flight = [] }

first-flies : (own : ℕ) (a : AdapterState) (sent : List (ℕ × List ℕ)) (handle q : ℕ) (streams : List Stream) →
    Flies own a sent (new_stream handle) (Nothing false) → AreFlying own a sent streams →
    AreFlying own a sent (new_stream handle ∷ streams)
first-flies own a sent handle q streams flies flying peer s found = by (handle == peer) found
  where
    by : (same : Bool) → (if same then Some (new_stream handle) else stream_with peer streams) ≡ Some s → IsFlying own a sent s
    by true found =
        let it : new_stream handle ≡ s = cc in
        subst (IsFlying own a sent) it (record { flight = Nothing false; carries = flies })
    by false found = flying peer s found

first-found : (handle : ℕ) (streams : List Stream) (s : Stream) →
    stream_with handle (new_stream handle ∷ streams) ≡ Some s → new_stream handle ≡ s
first-found handle streams s found =
    let both : Some (new_stream handle) ≡ Some s =
    sym (ap (λ same. if same then Some (new_stream handle) else stream_with handle streams) (eq-eqb handle handle refl))
    ∙ found in
    cc

-- The ends once the adapter answered.
abbrev begun_on : Ends → Wants → Output → Ends
begun_on ends wants output = record (begun ends wants output) { adapter = after_call ends.adapter begins_peer }

begins : (own : ℕ) (ends : Ends) (sent back : List (ℕ × List ℕ)) (wants : Wants) (output : Output) →
    ((handle : ℕ) → output ≡ Begins handle → BeginsAs ends.adapter handle) → Tracks own (on ends None) sent back →
    Comes own (on ends None) (begun_on (on ends None) wants output) (begins_peer ∷ []) [] sent back
begins own ends sent back wants output assigned is = by output assigned
  where
    a : AdapterState
    a = ends.adapter

    same : in_messages (on ends None) sent back
        ≡ with_device (on ends None) sent back (after_call ends.adapter begins_peer).state.shared.objects
    same = ap (with_device (on ends None) sent back) (sym (device-same ends.adapter begins_peer tt refl))

    flying : AreFlying own (after_call ends.adapter begins_peer) sent ends.streams
    flying = flying-call own ends.adapter begins_peer sent ends.streams (λ peer s found. tt) is.streams

    nobody : (after : Ends) → after ≡ record (on ends None) { adapter = after_call ends.adapter begins_peer } →
        Comes own (on ends None) after (begins_peer ∷ []) [] sent back
    nobody after it =
        subst (λ after. Comes own (on ends None) after (begins_peer ∷ []) [] sent back) (sym it)
        (stays own _ _ _ sent back (record {
          sound = sound-call ends.adapter begins_peer is.sound;
          connection = tt;
          streams = flying;
        }) same refl refl)

    by : (output : Output) → ((handle : ℕ) → output ≡ Begins handle → BeginsAs ends.adapter handle) →
        Comes own (on ends None) (begun_on (on ends None) wants output) (begins_peer ∷ []) [] sent back
    by (NoReply why) assigned = nobody _ refl
    by (Sends bytes) assigned = nobody _ refl
    by (Refuses full) assigned = nobody _ refl
    by (Begins handle) assigned =
        let new : BeginsAs ends.adapter handle = assigned handle refl in
        let flies : Flies own (after_call ends.adapter begins_peer) sent (new_stream handle) (Nothing false) =
        record { below = new.below; held = []; holds = new.holds; stream = refl; was_sent = tt } in
        stays own _ _ _ sent back (record {
          sound = sound-call ends.adapter begins_peer is.sound;
          connection = record {
            below = new.below;
            phase = New;
            runs = record { client = new-is wants; stream = refl; asked = refl; was_back = tt };
            flies = λ s found. subst (λ x. Flies own (after_call ends.adapter begins_peer) sent x (Nothing false))
                (first-found handle ends.streams s found) flies;
          };
          streams = first-flies own (after_call ends.adapter begins_peer) sent handle handle ends.streams flies flying;
        }) same refl refl

pub connects : (own : ℕ) (ends : Ends) (sent back : List (ℕ × List ℕ)) (wants : Wants) (connection : Option TcpConnection) →
    Tracks own (on ends connection) sent back → StepComes own (on ends connection) (Connect wants) sent back
connects own ends sent back wants (Some connection) is = stays own _ _ _ sent back is refl refl refl
connects own ends sent back wants None is =
    begins own ends sent back wants (call_answer ends.adapter begins_peer).output
    (λ handle output. begins-as ends.adapter handle is.sound output) is

-- ---- RegisterSession

-- The frame is on its way, and nothing else was.
pub behind-nothing : (held text more : List ℕ) → held ++ text ≡ [] → held ++ (text ++ more) ≡ more
behind-nothing held text more none = sym (append_assoc held text more) ∙ ap (λ front. front ++ more) none

-- The ends after a call of the client.
abbrev sending_on : Ends → TcpConnection → Option ℕ → Result Lent ClientFault → Ends
sending_on ends connection asked lent =
    record (sending (on ends (Some connection)) connection asked lent) { adapter = ends.adapter }

-- The client refuses: nothing changes.
refuses : (own : ℕ) (ends : Ends) (sent back : List (ℕ × List ℕ)) (connection : TcpConnection) (asked : Option ℕ)
    (lent : Result Lent ClientFault) (why : ClientFault) → lent ≡ Err why →
    Tracks own (on ends (Some connection)) sent back →
    Comes own (on ends (Some connection)) (sending_on ends connection asked lent) [] [] sent back
refuses own ends sent back connection asked lent why is tracks =
    subst (λ result. Comes own (on ends (Some connection)) (sending_on ends connection asked result) [] [] sent back) (sym is) (stays own _ _ _ sent back tracks refl refl refl)

abbrev RegisterComes : ℕ → Ends → List (ℕ × List ℕ) → List (ℕ × List ℕ) → TcpConnection → Result Lent ClientFault → Type 0
RegisterComes own ends sent back connection lent =
    Comes own (on ends (Some connection)) (sending_on ends connection connection.asked lent) [] [] sent back

registers-on : (own : ℕ) (ends : Ends) (sent back : List (ℕ × List ℕ)) (connection : TcpConnection) (phase : Phase) →
    Tracks own (on ends (Some connection)) sent back → Runs back connection phase →
    ((s : Stream) → stream_with connection.peer ends.streams ≡ Some s → Flies own ends.adapter sent s (flight_in phase)) →
    RegisterComes own ends sent back connection (registers connection.client.state)
registers-on own ends sent back connection New is runs flies =
    let number : ℕ = next_number connection.client.state in
    let done : Registers connection.client = registers-new connection.client runs.client in
    let sent_on : IsReplaced own ends.adapter sent
    (appended (frame (register_frame number)) ends.streams (stream_with connection.peer ends.streams)) connection.peer
    (Registration number) =
    appends own ends.adapter sent ends.streams connection.peer (frame (register_frame number)) (Registration number)
    (stream_with connection.peer ends.streams) refl is.streams
    (λ s found. (let it = flies s found in record {
      below = it.below;
      held = it.held;
      holds = it.holds;
      stream = behind-nothing it.held s.in_flight _ it.stream;
      was_sent = tt;
    })) in
    subst (RegisterComes own ends sent back connection) (sym done.lent)
    (stays own _ _ _ sent back (record {
      sound = is.sound;
      connection = record {
        below = is.connection.below;
        phase = Registering number;
        runs = record { client = done.after; stream = runs.stream; asked = runs.asked; was_back = tt };
        flies = sent_on.this;
      };
      streams = sent_on.all;
    }) refl refl refl)
registers-on own ends sent back connection (Registering context) is runs flies =
    refuses own ends sent back connection _ _ _ (registers-registering connection.client context runs.client) is
registers-on own ends sent back connection (Registered context) is runs flies =
    refuses own ends sent back connection _ _ _ (registers-registering connection.client context runs.client) is
registers-on own ends sent back connection Free is runs flies =
    refuses own ends sent back connection _ _ _ (registers-free connection.client connection.peer runs.client) is
registers-on own ends sent back connection (Asking context position command) is runs flies =
    refuses own ends sent back connection _ _ _
    (registers-asking connection.client connection.peer context (do_once command) runs.client) is
registers-on own ends sent back connection (Answered context position number message answer) is runs flies =
    refuses own ends sent back connection _ _ _
    (registers-asking connection.client connection.peer context message runs.client) is
registers-on own ends sent back connection (Inquiring context request) is runs flies =
    refuses own ends sent back connection _ _ _
    (registers-asking connection.client connection.peer context request runs.client) is
registers-on own ends sent back connection (Informed context request answer) is runs flies =
    refuses own ends sent back connection _ _ _
    (registers-asking connection.client connection.peer context request runs.client) is

pub registers-session : (own : ℕ) (ends : Ends) (sent back : List (ℕ × List ℕ)) (connection : Option TcpConnection) →
    Tracks own (on ends connection) sent back → StepComes own (on ends connection) Register sent back
registers-session own ends sent back None is = stays own _ _ _ sent back is refl refl refl
registers-session own ends sent back (Some connection) is =
    registers-on own ends sent back connection is.connection.phase is is.connection.runs is.connection.flies

-- ---- a message

-- The ends with this pending command, and this connection.
abbrev pub pending_on : Ends → Option (List ℕ) → Option TcpConnection → Ends
pending_on ends pending connection =
    record ends { commander = record ends.commander { pending = pending }; connection = connection }

abbrev SendComes : ℕ → Ends → List (ℕ × List ℕ) → List (ℕ × List ℕ) → List ℕ → TcpConnection → Result Lent ClientFault → Type 0
SendComes own ends sent back request connection lent =
    Comes own (pending_on ends (Some request) (Some connection))
    (sending_on (pending_on ends (Some request) None) connection (Some ends.commander.last_number) lent) [] [] sent back

sends-nothing : (own : ℕ) (ends : Ends) (sent back : List (ℕ × List ℕ)) (request : List ℕ) (connection : TcpConnection)
    (why : ClientFault) → asks connection.client.state (message_of ends.commander request) ≡ Err why →
    Tracks own (pending_on ends (Some request) (Some connection)) sent back →
    SendComes own ends sent back request connection (asks connection.client.state (message_of ends.commander request))
sends-nothing own ends sent back request connection why refused is =
    refuses own (pending_on ends (Some request) None) sent back connection (Some ends.commander.last_number) _ why refused is

sends-free : (own : ℕ) (ends : Ends) (sent back : List (ℕ × List ℕ)) (request : List ℕ) (connection : TcpConnection) →
    Tracks own (pending_on ends (Some request) (Some connection)) sent back → Runs back connection Free →
    ((s : Stream) → stream_with connection.peer ends.streams ≡ Some s → Flies own ends.adapter sent s (Nothing true)) →
    is_unconnected (message_of ends.commander request) ≡ true →
    SendComes own ends sent back request connection (asks connection.client.state (message_of ends.commander request))
sends-free own ends sent back request connection is runs flies fits =
    let command : Command = command_with ends.commander request in
    let message : List ℕ = do_once command in
    let context : ℕ = next_number connection.client.state in
    let done : Asks connection.client connection.peer message =
    asks-free connection.client connection.peer message runs.client fits in
    let short : IsShort message = unconnected-short message fits in
    let more : List (ℕ × List ℕ) = (command.number, message) ∷ [] in
    let flight : Flight = Message context (length sent) command in
    let sent_on : IsReplaced own ends.adapter (sent ++ more)
    (appended (frame (request_frame connection.peer context message)) ends.streams
    (stream_with connection.peer ends.streams)) connection.peer flight =
    appends own ends.adapter (sent ++ more) ends.streams connection.peer (frame (request_frame connection.peer context message))
    flight (stream_with connection.peer ends.streams) refl (flying-more own ends.adapter sent more ends.streams is.streams)
    (λ s found. (let it = flies s found in record {
      below = it.below;
      held = it.held;
      holds = it.holds;
      stream = behind-nothing it.held s.in_flight _ it.stream
          ∙ ap (λ peer. frame (request_frame peer context message)) (sym (stream-number ends.streams connection.peer s found));
      was_sent = record { at = found-last sent (command.number, message); small = short.to };
    })) in
    subst (SendComes own ends sent back request connection) (sym done.lent)
    (record {
      more = messages.Send ∷ [];
      new_sent = sent ++ more;
      new_back = back;
      tracks = record {
        sound = is.sound;
        connection = record {
          below = is.connection.below;
          phase = Asking context (length sent) command;
          runs = record { client = done.after; stream = runs.stream; asked = refl; was_back = tt };
          flies = sent_on.this;
        };
        streams = sent_on.all;
      };
      image = refl;
      reached = refl;
      decided = refl;
      given = sym (append-nil ends.given);
      others = (tt, tt);
    })

sends-on : (own : ℕ) (ends : Ends) (sent back : List (ℕ × List ℕ)) (request : List ℕ) (connection : TcpConnection) (phase : Phase) →
    Tracks own (pending_on ends (Some request) (Some connection)) sent back →
    Runs back connection phase →
    ((s : Stream) → stream_with connection.peer ends.streams ≡ Some s → Flies own ends.adapter sent s (flight_in phase)) →
    SendComes own ends sent back request connection (asks connection.client.state (message_of ends.commander request))
sends-on own ends sent back request connection New is runs flies =
    sends-nothing own ends sent back request connection _
    (asks-new connection.client (message_of ends.commander request) runs.client) is
sends-on own ends sent back request connection (Registering context) is runs flies =
    sends-nothing own ends sent back request connection _
    (asks-registering connection.client context (message_of ends.commander request) runs.client) is
sends-on own ends sent back request connection (Registered context) is runs flies =
    sends-nothing own ends sent back request connection _
    (asks-registering connection.client context (message_of ends.commander request) runs.client) is
sends-on own ends sent back request connection Free is runs flies =
    go (is_unconnected (message_of ends.commander request)) refl
  where
    go : (fits : Bool) → is_unconnected (message_of ends.commander request) ≡ fits →
        SendComes own ends sent back request connection (asks connection.client.state (message_of ends.commander request))
    go true fits = sends-free own ends sent back request connection is runs flies fits
    go false fits =
        sends-nothing own ends sent back request connection _
        (asks-other connection.client connection.peer (message_of ends.commander request) runs.client fits) is
sends-on own ends sent back request connection (Asking context position command) is runs flies =
    sends-nothing own ends sent back request connection _
    (asks-asking connection.client connection.peer context (do_once command) (message_of ends.commander request)
    runs.client) is
sends-on own ends sent back request connection (Answered context position number message answer) is runs flies =
    sends-nothing own ends sent back request connection _
    (asks-asking connection.client connection.peer context message (message_of ends.commander request) runs.client) is
sends-on own ends sent back request connection (Inquiring context other) is runs flies =
    sends-nothing own ends sent back request connection _
    (asks-asking connection.client connection.peer context other (message_of ends.commander request) runs.client) is
sends-on own ends sent back request connection (Informed context other answer) is runs flies =
    sends-nothing own ends sent back request connection _
    (asks-asking connection.client connection.peer context other (message_of ends.commander request) runs.client) is

pub sends-message : (own : ℕ) (ends : Ends) (sent back : List (ℕ × List ℕ)) (pending : Option (List ℕ))
    (connection : Option TcpConnection) → Tracks own (pending_on ends pending connection) sent back →
    StepComes own (pending_on ends pending connection) Send sent back
sends-message own ends sent back None None is = stays own _ _ _ sent back is refl refl refl
sends-message own ends sent back (Some request) None is = stays own _ _ _ sent back is refl refl refl
sends-message own ends sent back None (Some connection) is = stays own _ _ _ sent back is refl refl refl
sends-message own ends sent back (Some request) (Some connection) is =
    sends-on own ends sent back request connection is.connection.phase is is.connection.runs is.connection.flies

-- ---- another request

abbrev AskComes : ℕ → Ends → List (ℕ × List ℕ) → List (ℕ × List ℕ) → TcpConnection → Result Lent ClientFault → Type 0
AskComes own ends sent back connection lent =
    Comes own (on ends (Some connection)) (sending_on ends connection None lent) [] [] sent back

inquires-free : (own : ℕ) (ends : Ends) (sent back : List (ℕ × List ℕ)) (request : List ℕ) (connection : TcpConnection) →
    IsOfAnother own (UNCONNECTED_LIMIT, request) → route_of request ≡ Executes →
    Tracks own (on ends (Some connection)) sent back → Runs back connection Free →
    ((s : Stream) → stream_with connection.peer ends.streams ≡ Some s → Flies own ends.adapter sent s (Nothing true)) →
    is_unconnected request ≡ true → AskComes own ends sent back connection (asks connection.client.state request)
inquires-free own ends sent back request connection others routes is runs flies fits =
    let context : ℕ = next_number connection.client.state in
    let done : Asks connection.client connection.peer request =
    asks-free connection.client connection.peer request runs.client fits in
    let short : IsShort request = unconnected-short request fits in
    let sent_on : IsReplaced own ends.adapter sent
    (appended (frame (request_frame connection.peer context request)) ends.streams
    (stream_with connection.peer ends.streams)) connection.peer (Inquiry context request) =
    appends own ends.adapter sent ends.streams connection.peer (frame (request_frame connection.peer context request))
    (Inquiry context request) (stream_with connection.peer ends.streams) refl is.streams
    (λ s found. (let it = flies s found in record {
      below = it.below;
      held = it.held;
      holds = it.holds;
      stream = behind-nothing it.held s.in_flight _ it.stream
          ∙ ap (λ peer. frame (request_frame peer context request)) (sym (stream-number ends.streams connection.peer s found));
      was_sent = record { from = short.from; to = short.to; route = routes; others = others };
    })) in
    subst (AskComes own ends sent back connection) (sym done.lent)
    (stays own _ _ _ sent back (record {
      sound = is.sound;
      connection = record {
        below = is.connection.below;
        phase = Inquiring context request;
        runs = record { client = done.after; stream = runs.stream; asked = refl; was_back = tt };
        flies = sent_on.this;
      };
      streams = sent_on.all;
    }) refl refl refl)

inquires-on : (own : ℕ) (ends : Ends) (sent back : List (ℕ × List ℕ)) (request : List ℕ) (connection : TcpConnection)
    (phase : Phase) → IsOfAnother own (UNCONNECTED_LIMIT, request) → route_of request ≡ Executes →
    Tracks own (on ends (Some connection)) sent back → Runs back connection phase →
    ((s : Stream) → stream_with connection.peer ends.streams ≡ Some s → Flies own ends.adapter sent s (flight_in phase)) →
    AskComes own ends sent back connection (asks connection.client.state request)
inquires-on own ends sent back request connection New others routes is runs flies =
    refuses own ends sent back connection _ _ _ (asks-new connection.client request runs.client) is
inquires-on own ends sent back request connection (Registering context) others routes is runs flies =
    refuses own ends sent back connection _ _ _ (asks-registering connection.client context request runs.client) is
inquires-on own ends sent back request connection (Registered context) others routes is runs flies =
    refuses own ends sent back connection _ _ _ (asks-registering connection.client context request runs.client) is
inquires-on own ends sent back request connection Free others routes is runs flies = go (is_unconnected request) refl
  where
    go : (fits : Bool) → is_unconnected request ≡ fits →
        AskComes own ends sent back connection (asks connection.client.state request)
    go true fits = inquires-free own ends sent back request connection others routes is runs flies fits
    go false fits =
        refuses own ends sent back connection _ _ _
        (asks-other connection.client connection.peer request runs.client fits) is
inquires-on own ends sent back request connection (Asking context position command) others routes is runs flies =
    refuses own ends sent back connection _ _ _
    (asks-asking connection.client connection.peer context (do_once command) request runs.client) is
inquires-on own ends sent back request connection (Answered context position number message answer) others routes is runs flies =
    refuses own ends sent back connection _ _ _
    (asks-asking connection.client connection.peer context message request runs.client) is
inquires-on own ends sent back request connection (Inquiring context other) others routes is runs flies =
    refuses own ends sent back connection _ _ _
    (asks-asking connection.client connection.peer context other request runs.client) is
inquires-on own ends sent back request connection (Informed context other answer) others routes is runs flies =
    refuses own ends sent back connection _ _ _
    (asks-asking connection.client connection.peer context other request runs.client) is

pub inquires : (own : ℕ) (ends : Ends) (sent back : List (ℕ × List ℕ)) (request : List ℕ) (connection : Option TcpConnection) →
    Tracks own (on ends connection) sent back → IsOfAnother own (UNCONNECTED_LIMIT, request) → route_of request ≡ Executes →
    StepComes own (on ends connection) (Ask request) sent back
inquires own ends sent back request None is others routes = stays own _ _ _ sent back is refl refl refl
inquires own ends sent back request (Some connection) is others routes =
    inquires-on own ends sent back request connection is.connection.phase others routes is is.connection.runs
    is.connection.flies
