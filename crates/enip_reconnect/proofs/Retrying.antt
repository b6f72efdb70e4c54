-- A retry on a new TCP connection gets through.
use Rattle.std.proofs.Common.{◌≡◌, ℕ, ◌≤◌, if◌then◌else◌, true, Option, Some, None, List, [], ◌∷◌, length, take, drop, slice_index, Ok, refl, ap, sym, ◌∙◌, subst, arith}
use Rattle.std.proofs.lemmas.Bool.{eq-eqb, and_from, le-leb}
use Rattle.std.proofs.lemmas.List.{take_all, drop_all}
use Rattle.cip_bytes.specs.declared.protocol.TheConstants.{UNCONNECTED_LIMIT}
use Rattle.cip_commander.specs.CommanderRule.{do_once, command_with}
use Rattle.cip_commander.specs.Outcome.{Done, outcome_of_text}
use Rattle.cip_commander.specs.declared.refusal.TheConstants.{LONGEST_EMBEDDED}
use Rattle.cip_ledger.specs.Device.{exec_device}
use Rattle.cip_message.specs.LedgerCommand.{Command}
use Rattle.enip_adapter.specs.Calls.{AdapterState, Call, call_answer, call_meaning, after_call}
use Rattle.enip_adapter.specs.Calls.Call.{Feeds}
use Rattle.enip_adapter.specs.Runs.{after_calls}
use Rattle.enip_adapter.specs.Serving.{output_bytes}
use Rattle.enip_adapter.specs.Turn.{Answer}
use Rattle.enip_adapter.specs.Turn.Output.{Begins}
use Rattle.enip_adapter.proofs.SoundLemmas.{IsSound, sound-call}
use Rattle.enip_client.specs.Calls.{Lent, registers, asks, next_number, is_unconnected}
use Rattle.enip_client.specs.Client.{ClientState, new_client, with_state, fed}
use Rattle.enip_client.specs.Frames.{register_frame, request_frame}
use Rattle.enip_client.specs.Hears.{HeardEvent, hears}
use Rattle.enip_client.specs.Hears.HeardEvent.{Registered as HeardRegistered, Replied}
use Rattle.enip_client.specs.Runs.Action.{Register as RegisterAction, Unconnected}
use Rattle.enip_client.specs.declared.wants.Wants.{Wants}
use Rattle.enip_wire.specs.Frames.{Frame, frame, IsFrame}
use Rattle.enip_wire.proofs.FrameLemmas.{length-frame}
use Rattle.enip_reconnect.specs.Events.{Event, Connect, Register, Send, Arrive, Receive}
use Rattle.enip_reconnect.specs.Retry.{ALL_BYTES, retry, IsAccepted}
use Rattle.enip_reconnect.specs.World.{TcpConnection, Stream, Ends, stream_with, with_stream, appended, sending, begins_peer, begun, arrived, feed_calls, received, heard, accepting, ends_step, ends_run}
use Rattle.enip_reconnect.proofs.AdapterSide.{BeginsAs, begins-as, Registers, registers-peer, Reaches, reaches-device, route_of-do_once}
use Rattle.enip_reconnect.proofs.ClientPieces.{hears_whole, fed-whole}
use Rattle.enip_reconnect.proofs.ClientReplies.{IsTaken, exec_device-taken}
use Rattle.enip_reconnect.proofs.ClientSide.{new-is, Registers as RegistersClient, registers-new, after_sending, HearsRegistered, hears-registered, hears-replied, Asks, asks-free, IsShort, unconnected-short, registered_frame, register-framed, registered-framed, request-framed}
use Rattle.enip_reconnect.proofs.Flights.{left-over}

-- The ends while this TCP connection carries on: the adapter, the client, the command that was asked, and what is in flight.
module _ (ends : Ends) (peer : ℕ) where
  abbrev stream : List ℕ → Stream
  stream bytes = record { peer = peer; in_flight = bytes }

  abbrev connection : ClientState → Option ℕ → List ℕ → TcpConnection
  connection c asked bytes = record { client = c; peer = peer; asked = asked; in_flight = bytes }

  abbrev stage : AdapterState → ClientState → Option ℕ → List ℕ → List ℕ → Ends
  stage a c asked out back = record ends {
    adapter = a;
    connection = Some (connection c asked back);
    streams = stream out ∷ ends.streams;
  }

  first-found : (bytes : List ℕ) → stream_with peer (stream bytes ∷ ends.streams) ≡ Some (stream bytes)
  first-found bytes =
      ap (λ same. if same then Some (stream bytes) else stream_with peer ends.streams) (eq-eqb peer peer refl)

  first-set : (bytes new : List ℕ) → with_stream (stream new) (stream bytes ∷ ends.streams) ≡ stream new ∷ ends.streams
  first-set bytes new =
      ap (λ same. if same then stream new ∷ ends.streams else stream bytes ∷ with_stream (stream new) ends.streams)
      (eq-eqb peer peer refl)

  -- The client's frame is on its way.
  frame-sent : (a : AdapterState) (c : ClientState) (asked : Option ℕ) (lent : Lent) →
      record (sending (stage a c None [] []) (connection c None []) asked (Ok lent)) { adapter = a }
      ≡ stage a (with_state c lent.state) asked (frame lent.frame) []
  frame-sent a c asked lent =
      ap (λ streams. record (stage a (with_state c lent.state) asked [] []) { streams = streams })
      (ap (appended (frame lent.frame) (stream [] ∷ ends.streams)) (first-found []) ∙ first-set [] (frame lent.frame))

  registers-step : (a : AdapterState) (c : ClientState) (lent : Lent) → registers c.state ≡ Ok lent →
      ends_step (stage a c None [] []) Register ≡ stage a (with_state c lent.state) None (frame lent.frame) []
  registers-step a c lent is =
      ap (λ result. record (sending (stage a c None [] []) (connection c None []) None result) { adapter = a }) is
      ∙ frame-sent a c None lent

  -- All bytes arrive at the adapter, which answers.
  abbrev call : ℕ → List ℕ → Call
  call now bytes = Feeds now peer (take ALL_BYTES bytes)

  none-left : (bytes : List ℕ) → length bytes ≤ ALL_BYTES → drop (length (take ALL_BYTES bytes)) bytes ≡ []
  none-left bytes small = left-over ALL_BYTES bytes ∙ drop_all ALL_BYTES bytes small

  arrives-step : (a : AdapterState) (c : ClientState) (asked : Option ℕ) (now : ℕ) (bytes answer : List ℕ) →
      length bytes ≤ ALL_BYTES → (call_meaning a (call now bytes)).taken ≡ length (take ALL_BYTES bytes) →
      output_bytes (call_answer a (call now bytes)).output ≡ answer →
      ends_step (stage a c asked bytes []) (Arrive now peer ALL_BYTES)
      ≡ stage (after_call a (call now bytes)) c asked [] answer
  arrives-step a c asked now bytes answer small taken is =
      let out : List ℕ = output_bytes (call_answer a (call now bytes)).output in
      let left : List ℕ = drop (call_meaning a (call now bytes)).taken bytes in
      ap (λ found. record (arrived (stage a c asked bytes []) now ALL_BYTES found) {
        adapter = after_calls a (feed_calls now ALL_BYTES found);
      }) (first-found bytes)
      ∙ (ap (λ same. record (stage (after_call a (call now bytes)) c asked [] []) {
        connection = Some (if same then connection c asked out else connection c asked []);
        streams = with_stream (stream left) (stream bytes ∷ ends.streams);
      }) (eq-eqb peer peer refl)
      ∙ (ap (λ streams. record (stage (after_call a (call now bytes)) c asked [] out) { streams = streams })
      (first-set bytes left)
      ∙ (ap (λ rest. stage (after_call a (call now bytes)) c asked rest out)
      (ap (λ n. drop n bytes) taken ∙ none-left bytes small)
      ∙ ap (stage (after_call a (call now bytes)) c asked []) is)))

  -- All bytes arrive at the client, which hears a frame.
  abbrev heard_client : ClientState → Frame → ClientState
  heard_client c f = record { state = (hears c.state f).state; held = [] }

  receives-step : (a : AdapterState) (c : ClientState) (asked : Option ℕ) (bytes : List ℕ) (f : Frame) (event : HeardEvent) →
      length bytes ≤ ALL_BYTES → fed c (take ALL_BYTES bytes) ≡ hears_whole c (take ALL_BYTES bytes) f →
      (hears c.state f).heard_event ≡ event →
      ends_step (stage a c asked [] bytes) (Receive ALL_BYTES)
      ≡ record (heard (stage a c asked [] bytes) (connection (heard_client c f) asked []) event) { adapter = a }
  receives-step a c asked bytes f event small is hears_it =
      ap (λ fed. record (received (stage a c asked [] bytes) (connection c asked bytes) fed) { adapter = a }) is
      ∙ (ap (λ event. record (heard (stage a c asked [] bytes)
      (connection (heard_client c f) asked (drop (length (take ALL_BYTES bytes)) bytes)) event) { adapter = a }) hears_it
      ∙ ap (λ rest. record (heard (stage a c asked [] bytes) (connection (heard_client c f) asked rest) event) { adapter = a })
      (none-left bytes small))

-- All of a frame arrives.
small-frame : (f : Frame) → IsFrame f → length (frame f) ≤ ALL_BYTES
small-frame f ok = omega (arith, length-frame f ok, ok.within)

all-of : (f : Frame) → IsFrame f → take ALL_BYTES (frame f) ≡ frame f
all-of f ok = take_all ALL_BYTES (frame f) (small-frame f ok)

-- A command that embeds a request of this length is sent unconnected.
once-unconnected : (command : Command) → length command.request ≤ LONGEST_EMBEDDED → is_unconnected (do_once command) ≡ true
once-unconnected command short =
    let from : 2 ≤ length (do_once command) = omega arith in
    let to : length (do_once command) ≤ UNCONNECTED_LIMIT = omega (arith, short) in
    and_from _ _ (and_from _ _ (le-leb _ _ from) (le-leb _ _ to)) refl

-- ---- the retry

-- The ends with this pending command.
abbrev pub pending_ends : Ends → List ℕ → Ends
pending_ends ends request = record ends { commander = record ends.commander { pending = Some request } }

module _ (base : Ends) (request : List ℕ) (peer now : ℕ) (wants : Wants) where
  abbrev ends : Ends
  ends = pending_ends base request

  abbrev command : Command
  command = command_with base.commander request

  abbrev message : List ℕ
  message = do_once command

  abbrev a : AdapterState
  a = base.adapter

  -- What is left of the retry after each event.
  abbrev at_last : List Event
  at_last = Receive ALL_BYTES ∷ []

  abbrev after_send : List Event
  after_send = Arrive now peer ALL_BYTES ∷ at_last

  abbrev after_registered : List Event
  after_registered = Send ∷ after_send

  abbrev after_arrival : List Event
  after_arrival = Receive ALL_BYTES ∷ after_registered

  abbrev after_register : List Event
  after_register = Arrive now peer ALL_BYTES ∷ after_arrival

  abbrev after_connect : List Event
  after_connect = Register ∷ after_register

  connects-step : (call_answer a begins_peer).output ≡ Begins peer →
      ends_step (record ends { connection = None }) (Connect wants)
      ≡ stage ends peer (after_call a begins_peer) (new_client wants) None [] []
  connects-step begins =
      ap (λ output. record (begun (record ends { connection = None }) wants output) { adapter = after_call a begins_peer }) begins

  sends-step : (b : AdapterState) (c : ClientState) (lent : Lent) → asks c.state message ≡ Ok lent →
      ends_step (stage ends peer b c None [] []) Send
      ≡ stage ends peer b (with_state c lent.state) (Some command.number) (frame lent.frame) []
  sends-step b c lent is =
      ap (λ result. record (sending (stage ends peer b c None [] []) (connection ends peer c None []) (Some command.number) result)
      { adapter = b }) is
      ∙ frame-sent ends peer b c (Some command.number) lent

  -- The reply says that the command is done.
  accepts-step : (b : AdapterState) (c : ClientState) (bytes answer reply : List ℕ) (f : Frame) → length bytes ≤ ALL_BYTES →
      fed c (take ALL_BYTES bytes) ≡ hears_whole c (take ALL_BYTES bytes) f →
      (hears c.state f).heard_event ≡ Replied answer → outcome_of_text answer ≡ Done reply →
      IsAccepted ends (ends_step (stage ends peer b c (Some command.number) [] bytes) (Receive ALL_BYTES))
  accepts-step b c bytes answer reply f small is hears_it done =
      subst (IsAccepted ends)
      (sym (receives-step ends peer b c (Some command.number) bytes f (Replied answer) small is hears_it
      ∙ (ap (λ its. record (if its then accepting freed (outcome_of_text answer) else freed) { adapter = b })
      (eq-eqb command.number command.number refl)
      ∙ ap (λ outcome. record (accepting freed outcome) { adapter = b }) done)))
      (record { reply = reply; accepted = refl; commander = refl })
    where
      freed : Ends
      freed = record (stage ends peer b c (Some command.number) [] bytes) {
        connection = Some (connection ends peer (heard_client ends peer c f) None []);
      }

  pub retried : (reply : List ℕ) → IsSound a → (call_answer a begins_peer).output ≡ Begins peer →
      length request ≤ LONGEST_EMBEDDED →
      outcome_of_text (exec_device a.state.shared.objects UNCONNECTED_LIMIT message).answer ≡ Done reply →
      IsAccepted ends (ends_run ends (retry wants now peer))
  retried reply sound begins small done =
      let new : BeginsAs a peer = begins-as a peer sound begins in
      let a1 : AdapterState = after_call a begins_peer in
      let sound1 : IsSound a1 = sound-call a begins_peer sound in
      let c0 : ClientState = new_client wants in
      let register : RegistersClient c0 = registers-new c0 (new-is wants) in
      let c1 : ClientState = after_sending c0 RegisterAction in
      let context : ℕ = next_number c0.state in
      let bytes1 : List ℕ = frame (register_frame context) in
      let registered : Registers a1 now peer (take ALL_BYTES bytes1) context =
      registers-peer a1 now peer [] (take ALL_BYTES bytes1) context sound1 new.holds
      (all-of (register_frame context) (register-framed context)) in
      let a2 : AdapterState = after_call a1 (call ends peer now bytes1) in
      let sound2 : IsSound a2 = sound-call a1 (call ends peer now bytes1) sound1 in
      let f2 : Frame = registered_frame peer context in
      let ok2 : IsFrame f2 = registered-framed peer context new.below in
      let free : HearsRegistered peer (hears c1.state f2) = hears-registered c1 peer context register.after in
      let c2 : ClientState = heard_client ends peer c1 f2 in
      let fits : is_unconnected message ≡ true = once-unconnected command small in
      let short : IsShort message = unconnected-short message fits in
      let asks : Asks c2 peer message = asks-free c2 peer message free.after fits in
      let c3 : ClientState = after_sending c2 (Unconnected message) in
      let number : ℕ = next_number c2.state in
      let f3 : Frame = request_frame peer number message in
      let ok3 : IsFrame f3 = request-framed peer number message new.below short.to in
      let bytes3 : List ℕ = frame f3 in
      let reached : Reaches a2 now peer (take ALL_BYTES bytes3) number message =
      reaches-device a2 now peer [] (take ALL_BYTES bytes3) number message sound2 new.below registered.holds short.from short.to
      (route_of-do_once command) (all-of f3 ok3) in
      let a3 : AdapterState = after_call a2 (call ends peer now bytes3) in
      let answer : List ℕ = (exec_device a2.state.shared.objects UNCONNECTED_LIMIT message).answer in
      let taken : IsTaken (slice_index message 0) answer = exec_device-taken a2.state.shared.objects message short.from in
      let f4 : Frame = request_frame peer number answer in
      let ok4 : IsFrame f4 = request-framed peer number answer new.below taken.within in
      let device : a2.state.shared.objects ≡ a.state.shared.objects = registered.device ∙ new.device in
      let chain : ends_run ends (retry wants now peer)
      ≡ ends_step (stage ends peer a3 c3 (Some command.number) [] (frame f4)) (Receive ALL_BYTES) =
      ap (λ x. ends_run x after_connect) (connects-step begins)
      ∙ (ap (λ x. ends_run x after_register) (registers-step ends peer a1 c0 _ register.lent)
      ∙ (ap (λ x. ends_run x after_arrival)
      (arrives-step ends peer a1 c1 None now bytes1 (frame f2) (small-frame (register_frame context) (register-framed context))
      registered.taken (ap (λ (x : Answer). output_bytes x.output) registered.answer))
      ∙ (ap (λ x. ends_run x after_registered)
      (receives-step ends peer a2 c1 None (frame f2) f2 HeardRegistered (small-frame f2 ok2)
      (fed-whole c1 (take ALL_BYTES (frame f2)) f2 register.after.fault ok2 (all-of f2 ok2)) free.heard_event)
      ∙ (ap (λ x. ends_run x after_send) (sends-step a2 c2 _ asks.lent)
      ∙ ap (λ x. ends_run x at_last)
      (arrives-step ends peer a2 c3 (Some command.number) now bytes3 (frame f4) (small-frame f3 ok3) reached.taken
      (ap (λ (x : Answer). output_bytes x.output) reached.answer)))))) in
      subst (IsAccepted ends) (sym chain)
      (accepts-step a3 c3 (frame f4) answer reply f4 (small-frame f4 ok4)
      (fed-whole c3 (take ALL_BYTES (frame f4)) f4 asks.after.fault ok4 (all-of f4 ok4))
      (hears-replied c3 peer number message answer asks.after taken).heard_event
      (ap (λ d. outcome_of_text (exec_device d UNCONNECTED_LIMIT message).answer) device ∙ done))
