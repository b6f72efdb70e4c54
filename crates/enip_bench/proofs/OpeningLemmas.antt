-- An opening without a refusal leads to the opening of the item world.
use Rattle.std.proofs.Common.{◌≡◌, ℕ, ◌<◌, ◌≤◌, ◌^◌, false, Some, None, List, [], length, Result, Ok, Err, refl, ap, ◌∙◌, subst, arith}
use Rattle.cip_bytes.specs.declared.protocol.ExtendedStatus.{ExtendedStatus}
use Rattle.cip_message.specs.Reply.{reply_of, reply_of_fields, reply_service}
use Rattle.cip_message.specs.Open.{Layout, small, large}
use Rattle.cip_manager.specs.declared.opening.Opening.{Opening}
use Rattle.cip_manager.specs.Manager.{Turn}
use Rattle.cip_manager.specs.Opening.{opening_check, opening_turn, decided_opening, service_in, read_opening_turn, open_success, without_group}
use Rattle.cip_manager.specs.Replies.{failure_reply, open_success_data}
use Rattle.cip_ledger.specs.Device.{Device}
use Rattle.enip_wire.specs.Bodies.{rr_body_bytes}
use Rattle.enip_wire.specs.Frames.{Frame, frame}
use Rattle.enip_wire.proofs.WriteLemmas.{rr_again}
use Rattle.enip_adapter.specs.declared.adapter.Limits.{Limits}
use Rattle.enip_adapter.specs.declared.peer.Rights.TheVariants.{Write}
use Rattle.enip_adapter.specs.declared.peer.Session.{Session}
use Rattle.enip_adapter.specs.declared.shared.Listen.{Listen}
use Rattle.enip_adapter.specs.declared.shared.Shared.{Shared}
use Rattle.enip_adapter.specs.Adapter.{new_shared}
use Rattle.enip_adapter.specs.Groups.{no_shares}
use Rattle.enip_adapter.specs.Calls.{AdapterState}
use Rattle.enip_adapter.specs.Calls.Call.{Feeds}
use Rattle.enip_adapter.specs.RegisterSession.{register_session, version_one}
use Rattle.enip_adapter.specs.Replies.{Served, leaving, replied}
use Rattle.enip_adapter.specs.SendRRData.{Routed, routed, routed_to, managed}
use Rattle.enip_adapter.specs.Turn.{new_session}
use Rattle.enip_client.specs.Calls.{registers, opens, after_lending}
use Rattle.enip_client.specs.Client.{ClientState, new_client, fed, with_state}
use Rattle.cip_bytes.specs.Protocol.{manager_service_number}
use Rattle.cip_bytes.specs.declared.protocol.Command.TheVariants.{RegisterSession}
use Rattle.enip_client.specs.Frames.{register_frame, request_frame, layout_of, open_service_in, open_service, open_request, sent as framed}
use Rattle.enip_client.specs.Hears.{hears, opening_turn as hears_opening, answer_in, answer_read, Answer, TurnResult}
use Rattle.enip_client.specs.Hears.HeardEvent.{Registered, Opened}
use Rattle.enip_client.specs.declared.wants.Wants.{Wants}
use Rattle.enip_bench.specs.CountingOpening.{ARefusal, IsWanted, is_registered_event, is_opened_event, exchange}
use Rattle.enip_bench.proofs.AdapterShows.{registered_as, request-served}
use Rattle.enip_bench.proofs.FeedLemmas.{IsHeardWhole, client-fed, is_framed, is_rr}
use Rattle.enip_bench.proofs.OpeningParts.{single, IsSingleFed, single-fed, heard-done, heard-refused, register-served, goes-to-manager, open-read, request-size, wanted, asked-is}

-- the client that awaits its session, and the one that has it
abbrev pub registering : Wants → ClientState
registering wants = with_state (new_client wants) (after_lending (new_client wants).state (registers (new_client wants).state))

abbrev pub registered : Wants → ℕ → ClientState
registered wants peer =
    record { state = (hears (registering wants).state (framed RegisterSession peer 1 version_one)).state; held = [] }

module _ (objects : Device) (listen : Listen) (limits : Limits) (wants : Wants) (next peer : ℕ) where
  abbrev shared : Shared
  shared = new_shared objects listen limits no_shares

  abbrev pub begun_single : Session → AdapterState
  begun_single session = single limits.peers next (new_shared objects listen limits no_shares) session

  pub first-exchange : peer < 2 ^ 32 →
      exchange (record { adapter = begun_single (new_session peer Write None); client = new_client wants }) peer is_registered_event
      (registers (new_client wants).state)
      ≡ Ok (record { adapter = begun_single (registered_as peer); client = registered wants peer })
  first-exchange below =
      let answer : Frame = framed RegisterSession peer 1 version_one in
      let done : IsSingleFed limits.peers next shared (new_session peer Write None) (register_frame 1)
      (leaving shared (register_session (new_session peer Write None) (register_frame 1)))
      = single-fed limits.peers next shared (new_session peer Write None) (register_frame 1)
      (leaving shared (register_session (new_session peer Write None) (register_frame 1))) refl
      (is_framed RegisterSession 0 1 version_one (omega arith) (omega arith))
      (register-served shared (new_session peer Write None) 1) refl in
      let whole : IsHeardWhole (registering wants) answer (fed (registering wants) (frame answer))
      = client-fed (registering wants) answer refl refl
      (is_framed RegisterSession peer 1 version_one below (omega arith)) in
      heard-done is_registered_event (begun_single (new_session peer Write None)) (begun_single (registered_as peer)) (registering wants)
      (registered wants peer) (Feeds 0 peer (frame (register_frame 1))) (frame answer) Registered done.adapter done.output
      whole.client whole.heard_event refl

  -- the client that awaits its connection
  abbrev pub connecting : ClientState
  connecting = with_state (registered wants peer)
      (after_lending (registered wants peer).state (opens (registered wants peer).state))

  abbrev pub layout : Layout
  layout = layout_of wants

  abbrev pub asked : Opening
  asked = wanted wants

  abbrev pub checked : Result (Unit {0}) ExtendedStatus
  checked = opening_check (new_shared objects listen limits no_shares).manager None asked

  -- what the Connection Manager does with the client's request, by the outcome of the checks
  abbrev pub decided : Result (Unit {0}) ExtendedStatus → Turn
  decided r = decided_opening (service_in layout) (new_shared objects listen limits no_shares).manager 0 (without_group peer) asked r

  abbrev open_served : Turn → Served
  open_served turn = leaving (managed shared turn).shared
      (replied (registered_as peer) (request_frame peer 2 (open_request wants)).header (rr_body_bytes (managed shared turn).reply))

  routed-open : IsWanted wants → routed shared (registered_as peer) (open_request wants) ≡ managed shared (decided checked)
  routed-open is = ap (routed_to shared (registered_as peer) (open_request wants)) (goes-to-manager layout wants)
      ∙ (ap (λ r. managed shared (read_opening_turn layout shared.manager 0 (without_group peer) r)) (open-read layout wants is)
      ∙ ap (λ o. managed shared (opening_turn (service_in layout) shared.manager 0 (without_group peer) o)) (asked-is wants is))

  open-fed : IsWanted wants → peer < 2 ^ 32 →
      IsSingleFed limits.peers next shared (registered_as peer) (request_frame peer 2 (open_request wants))
      (open_served (decided checked))
  open-fed is below =
      let size = request-size layout wants in
      single-fed limits.peers next shared (registered_as peer) (request_frame peer 2 (open_request wants))
      (open_served (decided checked)) refl (is_rr peer 2 (open_request wants) below (omega (arith, size.1)))
      (request-served shared peer 2 (open_request wants) size.0 (omega (arith, size.1))
      ∙ ap (λ (x : Routed). leaving x.shared
      (replied (registered_as peer) (request_frame peer 2 (open_request wants)).header (rr_body_bytes x.reply))) (routed-open is))
      refl

  -- the reply to an opening that succeeds, as written and as read
  abbrev pub success_data : List ℕ
  success_data =
      open_success_data (new_shared objects listen limits no_shares).manager.next_id asked.t_to_o_id asked.triad asked.o_to_t.rpi asked.t_to_o.rpi

  abbrev success_bytes_in : Layout → List ℕ
  success_bytes_in l = open_success (service_in l) (new_shared objects listen limits no_shares).manager.next_id asked

  abbrev success_in : Layout → Answer
  success_in l = record {
    bytes = success_bytes_in l;
    reply = reply_of_fields (reply_service (manager_service_number (service_in l))) 0 [] success_data;
  }

  success-read : (l : Layout) →
      answer_read (manager_service_number (open_service_in l)) (success_bytes_in l) (reply_of (success_bytes_in l)) ≡ Some (success_in l)
  unfolding reply_of
  success-read small = refl
  success-read large = refl

  success-size : (l : Layout) → length (success_bytes_in l) ≤ 30
  success-size small = omega arith
  success-size large = omega arith

  abbrev failure_in : Layout → ExtendedStatus → List ℕ
  failure_in l extended = failure_reply (service_in l) extended asked.triad

  refusal-heard : (l : Layout) (extended : ExtendedStatus) →
      is_opened_event (hears_opening connecting.state
      (answer_read (manager_service_number (open_service_in l)) (failure_in l extended) (reply_of (failure_in l extended)))).heard_event
      ≡ false
  unfolding reply_of
  refusal-heard small extended = refl
  refusal-heard large extended = refl

  failure-size : (l : Layout) (extended : ExtendedStatus) → length (failure_in l extended) ≤ 30
  failure-size small extended = omega arith
  failure-size large extended = omega arith

  -- the client whose connection is open
  abbrev pub opened : ClientState
  opened = record { state = (hears_opening connecting.state (Some (success_in layout))).state; held = [] }

  pub second-exchange : IsWanted wants → peer < 2 ^ 32 → (r : Result (Unit {0}) ExtendedStatus) → checked ≡ r →
      exchange (record { adapter = begun_single (registered_as peer); client = registered wants peer }) peer is_opened_event
      (opens (registered wants peer).state)
      ≡ elim r [
        | Ok done ↦ Ok (record { adapter = single limits.peers next (managed shared (decided (Ok tt))).shared (registered_as peer); client = opened })
        | Err extended ↦ Err ARefusal
      ]
  second-exchange is below (Err extended) check =
      let f : Frame = request_frame peer 2 (open_request wants) in
      let reply : List ℕ = failure_in layout extended in
      let short : length reply ≤ 30 = failure-size layout extended in
      let answer : Frame = request_frame peer 2 reply in
      let done : IsSingleFed limits.peers next shared (registered_as peer) f (open_served (decided (Err extended)))
      = subst (λ r. IsSingleFed limits.peers next shared (registered_as peer) f (open_served (decided r))) check (open-fed is below) in
      let whole : IsHeardWhole connecting answer (fed connecting (frame answer))
      = client-fed connecting answer refl refl (is_rr peer 2 reply below (omega (arith, short))) in
      heard-refused is_opened_event (begun_single (registered_as peer)) connecting (Feeds 0 peer (frame f)) (frame answer)
      (hears connecting.state answer).heard_event done.output whole.heard_event
      (ap (λ b. is_opened_event (hears_opening connecting.state (answer_in (manager_service_number (open_service wants)) b)).heard_event)
      (rr_again reply (omega (arith, short)))
      ∙ refusal-heard layout extended)
  second-exchange is below (Ok done) check =
      let f : Frame = request_frame peer 2 (open_request wants) in
      let reply : List ℕ = success_bytes_in layout in
      let short : length reply ≤ 30 = success-size layout in
      let answer : Frame = request_frame peer 2 reply in
      let fed_once : IsSingleFed limits.peers next shared (registered_as peer) f (open_served (decided (Ok tt)))
      = subst (λ r. IsSingleFed limits.peers next shared (registered_as peer) f (open_served (decided r))) check (open-fed is below) in
      let whole : IsHeardWhole connecting answer (fed connecting (frame answer))
      = client-fed connecting answer refl refl (is_rr peer 2 reply below (omega (arith, short))) in
      let turn : hears connecting.state answer ≡ hears_opening connecting.state (Some (success_in layout))
      = ap (λ b. hears_opening connecting.state (answer_in (manager_service_number (open_service wants)) b)) (rr_again reply (omega (arith, short)))
      ∙ ap (λ a. hears_opening connecting.state a) (success-read layout) in
      heard-done is_opened_event (begun_single (registered_as peer))
      (single limits.peers next (managed shared (decided (Ok tt))).shared (registered_as peer)) connecting opened
      (Feeds 0 peer (frame f)) (frame answer) Opened fed_once.adapter fed_once.output
      (whole.client ∙ ap (λ (t : TurnResult). (let x : ClientState = record { state = t.state; held = [] } in x)) turn)
      (whole.heard_event ∙ ap (λ (t : TurnResult). t.heard_event) turn) refl
