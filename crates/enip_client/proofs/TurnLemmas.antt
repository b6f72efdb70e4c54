-- The cases of a whole frame at a client.
use Rattle.std.proofs.Common.{◌≡◌, ℕ, Bool, true, false, cond, ◌&&◌, ◌==◌, Option, Some, None, Result, Ok, Err, List}
use Rattle.std.proofs.Common.{[], ◌∷◌, ◌*◌, length, drop, slice_index, refl, sym, ap, subst, ◌∙◌}
use Rattle.std.specs.Prelude.{nat_le, nat_lt}
use Rattle.std.proofs.lemmas.Bool.{and_parts, eqb-true}
use Rattle.cip_class3.specs.OriginatorRule.{after_item, accepted_reply}
use Rattle.cip_bytes.specs.Numbers.{number_at}
use Rattle.cip_message.specs.Reply.{Reply, reply_of, reply_of_fields, reply_service}
use Rattle.cip_message.specs.declared.reply.ReplyFault.{ReplyFault}
use Rattle.cip_message.specs.declared.reply.ReplyFault.TheVariants as reply_faults
use Rattle.enip_wire.specs.Bodies.{unit_body_of, rr_body_of}
use Rattle.enip_wire.specs.Frames.{Frame}
use Rattle.enip_wire.specs.declared.header.Header.{Header}
use Rattle.enip_wire.specs.declared.item_list.CpfFault.{CpfFault}
use Rattle.enip_client.specs.declared.fault.ClientFault.{ClientFault}
use Rattle.enip_client.specs.declared.fault.ClientFault.TheVariants as faults
use Rattle.enip_client.specs.declared.state.Awaited.{Awaited}
use Rattle.enip_client.specs.declared.state.Awaited.TheVariants as awaited
use Rattle.enip_client.specs.declared.state.Awaiting.{Awaiting}
use Rattle.enip_client.specs.declared.state.ConnectionState.{ConnectionState}
use Rattle.enip_client.specs.declared.state.ConnectionState.TheVariants.{Open}
use Rattle.enip_client.specs.declared.state.Registration.{Registration}
use Rattle.enip_client.specs.declared.state.Registration.TheVariants as registrations
use Rattle.enip_client.specs.declared.state.State.{State}
use Rattle.enip_client.specs.State.{is_registered, session_in, is_open}
use Rattle.enip_client.specs.Frames.{open_service}
use Rattle.cip_bytes.specs.Protocol.{command_number, manager_service_number}
use Rattle.cip_bytes.specs.declared.protocol.Command.TheVariants.{SendUnitData}
use Rattle.cip_bytes.specs.declared.protocol.ManagerService.TheVariants.{ForwardClose}
use Rattle.enip_client.specs.Hears.{HeardEvent, TurnResult, Answer, turned_to, faulted, answered, hears, hears_awaiting, is_answer}
use Rattle.enip_client.specs.Hears.{command_awaited, answer_turn, shaped, opening_turn, reply_turn, closing_turn}
use Rattle.enip_client.specs.Hears.{router_turn, routed_turn}
use Rattle.cip_route.specs.declared.send.TheConstants.{UNCONNECTED_SEND}
use Rattle.enip_client.specs.Hears.{other_turn, item_turn, accepted, is_for_connection, answer_to, refuses}
use Rattle.enip_client.specs.Hears.{answer_in, answer_read}
use Rattle.enip_client.specs.Hears.HeardEvent.{Nothing}
use Rattle.enip_client.specs.Runs.{IsReplyTo, item_in, item_of}

-- Nothing; a lasting fault; the awaited reply; or an item of the connection.
pub data IsTurn (s : State) : Option (List ℕ) → TurnResult → Type 0 where
  Ignores : IsTurn s None (turned_to s Nothing)
  Fails : (fault : ClientFault) → IsTurn s None (faulted s fault)
  Answers : (w : Awaiting) (registration : Registration) (connection_state : ConnectionState) (heard_event : HeardEvent) → s.awaiting ≡ Some w
      → IsReplyTo w.awaited heard_event
      → IsTurn s None (turned_to (record s { awaiting = None; registration = registration; connection_state = connection_state }) heard_event)
  Receives : (item : List ℕ)
      → IsTurn s (Some item)
      (turned_to (record s { originator = after_item s.originator item }) (accepted (accepted_reply s.originator item)))

item-turn : (s : State) (r : Result (ℕ × List ℕ) CpfFault) → IsTurn s (item_of s r) (item_turn s r)
item-turn s (Err fault) = Ignores
item-turn s (Ok (id, item)) = go (id == s.wants.t_to_o_id)
  where
    go : (b : Bool)
        → IsTurn s (cond b (Some item) None)
        (cond b (turned_to (record s { originator = after_item s.originator item })
        (accepted (accepted_reply s.originator item))) (turned_to s Nothing))
    go true = Receives item
    go false = Ignores

other-turn : (s : State) (f : Frame) → IsTurn s (item_in s f) (other_turn s f)
other-turn s f = go (is_for_connection s f.header)
  where
    go : (b : Bool)
        → IsTurn s (cond b (item_of s (unit_body_of f.body)) None)
        (cond b (item_turn s (unit_body_of f.body)) (turned_to s Nothing))
    go true = item-turn s (unit_body_of f.body)
    go false = Ignores

-- The command of an awaited reply is not that of an item.
not-connected : (s : State) (h : Header) → (h.command == command_number SendUnitData) ≡ false → is_for_connection s h ≡ false
not-connected s h other =
    ap (λ b. b && (h.status == 0) && is_open s.connection_state && is_registered s.registration &&
    (h.session == session_in s.registration))
    other

not-item : (s : State) (f : Frame) (what : Awaited) → f.header.command ≡ command_number (command_awaited what) → item_in s f ≡ None
not-item s f what is = ap (λ b. cond b (item_of s (unit_body_of f.body)) None) (not-connected s f.header (by what is))
  where
    by : (what : Awaited) → f.header.command ≡ command_number (command_awaited what) → (f.header.command == command_number SendUnitData) ≡ false
    by awaited.Session is = ap (λ n. n == command_number SendUnitData) is
    by awaited.Connection is = ap (λ n. n == command_number SendUnitData) is
    by (awaited.Reply service) is = ap (λ n. n == command_number SendUnitData) is
    by (awaited.Routed service) is = ap (λ n. n == command_number SendUnitData) is
    by awaited.End is = ap (λ n. n == command_number SendUnitData) is

-- A reply begins with its service.
first-service : (bytes : List ℕ) (reply : Reply) → reply_of bytes ≡ Ok reply → slice_index bytes 0 ≡ reply.service
unfolding reply_of
first-service [] reply e = cc
first-service (service ∷ []) reply e = cc
first-service (service ∷ reserved ∷ []) reply e = cc
first-service (service ∷ reserved ∷ status ∷ []) reply e = cc
first-service (service ∷ reserved ∷ status ∷ words ∷ rest) reply e =
    go _ (nat_lt service 128) (nat_lt (length rest) (2 * words)) e
  where
    go : (additional : List ℕ) (b c : Bool)
        → (let r : Result Reply ReplyFault = cond b (Err reply_faults.NotReply) (cond c (Err reply_faults.Extra)
        (Ok (reply_of_fields service status additional (drop (2 * words) rest)))) in r) ≡ Ok reply
        → service ≡ reply.service
    go additional true c e = cc
    go additional false true e = cc
    go additional false false e = cc

-- The reply to a request has the service of that request, with bit 7.
answer-service : (service : ℕ) (body : List ℕ) (a : Answer) → answer_to service body ≡ Some a
    → slice_index a.bytes 0 ≡ reply_service service
answer-service service body a e = by_body (rr_body_of body) e
  where
    by_service : (bytes : List ℕ) (reply : Reply) → reply_of bytes ≡ Ok reply → (b : Bool)
        → (reply.service == reply_service service) ≡ b
        → (let o : Option Answer = cond b (Some (record { bytes = bytes; reply = reply })) None in o) ≡ Some a
        → slice_index a.bytes 0 ≡ reply_service service
    by_service bytes reply read true same e =
        let is : Some (let x : Answer = record { bytes = bytes; reply = reply } in x) ≡ Some a = e in
        let bytes_are : bytes ≡ a.bytes = cc in
        ap (λ x. slice_index x 0) (sym bytes_are) ∙ (first-service bytes reply read ∙ eqb-true _ _ same)
    by_service bytes reply read false same e = cc

    by_reply : (bytes : List ℕ) (r : Result Reply ReplyFault) → reply_of bytes ≡ r
        → answer_read service bytes r ≡ Some a
        → slice_index a.bytes 0 ≡ reply_service service
    by_reply bytes (Err fault) read e = cc
    by_reply bytes (Ok reply) read e = by_service bytes reply read (reply.service == reply_service service) refl e

    by_body : (r : Result (List ℕ) CpfFault) → answer_in service r ≡ Some a
        → slice_index a.bytes 0 ≡ reply_service service
    by_body (Err fault) e = cc
    by_body (Ok bytes) e = by_reply bytes (reply_of bytes) refl e

module _ (s : State) (f : Frame) (number : ℕ) where
  abbrev waits : Awaited → Awaiting
  waits what = record { number = number; awaited = what }

  refused : (what : Awaited) → s.awaiting ≡ Some (waits what)
      → ((status extended : ℕ) → IsReplyTo what (HeardEvent.Refused status extended)) → (reply : Reply)
      → IsTurn s None (refuses s reply)
  refused what is reply-to reply = Answers (waits what) s.registration s.connection_state _ is (reply-to _ _)

  opening : (o : Option Answer) → s.awaiting ≡ Some (waits awaited.Connection) → IsTurn s None (opening_turn s o)
  opening None is = Fails faults.Malformed
  opening (Some a) is = go (a.reply.status == 0)
    where
      whole : (b : Bool)
          → IsTurn s None (cond b (turned_to (record (answered s) { connection_state = Open (number_at 0 4 a.reply.data) }) HeardEvent.Opened)
          (faulted s faults.Malformed))
      whole true = Answers (waits awaited.Connection) s.registration
          (Open (number_at 0 4 a.reply.data)) HeardEvent.Opened is tt
      whole false = Fails faults.Malformed

      go : (b : Bool)
          → IsTurn s None (cond b (cond (nat_le 26 (length a.reply.data))
          (turned_to (record (answered s) { connection_state = Open (number_at 0 4 a.reply.data) }) HeardEvent.Opened)
          (faulted s faults.Malformed))
          (refuses s a.reply))
      go true = whole (nat_le 26 (length a.reply.data))
      go false = refused awaited.Connection is (λ status extended. tt) a.reply

  closing : (o : Option Answer) → s.awaiting ≡ Some (waits awaited.End) → IsTurn s None (closing_turn s o)
  closing None is = Fails faults.Malformed
  closing (Some a) is = go (a.reply.status == 0)
    where
      go : (b : Bool) → IsTurn s None (cond b (turned_to (answered s) HeardEvent.Closed) (refuses s a.reply))
      go true = Answers (waits awaited.End) s.registration s.connection_state HeardEvent.Closed is tt
      go false = refused awaited.End is (λ status extended. tt) a.reply

  reply : (service : ℕ) (o : Option Answer) → answer_to service f.body ≡ o
      → s.awaiting ≡ Some (waits (awaited.Reply service)) → IsTurn s None (reply_turn s o)
  reply service None of is = Fails faults.Malformed
  reply service (Some a) of is =
      Answers (waits (awaited.Reply service)) s.registration s.connection_state (HeardEvent.Replied a.bytes) is
      (answer-service service f.body a of)

  router : (service : ℕ) (o : Option Answer) → s.awaiting ≡ Some (waits (awaited.Routed service))
      → IsTurn s None (router_turn s o)
  router service None is = Fails faults.Malformed
  router service (Some a) is = go (a.reply.status == 0)
    where
      go : (b : Bool) → IsTurn s None (cond b (faulted s faults.Malformed) (refuses s a.reply))
      go true = Fails faults.Malformed
      go false = refused (awaited.Routed service) is (λ status extended. tt) a.reply

  routed : (service : ℕ) (o other : Option Answer) → answer_to service f.body ≡ o
      → s.awaiting ≡ Some (waits (awaited.Routed service)) → IsTurn s None (routed_turn s o other)
  routed service None other of is = router service other is
  routed service (Some a) other of is =
      Answers (waits (awaited.Routed service)) s.registration s.connection_state (HeardEvent.Replied a.bytes) is
      (answer-service service f.body a of)

  session : (b : Bool) → s.awaiting ≡ Some (waits awaited.Session)
      → IsTurn s None
      (cond b (turned_to
      (record (answered s) { registration = registrations.Registered f.header.session }) HeardEvent.Registered)
      (faulted s faults.Malformed))
  session true is =
      Answers (waits awaited.Session) (registrations.Registered f.header.session) s.connection_state HeardEvent.Registered is tt
  session false is = Fails faults.Malformed

  shape : (what : Awaited) → s.awaiting ≡ Some (waits what) → IsTurn s None (shaped s what f)
  shape awaited.Session is = session (length f.body == 4) is
  shape awaited.Connection is = opening (answer_to (manager_service_number (open_service s.wants)) f.body) is
  shape (awaited.Reply service) is = reply service (answer_to service f.body) refl is
  shape (awaited.Routed service) is =
      routed service (answer_to service f.body) (answer_to UNCONNECTED_SEND f.body) refl is
  shape awaited.End is = closing (answer_to (manager_service_number ForwardClose) f.body) is

  answer-turn : (what : Awaited) → s.awaiting ≡ Some (waits what) → IsTurn s None (answer_turn s what f)
  answer-turn what is = go (f.header.status == 0)
    where
      go : (b : Bool) → IsTurn s None (cond b (shaped s what f) (faulted s (faults.Status f.header.status)))
      go true = shape what is
      go false = Fails (faults.Status f.header.status)

pub is-turn : (s : State) (f : Frame) → IsTurn s (item_in s f) (hears s f)
is-turn s f = go s.awaiting refl
  where
    by : (w : Awaiting) → s.awaiting ≡ Some w → (b : Bool) → is_answer w f.header ≡ b
        → IsTurn s (item_in s f) (cond b (answer_turn s w.awaited f) (other_turn s f))
    by w is true answers =
        subst (λ o. IsTurn s o (answer_turn s w.awaited f))
        (sym (not-item s f w.awaited (eqb-true _ _ ((and_parts _ _ answers).0))))
        (answer-turn s f w.number w.awaited is)
    by w is false answers = other-turn s f

    go : (o : Option Awaiting) → s.awaiting ≡ o → IsTurn s (item_in s f) (hears_awaiting s f o)
    go None is = other-turn s f
    go (Some w) is = by w is (is_answer w f.header) refl
