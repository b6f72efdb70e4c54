-- What ended connections between two updates.
use Rattle.std.proofs.Common.{◌≡◌, ◌≢◌, ℕ, max, List, [], ◌∷◌, ◌++◌, Bool, true, false, cond, not, ◌&&◌, ◌||◌, eqb, ltb}
use Rattle.std.proofs.Common.{leb, length, Option, Some, None, Result, Ok, Err, refl, sym, ap, subst, ◌∙◌, map}
use Rattle.std.specs.Prelude.{filter, find}
use Rattle.std.specs.List.{list_any, AllByRecursion}
use Rattle.std.proofs.lemmas.Bool.{eqb-true, eqb-false, ne_eqb, eq-eqb, leb-false, lt-ltb, false≢true}
use Rattle.cip_bytes.specs.Protocol.{command_of}
use Rattle.cip_bytes.specs.declared.protocol.Command.{Command}
use Rattle.cip_bytes.specs.declared.protocol.Command.TheVariants.{SendRRData, SendUnitData}
use Rattle.cip_ledger.specs.Device.{Device}
use Rattle.cip_message.specs.Close.{Close, close_of}
use Rattle.cip_manager.specs.declared.connection.Connection.{Connection}
use Rattle.cip_manager.specs.declared.connection.ConnectionInfo.{ConnectionInfo}
use Rattle.cip_manager.specs.Closing.{triad_of}
use Rattle.cip_manager.specs.Connection.{has_id, is_of_session, is_of_session_with, is_named, is_open_at}
use Rattle.cip_manager.specs.ConnectionInfo.{connection_info}
use Rattle.cip_manager.specs.Items.{with_first as with_first_that}
use Rattle.cip_manager.specs.Opening.{new_connection}
use Rattle.cip_manager.specs.Runs.{of_session}
use Rattle.cip_manager.proofs.CallLemmas.{after_open, after_close, after_item_turn}
use Rattle.enip_wire.specs.Bodies.{rr_body_of, unit_body_of}
use Rattle.enip_wire.specs.Frames.{Frame}
use Rattle.enip_wire.specs.Stream.{Parsed, held_and_taken, bytes_taken, parsed}
use Rattle.enip_wire.specs.Stream.Parsed.{Incomplete, WholeFrame, TooLongHeader}
use Rattle.enip_wire.specs.declared.item_list.CpfFault.{CpfFault}
use Rattle.enip_adapter.specs.declared.adapter.Limits.{Limits}
use Rattle.enip_adapter.specs.declared.adapter.Shares.{Shares}
use Rattle.enip_adapter.specs.declared.endings.EndReason.TheVariants.{TimedOut, PeerEnded, SessionEnded, Closed}
use Rattle.enip_adapter.specs.declared.endings.EndedConnection.{EndedConnection}
use Rattle.enip_adapter.specs.declared.no_reply_reason.NoReplyReason.TheVariants.{NotServed}
use Rattle.enip_adapter.specs.declared.peer.Rights.{Rights}
use Rattle.enip_adapter.specs.declared.peer.Session.{Session}
use Rattle.enip_adapter.specs.declared.shared.Listen.{Listen}
use Rattle.enip_adapter.specs.declared.shared.Shared.{Shared}
use Rattle.enip_adapter.specs.Adapter.{shared_adapter}
use Rattle.enip_adapter.specs.Commands.{by_command, command_served, long_refused}
use Rattle.enip_adapter.specs.Replies.{Served, leaving, is_registered_as}
use Rattle.enip_adapter.specs.SendRRData.{Route, route_of, opener_of, routed_to, reply_to_body}
use Rattle.enip_adapter.specs.SendRRData.Route.{Opens, Closes, Executes}
use Rattle.enip_adapter.specs.SendUnitData.{item_of_body}
use Rattle.enip_adapter.specs.Turn.{State, TurnResult, turned, without_connections, begun, after, session_of, serve_found}
use Rattle.enip_adapter.specs.Turn.{end_found}
use Rattle.enip_adapter.specs.Turn.Event.{At}
use Rattle.enip_adapter.specs.Turn.Output.{NoReply}
use Rattle.enip_adapter.specs.Calls.{AdapterState, Call, Meaning, call_meaning, after_call, call_answer}
use Rattle.enip_adapter.specs.Calls.{bytes_held, events_of_parsed}
use Rattle.enip_adapter.specs.Calls.Call.{Begins_peer, Feeds, Ends_peer, Ticks, Writes}
use Rattle.enip_adapter.specs.EndCauses.{is_deadline_reached, is_end_of, is_closed_in, reason_in_calls}
use Rattle.enip_adapter.specs.EndCauses.{ending_in_calls, endings_in_calls, CarriesClose, IsForwardClosed, IsReportedClosed}
use Rattle.enip_adapter.specs.Endings.{EndingsState, updated, end_reason, reason_of_session, ending, endings_of}
use Rattle.enip_adapter.specs.Endings.{is_open_in}
use Rattle.enip_adapter.specs.Serving.{is_open}
use Rattle.enip_adapter.specs.Runs.{after_calls, frames_of_peer}
use Rattle.enip_adapter.proofs.CloseLemmas.{told-served, closed-told}
use Rattle.enip_adapter.proofs.CutLemmas.{feed-open, shown, IsOpen}
use Rattle.enip_adapter.proofs.ListLemmas.{both, first_with-number}
use Rattle.enip_adapter.proofs.OwnLemmas.{served_turn, served-open}
use Rattle.enip_adapter.proofs.PeerLemmas.{at_state, spares-piece}
use Rattle.enip_adapter.proofs.RootLemmas.{HeldOpen, held-open, rooted-reached, each-weaker}
use Rattle.enip_adapter.proofs.SessionEndLemmas.{reached, reason-open}
use Rattle.enip_adapter.proofs.SoundLemmas.{IsSound, sound-calls, sound-shared}
use Rattle.enip_adapter.specs.Rights.{after_for, answer_for}
use Rattle.enip_adapter.proofs.BeginLemmas.{each-begun}

-- ---- every reason

reason-same : (a : AdapterState) (calls : List Call) (k : ConnectionInfo) → IsSound a → HeldOpen a.state k.session
    → end_reason (after_calls a calls) k ≡ reason_in_calls a calls k
reason-same a calls k sound held =
    ap (λ b. cond b TimedOut (reason_of_session (session_of (after_calls a calls).state k.session)))
    (reached k.deadline a calls)
    ∙ ap (λ r. cond (is_deadline_reached a calls k) TimedOut r)
    (reason-open k.session held.session a calls sound held.found held.alive)

endings-same : (a : AdapterState) (calls : List Call) (cs : List Connection) → IsSound a
    → AllByRecursion (λ (c : Connection). HeldOpen a.state c.session) cs
    → endings_of (after_calls a calls) (map connection_info cs)
    ≡ map (ending_in_calls a calls)
    (filter (λ k. not (is_open_in (after_calls a calls) k)) (map connection_info cs))
endings-same a calls [] sound all = refl
endings-same a calls (c ∷ cs) sound all =
    go (not (is_open_in (after_calls a calls) (connection_info c))) (endings-same a calls cs sound all.1)
  where
    rest : List ConnectionInfo
    rest = filter (λ k. not (is_open_in (after_calls a calls) k)) (map connection_info cs)

    first : ending (after_calls a calls) (connection_info c) ≡ ending_in_calls a calls (connection_info c)
    first = ap (λ r. let e : EndedConnection = record { id = c.o_to_t_id; session = c.session; reason = r } in e)
        (reason-same a calls (connection_info c) sound all.0)

    go : (b : Bool)
        → map (ending (after_calls a calls)) rest ≡ map (ending_in_calls a calls) rest
        → map (ending (after_calls a calls)) (cond b (connection_info c ∷ rest) rest)
        ≡ map (ending_in_calls a calls) (cond b (connection_info c ∷ rest) rest)
    go true e =
        ap (λ x. x ∷ map (ending (after_calls a calls)) rest) first
        ∙ ap (λ xs. ending_in_calls a calls (connection_info c) ∷ xs) e
    go false e = e

-- ---- a Forward_Close

-- The connection is one of these.
data In (c : Connection) : List Connection → Type 0 where
  Here : {xs : List Connection} → In c (c ∷ xs)
  There : {x : Connection} {xs : List Connection} → In c xs → In c (x ∷ xs)

abbrev is_open_among : Connection → List Connection → Bool
is_open_among c cs = list_any (has_id c.o_to_t_id) cs

or-second : (b c : Bool) → c ≡ true → (b || c) ≡ true
or-second true c e = refl
or-second false c e = e

in-open : {c : Connection} {cs : List Connection} → In c cs → is_open_among c cs ≡ true
in-open {c} (Here {xs}) = ap (λ b. b || is_open_among c xs) (eq-eqb c.o_to_t_id c.o_to_t_id refl)
in-open {c} (There {x} {xs} is) = or-second (has_id c.o_to_t_id x) (is_open_among c xs) (in-open is)

in-filter : (test : Connection → Bool) {c : Connection} {cs : List Connection} → In c cs → test c ≡ true
    → In c (filter test cs)
in-filter test {c} (Here {xs}) e = subst (λ b. In c (cond b (c ∷ filter test xs) (filter test xs))) (sym e) Here
in-filter test {c} (There {x} {xs} is) e =
    both (In c) (test x) _ _ (There (in-filter test is e)) (in-filter test is e)

in-cons : {c x : Connection} {xs ys : List Connection} → In c (x ∷ xs) → (In c xs → In c ys) → In c (x ∷ ys)
in-cons Here more = Here
in-cons (There is) more = There (more is)

in-filtered : (test : Connection → Bool) (c : Connection) (cs : List Connection) → In c (filter test cs) → In c cs
in-filtered test c [] is = is
in-filtered test c (x ∷ xs) is = go (test x) (λ i. in-filtered test c xs i) is
  where
    go : (b : Bool) → (In c (filter test xs) → In c xs) → In c (cond b (x ∷ filter test xs) (filter test xs))
        → In c (x ∷ xs)
    go true more i = in-cons i more
    go false more i = There (more i)

-- A connection that is open is still open after another one is appended, or one is changed.
open-append : (c new : Connection) (cs : List Connection) → is_open_among c cs ≡ true
    → is_open_among c (cs ++ new ∷ []) ≡ true
open-append c new [] e = absurd (false≢true e)
open-append c new (x ∷ xs) e = go (has_id c.o_to_t_id x) (λ f. open-append c new xs f) e
  where
    go : (b : Bool) → (is_open_among c xs ≡ true → is_open_among c (xs ++ new ∷ []) ≡ true)
        → (b || is_open_among c xs) ≡ true → (b || is_open_among c (xs ++ new ∷ [])) ≡ true
    go true rest f = refl
    go false rest f = rest f

open-changed : (c old new : Connection) (test : Connection → Bool) (cs : List Connection)
    → find test cs ≡ Some old → new.o_to_t_id ≡ old.o_to_t_id → is_open_among c cs ≡ true
    → is_open_among c (with_first_that test new cs) ≡ true
open-changed c old new test [] found same e = e
open-changed c old new test (x ∷ xs) found same e =
    go (test x) (λ f g. open-changed c old new test xs f same g) found e
  where
    or-same : (b d rest : Bool) → b ≡ d → (b || rest) ≡ true → (d || rest) ≡ true
    or-same b d rest f g = subst (λ t. (t || rest) ≡ true) f g

    or-on : (b rest more : Bool) → (rest ≡ true → more ≡ true) → (b || rest) ≡ true → (b || more) ≡ true
    or-on true rest more f g = refl
    or-on false rest more f g = f g

    go : (t : Bool)
        → (find test xs ≡ Some old → is_open_among c xs ≡ true → is_open_among c (with_first_that test new xs) ≡ true)
        → cond t (Some x) (find test xs) ≡ Some old
        → (has_id c.o_to_t_id x || is_open_among c xs) ≡ true
        → is_open_among c (cond t (new ∷ xs) (x ∷ with_first_that test new xs)) ≡ true
    go true rest f g =
        let is : x ≡ old = cc in
        or-same (has_id c.o_to_t_id x) (has_id c.o_to_t_id new) (is_open_among c xs)
        (ap (λ n. eqb n c.o_to_t_id) (ap (λ (d : Connection). d.o_to_t_id) is ∙ sym same)) g
    go false rest f g =
        or-on (has_id c.o_to_t_id x) (is_open_among c xs) (is_open_among c (with_first_that test new xs)) (rest f) g

-- The frame carries a Forward_Close of this connection.
record Closing (f : Frame) (session : ℕ) (c : Connection) : Type 0 where
  close : Close
  carried : CarriesClose f close
  named : is_of_session_with session (triad_of close) c ≡ true

-- A frame after which a connection is not open carries such a Forward_Close.
module _ (shared : Shared) (session : Session) (f : Frame) (c : Connection) (is : In c shared.manager.connections) where
  abbrev Explains : Shared → Type 0
  Explains t = is_open_among c t.manager.connections ≡ false → Closing f session.handle c

  explains-open : (t : Shared) → is_open_among c t.manager.connections ≡ true → Explains t
  explains-open t e shut = absurd (false≢true (sym shut ∙ e))

  explains-same : Explains shared
  explains-same = explains-open shared (in-open is)

  explains-closes : command_of f.header.command ≡ Some SendRRData → (request : List ℕ) → rr_body_of f.body ≡ Ok request
      → (bytes : List ℕ) → route_of request ≡ Closes bytes
      → Explains (routed_to shared session request (Closes bytes)).shared
  explains-closes command request body bytes route =
      after_close (λ t. is_open_among c t.connections ≡ false → Closing f session.handle c) shared.manager
      session.handle bytes explains-same
      (λ close read shut. by_name close read (is_of_session_with session.handle (triad_of close) c) refl shut)
    where
      by_name : (close : Close) → close_of bytes ≡ Ok close
          → (b : Bool) → is_of_session_with session.handle (triad_of close) c ≡ b
          → is_open_among c (filter (λ d. not (is_of_session_with session.handle (triad_of close) d))
          shared.manager.connections) ≡ false
          → Closing f session.handle c
      by_name close read true named shut = record {
        close = close;
        carried = record { command = command; request = request; body = body; bytes = bytes; route = route; read = read };
        named = named;
      }
      by_name close read false other shut =
          absurd (false≢true (sym shut
          ∙ in-open (in-filter (λ d. not (is_of_session_with session.handle (triad_of close) d)) is (ap not other))))

  explains-routed : command_of f.header.command ≡ Some SendRRData → (request : List ℕ) → rr_body_of f.body ≡ Ok request
      → (to : Route) → route_of request ≡ to → Explains (routed_to shared session request to).shared
  explains-routed command request body (Opens layout bytes) route =
      after_open (λ t. is_open_among c t.manager.connections ≡ false → Closing f session.handle c) layout
      shared.manager shared.moment (opener_of session) bytes (λ reply refused. explains-same)
      (λ asked check shut. absurd (false≢true (sym shut
      ∙ open-append c (new_connection shared.manager.next_id shared.moment (opener_of session) asked)
      shared.manager.connections (in-open is))))
  explains-routed command request body (Closes bytes) route = explains-closes command request body bytes route
  explains-routed command request body Executes route = explains-same

  explains-body : command_of f.header.command ≡ Some SendRRData → (body : Result (List ℕ) CpfFault)
      → rr_body_of f.body ≡ body → Explains (reply_to_body shared session f body).shared
  explains-body command (Err fault) e = explains-same
  explains-body command (Ok request) e =
      both (λ (s : Served). Explains s.shared) (ltb (length request) 2) _ _ explains-same
      (explains-routed command request e (route_of request) refl)

  explains-item : (body : Result (ℕ × List ℕ) CpfFault) → Explains (item_of_body shared session f body).shared
  explains-item (Err fault) = explains-same
  explains-item (Ok (id, item)) =
      after_item_turn (after_for session.rights) (answer_for session.rights) (λ cs. is_open_among c cs ≡ false → Closing f session.handle c)
      shared.manager.connections shared.moment session.handle id item shared.objects explains-same
      (λ old new found same shut. absurd (false≢true (sym shut
      ∙ open-changed c old new (is_named session.handle id) shared.manager.connections found same.id (in-open is))))

  explains-by_command : (command : Option Command) → command_of f.header.command ≡ command
      → Explains (by_command shared session f command).shared
  explains-by_command (Some SendRRData) e =
      both (λ (s : Served). Explains s.shared) (not (is_registered_as session f.header.session)) _ _ explains-same
      (explains-body e (rr_body_of f.body) refl)
  explains-by_command (Some SendUnitData) e =
      both (λ (s : Served). Explains s.shared) (not (is_registered_as session f.header.session)) _ _ explains-same
      (explains-item (unit_body_of f.body))
  explains-by_command other e = explains-same

  explains-command : Explains (command_served shared session f).shared
  unfolding command_served
  explains-command =
      both (λ (s : Served). Explains s.shared) (not (eqb f.header.options 0)) _ _ explains-same
      (both (λ (s : Served). Explains s.shared) (not (eqb f.header.status 0)) _ _ explains-same
      (explains-by_command (command_of f.header.command) refl))

-- ---- one call

record IsNone (timed ended closed : Bool) : Type 0 where
  in_time : timed ≡ false
  held : ended ≡ false
  open_still : closed ≡ false

no-other : (timed ended closed : Bool)
    → cond timed TimedOut (cond ended PeerEnded (cond closed SessionEnded Closed)) ≡ Closed → IsNone timed ended closed
no-other true ended closed e = cc
no-other false true closed e = cc
no-other false false true e = cc
no-other false false false e = record { in_time = refl; held = refl; open_still = refl }

or-parts : (b c : Bool) → (b || c) ≡ false → (b ≡ false) × (c ≡ false)
or-parts true c e = cc
or-parts false c e = (refl, e)

-- The deadline is not reached at the call's time.
in-time : (c : Connection) (moment now : ℕ) → (leb c.deadline moment || (leb c.deadline (max moment now) || false)) ≡ false
    → is_open_at (max moment now) c ≡ true
in-time c moment now e =
    lt-ltb (max moment now) c.deadline
    (leb-false c.deadline (max moment now) (or-parts (leb c.deadline (max moment now)) false
    (or-parts (leb c.deadline moment) (leb c.deadline (max moment now) || false) e).1).0)

module _ (s : State) (c : Connection) (is : In c s.shared.manager.connections) where
  begun-on : (rights : Rights) (group : Option ℕ)
      → is_open_among c (begun s rights group).state.shared.manager.connections ≡ true
  begun-on rights group =
      each-begun (λ (t : TurnResult). is_open_among c t.state.shared.manager.connections ≡ true) s rights group
      (λ full. in-open is) (in-open is)

  ended-on : (peer : ℕ) (o : Option Session) → peer ≢ c.session
      → is_open_among c (end_found s peer o).shared.manager.connections ≡ true
  ended-on peer None differ = in-open is
  ended-on peer (Some session) differ =
      in-open (in-filter (λ d. not (is_of_session peer d)) is
      (ap not (ne_eqb c.session peer (λ e. differ (sym e)))))

  other-on : (t : State) → of_session c.session t.shared.manager.connections
      ≡ of_session c.session s.shared.manager.connections
      → is_open_among c t.shared.manager.connections ≡ true
  other-on t same =
      in-open (in-filtered (is_of_session c.session) c t.shared.manager.connections
      (subst (λ cs. In c cs) (sym same) (in-filter (is_of_session c.session) is (eq-eqb c.session c.session refl))))

  -- A frame of the connection's own peer that does not close it.
  own-frame : (session : Session) → session_of s c.session ≡ Some session → session.closed ≡ false → session.handle ≡ c.session
      → (f : Frame)
      → (serve_found s c.session (λ p. command_served s.shared p f) (session_of s c.session)).answer.close ≡ false
      → is_open_among c (serve_found s c.session (λ p. command_served s.shared p f)
      (session_of s c.session)).state.shared.manager.connections ≡ false
      → Closing f c.session c
  own-frame session found alive number f going shut =
      let serve : Session → Served = λ p. command_served s.shared p f in
      let served : serve_found s c.session (λ p. command_served s.shared p f) (session_of s c.session)
      ≡ served_turn s c.session (λ p. command_served s.shared p f) session
      = ap (λ o. serve_found s c.session (λ p. command_served s.shared p f) o) found
      ∙ ap (λ b. cond b (turned s (NoReply NotServed) true)
      (served_turn s c.session (λ p. command_served s.shared p f) session)) alive in
      let on : (command_served s.shared session f).reaction.close ≡ false
      = sym (ap (λ (t : TurnResult). t.answer.close) served) ∙ going in
      let left : is_open_among c (command_served s.shared session f).shared.manager.connections ≡ false
      = sym (ap (λ (t : TurnResult). is_open_among c t.state.shared.manager.connections) served
      ∙ ap (λ b. is_open_among c (cond b (without_connections (command_served s.shared session f).shared session.handle)
      (command_served s.shared session f).shared).manager.connections) on)
      ∙ shut in
      subst (λ n. Closing f n c) number (explains-command s.shared session f c is left)

contradiction : {X : Type 0} → (b : Bool) → b ≡ true → b ≡ false → X
contradiction true e f = cc
contradiction false e f = cc

-- A connection of an open peer.
record IsOwned (a : AdapterState) (c : Connection) : Type 0 where
  is : In c a.state.shared.manager.connections
  held : HeldOpen a.state c.session

-- A frame of a piece, after which the connection is not open, although the peer is.
record Framing (peer : ℕ) (c : Connection) (x : Parsed) : Type 0 where
  frame : Frame
  parsed_as : x ≡ WholeFrame frame
  closing : Closing frame peer c

framing-parsed : (s : State) (c : Connection) (session : Session) (x : Parsed) → In c s.shared.manager.connections
    → session_of s c.session ≡ Some session → session.closed ≡ false
    → is_open (session_of (after s (events_of_parsed c.session x)) c.session) ≡ true
    → is_open_among c (after s (events_of_parsed c.session x)).shared.manager.connections ≡ false
    → Framing c.session c x
framing-parsed s c session Incomplete is found alive opened shut = contradiction _ (in-open is) shut
framing-parsed s c session (WholeFrame f) is found alive opened shut = record {
  frame = f;
  parsed_as = refl;
  closing = own-frame s c is session found alive
      (first_with-number (λ (p : Session). p.handle) c.session session s.peers found) f
      (told-served s c.session (λ p. command_served s.shared p f) session found alive ∙ ap not opened) shut;
}
framing-parsed s c session (TooLongHeader h) is found alive opened shut =
    contradiction _ opened
    (ap is_open (served-open s c.session (λ p. leaving s.shared (long_refused p h)) session found alive))

-- A feed of the connection's own peer.
feed-closed : (a : AdapterState) (c : Connection) (now : ℕ) (piece : List ℕ) → IsOwned a c
    → is_open_at (max a.state.shared.moment now) c ≡ true
    → (call_answer a (Feeds now c.session piece)).close ≡ false
    → is_open_among c (after_call a (Feeds now c.session piece)).state.shared.manager.connections ≡ false
    → IsForwardClosed a (Feeds now c.session piece) c
feed-closed a c now piece own timely going shut =
    let live : IsOpen a c.session
    = record { session = own.held.session; found = own.held.found; alive = own.held.alive } in
    let bytes : List ℕ = held_and_taken (bytes_held a.held c.session) piece in
    let m : call_meaning a (Feeds now c.session piece)
    ≡ shown a.held c.session now (held_and_taken (bytes_held a.held c.session) piece)
    (bytes_taken (bytes_held a.held c.session) piece)
    = feed-open a now c.session piece live in
    let open_then : is_open (session_of (after_call a (Feeds now c.session piece)).state c.session) ≡ true
    = not-twice _ (sym (closed-told a now c.session piece) ∙ going) in
    let framing : Framing c.session c (parsed (held_and_taken (bytes_held a.held c.session) piece))
    = framing-parsed (at_state a.state now) c own.held.session
    (parsed (held_and_taken (bytes_held a.held c.session) piece))
    (in-filter (is_open_at (max a.state.shared.moment now)) own.is timely) own.held.found own.held.alive
    (sym (ap (λ (t : Meaning). is_open (session_of (after a.state t.events) c.session)) m) ∙ open_then)
    (sym (ap (λ (t : Meaning). is_open_among c (after a.state t.events).shared.manager.connections) m) ∙ shut) in
    record {
      frame = framing.frame;
      served = ap (λ (t : Meaning). frames_of_peer c.session t.events) m
          ∙ (ap (λ x. frames_of_peer c.session (At now ∷ events_of_parsed c.session x)) framing.parsed_as
          ∙ ap (λ b. cond b (framing.frame ∷ []) []) (eq-eqb c.session c.session refl));
      close = framing.closing.close;
      carried = framing.closing.carried;
      named = framing.closing.named;
    }
  where
    not-twice : (b : Bool) → not b ≡ false → b ≡ true
    not-twice true e = refl
    not-twice false e = cc

closed-by : (a : AdapterState) (c : Connection) (call : Call) → IsOwned a c
    → IsNone (is_deadline_reached a (call ∷ []) (connection_info c)) (list_any (is_end_of c.session) (call ∷ []))
    (is_closed_in c.session a (call ∷ []))
    → is_open_among c (after_call a call).state.shared.manager.connections ≡ false → IsForwardClosed a call c
closed-by a c (Begins_peer rights group) own none shut = contradiction _ (begun-on a.state c own.is rights group) shut
closed-by a c (Feeds now peer piece) own none shut = go (eqb peer c.session) refl
  where
    timely : is_open_at (max a.state.shared.moment now) c ≡ true
    timely = in-time c a.state.shared.moment now none.in_time

    own_peer : peer ≡ c.session → IsForwardClosed a (Feeds now peer piece) c
    own_peer same =
        let closes : (b : Bool) → b ≡ true → ((b && (call_answer a (Feeds now peer piece)).close) || false) ≡ false
        → (call_answer a (Feeds now peer piece)).close ≡ false
        = first-part (call_answer a (Feeds now peer piece)).close in
        subst (λ q. is_open_among c (after_call a (Feeds now q piece)).state.shared.manager.connections ≡ false
        → (call_answer a (Feeds now q piece)).close ≡ false → IsForwardClosed a (Feeds now q piece) c) (sym same)
        (λ gone going. feed-closed a c now piece own timely going gone) shut
        (closes (eqb peer c.session) (eq-eqb peer c.session same) none.open_still)
      where
        first-part : (d b : Bool) → b ≡ true → ((b && d) || false) ≡ false → d ≡ false
        first-part true true e f = cc
        first-part true false e f = cc
        first-part false b e f = refl

    go : (b : Bool) → eqb peer c.session ≡ b → IsForwardClosed a (Feeds now peer piece) c
    go true t = own_peer (eqb-true peer c.session t)
    go false t =
        contradiction _
        (other-on (at_state a.state now) c
        (in-filter (is_open_at (max a.state.shared.moment now)) own.is timely)
        (after_call a (Feeds now peer piece)).state
        (spares-piece (at_state a.state now) c.session peer piece a.held (session_of a.state peer)
        (eqb-false peer c.session t)).connections) shut
closed-by a c (Ends_peer peer) own none shut =
    contradiction _
    (ended-on a.state c own.is peer (session_of a.state peer)
    (eqb-false peer c.session (or-parts (eqb peer c.session) false none.held).0)) shut
closed-by a c (Ticks now) own none shut =
    contradiction _
    (in-open (in-filter (is_open_at (max a.state.shared.moment now)) own.is
    (in-time c a.state.shared.moment now none.in_time))) shut
closed-by a c (Writes write) own none shut = contradiction _ (in-open own.is) shut

each-closed : (a : AdapterState) (call : Call) (cs : List Connection)
    → ((c : Connection) → In c cs → In c a.state.shared.manager.connections)
    → AllByRecursion (λ (c : Connection). HeldOpen a.state c.session) cs
    → AllByRecursion (λ (c : Connection). IsReportedClosed a call c → IsForwardClosed a call c) cs
each-closed a call [] within held = tt
each-closed a call (c ∷ cs) within held = (
  λ reported. closed-by a c call (record { is = within c Here; held = held.0 })
      (no-other (is_deadline_reached a (call ∷ []) (connection_info c)) (list_any (is_end_of c.session) (call ∷ []))
      (is_closed_in c.session a (call ∷ [])) reported.1) reported.0,
  each-closed a call cs (λ d is. within d (There is)) held.1,
)

-- ---- the law

module _ (device : Device) (listen : Listen) (limits : Limits) (shares : Shares) (earlier : List Call) where
  abbrev start : AdapterState
  start = after_calls (shared_adapter device listen limits shares) earlier

  sound : IsSound start
  sound =
      sound-calls (shared_adapter device listen limits shares) earlier (sound-shared device listen limits shares)

  each-held : AllByRecursion (λ (c : Connection). HeldOpen start.state c.session) start.state.shared.manager.connections
  each-held =
      each-weaker (λ (c : Connection). is_open (session_of start.state c.session) ≡ true)
      (λ (c : Connection). HeldOpen start.state c.session) start.state.shared.manager.connections
      (λ c e. held-open start.state c.session e) (rooted-reached device listen limits shares earlier)

  pub causes-reasons : (calls : List Call) (e : EndingsState)
      → (updated (updated e start) (after_calls start calls)).ended ≡ endings_in_calls start calls
  causes-reasons calls e =
      endings-same start calls start.state.shared.manager.connections sound each-held

  pub causes-closed : (call : Call)
      → AllByRecursion (λ (c : Connection). IsReportedClosed start call c → IsForwardClosed start call c)
      start.state.shared.manager.connections
  causes-closed call =
      each-closed start call start.state.shared.manager.connections (λ c is. is) each-held
