-- A peer's session depends on its own frames only.
use Rattle.std.proofs.Common.{◌≡◌, ℕ, List, [], ◌∷◌, ◌++◌, Bool, true, false, cond, not, eqb, ltb, length}
use Rattle.std.proofs.Common.{Option, Some, None, Result, Ok, Err, refl, sym, ap, subst, ◌∙◌}
use Rattle.std.specs.List.{AllByRecursion}
use Rattle.std.specs.Option.{option_map}
use Rattle.std.proofs.lemmas.Bool.{eqb-true, eqb-false, eq-eqb}
use Rattle.cip_bytes.specs.Protocol.{command_of}
use Rattle.cip_bytes.specs.declared.protocol.Command.{Command}
use Rattle.cip_bytes.specs.declared.protocol.Command.TheVariants.{SendRRData, SendUnitData}
use Rattle.enip_wire.specs.Bodies.{rr_body_of, unit_body_of}
use Rattle.enip_wire.specs.Frames.{Frame}
use Rattle.enip_wire.specs.Stream.{Parsed, held_and_taken, parsed, cleared}
use Rattle.enip_wire.specs.Stream.Parsed.{Incomplete, WholeFrame, TooLongHeader}
use Rattle.enip_wire.specs.declared.item_list.CpfFault.{CpfFault}
use Rattle.enip_adapter.specs.declared.peer.Rights.{Rights}
use Rattle.enip_adapter.specs.declared.peer.Session.{Session}
use Rattle.enip_adapter.specs.declared.shared.Shared.{Shared}
use Rattle.enip_adapter.specs.declared.no_reply_reason.NoReplyReason.TheVariants.{NotServed}
use Rattle.enip_adapter.specs.Adapter.{shared_adapter}
use Rattle.enip_adapter.specs.Commands.{by_command, command_served, long_refused}
use Rattle.enip_adapter.specs.Lookup.{first_with, with_first}
use Rattle.enip_adapter.specs.Replies.{Served, leaving, is_registered_as}
use Rattle.enip_adapter.specs.SendRRData.{reply_to_body}
use Rattle.enip_adapter.specs.SendUnitData.{item_of_body}
use Rattle.enip_adapter.specs.Turn.{State, TurnResult, turned, begun, new_session, after, session_of}
use Rattle.enip_adapter.specs.Turn.{serve_found, session_after, shared_after, sent}
use Rattle.enip_adapter.specs.Turn.Event.{At}
use Rattle.enip_adapter.specs.Turn.Output.{NoReply, Begins}
use Rattle.enip_adapter.specs.Calls.{AdapterState, Held, Call, Meaning, call_meaning, after_call, after_meaning}
use Rattle.enip_adapter.specs.Calls.{bytes_found, bytes_held, piece_to, piece_meaning, dropped_piece, at_a_moment}
use Rattle.enip_adapter.specs.Calls.{events_of_parsed}
use Rattle.enip_adapter.specs.Calls.Call.{Begins_peer, Feeds, Ends_peer, Ticks, Writes}
use Rattle.enip_adapter.specs.Runs.{after_calls, events_of_calls, frames_of_peer, IsForOther, GoesOn, Run}
use Rattle.enip_adapter.specs.Runs.{at_beginning, at_end, taken_in, frames_in, progress_of}
use Rattle.enip_adapter.proofs.CutLemmas.{feed-open}
use Rattle.enip_adapter.proofs.ListLemmas.{both, first_with-number, first_with-set, first_with-behind, next-none}
use Rattle.enip_adapter.proofs.ListLemmas.{numbers-none}
use Rattle.enip_adapter.proofs.PeerLemmas.{at_state, held-call, session-call}
use Rattle.enip_wire.proofs.RunningLemmas.{parsed-running}
use Rattle.enip_adapter.proofs.SoundLemmas.{IsSound, sound-call, sound-calls, sound-shared, entry-of, no-entry}
use Rattle.enip_adapter.proofs.StreamLemmas.{frames-append, no-frames, same-runs}
use Rattle.enip_adapter.proofs.BeginLemmas.{each-begun}

-- A peer with other rights and another group.
abbrev pub with_rights : Session → Rights → Option ℕ → Session
with_rights session rights group = record session { rights = rights; group = group }

-- What a frame does to its peer, apart from the answer, depends neither on what the peers share nor on the peer's rights
-- and group.
record IsAlike (x y : Served) : Type 0 where
  registered : x.reaction.registered ≡ y.reaction.registered
  close : x.reaction.close ≡ y.reaction.close

two : (b : Bool) (x y v w : Served) → IsAlike x v → IsAlike y w → IsAlike (cond b x y) (cond b v w)
two true x y v w p q = p
two false x y v w p q = q

alike-body : (s t : Shared) (session : Session) (rights : Rights) (group : Option ℕ) (f : Frame)
    (body : Result (List ℕ) CpfFault)
    → IsAlike (reply_to_body s session f body) (reply_to_body t (with_rights session rights group) f body)
alike-body s t session rights group f (Err fault) = record { registered = refl; close = refl }
alike-body s t session rights group f (Ok request) =
    two (ltb (length request) 2) _ _ _ _ (record { registered = refl; close = refl })
    (record { registered = refl; close = refl })

alike-item : (s t : Shared) (session : Session) (rights : Rights) (group : Option ℕ) (f : Frame)
    (body : Result (ℕ × List ℕ) CpfFault)
    → IsAlike (item_of_body s session f body) (item_of_body t (with_rights session rights group) f body)
alike-item s t session rights group f (Err fault) = record { registered = refl; close = refl }
alike-item s t session rights group f (Ok (id, item)) = record { registered = refl; close = refl }

alike-by_command : (s t : Shared) (session : Session) (rights : Rights) (group : Option ℕ) (f : Frame)
    (command : Option Command)
    → IsAlike (by_command s session f command) (by_command t (with_rights session rights group) f command)
alike-by_command s t session rights group f (Some SendRRData) =
    two (not (is_registered_as session f.header.session)) _ _ _ _ (record { registered = refl; close = refl })
    (alike-body s t session rights group f (rr_body_of f.body))
alike-by_command s t session rights group f (Some SendUnitData) =
    two (not (is_registered_as session f.header.session)) _ _ _ _ (record { registered = refl; close = refl })
    (alike-item s t session rights group f (unit_body_of f.body))
alike-by_command s t session rights group f other = record { registered = refl; close = refl }

alike-command : (s t : Shared) (session : Session) (rights : Rights) (group : Option ℕ) (f : Frame)
    → IsAlike (command_served s session f) (command_served t (with_rights session rights group) f)
unfolding command_served
alike-command s t session rights group f =
    two (not (eqb f.header.options 0)) _ _ _ _ (record { registered = refl; close = refl })
    (two (not (eqb f.header.status 0)) _ _ _ _ (record { registered = refl; close = refl })
    (alike-by_command s t session rights group f (command_of f.header.command)))

-- The session after a frame, and after frames, whatever is shared.
abbrev pub step : Shared → Session → Frame → Session
step shared session f = session_after session (command_served shared session f)

step-as : (s t : Shared) (session : Session) (rights : Rights) (group : Option ℕ) (f : Frame)
    → with_rights (step s session f) rights group ≡ step t (with_rights session rights group) f
step-as s t session rights group f =
    let new : Session = with_rights session rights group in
    let a : IsAlike (command_served s session f) (command_served t (with_rights session rights group) f)
    = alike-command s t session rights group f in
    ap (λ r. let x : Session = record new { registered = r; closed = (command_served s session f).reaction.close } in x) a.registered
    ∙ ap (λ c. let x : Session = record new { registered = (command_served t new f).reaction.registered; closed = c } in x) a.close

step-same : (s t : Shared) (session : Session) (f : Frame) → step s session f ≡ step t session f
step-same s t session f = step-as s t session session.rights session.group f

abbrev pub steps : Shared → Session → List Frame → Session
steps shared session [] = session
steps shared session (f ∷ fs) = steps shared (step shared session f) fs

pub steps-append : (shared : Shared) (session : Session) (fs gs : List Frame) → steps shared session (fs ++ gs)
    ≡ steps shared (steps shared session fs) gs
steps-append shared session [] gs = refl
steps-append shared session (f ∷ fs) gs = steps-append shared (step shared session f) fs gs

pub steps-as : (shared : Shared) (session : Session) (rights : Rights) (group : Option ℕ) (fs : List Frame)
    → with_rights (steps shared session fs) rights group ≡ steps shared (with_rights session rights group) fs
steps-as shared session rights group [] = refl
steps-as shared session rights group (f ∷ fs) =
    steps-as shared (step shared session f) rights group fs
    ∙ ap (λ x. steps shared x fs) (step-as shared shared session rights group f)

-- With a header over the limit held, it is closed.
abbrev pub closing : Session → Parsed → Session
closing session Incomplete = session
closing session (WholeFrame f) = session
closing session (TooLongHeader h) = record session { closed = true }

pub closing-as : (session : Session) (rights : Rights) (group : Option ℕ) (x : Parsed)
    → with_rights (closing session x) rights group ≡ closing (with_rights session rights group) x
closing-as session rights group Incomplete = refl
closing-as session rights group (WholeFrame f) = refl
closing-as session rights group (TooLongHeader h) = refl

-- The session after a piece of its own, while it is open.
abbrev pub served_turn : State → ℕ → (Session → Served) → Session → TurnResult
served_turn s peer serve session =
    turned (record s {
      shared = shared_after session (serve session);
      peers = with_first (λ (p : Session). p.handle) peer (session_after session (serve session)) s.peers;
    }) (sent (serve session).reaction.answer) (serve session).reaction.close

pub served-open : (s : State) (peer : ℕ) (serve : Session → Served) (session : Session) → session_of s peer ≡ Some session
    → session.closed ≡ false
    → session_of (serve_found s peer serve (session_of s peer)).state peer
    ≡ Some (session_after session (serve session))
served-open s peer serve session e alive =
    ap (λ o. session_of (serve_found s peer serve o).state peer) e ∙ go session.closed alive
  where
    set : first_with (λ (p : Session). p.handle) peer
        (with_first (λ (p : Session). p.handle) peer (session_after session (serve session)) s.peers)
        ≡ Some (session_after session (serve session))
    set =
        first_with-set (λ (p : Session). p.handle) peer session (session_after session (serve session)) s.peers e
        (first_with-number (λ (p : Session). p.handle) peer session s.peers e)

    go : (b : Bool) → b ≡ false
        → session_of (cond b (turned s (NoReply NotServed) true) (served_turn s peer serve session)).state peer
        ≡ Some (session_after session (serve session))
    go true bad = cc
    go false same = set

own-open : (base : Shared) (a : AdapterState) (now peer n : ℕ) (bytes : List ℕ) (session : Session) (old : Held)
    (x : Parsed)
    → session_of a.state peer ≡ Some session → session.closed ≡ false → first_with (λ (h : Held). h.peer) peer a.held
    ≡ Some old → parsed bytes ≡ x
    → session_of (after (at_state a.state now) (events_of_parsed peer x)) peer
    ≡ Some (closing (steps base session (frames_of_peer peer (At now ∷ events_of_parsed peer x)))
    (parsed (bytes_held
    (with_first (λ (h : Held). h.peer) peer (record { peer = peer; bytes = cleared x bytes }) a.held) peer)))
own-open base a now peer n bytes session old x e alive entry seen =
    go x seen ∙ ap (λ s. Some
    (closing (steps base session (frames_of_peer peer (At now ∷ events_of_parsed peer x)))
    (parsed (bytes_found s))))
    (sym (first_with-set (λ (h : Held). h.peer) peer old _ a.held entry refl))
  where
    go : (y : Parsed) → parsed bytes ≡ y
        → session_of (after (at_state a.state now) (events_of_parsed peer y)) peer
        ≡ Some (closing (steps base session (frames_of_peer peer (At now ∷ events_of_parsed peer y)))
        (parsed (cleared y bytes)))
    go Incomplete k = e ∙ ap (λ z. Some (closing session z)) (sym k)
    go (WholeFrame f) k =
        served-open (at_state a.state now) peer (λ p. command_served (at_state a.state now).shared p f) session e alive
        ∙ (ap (λ p. Some p) (step-same (at_state a.state now).shared base session f)
        ∙ ap (λ b. Some (steps base session (cond b (f ∷ []) []))) (sym (eq-eqb peer peer refl)))
    go (TooLongHeader h) k =
        served-open (at_state a.state now) peer
        (λ p. leaving (at_state a.state now).shared (long_refused p h)) session e alive
        ∙ ap (λ z. Some (closing session z)) (sym k)

-- After calls, a session is as its frames and the held bytes determine.
abbrev pub Says : Shared → ℕ → Session → List Frame → AdapterState → Type 0
Says base peer session frames a = session_of a.state peer
    ≡ Some (closing (steps base session frames) (parsed (bytes_held a.held peer)))

says-own : (base : Shared) (a : AdapterState) (now peer : ℕ) (piece : List ℕ) (session : Session) → IsSound a
    → Says base peer session [] a
    → Says base peer session (frames_of_peer peer (call_meaning a (Feeds now peer piece)).events)
    (after_call a (Feeds now peer piece))
says-own base a now peer piece session sound says = go (closing session (parsed (bytes_held a.held peer))) says refl
  where
    dropped : (found : Session) → session_of a.state peer ≡ Some found → found.closed ≡ true
        → call_meaning a (Feeds now peer piece) ≡ at_a_moment now (dropped_piece a.held)
    dropped found e shut =
        ap (λ o. at_a_moment now (piece_to a.held peer piece o)) e
        ∙ ap (λ b. at_a_moment now
        (cond b (dropped_piece a.held) (piece_meaning a.held peer (bytes_held a.held peer) piece))) shut

    by_close : (found : Session) → session_of a.state peer ≡ Some found
        → closing session (parsed (bytes_held a.held peer)) ≡ found
        → (b : Bool) → found.closed ≡ b
        → Says base peer session (frames_of_peer peer (call_meaning a (Feeds now peer piece)).events)
        (after_call a (Feeds now peer piece))
    by_close found e is true shut =
        subst (λ (m : Meaning). Says base peer session (frames_of_peer peer m.events) (after_meaning a.state m))
        (sym (dropped found e shut)) says
    by_close found e is false alive =
        let none : parsed (bytes_held a.held peer)
        ≡ Incomplete = parsed-running (bytes_held a.held peer) (sound.ready peer found e alive) in
        let same : session ≡ found = ap (closing session) (sym none) ∙ is in
        let entry : (old : Held)
        × (first_with (λ (h : Held). h.peer) peer a.held ≡ Some old) = entry-of a peer found sound e in
        subst (λ (m : Meaning). Says base peer session (frames_of_peer peer m.events) (after_meaning a.state m))
        (sym (feed-open a now peer piece (record { session = found; found = e; alive = alive })))
        (own-open base a now peer 0 (held_and_taken (bytes_held a.held peer) piece) session entry.0
        (parsed (held_and_taken (bytes_held a.held peer) piece))
        (e ∙ ap (λ p. Some p) (sym same)) (ap (λ (p : Session). p.closed) same ∙ alive) entry.1 refl)

    go : (found : Session) → session_of a.state peer ≡ Some found
        → closing session (parsed (bytes_held a.held peer)) ≡ found
        → Says base peer session (frames_of_peer peer (call_meaning a (Feeds now peer piece)).events)
        (after_call a (Feeds now peer piece))
    go found e is = by_close found e is found.closed refl

says-other : (base : Shared) (peer : ℕ) (session : Session) (a : AdapterState) (c : Call) → IsForOther peer c
    → Says base peer session [] a → frames_of_peer peer (call_meaning a c).events ≡ []
    → Says base peer session (frames_of_peer peer (call_meaning a c).events) (after_call a c)
says-other base peer session a c other says none =
    session-call peer _ a c other says
    ∙ (ap (λ b. Some (closing session (parsed b))) (sym (held-call peer a c other))
    ∙ ap (λ fs. Some (closing (steps base session fs) (parsed (bytes_held (after_call a c).held peer)))) (sym none))

none-other : (peer other now : ℕ) (piece : List ℕ) (held : List Held) (o : Option Session) → eqb other peer ≡ false
    → frames_of_peer peer (at_a_moment now (piece_to held other piece o)).events ≡ []
none-other peer other now piece held None differ = refl
none-other peer other now piece held (Some session) differ =
    both (λ (m : Meaning). frames_of_peer peer (at_a_moment now m).events ≡ []) session.closed _ _ refl
    (no-frames peer other now (parsed (held_and_taken (bytes_held held other) piece)) differ)

pub says-call : (base : Shared) (peer : ℕ) (session : Session) (a : AdapterState) (c : Call) → IsSound a → GoesOn peer c
    → Says base peer session [] a
    → Says base peer session (frames_of_peer peer (call_meaning a c).events) (after_call a c)
says-call base peer session a (Begins_peer rights group) sound goes says =
    says-other base peer session a (Begins_peer rights group) tt says refl
says-call base peer session a (Feeds now other piece) sound goes says = go (eqb other peer) refl
  where
    go : (b : Bool) → eqb other peer ≡ b
        → Says base peer session (frames_of_peer peer (call_meaning a (Feeds now other piece)).events)
        (after_call a (Feeds now other piece))
    go true t =
        subst (λ q. Says base peer session (frames_of_peer peer (call_meaning a (Feeds now q piece)).events)
        (after_call a (Feeds now q piece)))
        (sym (eqb-true other peer t)) (says-own base a now peer piece session sound says)
    go false t =
        says-other base peer session a (Feeds now other piece) (eqb-false other peer t) says
        (none-other peer other now piece a.held (session_of a.state other) t)
says-call base peer session a (Ends_peer other) sound goes says = says-other base peer session a
    (Ends_peer other) goes says refl
says-call base peer session a (Ticks now) sound goes says = says-other base peer session a (Ticks now) tt says refl
says-call base peer session a (Writes write) sound goes says =
    says-other base peer session a (Writes write) tt says refl

says-calls : (base : Shared) (peer : ℕ) (session : Session) (a : AdapterState) (calls : List Call) → IsSound a
    → AllByRecursion (GoesOn peer) calls
    → Says base peer session [] a
    → Says base peer session (frames_of_peer peer (events_of_calls a calls)) (after_calls a calls)
says-calls base peer session a [] sound goes says = says
says-calls base peer session a (c ∷ cs) sound goes says =
    let fs : List Frame = frames_of_peer peer (call_meaning a c).events in
    says-calls base peer (steps base session (frames_of_peer peer (call_meaning a c).events)) (after_call a c) cs
    (sound-call a c sound) goes.1
    (says-call base peer session a c sound goes.0 says)
    ∙ ap (λ s. Some (closing s (parsed (bytes_held (after_calls (after_call a c) cs).held peer))))
    (sym (steps-append base session (frames_of_peer peer (call_meaning a c).events)
    (frames_of_peer peer (events_of_calls (after_call a c) cs)))
    ∙ ap (steps base session)
    (sym (frames-append peer (call_meaning a c).events (events_of_calls (after_call a c) cs))))

-- A peer that begins.
begins-next : (s : State) (rights : Rights) (group : Option ℕ) (peer : ℕ)
    → (begun s rights group).answer.output ≡ Begins peer → s.next_handle ≡ peer
begins-next s rights group peer =
    let P : TurnResult → Type 0 = λ t. t.answer.output ≡ Begins peer → s.next_handle ≡ peer in
    each-begun P s rights group (λ full e. cc) (λ e. let f : Begins s.next_handle ≡ Begins peer = e in cc)

begun-session : (s : State) (rights : Rights) (group : Option ℕ) (peer : ℕ) → session_of s peer ≡ None
    → (begun s rights group).answer.output ≡ Begins peer
    → session_of (begun s rights group).state peer ≡ Some (new_session peer rights group)
begun-session s rights group peer none =
    let P : TurnResult → Type 0 = λ t. t.answer.output ≡ Begins peer
    → session_of t.state peer ≡ Some (new_session peer rights group) in
    each-begun P s rights group (λ full e. cc)
    (λ e.
    let same : s.next_handle ≡ peer = (let f : Begins s.next_handle ≡ Begins peer = e in cc) in
    first_with-behind (λ (p : Session). p.handle) peer s.peers _ none
    ∙ (ap (λ b. cond b (Some (new_session s.next_handle rights group)) None) (eq-eqb s.next_handle peer same)
    ∙ ap (λ n. Some (new_session n rights group)) same))

pub says-beginning : (base : Shared) (a : AdapterState) (rights : Rights) (group : Option ℕ) (peer : ℕ) → IsSound a
    → (begun a.state rights group).answer.output ≡ Begins peer
    → Says base peer (new_session peer rights group) [] (after_call a (Begins_peer rights group))
says-beginning base a rights group peer sound e =
    let none : session_of a.state peer ≡ None
    = subst (λ n. session_of a.state n ≡ None) (begins-next a.state rights group peer e)
    (numbers-none (λ (p : Session). p.handle) a.state.next_handle a.state.peers
    (next-none a.state.next_handle _ sound.drawn)) in
    let held : bytes_held (after_call a (Begins_peer rights group)).held peer ≡ []
    = held-call peer a (Begins_peer rights group) tt ∙ ap bytes_found (no-entry a peer sound.same none) in
    begun-session a.state rights group peer none e
    ∙ ap (λ b. Some (closing (new_session peer rights group) (parsed b))) (sym held)

-- The peer of a run when it begins.
abbrev pub session_at_beginning : (peer : ℕ) → Run peer → Session
session_at_beginning peer run = new_session peer run.rights run.group

pub says-run : (base : Shared) (peer : ℕ) (run : Run peer)
    → Says base peer (session_at_beginning peer run) (frames_in peer run) (at_end peer run)
says-run base peer run =
    let sound : IsSound (after_calls (shared_adapter run.device run.listen run.limits run.shares) run.earlier)
    = sound-calls (shared_adapter run.device run.listen run.limits run.shares) run.earlier
    (sound-shared run.device run.listen run.limits run.shares) in
    says-calls base peer (session_at_beginning peer run) (at_beginning peer run) run.calls
    (sound-call (after_calls (shared_adapter run.device run.listen run.limits run.shares) run.earlier)
    (Begins_peer run.rights run.group) sound) run.goes_on
    (says-beginning base (after_calls (shared_adapter run.device run.listen run.limits run.shares) run.earlier)
    run.rights run.group peer sound run.begins)

-- What the peers of two runs have become after the same frames, with the same bytes held, apart from their rights and
-- groups.
pub same-as : (base : Shared) (peer : ℕ) (r s : Run peer) (fs : List Frame) (x : Parsed)
    → progress_of (closing (steps base (session_at_beginning peer r) fs) x)
    ≡ progress_of (closing (steps base (session_at_beginning peer s) fs) x)
same-as base peer r s fs x =
    ap progress_of (closing-as (steps base (session_at_beginning peer r) fs) s.rights s.group x)
    ∙ ap (λ y. progress_of (closing y x)) (steps-as base (session_at_beginning peer r) s.rights s.group fs)

pub same-session : (peer : ℕ) (r s : Run peer) → taken_in peer r ≡ taken_in peer s
    → option_map progress_of (session_of (at_end peer r).state peer)
    ≡ option_map progress_of (session_of (at_end peer s).state peer)
same-session peer r s same =
    let both_same : (frames_in peer r ≡ frames_in peer s)
    × (bytes_held (at_end peer r).held peer ≡ bytes_held (at_end peer s).held peer)
    = same-runs peer peer r s same in
    ap (option_map progress_of) (says-run (at_beginning peer r).state.shared peer r)
    ∙ (ap (λ fs. Some (progress_of (closing (steps (at_beginning peer r).state.shared (session_at_beginning peer r) fs)
    (parsed (bytes_held (at_end peer r).held peer))))) both_same.0
    ∙ (ap (λ b. Some (progress_of
    (closing (steps (at_beginning peer r).state.shared (session_at_beginning peer r) (frames_in peer s)) (parsed b))))
    both_same.1
    ∙ (ap Some (same-as (at_beginning peer r).state.shared peer r s (frames_in peer s)
    (parsed (bytes_held (at_end peer s).held peer)))
    ∙ ap (option_map progress_of) (sym (says-run (at_beginning peer r).state.shared peer s)))))
