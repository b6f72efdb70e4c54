-- The state of a session after calls: open, closed, or ended with its peer.
use Rattle.std.proofs.Common.{◌≡◌, ℕ, ◌<◌, max, List, [], ◌∷◌, Bool, true, false, cond, not, ◌&&◌, ◌||◌}
use Rattle.std.proofs.Common.{eqb, leb, Option, Some, None, refl, sym, ap, subst, ◌∙◌, arith}
use Rattle.std.specs.List.{list_any, AllByRecursion}
use Rattle.std.proofs.lemmas.Bool.{eqb-true, eqb-false, ne_eqb, eq-eqb, leb-true, le-leb}
use Rattle.enip_wire.specs.Frames.{Frame}
use Rattle.enip_wire.specs.Stream.{Parsed, held_and_taken, parsed}
use Rattle.enip_wire.specs.Stream.Parsed.{Incomplete, WholeFrame, TooLongHeader}
use Rattle.enip_adapter.specs.declared.endings.EndReason.{EndReason}
use Rattle.enip_adapter.specs.declared.endings.EndReason.TheVariants.{PeerEnded, SessionEnded, Closed}
use Rattle.enip_adapter.specs.declared.peer.Rights.{Rights}
use Rattle.enip_adapter.specs.declared.peer.Session.{Session}
use Rattle.enip_adapter.specs.declared.shared.Shared.{Shared}
use Rattle.enip_adapter.specs.Commands.{command_served, long_refused}
use Rattle.enip_adapter.specs.Replies.{Served, leaving}
use Rattle.enip_adapter.specs.Turn.{State, TurnResult, begun, new_session, after, session_of, serve_found, end_found}
use Rattle.enip_adapter.specs.Calls.{AdapterState, Held, Call, Meaning, call_meaning, after_call, call_answer}
use Rattle.enip_adapter.specs.Calls.{bytes_held, piece_to, piece_meaning, dropped_piece, at_a_moment, events_of_parsed}
use Rattle.enip_adapter.specs.Calls.Call.{Begins_peer, Feeds, Ends_peer, Ticks, Writes}
use Rattle.enip_adapter.specs.EndCauses.{is_end_of, is_close_of, is_closed_in}
use Rattle.enip_adapter.specs.Endings.{reason_of_session}
use Rattle.enip_adapter.specs.Runs.{after_calls, moments_of_calls, IsForOther}
use Rattle.enip_adapter.specs.Serving.{is_open}
use Rattle.enip_adapter.proofs.CloseLemmas.{closed-told}
use Rattle.enip_adapter.proofs.CommandLemmas.{after_command}
use Rattle.enip_adapter.proofs.CutLemmas.{feed-open}
use Rattle.enip_adapter.specs.Lookup.{first_with}
use Rattle.enip_adapter.proofs.ListLemmas.{both, first_with-behind, none-numbers, numbers-none, none-without, gone}
use Rattle.enip_adapter.proofs.ListLemmas.{numbers, numbers-without_first}
use Rattle.enip_adapter.proofs.NumberLemmas.{next-ended}
use Rattle.enip_adapter.proofs.OwnLemmas.{served-open}
use Rattle.enip_adapter.proofs.PeerLemmas.{at_state, session-call}
use Rattle.enip_adapter.proofs.SoundLemmas.{IsSound, IsFed, fed-piece, handles, handles-ended, sound-call}
use Rattle.enip_adapter.proofs.BeginLemmas.{each-begun}

-- ---- the current time

moment-served : (s : State) (peer : ℕ) (serve : Session → Served) (o : Option Session)
    → ((session : Session) → (serve session).shared.moment ≡ s.shared.moment)
    → (serve_found s peer serve o).state.shared.moment ≡ s.shared.moment
moment-served s peer serve None same = refl
moment-served s peer serve (Some session) same =
    both (λ (t : TurnResult). t.state.shared.moment ≡ s.shared.moment) session.closed _ _ refl
    (both (λ (t : Shared). t.moment ≡ s.shared.moment) (serve session).reaction.close _ _ (same session) (same session))

moment-command : (shared : Shared) (session : Session) (f : Frame)
    → (command_served shared session f).shared.moment ≡ shared.moment
moment-command shared session f =
    after_command (λ (t : Shared). t.moment ≡ shared.moment) shared session
    (record {
      same = refl;
      opens = λ layout bytes. refl;
      closes = λ bytes. refl;
      executes = λ request. refl;
      receives = λ id item. refl;
    }) f

moment-parsed : (s : State) (peer : ℕ) (x : Parsed)
    → (after s (events_of_parsed peer x)).shared.moment ≡ s.shared.moment
moment-parsed s peer Incomplete = refl
moment-parsed s peer (WholeFrame f) =
    moment-served s peer (λ session. command_served s.shared session f) (session_of s peer)
    (λ session. moment-command s.shared session f)
moment-parsed s peer (TooLongHeader h) =
    moment-served s peer (λ session. leaving s.shared (long_refused session h)) (session_of s peer) (λ session. refl)

pub moment-piece : (s : State) (peer : ℕ) (piece : List ℕ) (held : List Held) (o : Option Session)
    → (after s (piece_to held peer piece o).events).shared.moment ≡ s.shared.moment
moment-piece s peer piece held None = refl
moment-piece s peer piece held (Some session) =
    both (λ (m : Meaning). (after s m.events).shared.moment ≡ s.shared.moment) session.closed _ _ refl
    (moment-parsed s peer (parsed (held_and_taken (bytes_held held peer) piece)))

moment-begun : (s : State) (rights : Rights) (group : Option ℕ)
    → (begun s rights group).state.shared.moment ≡ s.shared.moment
moment-begun s rights group =
    each-begun (λ (t : TurnResult). t.state.shared.moment ≡ s.shared.moment) s rights group (λ full. refl) refl

moment-ended : (s : State) (peer : ℕ) (o : Option Session) → (end_found s peer o).shared.moment ≡ s.shared.moment
moment-ended s peer None = refl
moment-ended s peer (Some session) = refl

abbrev reaches : ℕ → ℕ → List Call → Bool
reaches deadline moment calls = list_any (leb deadline) (moment ∷ moments_of_calls moment calls)

or-none : (b : Bool) → (b || false) ≡ b
or-none true = refl
or-none false = refl

absorbed : (b c rest : Bool) → (b ≡ true → c ≡ true) → (c || rest) ≡ (b || (c || rest))
absorbed true c rest h = ap (λ d. d || rest) (h refl)
absorbed false c rest h = refl

later : (deadline moment now : ℕ) → leb deadline moment ≡ true → leb deadline (max moment now) ≡ true
later deadline moment now e =
    let le = leb-true deadline moment e in le-leb deadline (max moment now) (omega arith)

-- The current time after calls is at or after a deadline if it was when they began, or became so at one of them.
pub reached : (deadline : ℕ) (a : AdapterState) (calls : List Call)
    → leb deadline (after_calls a calls).state.shared.moment ≡ reaches deadline a.state.shared.moment calls
reached deadline a [] = sym (or-none (leb deadline a.state.shared.moment))
reached deadline a (Begins_peer rights group ∷ cs) =
    reached deadline (after_call a (Begins_peer rights group)) cs ∙ ap (λ m. reaches deadline m cs) (moment-begun a.state rights group)
reached deadline a (Feeds now peer piece ∷ cs) =
    reached deadline (after_call a (Feeds now peer piece)) cs
    ∙ (ap (λ m. reaches deadline m cs)
    (moment-piece (at_state a.state now) peer piece a.held (session_of a.state peer))
    ∙ absorbed (leb deadline a.state.shared.moment) (leb deadline (max a.state.shared.moment now)) _
    (later deadline a.state.shared.moment now))
reached deadline a (Ends_peer peer ∷ cs) =
    reached deadline (after_call a (Ends_peer peer)) cs
    ∙ ap (λ m. reaches deadline m cs) (moment-ended a.state peer (session_of a.state peer))
reached deadline a (Ticks now ∷ cs) =
    reached deadline (after_call a (Ticks now)) cs
    ∙ absorbed (leb deadline a.state.shared.moment) (leb deadline (max a.state.shared.moment now)) _
    (later deadline a.state.shared.moment now)
reached deadline a (Writes write ∷ cs) = reached deadline (after_call a (Writes write)) cs

-- ---- a peer that ended

-- Its handle was assigned, and is not assigned again.
record IsGone (peer : ℕ) (a : AdapterState) : Type 0 where
  none : session_of a.state peer ≡ None
  assigned : peer < a.state.next_handle

begun-gone : (s : State) (rights : Rights) (group : Option ℕ) (peer : ℕ) → session_of s peer ≡ None
    → peer < s.next_handle
    → (session_of (begun s rights group).state peer ≡ None) × (peer < (begun s rights group).state.next_handle)
begun-gone s rights group peer none assigned =
    let P : TurnResult → Type 0 = λ t. (session_of t.state peer ≡ None) × (peer < t.state.next_handle) in
    each-begun P s rights group (λ full. (none, assigned)) (
      first_with-behind (λ (p : Session). p.handle) peer s.peers _ none
          ∙ ap (λ b. cond b (Some (new_session s.next_handle rights group)) None)
          (ne_eqb s.next_handle peer (λ e. omega arith)),
      omega arith,
    )

ended-gone : (s : State) (peer other : ℕ) (o : Option Session) → session_of s peer ≡ None
    → session_of (end_found s other o) peer ≡ None
ended-gone s peer other None none = none
ended-gone s peer other (Some session) none =
    numbers-none (λ (p : Session). p.handle) peer _
    (ap (first_with (λ m. m) peer) (numbers-without_first (λ (p : Session). p.handle) other s.peers)
    ∙ none-without peer other (handles s) (none-numbers (λ (p : Session). p.handle) peer s.peers none))

gone-call : (peer : ℕ) (a : AdapterState) (c : Call) → IsGone peer a → IsGone peer (after_call a c)
gone-call peer a (Begins_peer rights group) is =
    let both_hold = begun-gone a.state rights group peer is.none is.assigned in
    record { none = both_hold.0; assigned = both_hold.1 }
gone-call peer a (Feeds now other piece) is =
    let fed : IsFed (at_state a.state now) a.held (piece_to a.held other piece (session_of a.state other))
    = fed-piece (at_state a.state now) other piece a.held (session_of a.state other) in
    record {
      none = numbers-none (λ (p : Session). p.handle) peer (after_call a (Feeds now other piece)).state.peers
          (ap (first_with (λ m. m) peer) fed.handles_same
          ∙ none-numbers (λ (p : Session). p.handle) peer a.state.peers is.none);
      assigned = subst (λ n. peer < n) (sym fed.next_same) is.assigned;
    }
gone-call peer a (Ends_peer other) is = record {
  none = ended-gone a.state peer other (session_of a.state other) is.none;
  assigned = subst (λ n. peer < n) (sym (next-ended a.state other (session_of a.state other))) is.assigned;
}
gone-call peer a (Ticks now) is = record { none = is.none; assigned = is.assigned }
gone-call peer a (Writes write) is = record { none = is.none; assigned = is.assigned }

gone-calls : (peer : ℕ) (a : AdapterState) (calls : List Call) → IsGone peer a
    → session_of (after_calls a calls).state peer ≡ None
gone-calls peer a [] is = is.none
gone-calls peer a (c ∷ cs) is = gone-calls peer (after_call a c) cs (gone-call peer a c is)

below-found : (next peer : ℕ) (session : Session) (xs : List Session)
    → first_with (λ (p : Session). p.handle) peer xs ≡ Some session
    → AllByRecursion (λ m. m < next) (numbers (λ (p : Session). p.handle) xs) → peer < next
below-found next peer session [] e below = cc
below-found next peer session (x ∷ xs) e below =
    go (eqb x.handle peer) refl (λ f. below-found next peer session xs f below.1) e
  where
    go : (b : Bool) → eqb x.handle peer ≡ b
        → (first_with (λ (p : Session). p.handle) peer xs ≡ Some session → peer < next)
        → cond b (Some x) (first_with (λ (p : Session). p.handle) peer xs) ≡ Some session → peer < next
    go true t rest f = subst (λ n. n < next) (eqb-true x.handle peer t) below.0
    go false t rest f = rest f

gone-end : (peer : ℕ) (session : Session) (a : AdapterState) (c : Call) → IsSound a
    → session_of a.state peer ≡ Some session → is_end_of peer c ≡ true → IsGone peer (after_call a c)
gone-end peer session a (Begins_peer rights group) sound found e = cc
gone-end peer session a (Feeds now other piece) sound found e = cc
gone-end peer session a (Ends_peer other) sound found e =
    subst (λ q. IsGone peer (after_call a (Ends_peer q))) (sym (eqb-true other peer e)) (record {
      none = numbers-none (λ (p : Session). p.handle) peer (after_call a (Ends_peer peer)).state.peers
          (ap (first_with (λ m. m) peer) (handles-ended a.state peer (session_of a.state peer) refl)
          ∙ gone peer (handles a.state) sound.drawn.once);
      assigned = subst (λ n. peer < n) (sym (next-ended a.state peer (session_of a.state peer)))
          (below-found a.state.next_handle peer session a.state.peers found sound.drawn.below);
    })
gone-end peer session a (Ticks now) sound found e = cc
gone-end peer session a (Writes write) sound found e = cc

-- ---- a peer that did not end

record Stays (peer : ℕ) (a : AdapterState) (c : Call) (old : Session) : Type 0 where
  session : Session
  found : session_of (after_call a c).state peer ≡ Some session
  alive : old.closed ≡ false → session.closed ≡ is_close_of peer a c
  shut : old.closed ≡ true → session.closed ≡ true

stays-other : (peer : ℕ) (old : Session) (a : AdapterState) (c : Call) → IsForOther peer c
    → session_of a.state peer ≡ Some old → is_close_of peer a c ≡ false → Stays peer a c old
stays-other peer old a c other found none = record {
  session = old;
  found = session-call peer old a c other found;
  alive = λ e. e ∙ sym none;
  shut = λ e. e;
}

kept-parsed : (s : State) (peer : ℕ) (old : Session) (x : Parsed) → session_of s peer ≡ Some old → old.closed ≡ false
    → (session : Session) × (session_of (after s (events_of_parsed peer x)) peer ≡ Some session)
kept-parsed s peer old Incomplete e alive = (old, e)
kept-parsed s peer old (WholeFrame f) e alive =
    (_, served-open s peer (λ p. command_served s.shared p f) old e alive)
kept-parsed s peer old (TooLongHeader h) e alive =
    (_, served-open s peer (λ p. leaving s.shared (long_refused p h)) old e alive)

kept-own : (a : AdapterState) (now peer : ℕ) (piece : List ℕ) (old : Session) → session_of a.state peer ≡ Some old
    → old.closed ≡ false
    → (session : Session) × (session_of (after_call a (Feeds now peer piece)).state peer ≡ Some session)
kept-own a now peer piece old e alive =
    let kept : (session : Session) × (session_of (after (at_state a.state now)
    (events_of_parsed peer (parsed (held_and_taken (bytes_held a.held peer) piece)))) peer ≡ Some session)
    = kept-parsed (at_state a.state now) peer old (parsed (held_and_taken (bytes_held a.held peer) piece)) e alive in (
      kept.0,
      ap (λ (m : Meaning). session_of (after a.state m.events) peer)
          (feed-open a now peer piece (record { session = old; found = e; alive = alive }))
          ∙ kept.1,
    )

pub dropped-shut : (a : AdapterState) (now peer : ℕ) (piece : List ℕ) (old : Session)
    → session_of a.state peer ≡ Some old → old.closed ≡ true
    → call_meaning a (Feeds now peer piece) ≡ at_a_moment now (dropped_piece a.held)
dropped-shut a now peer piece old e shut =
    ap (λ o. at_a_moment now (piece_to a.held peer piece o)) e
    ∙ ap (λ b. at_a_moment now
    (cond b (dropped_piece a.held) (piece_meaning a.held peer (bytes_held a.held peer) piece))) shut

twice-not : (b : Bool) → not (not b) ≡ b
twice-not true = refl
twice-not false = refl

stays-own : (a : AdapterState) (now peer : ℕ) (piece : List ℕ) (old : Session) → session_of a.state peer ≡ Some old
    → Stays peer a (Feeds now peer piece) old
stays-own a now peer piece old e = go old.closed refl
  where
    own : eqb peer peer ≡ true
    own = eq-eqb peer peer refl

    go : (b : Bool) → old.closed ≡ b → Stays peer a (Feeds now peer piece) old
    go true shut = record {
      session = old;
      found = ap (λ (m : Meaning). session_of (after a.state m.events) peer) (dropped-shut a now peer piece old e shut) ∙ e;
      alive = λ f. cc;
      shut = λ f. f;
    }
    go false alive =
        let kept : (session : Session) × (session_of (after_call a (Feeds now peer piece)).state peer ≡ Some session)
        = kept-own a now peer piece old e alive in
        record {
          session = kept.0;
          found = kept.1;
          alive = λ f. sym (ap (λ b. b && (call_answer a (Feeds now peer piece)).close) own
              ∙ (closed-told a now peer piece
              ∙ (ap (λ o. not (is_open o)) kept.1 ∙ twice-not kept.0.closed)));
          shut = λ f. cc;
        }

other-close : (a : AdapterState) (now other peer : ℕ) (piece : List ℕ) → eqb other peer ≡ false
    → is_close_of peer a (Feeds now other piece) ≡ false
other-close a now other peer piece t = ap (λ b. b && (call_answer a (Feeds now other piece)).close) t

stays-call : (peer : ℕ) (old : Session) (a : AdapterState) (c : Call) → session_of a.state peer ≡ Some old
    → is_end_of peer c ≡ false → Stays peer a c old
stays-call peer old a (Begins_peer rights group) found e = stays-other peer old a (Begins_peer rights group) tt found refl
stays-call peer old a (Feeds now other piece) found e = go (eqb other peer) refl
  where
    go : (b : Bool) → eqb other peer ≡ b → Stays peer a (Feeds now other piece) old
    go true t = subst (λ q. Stays peer a (Feeds now q piece) old) (sym (eqb-true other peer t))
        (stays-own a now peer piece old found)
    go false t = stays-other peer old a (Feeds now other piece) (eqb-false other peer t) found
        (other-close a now other peer piece t)
stays-call peer old a (Ends_peer other) found e =
    stays-other peer old a (Ends_peer other) (eqb-false other peer e) found refl
stays-call peer old a (Ticks now) found e = stays-other peer old a (Ticks now) tt found refl
stays-call peer old a (Writes write) found e = stays-other peer old a (Writes write) tt found refl

-- ---- the session after calls

abbrev reason_after : ℕ → AdapterState → List Call → EndReason
reason_after peer a calls = reason_of_session (session_of (after_calls a calls).state peer)

reason-shut : (peer : ℕ) (session : Session) (a : AdapterState) (calls : List Call) → IsSound a
    → session_of a.state peer ≡ Some session → session.closed ≡ true
    → reason_after peer a calls ≡ cond (list_any (is_end_of peer) calls) PeerEnded SessionEnded
reason-shut peer session a [] sound found shut =
    ap reason_of_session found ∙ ap (λ b. cond b SessionEnded Closed) shut
reason-shut peer session a (c ∷ cs) sound found shut =
    go (is_end_of peer c) refl (λ stays. reason-shut peer stays.session (after_call a c) cs (sound-call a c sound)
    stays.found (stays.shut shut))
  where
    go : (b : Bool) → is_end_of peer c ≡ b
        → ((stays : Stays peer a c session)
        → reason_after peer (after_call a c) cs ≡ cond (list_any (is_end_of peer) cs) PeerEnded SessionEnded)
        → reason_after peer (after_call a c) cs ≡ cond (b || list_any (is_end_of peer) cs) PeerEnded SessionEnded
    go true t rest = ap reason_of_session
        (gone-calls peer (after_call a c) cs (gone-end peer session a c sound found t))
    go false t rest = rest (stays-call peer session a c found t)

pub reason-open : (peer : ℕ) (session : Session) (a : AdapterState) (calls : List Call) → IsSound a
    → session_of a.state peer ≡ Some session → session.closed ≡ false
    → reason_after peer a calls
    ≡ cond (list_any (is_end_of peer) calls) PeerEnded (cond (is_closed_in peer a calls) SessionEnded Closed)
reason-open peer session a [] sound found alive =
    ap reason_of_session found ∙ ap (λ b. cond b SessionEnded Closed) alive
reason-open peer session a (c ∷ cs) sound found alive =
    go (is_end_of peer c) refl (λ stays k. reason-open peer stays.session (after_call a c) cs (sound-call a c sound)
    stays.found (stays.alive alive ∙ k))
  where
    by_close : (stays : Stays peer a c session) → (b : Bool) → is_close_of peer a c ≡ b
        → ((stays : Stays peer a c session) → is_close_of peer a c ≡ false
        → reason_after peer (after_call a c) cs
        ≡ cond (list_any (is_end_of peer) cs) PeerEnded
        (cond (is_closed_in peer (after_call a c) cs) SessionEnded Closed))
        → reason_after peer (after_call a c) cs
        ≡ cond (list_any (is_end_of peer) cs) PeerEnded
        (cond (b || is_closed_in peer (after_call a c) cs) SessionEnded Closed)
    by_close stays true k rest =
        reason-shut peer stays.session (after_call a c) cs (sound-call a c sound) stays.found (stays.alive alive ∙ k)
    by_close stays false k rest = rest stays k

    go : (b : Bool) → is_end_of peer c ≡ b
        → ((stays : Stays peer a c session) → is_close_of peer a c ≡ false
        → reason_after peer (after_call a c) cs
        ≡ cond (list_any (is_end_of peer) cs) PeerEnded
        (cond (is_closed_in peer (after_call a c) cs) SessionEnded Closed))
        → reason_after peer (after_call a c) cs
        ≡ cond (b || list_any (is_end_of peer) cs) PeerEnded
        (cond (is_close_of peer a c || is_closed_in peer (after_call a c) cs) SessionEnded Closed)
    go true t rest = ap reason_of_session
        (gone-calls peer (after_call a c) cs (gone-end peer session a c sound found t))
    go false t rest = by_close (stays-call peer session a c found t) (is_close_of peer a c) refl rest
