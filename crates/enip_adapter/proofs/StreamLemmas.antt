-- What is taken of a peer's stream are its frames, followed by the bytes held.
use Rattle.std.proofs.Common.{◌≡◌, ℕ, List, [], ◌∷◌, ◌++◌, Bool, true, false, cond, eqb}
use Rattle.std.proofs.Common.{take, Option, Some, None, refl, sym, ap, subst, ◌∙◌}
use Rattle.std.proofs.Common.{append-nil, lit<}
use Rattle.std.specs.List.{flat_map, AllByRecursion}
use Rattle.std.proofs.lemmas.Bool.{eqb-true, eqb-false, eq-eqb}
use Rattle.cip_bytes.specs.Numbers.{AreBytes}
use Rattle.cip_bytes.proofs.Bytes.{AreBytes-take, AreBytes-append}
use Rattle.cip_ledger.specs.Device.{Device}
use Rattle.enip_wire.specs.Frames.{frame, IsFrame}
use Rattle.enip_wire.specs.Stream.{Cut, Parsed, bytes_taken, held_and_taken, parsed, cleared}
use Rattle.enip_wire.specs.Stream.Parsed.{Incomplete, WholeFrame, TooLongHeader}
use Rattle.enip_wire.proofs.StreamLemmas.{one_cut_lem}
use Rattle.enip_wire.proofs.ParsedLemmas.{HasNone, then-cut, none-running, none-long, seen-frame, seen-long}
use Rattle.enip_adapter.specs.declared.adapter.Limits.{Limits}
use Rattle.enip_adapter.specs.declared.adapter.Shares.{Shares}
use Rattle.enip_adapter.specs.declared.peer.Rights.{Rights}
use Rattle.enip_adapter.specs.declared.peer.Session.{Session}
use Rattle.enip_adapter.specs.declared.shared.Listen.{Listen}
use Rattle.enip_adapter.specs.Adapter.{shared_adapter}
use Rattle.enip_adapter.specs.Lookup.{first_with, with_first}
use Rattle.enip_adapter.specs.Turn.{State, Event, TurnResult, begun, session_of}
use Rattle.enip_adapter.specs.Turn.Event.{Begin, End, At, Framed, Long, Written}
use Rattle.enip_adapter.specs.Turn.Output.{Begins}
use Rattle.enip_adapter.specs.Calls.{AdapterState, Held, Call, Meaning, call_meaning, after_call, call_answer}
use Rattle.enip_adapter.specs.Calls.{bytes_found, bytes_held, held_at_beginning, piece_to, piece_meaning}
use Rattle.enip_adapter.specs.Calls.{dropped_piece, at_a_moment, events_of_parsed}
use Rattle.enip_adapter.specs.Calls.Call.{Begins_peer, Feeds, Ends_peer, Ticks, Writes}
use Rattle.enip_adapter.specs.Runs.{after_calls, events_of_calls, taken_by_call, taken_by_calls, frames_of_peer}
use Rattle.enip_adapter.specs.Runs.{GoesOn, Run, at_end, taken_in, frames_in}
use Rattle.enip_adapter.proofs.ListLemmas.{both, first_with-changed, first_with-removed, first_with-append}
use Rattle.enip_adapter.proofs.ListLemmas.{first_with-behind, first_with-set, next-none, numbers-none}
use Rattle.enip_wire.proofs.RunningLemmas.{IsRunning, running-empty, running-taken}
use Rattle.enip_adapter.proofs.SoundLemmas.{IsSound, sound-call, sound-calls, sound-shared, no-entry}
use Rattle.enip_adapter.proofs.BeginLemmas.{each-begun}

AreBytes-none : AreBytes []
AreBytes-none i = lit< tt

-- These bytes are held of a peer, and begin with no whole frame.
pub record IsAt (peer : ℕ) (bytes : List ℕ) (held : List Held) : Type 0 where
  pub found : first_with (λ (h : Held). h.peer) peer held ≡ Some (record { peer = peer; bytes = bytes })
  pub fits : AreBytes bytes
  pub none : HasNone bytes

-- What a call takes of the stream are frames, followed by what is held after it.
pub record Advances (peer : ℕ) (bytes taken : List ℕ) (m : Meaning) : Type 0 where
  pub left : List ℕ
  pub at : IsAt peer left m.held
  pub parts : bytes ++ taken ≡ flat_map frame (frames_of_peer peer m.events) ++ left
  pub each : AllByRecursion IsFrame (frames_of_peer peer m.events)

stays : (peer : ℕ) (bytes : List ℕ) (m : Meaning) → IsAt peer bytes m.held → frames_of_peer peer m.events ≡ []
    → Advances peer bytes [] m
stays peer bytes m at none = record {
  left = bytes;
  at = at;
  parts = append-nil bytes ∙ ap (λ fs. flat_map frame fs ++ bytes) (sym none);
  each = subst (AllByRecursion IsFrame) (sym none) tt;
}

-- A piece of its own, while it is open.
advances-parsed_frame : (peer now : ℕ) (bytes piece : List ℕ) (held : List Held) (x : Parsed)
    → parsed (held_and_taken bytes piece) ≡ x
    → IsAt peer bytes held → AreBytes piece → IsRunning bytes
    → Advances peer bytes (take (bytes_taken bytes piece) piece) (at_a_moment now (record {
      events = events_of_parsed peer x;
      taken = bytes_taken bytes piece;
      held = with_first (λ (h : Held). h.peer) peer
          (record { peer = peer; bytes = cleared x (held_and_taken bytes piece) }) held;
      dropped = false;
    }))
advances-parsed_frame peer now bytes piece held Incomplete seen at fits running = record {
  left = held_and_taken bytes piece;
  at = record {
    found = first_with-set (λ (h : Held). h.peer) peer _ _ held at.found refl;
    fits = AreBytes-append bytes (take (bytes_taken bytes piece) piece) at.fits
        (AreBytes-take (bytes_taken bytes piece) piece fits);
    none = none-running (held_and_taken bytes piece) (running-taken bytes piece running seen);
  };
  parts = refl;
  each = tt;
}
advances-parsed_frame peer now bytes piece held (WholeFrame f) seen at fits running =
    let whole : AreBytes (held_and_taken bytes piece)
    = AreBytes-append bytes (take (bytes_taken bytes piece) piece) at.fits
    (AreBytes-take (bytes_taken bytes piece) piece fits) in
    let is : IsFrame f × (held_and_taken bytes piece ≡ frame f) = seen-frame (held_and_taken bytes piece) f whole seen in
    let own : cond (eqb peer peer) (f ∷ []) [] ≡ f ∷ [] = ap (λ b. cond b (f ∷ []) []) (eq-eqb peer peer refl) in
    record {
      left = [];
      at = record {
        found = first_with-set (λ (h : Held). h.peer) peer _ _ held at.found refl;
        fits = AreBytes-none;
        none = none-running [] running-empty;
      };
      parts = is.1 ∙ (sym (append-nil (frame f))
          ∙ (sym (append-nil (frame f ++ [])) ∙ ap (λ fs. flat_map frame fs ++ []) (sym own)));
      each = subst (AllByRecursion IsFrame) (sym own) (is.0, tt);
    }
advances-parsed_frame peer now bytes piece held (TooLongHeader h) seen at fits running = record {
  left = held_and_taken bytes piece;
  at = record {
    found = first_with-set (λ (h : Held). h.peer) peer _ _ held at.found refl;
    fits = AreBytes-append bytes (take (bytes_taken bytes piece) piece) at.fits
        (AreBytes-take (bytes_taken bytes piece) piece fits);
    none = none-long (held_and_taken bytes piece) (seen-long (held_and_taken bytes piece) h seen);
  };
  parts = refl;
  each = tt;
}

advances-own : (peer now : ℕ) (bytes piece : List ℕ) (held : List Held) (o : Option Session) → IsAt peer bytes held
    → AreBytes piece
    → ((session : Session) → o ≡ Some session → session.closed ≡ false → IsRunning (bytes_held held peer))
    → Advances peer bytes (take (piece_to held peer piece o).taken piece) (at_a_moment now (piece_to held peer piece o))
advances-own peer now bytes piece held None at fits ready = stays peer bytes
    (at_a_moment now (dropped_piece held)) at refl
advances-own peer now bytes piece held (Some session) at fits ready = go session.closed refl
  where
    go : (b : Bool) → session.closed ≡ b
        → Advances peer bytes
        (take (cond b (dropped_piece held) (piece_meaning held peer (bytes_held held peer) piece)).taken piece)
        (at_a_moment now (cond b (dropped_piece held) (piece_meaning held peer (bytes_held held peer) piece)))
    go true shut = stays peer bytes (at_a_moment now (dropped_piece held)) at refl
    go false alive =
        let same : bytes_held held peer ≡ bytes = ap bytes_found at.found in
        subst (λ h. Advances peer bytes (take (bytes_taken h piece) piece)
        (at_a_moment now (piece_meaning held peer h piece))) (sym same)
        (advances-parsed_frame peer now bytes piece held (parsed (held_and_taken bytes piece)) refl at fits
        (subst IsRunning same (ready session refl alive)))

-- A piece for another peer.
pub no-frames : (peer other now : ℕ) (x : Parsed) → eqb other peer ≡ false
    → frames_of_peer peer (At now ∷ events_of_parsed other x) ≡ []
no-frames peer other now Incomplete e = refl
no-frames peer other now (WholeFrame f) e = ap (λ b. cond b (f ∷ []) []) e
no-frames peer other now (TooLongHeader h) e = refl

advances-other : (peer other now : ℕ) (bytes piece : List ℕ) (held : List Held) (o : Option Session)
    → IsAt peer bytes held → eqb other peer ≡ false
    → Advances peer bytes [] (at_a_moment now (piece_to held other piece o))
advances-other peer other now bytes piece held None at differ = stays peer bytes
    (at_a_moment now (dropped_piece held)) at refl
advances-other peer other now bytes piece held (Some session) at differ =
    both (λ (m : Meaning). Advances peer bytes [] (at_a_moment now m)) session.closed _ _
    (stays peer bytes (at_a_moment now (dropped_piece held)) at refl)
    (stays peer bytes (at_a_moment now (piece_meaning held other (bytes_held held other) piece))
    (record {
      found = first_with-changed (λ (h : Held). h.peer) peer other _ held refl (eqb-false other peer differ) ∙ at.found;
      fits = at.fits;
      none = at.none;
    })
    (no-frames peer other now (parsed (held_and_taken (bytes_held held other) piece)) differ))

at-begun : (s : State) (rights : Rights) (group : Option ℕ) (peer : ℕ) (bytes : List ℕ) (held : List Held)
    → IsAt peer bytes held → IsAt peer bytes (held_at_beginning held (begun s rights group).answer.output)
at-begun s rights group peer bytes held at =
    each-begun (λ t. IsAt peer bytes (held_at_beginning held t.answer.output)) s rights group (λ full. at)
    (record { found = first_with-append (λ (h : Held). h.peer) peer _ held _ at.found; fits = at.fits; none = at.none })

pub advances-call : (peer : ℕ) (bytes : List ℕ) (a : AdapterState) (c : Call) → IsSound a → IsAt peer bytes a.held
    → GoesOn peer c
    → Advances peer bytes (taken_by_call peer a c) (call_meaning a c)
advances-call peer bytes a (Begins_peer rights group) sound at goes =
    stays peer bytes (call_meaning a (Begins_peer rights group)) (at-begun a.state rights group peer bytes a.held at) refl
advances-call peer bytes a (Feeds now other piece) sound at goes = go (eqb other peer) refl
  where
    go : (b : Bool) → eqb other peer ≡ b
        → Advances peer bytes (cond b (take (call_meaning a (Feeds now other piece)).taken piece) [])
        (call_meaning a (Feeds now other piece))
    go true t =
        let same : peer ≡ other = sym (eqb-true other peer t) in
        subst (λ q. Advances peer bytes (take (call_meaning a (Feeds now q piece)).taken piece)
        (call_meaning a (Feeds now q piece))) same
        (advances-own peer now bytes piece a.held (session_of a.state peer) at goes
        (λ session. sound.ready peer session))
    go false t = advances-other peer other now bytes piece a.held (session_of a.state other) at t
advances-call peer bytes a (Ends_peer other) sound at goes =
    stays peer bytes (call_meaning a (Ends_peer other))
    (record { found = first_with-removed (λ (h : Held). h.peer) peer other a.held goes ∙ at.found; fits = at.fits; none = at.none }) refl
advances-call peer bytes a (Ticks now) sound at goes = stays peer bytes (call_meaning a (Ticks now)) at refl
advances-call peer bytes a (Writes write) sound at goes = stays peer bytes (call_meaning a (Writes write)) at refl

-- The frames of events, in two parts.
pub frames-append : (peer : ℕ) (es fs : List Event) → frames_of_peer peer (es ++ fs)
    ≡ frames_of_peer peer es ++ frames_of_peer peer fs
frames-append peer [] fs = refl
frames-append peer (Begin rights group ∷ es) fs = frames-append peer es fs
frames-append peer (End other ∷ es) fs = frames-append peer es fs
frames-append peer (At now ∷ es) fs = frames-append peer es fs
frames-append peer (Framed other f ∷ es) fs = go (eqb other peer) (frames-append peer es fs)
  where
    go : (b : Bool) → frames_of_peer peer (es ++ fs) ≡ frames_of_peer peer es ++ frames_of_peer peer fs
        → cond b (f ∷ frames_of_peer peer (es ++ fs)) (frames_of_peer peer (es ++ fs))
        ≡ cond b (f ∷ frames_of_peer peer es) (frames_of_peer peer es) ++ frames_of_peer peer fs
    go true e = ap (λ gs. f ∷ gs) e
    go false e = e
frames-append peer (Long other h ∷ es) fs = frames-append peer es fs
frames-append peer (Written write ∷ es) fs = frames-append peer es fs

cut-calls : (peer : ℕ) (bytes : List ℕ) (a : AdapterState) (calls : List Call) → IsSound a → IsAt peer bytes a.held
    → AllByRecursion (GoesOn peer) calls
    → Cut (bytes ++ taken_by_calls peer a calls) (frames_of_peer peer (events_of_calls a calls))
    (bytes_held (after_calls a calls).held peer)
cut-calls peer bytes a [] sound at goes =
    let same : bytes_held a.held peer ≡ bytes = ap bytes_found at.found in
    subst (λ r. Cut (bytes ++ []) [] r) (sym same) (record { parts = append-nil bytes; each = tt; no_more = at.none })
cut-calls peer bytes a (c ∷ cs) sound at goes =
    let step : Advances peer bytes (taken_by_call peer a c)
    (call_meaning a c) = advances-call peer bytes a c sound at goes.0 in
    subst (λ fs. Cut (bytes ++ (taken_by_call peer a c ++ taken_by_calls peer (after_call a c) cs)) fs
    (bytes_held (after_calls (after_call a c) cs).held peer))
    (sym (frames-append peer (call_meaning a c).events (events_of_calls (after_call a c) cs)))
    (then-cut bytes (taken_by_call peer a c)
    (taken_by_calls peer (after_call a c) cs) step.left _ _ _ step.parts step.each
    (cut-calls peer step.left (after_call a c) cs (sound-call a c sound) step.at goes.1))

-- A peer that begins holds nothing.
pub at-beginning : (s : State) (rights : Rights) (group : Option ℕ) (held : List Held) (peer : ℕ)
    → first_with (λ (h : Held). h.peer) s.next_handle held ≡ None → (begun s rights group).answer.output ≡ Begins peer
    → IsAt peer [] (held_at_beginning held (begun s rights group).answer.output)
at-beginning s rights group held peer none =
    let P : TurnResult → Type 0 = λ t. t.answer.output ≡ Begins peer → IsAt peer [] (held_at_beginning held t.answer.output) in
    each-begun P s rights group (λ full e. cc)
    (λ e.
    let same : s.next_handle ≡ peer = (let f : Begins s.next_handle ≡ Begins peer = e in cc) in
    record {
      found = first_with-behind (λ (h : Held). h.peer) peer held _
          (subst (λ n. first_with (λ (h : Held). h.peer) n held ≡ None) same none)
          ∙ (ap (λ b. cond b (Some (record { peer = s.next_handle; bytes = [] })) None)
          (eq-eqb s.next_handle peer same)
          ∙ ap (λ n. Some (let h : Held = record { peer = n; bytes = [] } in h)) same);
      fits = AreBytes-none;
      none = none-running [] running-empty;
    })

pub cut-from-beginning : (device : Device) (listen : Listen) (limits : Limits) (shares : Shares) (rights : Rights)
    (group : Option ℕ) (earlier calls : List Call) (peer : ℕ)
    → (call_answer (after_calls (shared_adapter device listen limits shares) earlier) (Begins_peer rights group)).output ≡ Begins peer
    → AllByRecursion (GoesOn peer) calls
    → Cut (taken_by_calls peer (after_call (after_calls (shared_adapter device listen limits shares) earlier) (Begins_peer rights group)) calls)
    (frames_of_peer peer (events_of_calls
    (after_call (after_calls (shared_adapter device listen limits shares) earlier) (Begins_peer rights group)) calls))
    (bytes_held (after_calls
    (after_call (after_calls (shared_adapter device listen limits shares) earlier) (Begins_peer rights group)) calls).held peer)
cut-from-beginning device listen limits shares rights group earlier calls peer begins goes =
    from (after_calls (shared_adapter device listen limits shares) earlier)
    (sound-calls (shared_adapter device listen limits shares) earlier (sound-shared device listen limits shares)) begins
  where
    from : (a : AdapterState) → IsSound a → (begun a.state rights group).answer.output ≡ Begins peer
        → Cut (taken_by_calls peer (after_call a (Begins_peer rights group)) calls)
        (frames_of_peer peer (events_of_calls (after_call a (Begins_peer rights group)) calls))
        (bytes_held (after_calls (after_call a (Begins_peer rights group)) calls).held peer)
    from a sound e =
        let none : first_with (λ (h : Held). h.peer) a.state.next_handle a.held ≡ None
        = no-entry a a.state.next_handle sound.same
        (numbers-none (λ (p : Session). p.handle) a.state.next_handle a.state.peers
        (next-none a.state.next_handle _ sound.drawn)) in
        cut-calls peer [] (after_call a (Begins_peer rights group)) calls (sound-call a (Begins_peer rights group) sound)
        (at-beginning a.state rights group a.held peer none e) goes

pub cut-of-run : (peer : ℕ) (run : Run peer)
    → Cut (taken_in peer run) (frames_in peer run) (bytes_held (at_end peer run).held peer)
cut-of-run peer run =
    cut-from-beginning run.device run.listen run.limits run.shares run.rights run.group run.earlier run.calls peer
    run.begins run.goes_on

pub same-runs : (p q : ℕ) (r : Run p) (s : Run q) → taken_in p r ≡ taken_in q s
    → (frames_in p r ≡ frames_in q s) × (bytes_held (at_end p r).held p ≡ bytes_held (at_end q s).held q)
same-runs p q r s same =
    one_cut_lem (taken_in p r) (frames_in p r) (frames_in q s) (bytes_held (at_end p r).held p)
    (bytes_held (at_end q s).held q)
    (cut-of-run p r) (subst (λ t. Cut t (frames_in q s) (bytes_held (at_end q s).held q)) (sym same) (cut-of-run q s))
