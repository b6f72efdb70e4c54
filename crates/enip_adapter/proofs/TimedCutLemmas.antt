-- How a peer's stream is cut into pieces, and when they arrive, does not matter between its frames.
use Rattle.std.proofs.Common.{◌≡◌, ℕ, zero, suc, ◌-◌, ◌≤◌, max, List, [], ◌∷◌, ◌++◌, Bool, true, false, cond}
use Rattle.std.proofs.Common.{◌||◌, ltb, length, drop, Option, Some, None, refl, sym, ap, subst, ◌∙◌, arith}
use Rattle.std.proofs.Common.{append-nil, length-drop}
use Rattle.std.specs.Prelude.{filter}
use Rattle.std.proofs.lemmas.Bool.{false≢true, ltb-true, lt-ltb}
use Rattle.cip_manager.specs.declared.connection.Connection.{Connection}
use Rattle.cip_manager.specs.Connection.{is_open_at}
use Rattle.cip_manager.proofs.ListLemmas.{filter-implied}
use Rattle.cip_ledger.specs.Device.{Device}
use Rattle.enip_wire.specs.Stream.{Parsed, held_and_taken, parsed}
use Rattle.enip_wire.specs.Stream.Parsed.{Incomplete, WholeFrame, TooLongHeader}
use Rattle.enip_adapter.specs.declared.adapter.Limits.{Limits}
use Rattle.enip_adapter.specs.declared.adapter.Shares.{Shares}
use Rattle.enip_adapter.specs.declared.peer.Session.{Session}
use Rattle.enip_adapter.specs.declared.shared.Listen.{Listen}
use Rattle.enip_adapter.specs.declared.no_reply_reason.NoReplyReason.TheVariants.{NotServed}
use Rattle.enip_adapter.specs.Adapter.{shared_adapter}
use Rattle.enip_adapter.specs.Turn.{State, Answer, after, answers, session_of}
use Rattle.enip_adapter.specs.Turn.Output.{NoReply}
use Rattle.enip_adapter.specs.Calls.{AdapterState, Call, Meaning, call_meaning, after_call, after_meaning, call_answer}
use Rattle.enip_adapter.specs.Calls.{answer_of, bytes_held, piece_to, piece_meaning, dropped_piece, at_a_moment}
use Rattle.enip_adapter.specs.Calls.{events_of_parsed, last_from}
use Rattle.enip_adapter.specs.Calls.Call.{Feeds}
use Rattle.enip_adapter.specs.Runs.{after_calls, visible_answers, TimedPiece, joined, is_completing}
use Rattle.enip_adapter.specs.Runs.{completion_moments, FeedsTimedPieces}
use Rattle.enip_adapter.specs.Runs.FeedsTimedPieces.{Ended, Taken, Continued, Closed}
use Rattle.enip_adapter.proofs.CutLemmas.{Front, Same, Waits, front, front-open, feed-open, IsOpen, quiet, waiting}
use Rattle.enip_adapter.proofs.CutLemmas.{HasWaited, has-waited, IsJoined, is-joined, told-cons, told-quiet, at-twice}
use Rattle.enip_adapter.proofs.CutLemmas.{drop-front, drop-whole}
use Rattle.enip_adapter.proofs.PeerLemmas.{at_state}
use Rattle.enip_adapter.proofs.SessionEndLemmas.{moment-piece}
use Rattle.enip_adapter.proofs.SoundLemmas.{IsSound, sound-call, sound-calls, sound-shared, taken-piece}

-- ---- times

-- Two times that make the same current time do the same.
at-same : (s : State) (now then : ℕ) → max s.shared.moment now ≡ max s.shared.moment then
    → at_state s now ≡ at_state s then
at-same s now then e =
    ap (λ m. let t : State = record s {
      shared = record s.shared {
        moment = m;
        manager = record s.shared.manager { connections = filter (is_open_at m) s.shared.manager.connections };
      };
    } in t) e

open-before : (m n : ℕ) → n ≤ m → (c : Connection) → is_open_at m c ≡ true → is_open_at n c ≡ true
open-before m n le c e =
    let later = ltb-true m c.deadline e in lt-ltb n c.deadline (omega arith)

-- A time does nothing that a later one does not do.
at-later : (s : State) (now then : ℕ) → max s.shared.moment now ≤ then → at_state (at_state s now) then ≡ at_state s then
at-later s now then le =
    let once : max (max s.shared.moment now) then ≡ max s.shared.moment then = omega arith in
    ap (λ m. let t : State = record s {
      shared = record s.shared {
        moment = m;
        manager = record s.shared.manager { connections = filter (is_open_at m) (filter (is_open_at (max s.shared.moment now)) s.shared.manager.connections) };
      };
    } in t) once
    ∙ ap (λ cs. let t : State = record s {
      shared = record s.shared {
        moment = max s.shared.moment then;
        manager = record s.shared.manager { connections = cs };
      };
    } in t) (filter-implied (is_open_at (max s.shared.moment then)) (is_open_at (max s.shared.moment now))
    s.shared.manager.connections
    (open-before (max s.shared.moment then) (max s.shared.moment now) (omega arith)))

-- A feed, by the state at its time.
abbrev fed : AdapterState → State → ℕ → List ℕ → AdapterState
fed a s peer piece = record {
  state = after s (piece_to a.held peer piece (session_of a.state peer)).events;
  held = (piece_to a.held peer piece (session_of a.state peer)).held;
}

abbrev answered : AdapterState → State → ℕ → List ℕ → Answer
answered a s peer piece =
    cond (piece_to a.held peer piece (session_of a.state peer)).dropped (record { output = NoReply NotServed; close = true })
    (last_from quiet (answers s (piece_to a.held peer piece (session_of a.state peer)).events))

record IsSameFeed (a b : AdapterState) (now then peer : ℕ) (piece : List ℕ) : Type 0 where
  adapter : after_call a (Feeds now peer piece) ≡ after_call b (Feeds then peer piece)
  answer : call_answer a (Feeds now peer piece) ≡ call_answer b (Feeds then peer piece)

same-time : (a : AdapterState) (now then peer : ℕ) (piece : List ℕ)
    → max a.state.shared.moment now ≡ max a.state.shared.moment then → IsSameFeed a a now then peer piece
same-time a now then peer piece e = record {
  adapter = ap (λ s. fed a s peer piece) (at-same a.state now then e);
  answer = ap (λ s. answered a s peer piece) (at-same a.state now then e);
}

-- A feed after a piece that completed nothing, and came no later.
after-waiting : (a : AdapterState) (now then peer : ℕ) (bytes piece : List ℕ) → max a.state.shared.moment now ≤ then
    → IsSameFeed (waiting a now peer bytes) (waiting a then peer bytes) then then peer piece
after-waiting a now then peer bytes piece le =
    let same : at_state (at_state a.state now) then ≡ at_state (at_state a.state then) then
    = at-later a.state now then le ∙ sym (at-twice a.state then) in
    record {
      adapter = ap (λ s. fed (waiting a now peer bytes) s peer piece) same;
      answer = ap (λ s. answered (waiting a now peer bytes) s peer piece) same;
    }

-- ---- a stream, fed at the times at which something is completed

data Flows (peer : ℕ) : AdapterState → List ℕ → List ℕ → List Answer → AdapterState → Type 0 where
  Stopped : {a : AdapterState} → Flows peer a [] [] [] a
  Rested : {a : AdapterState} {b m : ℕ} {bs : List ℕ} → a.state.shared.moment ≤ m
      → Flows peer a (b ∷ bs) [] [] (after_call a (Feeds m peer (b ∷ bs)))
  Flowed : {a last : AdapterState} {b m : ℕ} {bs moments : List ℕ} {xs : List Answer} → a.state.shared.moment ≤ m
      → (call_answer a (Feeds m peer (b ∷ bs))).close ≡ false
      → Flows peer (after_call a (Feeds m peer (b ∷ bs)))
      (drop (call_meaning a (Feeds m peer (b ∷ bs))).taken (b ∷ bs)) moments xs last
      → Flows peer a (b ∷ bs) (m ∷ moments) (call_answer a (Feeds m peer (b ∷ bs)) ∷ xs) last
  Shut : {a : AdapterState} {b m : ℕ} {bs : List ℕ} → a.state.shared.moment ≤ m
      → (call_answer a (Feeds m peer (b ∷ bs))).close ≡ true
      → Flows peer a (b ∷ bs) (m ∷ []) (call_answer a (Feeds m peer (b ∷ bs)) ∷ [])
      (after_call a (Feeds m peer (b ∷ bs)))

record AreSame (xs ys : List Answer) (a b : AdapterState) : Type 0 where
  answers_same : xs ≡ ys
  adapter_same : a.state.shared.moment ≡ b.state.shared.moment → a ≡ b

moment-fed : (a : AdapterState) (now peer : ℕ) (piece : List ℕ)
    → (after_call a (Feeds now peer piece)).state.shared.moment ≡ max a.state.shared.moment now
moment-fed a now peer piece = moment-piece (at_state a.state now) peer piece a.held (session_of a.state peer)

one-flow : {peer : ℕ} {a l k : AdapterState} {bytes moments : List ℕ} {xs ys : List Answer}
    → Flows peer a bytes moments xs l → Flows peer a bytes moments ys k → AreSame xs ys l k
one-flow Stopped Stopped = record { answers_same = refl; adapter_same = λ e. refl }
one-flow {peer} (Rested {a} {b} {m} {bs} le) (Rested {m = n} less) = record {
  answers_same = refl;
  adapter_same = λ e. (same-time a m n peer (b ∷ bs)
      (sym (moment-fed a m peer (b ∷ bs)) ∙ (e ∙ moment-fed a n peer (b ∷ bs)))).adapter;
}
one-flow {peer} (Flowed {a} {b = b} {m} {bs} le e f) (Flowed less d g) =
    let rest = one-flow f g in
    record {
      answers_same = ap (λ zs. call_answer a (Feeds m peer (b ∷ bs)) ∷ zs) rest.answers_same;
      adapter_same = rest.adapter_same;
    }
one-flow (Flowed le e f) (Shut less d) = absurd (false≢true (sym e ∙ d))
one-flow (Shut le d) (Flowed less e f) = absurd (false≢true (sym e ∙ d))
one-flow (Shut le e) (Shut less d) = record { answers_same = refl; adapter_same = λ f. refl }

-- A flow, by the meaning of its first feed.
flow-on : (m peer : ℕ) (a last : AdapterState) (b : ℕ) (bs moments : List ℕ) (xs : List Answer) (y : Answer)
    (next : AdapterState) (rest : List ℕ) → a.state.shared.moment ≤ m
    → call_answer a (Feeds m peer (b ∷ bs)) ≡ y → after_call a (Feeds m peer (b ∷ bs)) ≡ next
    → drop (call_meaning a (Feeds m peer (b ∷ bs))).taken (b ∷ bs) ≡ rest
    → y.close ≡ false → Flows peer next rest moments xs last → Flows peer a (b ∷ bs) (m ∷ moments) (y ∷ xs) last
flow-on m peer a last b bs moments xs y next rest le e f g going flow =
    subst (λ z. Flows peer a (b ∷ bs) (m ∷ moments) (z ∷ xs) last) e
    (Flowed le (ap (λ (z : Answer). z.close) e ∙ going)
    (subst (λ r. Flows peer (after_call a (Feeds m peer (b ∷ bs))) r moments xs last) (sym g)
    (subst (λ n. Flows peer n rest moments xs last) (sym f) flow)))

flow-shut : (m peer : ℕ) (a : AdapterState) (b : ℕ) (bs : List ℕ) (y : Answer) (last : AdapterState)
    → a.state.shared.moment ≤ m
    → call_answer a (Feeds m peer (b ∷ bs)) ≡ y → after_call a (Feeds m peer (b ∷ bs)) ≡ last
    → y.close ≡ true → Flows peer a (b ∷ bs) (m ∷ []) (y ∷ []) last
flow-shut m peer a b bs y last le e f shut =
    subst (λ n. Flows peer a (b ∷ bs) (m ∷ []) (y ∷ []) n) f
    (subst (λ z. Flows peer a (b ∷ bs) (m ∷ []) (z ∷ []) (after_call a (Feeds m peer (b ∷ bs)))) e
    (Shut le (ap (λ (z : Answer). z.close) e ∙ shut)))

-- These bytes flow, with the same visible answers.
record IsFlow (peer : ℕ) (a : AdapterState) (bytes moments : List ℕ) (xs : List Answer) (last : AdapterState) : Type 0 where
  ys : List Answer
  flow : Flows peer a bytes moments ys last
  same : visible_answers xs ≡ visible_answers ys

-- Two feeds are one at the time of the second, if the first completes nothing and comes no later.
joined-at : (a : AdapterState) (now m peer : ℕ) (piece more : List ℕ) → IsSound a → IsOpen a peer
    → parsed (held_and_taken (bytes_held a.held peer) piece) ≡ Incomplete → max a.state.shared.moment now ≤ m
    → IsJoined a m peer piece more (waiting a now peer (bytes_held a.held peer ++ piece))
joined-at a now m peer piece more sound live none le =
    let joined : IsJoined a m peer piece more (waiting a m peer (bytes_held a.held peer ++ piece))
    = is-joined a m peer piece more sound live none in
    let later : IsSameFeed (waiting a now peer (bytes_held a.held peer ++ piece))
    (waiting a m peer (bytes_held a.held peer ++ piece)) m m peer more
    = after-waiting a now m peer (bytes_held a.held peer ++ piece) more le in
    record {
      adapter = later.adapter ∙ joined.adapter;
      answer = later.answer ∙ joined.answer;
      rest = joined.rest;
    }

-- A piece that completes nothing, and what flows after it.
record IsQuiet (a : AdapterState) (now peer : ℕ) (piece : List ℕ) : Type 0 where
  sound : IsSound a
  live : IsOpen a peer
  none : parsed (held_and_taken (bytes_held a.held peer) piece) ≡ Incomplete

flow-before : {peer : ℕ} {next last : AdapterState} {more moments : List ℕ} {ys : List Answer}
    → Flows peer next more moments ys last
    → (a : AdapterState) (now b : ℕ) (bs : List ℕ) → IsQuiet a now peer (b ∷ bs)
    → next ≡ waiting a now peer (bytes_held a.held peer ++ b ∷ bs)
    → Flows peer a ((b ∷ bs) ++ more) moments ys last
flow-before {peer} (Stopped {a = next}) a now b bs is e =
    let m : ℕ = max a.state.shared.moment now in
    let waited : HasWaited a now peer (b ∷ bs) = has-waited a now peer (b ∷ bs) is.sound is.live is.none in
    let same : after_call a (Feeds (max a.state.shared.moment now) peer (b ∷ bs)) ≡ next
    = (same-time a (max a.state.shared.moment now) now peer (b ∷ bs) (omega arith)).adapter
    ∙ (waited.adapter ∙ sym e) in
    subst (λ p. Flows peer a p [] [] next) (sym (append-nil (b ∷ bs)))
    (subst (λ n. Flows peer a (b ∷ bs) [] [] n) same (Rested (omega arith)))
flow-before {peer} (Rested {a = next} {b = c} {m} {bs = cs} le) a now b bs is e =
    let later : max a.state.shared.moment now ≤ m = subst (λ (n : AdapterState). n.state.shared.moment ≤ m) e le in
    let joined : IsJoined a m peer (b ∷ bs) (c ∷ cs) (waiting a now peer (bytes_held a.held peer ++ b ∷ bs))
    = joined-at a now m peer (b ∷ bs) (c ∷ cs) is.sound is.live is.none later in
    subst (λ n. Flows peer a (b ∷ (bs ++ c ∷ cs)) [] [] n)
    (sym joined.adapter ∙ ap (λ n. after_call n (Feeds m peer (c ∷ cs))) (sym e)) (Rested (omega arith))
flow-before {peer} (Flowed {a = next} {last} {b = c} {m} {bs = cs} {moments} {xs = zs} le going flow) a now b bs is e =
    let later : max a.state.shared.moment now ≤ m = subst (λ (n : AdapterState). n.state.shared.moment ≤ m) e le in
    let joined : IsJoined a m peer (b ∷ bs) (c ∷ cs) next
    = subst (λ n. IsJoined a m peer (b ∷ bs) (c ∷ cs) n) (sym e)
    (joined-at a now m peer (b ∷ bs) (c ∷ cs) is.sound is.live is.none later) in
    flow-on m peer a last b (bs ++ c ∷ cs) moments zs (call_answer next (Feeds m peer (c ∷ cs)))
    (after_call next (Feeds m peer (c ∷ cs))) (drop (call_meaning next (Feeds m peer (c ∷ cs))).taken (c ∷ cs))
    (omega arith) (sym joined.answer) (sym joined.adapter) (sym joined.rest) going flow
flow-before {peer} (Shut {a = next} {b = c} {m} {bs = cs} le shut) a now b bs is e =
    let later : max a.state.shared.moment now ≤ m = subst (λ (n : AdapterState). n.state.shared.moment ≤ m) e le in
    let joined : IsJoined a m peer (b ∷ bs) (c ∷ cs) next
    = subst (λ n. IsJoined a m peer (b ∷ bs) (c ∷ cs) n) (sym e)
    (joined-at a now m peer (b ∷ bs) (c ∷ cs) is.sound is.live is.none later) in
    flow-shut m peer a b (bs ++ c ∷ cs) (call_answer next (Feeds m peer (c ∷ cs)))
    (after_call next (Feeds m peer (c ∷ cs))) (omega arith) (sym joined.answer) (sym joined.adapter) shut

-- A feed that does not close is for an open peer.
live-fed : (a : AdapterState) (now peer : ℕ) (piece : List ℕ) → (call_answer a (Feeds now peer piece)).close ≡ false
    → IsOpen a peer
live-fed a now peer piece = go (session_of a.state peer) refl
  where
    by_close : (session : Session) → session_of a.state peer ≡ Some session → (b : Bool) → session.closed ≡ b
        → (answer_of a.state (at_a_moment now
        (cond b (dropped_piece a.held) (piece_meaning a.held peer (bytes_held a.held peer) piece)))).close ≡ false
        → IsOpen a peer
    by_close session e true shut bad = cc
    by_close session e false alive going = record { session = session; found = e; alive = alive }

    go : (o : Option Session) → session_of a.state peer ≡ o
        → (answer_of a.state (at_a_moment now (piece_to a.held peer piece o))).close ≡ false → IsOpen a peer
    go None e bad = cc
    go (Some session) e going = by_close session e session.closed refl going

-- The current times of a feed to an open peer, by what it completes.
moments-fed : (a : AdapterState) (now peer : ℕ) (piece : List ℕ) (x : Parsed) → IsOpen a peer
    → parsed (held_and_taken (bytes_held a.held peer) piece) ≡ x
    → completion_moments a now peer piece
    ≡ cond (ltb 1 (suc (length (events_of_parsed peer x))) || false) (max a.state.shared.moment now ∷ []) []
moments-fed a now peer piece x live e =
    ap (λ (m : Meaning). cond (is_completing m) (max a.state.shared.moment now ∷ []) []) (feed-open a now peer piece live)
    ∙ ap (λ y. cond (ltb 1 (suc (length (events_of_parsed peer y))) || false) (max a.state.shared.moment now ∷ []) []) e

-- A feed that completes something does the same if more follows it.
record IsFirst (a : AdapterState) (m peer : ℕ) (piece more : List ℕ) (now : ℕ) : Type 0 where
  answer : call_answer a (Feeds m peer (piece ++ more)) ≡ call_answer a (Feeds now peer piece)
  adapter : after_call a (Feeds m peer (piece ++ more)) ≡ after_call a (Feeds now peer piece)
  rest : drop (call_meaning a (Feeds m peer (piece ++ more))).taken (piece ++ more)
      ≡ drop (call_meaning a (Feeds now peer piece)).taken piece ++ more

is-first : (a : AdapterState) (now peer : ℕ) (piece more : List ℕ)
    → call_meaning a (Feeds now peer (piece ++ more)) ≡ call_meaning a (Feeds now peer piece)
    → (call_meaning a (Feeds now peer piece)).taken ≤ length piece
    → IsFirst a (max a.state.shared.moment now) peer piece more now
is-first a now peer piece more e within =
    let same : IsSameFeed a a (max a.state.shared.moment now) now peer (piece ++ more)
    = same-time a (max a.state.shared.moment now) now peer (piece ++ more) (omega arith) in
    record {
      answer = same.answer ∙ ap (answer_of a.state) e;
      adapter = same.adapter ∙ ap (after_meaning a.state) e;
      rest = ap (λ (m : Meaning). drop m.taken (piece ++ more)) e
          ∙ drop-front (call_meaning a (Feeds now peer piece)).taken piece more within;
    }

module _ (now peer : ℕ) (a last : AdapterState) (b : ℕ) (bs more moments : List ℕ) (xs : List Answer) (sound : IsSound a) where
  abbrev call : Call
  call = Feeds now peer (b ∷ bs)

  abbrev Rest : Type 0
  Rest = IsFlow peer (after_call a call) (drop (call_meaning a call).taken (b ∷ bs) ++ more) moments xs last

  first-done : (call_answer a call).close ≡ false → Rest → IsFirst a (max a.state.shared.moment now) peer (b ∷ bs) more now
      → completion_moments a now peer (b ∷ bs) ≡ max a.state.shared.moment now ∷ []
      → IsFlow peer a ((b ∷ bs) ++ more) (completion_moments a now peer (b ∷ bs) ++ moments)
      (call_answer a call ∷ xs) last
  first-done going rest first at =
      subst (λ ms. IsFlow peer a ((b ∷ bs) ++ more) (ms ++ moments) (call_answer a call ∷ xs) last) (sym at)
      (record {
        ys = call_answer a call ∷ rest.ys;
        flow = flow-on (max a.state.shared.moment now) peer a last b (bs ++ more) moments rest.ys
            (call_answer a call) (after_call a call) (drop (call_meaning a call).taken (b ∷ bs) ++ more)
            (omega arith) first.answer first.adapter first.rest going rest.flow;
        same = told-cons (call_answer a call) xs rest.ys rest.same;
      })

  by-front : IsOpen a peer → (x : Parsed) → parsed (held_and_taken (bytes_held a.held peer) (b ∷ bs)) ≡ x
      → (x ≡ Incomplete → ⊥) → Front a now peer (b ∷ bs) more → IsFirst a (max a.state.shared.moment now) peer (b ∷ bs) more now
  by-front live x e some (Same same within) = is-first a now peer (b ∷ bs) more same within
  by-front live x e some (Waits open_peer none) = absurd (some (sym e ∙ none))

  went-on : (call_answer a call).close ≡ false → Rest → IsOpen a peer → (x : Parsed)
      → parsed (held_and_taken (bytes_held a.held peer) (b ∷ bs)) ≡ x
      → IsFlow peer a ((b ∷ bs) ++ more) (completion_moments a now peer (b ∷ bs) ++ moments)
      (call_answer a call ∷ xs) last
  went-on going rest live Incomplete e =
      let waited : HasWaited a now peer (b ∷ bs) = has-waited a now peer (b ∷ bs) sound live e in
      let left : drop (call_meaning a (Feeds now peer (b ∷ bs))).taken (b ∷ bs) ++ more ≡ more
      = ap (λ s. s ++ more) (ap (λ k. drop k (b ∷ bs)) waited.taken ∙ drop-whole (b ∷ bs)) in
      subst (λ ms. IsFlow peer a ((b ∷ bs) ++ more) (ms ++ moments) (call_answer a call ∷ xs) last)
      (sym (moments-fed a now peer (b ∷ bs) Incomplete live e))
      (record {
        ys = rest.ys;
        flow = flow-before
            (subst (λ s. Flows peer (after_call a (Feeds now peer (b ∷ bs))) s moments rest.ys last) left rest.flow)
            a now b bs (record { sound = sound; live = live; none = e }) waited.adapter;
        same = told-quiet (call_answer a call) xs waited.answer ∙ rest.same;
      })
  went-on going rest live (WholeFrame f) e =
      first-done going rest
      (by-front live (WholeFrame f) e (λ bad. cc) (front-open a now peer (b ∷ bs) more sound live (WholeFrame f) e (λ bad. cc)))
      (moments-fed a now peer (b ∷ bs) (WholeFrame f) live e)
  went-on going rest live (TooLongHeader h) e =
      first-done going rest
      (by-front live (TooLongHeader h) e (λ bad. cc)
      (front-open a now peer (b ∷ bs) more sound live (TooLongHeader h) e (λ bad. cc)))
      (moments-fed a now peer (b ∷ bs) (TooLongHeader h) live e)

closed-flow : (now peer : ℕ) (a : AdapterState) (b : ℕ) (bs more : List ℕ) → IsSound a
    → (call_answer a (Feeds now peer (b ∷ bs))).close ≡ true → Front a now peer (b ∷ bs) more
    → IsFlow peer a ((b ∷ bs) ++ more) (max a.state.shared.moment now ∷ [])
    (call_answer a (Feeds now peer (b ∷ bs)) ∷ []) (after_call a (Feeds now peer (b ∷ bs)))
closed-flow now peer a b bs more sound shut (Same e within) =
    let first : IsFirst a (max a.state.shared.moment now) peer (b ∷ bs) more now
    = is-first a now peer (b ∷ bs) more e within in
    record {
      ys = call_answer a (Feeds now peer (b ∷ bs)) ∷ [];
      flow = flow-shut (max a.state.shared.moment now) peer a b (bs ++ more) (call_answer a (Feeds now peer (b ∷ bs)))
          (after_call a (Feeds now peer (b ∷ bs))) (omega arith) first.answer first.adapter shut;
      same = refl;
    }
closed-flow now peer a b bs more sound shut (Waits live none) =
    let waited : HasWaited a now peer (b ∷ bs) = has-waited a now peer (b ∷ bs) sound live none in
    absurd (false≢true (sym (ap (λ (y : Answer). y.close) waited.answer) ∙ shut))

flow-pours : {peer : ℕ} {a last : AdapterState} {pieces : List TimedPiece} {moments : List ℕ} {xs : List Answer}
    → FeedsTimedPieces peer a pieces moments xs last → IsSound a → IsFlow peer a (joined pieces) moments xs last
flow-pours Ended sound = record { ys = []; flow = Stopped; same = refl }
flow-pours (Taken pours) sound = flow-pours pours sound
flow-pours {peer} (Continued {a} {last} {now} {b} {bs} {pieces} {moments} {answers = xs} going pours) sound =
    went-on now peer a last b bs (joined pieces) moments xs sound going
    (flow-pours pours (sound-call a (Feeds now peer (b ∷ bs)) sound))
    (live-fed a now peer (b ∷ bs) going)
    (parsed (held_and_taken (bytes_held a.held peer) (b ∷ bs))) refl
flow-pours {peer} (Closed {a} {now} {b} {bs} {pieces} shut) sound =
    closed-flow now peer a b bs (joined pieces) sound shut (front a now peer (b ∷ bs) (joined pieces) sound)

record AreAlike (xs ys : List Answer) (a b : AdapterState) : Type 0 where
  answers_alike : visible_answers xs ≡ visible_answers ys
  adapter_same : a.state.shared.moment ≡ b.state.shared.moment → a ≡ b

alike : (peer : ℕ) (a l k : AdapterState) (pieces others : List TimedPiece) (moments : List ℕ) (xs ys : List Answer)
    → IsSound a → joined pieces ≡ joined others
    → FeedsTimedPieces peer a pieces moments xs l → FeedsTimedPieces peer a others moments ys k → AreAlike xs ys l k
alike peer a l k pieces others moments xs ys sound e p q =
    let f : IsFlow peer a (joined pieces) moments xs l = flow-pours p sound in
    let g : IsFlow peer a (joined others) moments ys k = flow-pours q sound in
    let one : AreSame f.ys g.ys l k = one-flow f.flow (subst (λ s. Flows peer a s moments g.ys k) (sym e) g.flow) in
    record {
      answers_alike = f.same ∙ (ap visible_answers one.answers_same ∙ sym g.same);
      adapter_same = one.adapter_same;
    }

module _ (device : Device) (listen : Listen) (limits : Limits) (shares : Shares) (calls : List Call) (peer : ℕ) where
  abbrev start : AdapterState
  start = after_calls (shared_adapter device listen limits shares) calls

  start-sound : IsSound start
  start-sound = sound-calls (shared_adapter device listen limits shares) calls (sound-shared device listen limits shares)

  pub timed-answers : (pieces others : List TimedPiece) (moments : List ℕ) (xs ys : List Answer) (l k : AdapterState)
      → joined pieces ≡ joined others
      → FeedsTimedPieces peer start pieces moments xs l → FeedsTimedPieces peer start others moments ys k
      → visible_answers xs ≡ visible_answers ys
  timed-answers pieces others moments xs ys l k e p q =
      (alike peer start l k pieces others moments xs ys start-sound e p q).answers_alike

  pub timed-adapter : (pieces others : List TimedPiece) (moments : List ℕ) (xs ys : List Answer) (l k : AdapterState)
      → joined pieces ≡ joined others
      → FeedsTimedPieces peer start pieces moments xs l → FeedsTimedPieces peer start others moments ys k
      → l.state.shared.moment ≡ k.state.shared.moment → l ≡ k
  timed-adapter pieces others moments xs ys l k e p q =
      (alike peer start l k pieces others moments xs ys start-sound e p q).adapter_same

-- There is a way for every list of pieces.
record HasPour (peer : ℕ) (a : AdapterState) (pieces : List TimedPiece) : Type 0 where
  moments : List ℕ
  answers_then : List Answer
  last : AdapterState
  pours : FeedsTimedPieces peer a pieces moments answers_then last

pour-piece : (most : ℕ) (now peer : ℕ) (piece : List ℕ) (pieces : List TimedPiece) (a : AdapterState)
    → length piece ≤ most → IsSound a
    → ((b : AdapterState) → IsSound b → HasPour peer b pieces)
    → HasPour peer a (record { now = now; bytes = piece } ∷ pieces)
pour-piece most now peer [] pieces a le sound later =
    let rest : HasPour peer a pieces = later a sound in
    record { moments = rest.moments; answers_then = rest.answers_then; last = rest.last; pours = Taken rest.pours }
pour-piece zero now peer (b ∷ bs) pieces a le sound later = absurd (omega arith)
pour-piece (suc most) now peer (b ∷ bs) pieces a le sound later =
    go (call_answer a (Feeds now peer (b ∷ bs))).close refl
    (λ less. pour-piece most now peer (drop (call_meaning a (Feeds now peer (b ∷ bs))).taken (b ∷ bs)) pieces
    (after_call a (Feeds now peer (b ∷ bs)))
    less (sound-call a (Feeds now peer (b ∷ bs)) sound) later)
  where
    go : (c : Bool) → (call_answer a (Feeds now peer (b ∷ bs))).close ≡ c
        → (length (drop (call_meaning a (Feeds now peer (b ∷ bs))).taken (b ∷ bs)) ≤ most
        → HasPour peer (after_call a (Feeds now peer (b ∷ bs)))
        (record { now = now; bytes = drop (call_meaning a (Feeds now peer (b ∷ bs))).taken (b ∷ bs) } ∷ pieces))
        → HasPour peer a (record { now = now; bytes = b ∷ bs } ∷ pieces)
    go true shut next = record { moments = _; answers_then = _; last = _; pours = Closed shut }
    go false going next =
        let some : 1 ≤ (call_meaning a (Feeds now peer (b ∷ bs))).taken
        = taken-piece a now peer b bs sound (session_of a.state peer) refl going in
        let size : length (drop (call_meaning a (Feeds now peer (b ∷ bs))).taken (b ∷ bs))
        ≡ length (b ∷ bs) - (call_meaning a (Feeds now peer (b ∷ bs))).taken
        = length-drop (call_meaning a (Feeds now peer (b ∷ bs))).taken (b ∷ bs) in
        let rest : HasPour peer (after_call a (Feeds now peer (b ∷ bs)))
        (record { now = now; bytes = drop (call_meaning a (Feeds now peer (b ∷ bs))).taken (b ∷ bs) } ∷ pieces)
        = next (omega (arith, some, size, le)) in
        record { moments = _; answers_then = _; last = rest.last; pours = Continued going rest.pours }

pour-pieces : (peer : ℕ) (pieces : List TimedPiece) (a : AdapterState) → IsSound a → HasPour peer a pieces
pour-pieces peer [] a sound = record { moments = []; answers_then = []; last = a; pours = Ended }
pour-pieces peer (piece ∷ pieces) a sound =
    pour-piece (length piece.bytes) piece.now peer piece.bytes pieces a (omega arith) sound (pour-pieces peer pieces)

pub some-timed : (device : Device) (listen : Listen) (limits : Limits) (shares : Shares) (calls : List Call) (peer : ℕ)
    (pieces : List TimedPiece)
    → (moments : List ℕ) × ((xs : List Answer) × ((l : AdapterState)
    × FeedsTimedPieces peer (after_calls (shared_adapter device listen limits shares) calls) pieces moments xs l))
some-timed device listen limits shares calls peer pieces =
    let p : HasPour peer (after_calls (shared_adapter device listen limits shares) calls) pieces
    = pour-pieces peer pieces (after_calls (shared_adapter device listen limits shares) calls)
    (sound-calls (shared_adapter device listen limits shares) calls (sound-shared device listen limits shares)) in
    (p.moments, (p.answers_then, (p.last, p.pours)))
