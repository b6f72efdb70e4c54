-- How a peer's stream is cut into pieces does not matter.
use Rattle.std.proofs.Common.{◌≡◌, ℕ, zero, suc, ◌+◌, ◌-◌, ◌<◌, ◌≤◌, inl, inr, max, min, List, [], ◌∷◌, ◌++◌, Bool}
use Rattle.std.proofs.Common.{true, false, cond, not, ◌||◌, length, take, drop, Option, Some, None, refl, sym, ap}
use Rattle.std.proofs.Common.{subst, ◌∙◌, arith, append_assoc, append-nil, length-append, length-take, length-drop}
use Rattle.std.specs.Prelude.{filter}
use Rattle.std.specs.List.{concat}
use Rattle.std.proofs.Math.Seq.{take-append-add}
use Rattle.std.proofs.lemmas.Bool.{cases_lt, false≢true}
use Rattle.std.proofs.lemmas.List.{take_all}
use Rattle.cip_bytes.specs.Numbers.{number_at}
use Rattle.cip_manager.specs.Connection.{is_open_at}
use Rattle.cip_manager.proofs.ListLemmas.{filter-implied}
use Rattle.cip_ledger.specs.Device.{Device}
use Rattle.enip_wire.specs.Frames.{end_after}
use Rattle.enip_wire.specs.Stream.{Parsed, bytes_taken, held_and_taken, parsed, cleared}
use Rattle.enip_wire.specs.Stream.Parsed.{Incomplete, WholeFrame, TooLongHeader}
use Rattle.enip_wire.proofs.FrameLemmas.{number_at-append, number_at-take, end_after-least}
use Rattle.enip_adapter.specs.declared.adapter.Limits.{Limits}
use Rattle.enip_adapter.specs.declared.adapter.Shares.{Shares}
use Rattle.enip_adapter.specs.declared.peer.Session.{Session}
use Rattle.enip_adapter.specs.declared.shared.Listen.{Listen}
use Rattle.enip_adapter.specs.Adapter.{shared_adapter}
use Rattle.enip_adapter.specs.Lookup.{first_with, with_first}
use Rattle.enip_adapter.specs.Turn.{State, Event, Answer, answers, after, session_of}
use Rattle.enip_adapter.specs.Turn.Event.{At}
use Rattle.enip_adapter.specs.Turn.Output.{NoReply}
use Rattle.enip_adapter.specs.declared.no_reply_reason.NoReplyReason.TheVariants.{NoFrame}
use Rattle.enip_adapter.specs.Calls.{AdapterState, Held, Call, Meaning, call_meaning, after_call, after_meaning}
use Rattle.enip_adapter.specs.Calls.{call_answer, answer_of, bytes_found, bytes_held, piece_to, piece_meaning}
use Rattle.enip_adapter.specs.Calls.{dropped_piece, at_a_moment, events_of_parsed, last_from}
use Rattle.enip_adapter.specs.Calls.Call.{Feeds}
use Rattle.enip_adapter.specs.Runs.{after_calls, FeedsPieces, visible_answers, is_no_reply}
use Rattle.enip_adapter.specs.Runs.FeedsPieces.{Ended, Taken, Continued, Closed}
use Rattle.enip_adapter.proofs.ListLemmas.{first_with-set, with_first-twice}
use Rattle.enip_adapter.proofs.PeerLemmas.{at_state}
use Rattle.enip_wire.proofs.RunningLemmas.{IsRunning, running-taken, bytes_taken-short, bytes_taken-long}
use Rattle.enip_wire.proofs.RunningLemmas.{bytes_taken-within, end-past}
use Rattle.enip_adapter.proofs.SoundLemmas.{IsSound, sound-call, sound-calls, sound-shared, entry-of, taken-piece}
use Rattle.enip_wire.proofs.ParsedLemmas.{parsed_frame-size}

-- A piece of bytes is fed again and again, until all of it is taken or the peer is closed.
data Flows (now peer : ℕ) : AdapterState → List ℕ → List Answer → AdapterState → Type 0 where
  Stopped : {a : AdapterState} → Flows now peer a [] [] a
  Flowed : {a last : AdapterState} {b : ℕ} {bs : List ℕ} {answers : List Answer}
      → (call_answer a (Feeds now peer (b ∷ bs))).close ≡ false
      → Flows now peer (after_call a (Feeds now peer (b ∷ bs)))
      (drop (call_meaning a (Feeds now peer (b ∷ bs))).taken (b ∷ bs)) answers last
      → Flows now peer a (b ∷ bs) (call_answer a (Feeds now peer (b ∷ bs)) ∷ answers) last
  Shut : {a : AdapterState} {b : ℕ} {bs : List ℕ}
      → (call_answer a (Feeds now peer (b ∷ bs))).close ≡ true
      → Flows now peer a (b ∷ bs) (call_answer a (Feeds now peer (b ∷ bs)) ∷ [])
      (after_call a (Feeds now peer (b ∷ bs)))

-- There is only one way to do this.
record AreSame (xs ys : List Answer) (a b : AdapterState) : Type 0 where
  answers : xs ≡ ys
  adapter : a ≡ b

one-flow : {now peer : ℕ} {a l m : AdapterState} {bytes : List ℕ} {xs ys : List Answer} → Flows now peer a bytes xs l
    → Flows now peer a bytes ys m → AreSame xs ys l m
one-flow Stopped Stopped = record { answers = refl; adapter = refl }
one-flow {now} {peer} (Flowed {a} {b = b} {bs} e f) (Flowed d g) =
    let rest = one-flow f g in
    record { answers = ap (λ zs. call_answer a (Feeds now peer (b ∷ bs)) ∷ zs) rest.answers; adapter = rest.adapter }
one-flow (Flowed e f) (Shut d) = absurd (false≢true (sym e ∙ d))
one-flow (Shut d) (Flowed e f) = absurd (false≢true (sym e ∙ d))
one-flow (Shut e) (Shut d) = record { answers = refl; adapter = refl }

-- What is taken of a piece if it completes something, and if it completes nothing.
taken-past : (held piece more : List ℕ) → IsRunning held → (parsed (held_and_taken held piece) ≡ Incomplete → ⊥)
    → bytes_taken held (piece ++ more) ≡ bytes_taken held piece
taken-past held piece more running some =
    let n : ℕ = bytes_taken held piece in
    let within : bytes_taken held piece ≤ length piece = bytes_taken-within held piece in
    let size : length (held_and_taken held piece) ≡ length held + bytes_taken held piece
    = length-append held (take (bytes_taken held piece) piece)
    ∙ ap (λ k. length held + k) (length-take (bytes_taken held piece) piece ∙ omega (arith, within)) in
    let seen : 24 ≤ length (held_and_taken held piece)
    × (length (held_and_taken held piece) ≤ end_after (number_at 2 2 (held_and_taken held piece))
    → length (held_and_taken held piece) ≡ end_after (number_at 2 2 (held_and_taken held piece)))
    = parsed_frame-size (held_and_taken held piece) some in
    let long : 24 ≤ length held + length piece = omega (arith, seen.0, size, within) in
    let total : length (piece ++ more) ≡ length piece + length more = length-append piece more in
    let front : number_at 2 2 (held_and_taken held piece) ≡ number_at 2 2 (held ++ piece)
    = ap (λ s. number_at 2 2 s) (sym (take-append-add held piece (bytes_taken held piece)))
    ∙ number_at-take (length held + bytes_taken held piece) (held ++ piece) (omega (arith, seen.0, size)) in
    let back : number_at 2 2 (held ++ (piece ++ more)) ≡ number_at 2 2 (held ++ piece)
    = ap (λ s. number_at 2 2 s) (sym (append_assoc held piece more))
    ∙ number_at-append (held ++ piece) more (omega (arith, long, length-append held piece)) in
    let first : bytes_taken held piece
    ≡ min (end_after (number_at 2 2 (held ++ piece)) - length held)
    (length piece) = bytes_taken-long held piece long in
    let second : bytes_taken held (piece ++ more)
    ≡ min (end_after (number_at 2 2 (held ++ (piece ++ more))) - length held) (length (piece ++ more))
    = bytes_taken-long held (piece ++ more) (omega (arith, long, total)) in
    let ends : end_after (number_at 2 2 (held_and_taken held piece))
    ≡ end_after (number_at 2 2 (held ++ piece)) = ap end_after front in
    let later : end_after (number_at 2 2 (held ++ (piece ++ more)))
    ≡ end_after (number_at 2 2 (held ++ piece)) = ap end_after back in
    let past : length held < end_after (number_at 2 2 (held ++ piece)) = end-past held piece running in
    let most : length (held_and_taken held piece) ≤ end_after (number_at 2 2 (held_and_taken held piece)) = omega
    (arith, size, first, ends, past) in
    let is : length (held_and_taken held piece) ≡ end_after (number_at 2 2 (held_and_taken held piece)) = seen.1 most in
    omega (arith, first, second, is, size, ends, later, past, total)

taken-whole : (held piece : List ℕ) → IsRunning held → parsed (held_and_taken held piece) ≡ Incomplete
    → bytes_taken held piece ≡ length piece
taken-whole held piece running none =
    elim (cases_lt (length held + length piece) 24) [
      | inl short ↦ bytes_taken-short held piece short
      | inr long ↦
          let within : bytes_taken held piece ≤ length piece = bytes_taken-within held piece in
          let size : length (held_and_taken held piece) ≡ length held + bytes_taken held piece
          = length-append held (take (bytes_taken held piece) piece)
          ∙ ap (λ k. length held + k) (length-take (bytes_taken held piece) piece ∙ omega (arith, within)) in
          let first : bytes_taken held piece
          ≡ min (end_after (number_at 2 2 (held ++ piece)) - length held)
          (length piece) = bytes_taken-long held piece long in
          let past : length held < end_after (number_at 2 2 (held ++ piece)) = end-past held piece running in
          let least : 24 ≤ end_after (number_at 2 2 (held ++ piece)) = end_after-least
          (number_at 2 2 (held ++ piece)) in
          let on : IsRunning (held_and_taken held piece) = running-taken held piece running none in
          elim (cases_lt (length piece) (end_after (number_at 2 2 (held ++ piece)) - length held)) [
            | inl more ↦ omega (arith, first, more)
            | inr full ↦
                let at_end : length (held_and_taken held piece)
                ≡ end_after (number_at 2 2 (held ++ piece)) = omega (arith, size, first, full, past) in
                let front : number_at 2 2 (held_and_taken held piece) ≡ number_at 2 2 (held ++ piece)
                = ap (λ s. number_at 2 2 s) (sym (take-append-add held piece (bytes_taken held piece)))
                ∙ number_at-take (length held + bytes_taken held piece) (held ++ piece)
                (omega (arith, at_end, size, least)) in
                let before : length (held_and_taken held piece) < end_after
                (number_at 2 2 (held_and_taken held piece)) = on.before (omega (arith, at_end, least)) in
                let ends : end_after (number_at 2 2 (held_and_taken held piece))
                ≡ end_after (number_at 2 2 (held ++ piece)) = ap end_after front in
                omega (arith, before, at_end, ends)
          ]
    ]

taken-on : (held piece more : List ℕ) → IsRunning (held ++ piece) → bytes_taken held (piece ++ more)
    ≡ length piece + bytes_taken (held ++ piece) more
taken-on held piece more running =
    let whole : (held ++ piece) ++ more ≡ held ++ (piece ++ more) = append_assoc held piece more in
    let size : length (held ++ piece) ≡ length held + length piece = length-append held piece in
    let total : length (piece ++ more) ≡ length piece + length more = length-append piece more in
    elim (cases_lt (length held + length (piece ++ more)) 24) [
      | inl short ↦
          omega (
            arith,
            bytes_taken-short held (piece ++ more) short,
            bytes_taken-short (held ++ piece) more
                (omega (arith, short, size, total)),
            total,
          )
      | inr long ↦
          let next : bytes_taken (held ++ piece) more
          ≡ min (end_after (number_at 2 2 ((held ++ piece) ++ more)) - length (held ++ piece)) (length more)
          = bytes_taken-long (held ++ piece) more (omega (arith, long, size, total)) in
          let ends : end_after (number_at 2 2 ((held ++ piece) ++ more))
          ≡ end_after (number_at 2 2 (held ++ (piece ++ more)))
          = ap (λ s. end_after (number_at 2 2 s)) whole in
          let past : length (held ++ piece) < end_after (number_at 2 2 ((held ++ piece) ++ more)) = end-past
          (held ++ piece) more running in
          omega (arith, bytes_taken-long held (piece ++ more) long, next, ends, past, size, total)
    ]

take-front : (n : ℕ) (xs ys : List ℕ) → n ≤ length xs → take n (xs ++ ys) ≡ take n xs
take-front zero xs ys le = refl
take-front (suc n) [] ys le = absurd (omega arith)
take-front (suc n) (x ∷ xs) ys le = ap (λ zs. x ∷ zs) (take-front n xs ys (omega arith))

pub drop-front : (n : ℕ) (xs ys : List ℕ) → n ≤ length xs → drop n (xs ++ ys) ≡ drop n xs ++ ys
drop-front zero xs ys le = refl
drop-front (suc n) [] ys le = absurd (omega arith)
drop-front (suc n) (x ∷ xs) ys le = drop-front n xs ys (omega arith)

take-past : (n : ℕ) (xs ys : List ℕ) → take (length xs + n) (xs ++ ys) ≡ xs ++ take n ys
take-past n [] ys = ap (λ k. take k ys) (let e : 0 + n ≡ n = omega arith in e)
take-past n (x ∷ xs) ys = ap (λ k. take k (x ∷ (xs ++ ys)))
    (let e : suc (length xs) + n ≡ suc (length xs + n) = omega arith in e) ∙ ap (λ zs. x ∷ zs) (take-past n xs ys)

drop-past : (n : ℕ) (xs ys : List ℕ) → drop (length xs + n) (xs ++ ys) ≡ drop n ys
drop-past n [] ys = ap (λ k. drop k ys) (let e : 0 + n ≡ n = omega arith in e)
drop-past n (x ∷ xs) ys = ap (λ k. drop k (x ∷ (xs ++ ys)))
    (let e : suc (length xs) + n ≡ suc (length xs + n) = omega arith in e) ∙ drop-past n xs ys

pub drop-whole : (xs : List ℕ) → drop (length xs) xs ≡ []
drop-whole [] = refl
drop-whole (x ∷ xs) = drop-whole xs

-- A time that is given twice counts once.
max-twice : (a b : ℕ) → max (max a b) b ≡ max a b
max-twice a b = omega arith

pub at-twice : (s : State) (now : ℕ) → at_state (at_state s now) now ≡ at_state s now
at-twice s now =
    let once : ℕ = max s.shared.moment now in
    ap (λ m. let t : State = record s {
      shared = record s.shared {
        moment = m;
        manager = record s.shared.manager { connections = filter (is_open_at m) (filter (is_open_at (max s.shared.moment now)) s.shared.manager.connections) };
      };
    } in t) (max-twice s.shared.moment now)
    ∙ ap (λ cs. let t : State = record s {
      shared = record s.shared {
        moment = max s.shared.moment now;
        manager = record s.shared.manager { connections = cs };
      };
    } in t) (filter-implied (is_open_at (max s.shared.moment now))
    (is_open_at (max s.shared.moment now)) s.shared.manager.connections (λ c h. h))

-- The meaning of a piece for a peer that goes on, by all that has arrived of the frame.
abbrev pub shown : List Held → ℕ → ℕ → List ℕ → ℕ → Meaning
shown held peer now bytes n = at_a_moment now (record {
  events = events_of_parsed peer (parsed bytes);
  taken = n;
  held = with_first (λ (h : Held). h.peer) peer (record { peer = peer; bytes = cleared (parsed bytes) bytes }) held;
  dropped = false;
})

pub record IsOpen (a : AdapterState) (peer : ℕ) : Type 0 where
  pub session : Session
  pub found : session_of a.state peer ≡ Some session
  pub alive : session.closed ≡ false

pub feed-open : (a : AdapterState) (now peer : ℕ) (piece : List ℕ) → IsOpen a peer
    → call_meaning a (Feeds now peer piece)
    ≡ shown a.held peer now (held_and_taken (bytes_held a.held peer) piece) (bytes_taken (bytes_held a.held peer) piece)
feed-open a now peer piece live =
    ap (λ o. at_a_moment now (piece_to a.held peer piece o)) live.found
    ∙ ap (λ b. at_a_moment now
    (cond b (dropped_piece a.held) (piece_meaning a.held peer (bytes_held a.held peer) piece))) live.alive

-- What a piece is if more follows it.
pub data Front (a : AdapterState) (now peer : ℕ) (piece more : List ℕ) : Type 0 where
  Same : call_meaning a (Feeds now peer (piece ++ more)) ≡ call_meaning a (Feeds now peer piece)
      → (call_meaning a (Feeds now peer piece)).taken ≤ length piece → Front a now peer piece more
  Waits : IsOpen a peer → parsed (held_and_taken (bytes_held a.held peer) piece) ≡ Incomplete
      → Front a now peer piece more

pub front-open : (a : AdapterState) (now peer : ℕ) (piece more : List ℕ) → IsSound a → IsOpen a peer → (x : Parsed)
    → parsed (held_and_taken (bytes_held a.held peer) piece) ≡ x → (x ≡ Incomplete → ⊥) → Front a now peer piece more
front-open a now peer piece more sound live x seen some =
    let running : IsRunning (bytes_held a.held peer) = sound.ready peer live.session live.found live.alive in
    let within : bytes_taken (bytes_held a.held peer) piece ≤ length piece = bytes_taken-within
    (bytes_held a.held peer) piece in
    let n : bytes_taken (bytes_held a.held peer) (piece ++ more) ≡ bytes_taken (bytes_held a.held peer) piece
    = taken-past (bytes_held a.held peer) piece more running (λ e. some (sym seen ∙ e)) in
    let j : held_and_taken (bytes_held a.held peer) (piece ++ more) ≡ held_and_taken (bytes_held a.held peer) piece
    = ap (λ k. bytes_held a.held peer ++ take k (piece ++ more)) n
    ∙ ap (λ s. bytes_held a.held peer ++ s) (take-front (bytes_taken (bytes_held a.held peer) piece) piece more within) in
    Same
    (feed-open a now peer (piece ++ more) live
    ∙ (ap (λ b. shown a.held peer now b (bytes_taken (bytes_held a.held peer) (piece ++ more))) j
    ∙ (ap (λ k. shown a.held peer now (held_and_taken (bytes_held a.held peer) piece) k) n
    ∙ sym (feed-open a now peer piece live))))
    (subst (λ (m : Meaning). m.taken ≤ length piece) (sym (feed-open a now peer piece live)) within)

pub front : (a : AdapterState) (now peer : ℕ) (piece more : List ℕ) → IsSound a → Front a now peer piece more
front a now peer piece more sound = go (session_of a.state peer) refl
  where
    live : IsOpen a peer → (x : Parsed) → parsed (held_and_taken (bytes_held a.held peer) piece) ≡ x
        → Front a now peer piece more
    live o Incomplete e = Waits o e
    live o (WholeFrame f) e = front-open a now peer piece more sound o (WholeFrame f) e (λ bad. cc)
    live o (TooLongHeader h) e = front-open a now peer piece more sound o (TooLongHeader h) e (λ bad. cc)

    gone : call_meaning a (Feeds now peer (piece ++ more)) ≡ at_a_moment now (dropped_piece a.held)
        → call_meaning a (Feeds now peer piece) ≡ at_a_moment now (dropped_piece a.held) → Front a now peer piece more
    gone e f = Same (e ∙ sym f) (subst (λ (m : Meaning). m.taken ≤ length piece) (sym f) (omega arith))

    by_close : (session : Session) → session_of a.state peer ≡ Some session → (b : Bool) → session.closed ≡ b
        → Front a now peer piece more
    by_close session e true shut =
        gone
        (ap (λ o. at_a_moment now (piece_to a.held peer (piece ++ more) o)) e
        ∙ ap (λ b. at_a_moment now
        (cond b (dropped_piece a.held) (piece_meaning a.held peer (bytes_held a.held peer) (piece ++ more)))) shut)
        (ap (λ o. at_a_moment now (piece_to a.held peer piece o)) e
        ∙ ap (λ b. at_a_moment now
        (cond b (dropped_piece a.held) (piece_meaning a.held peer (bytes_held a.held peer) piece))) shut)
    by_close session e false alive =
        live (record { session = session; found = e; alive = alive })
        (parsed (held_and_taken (bytes_held a.held peer) piece)) refl

    go : (o : Option Session) → session_of a.state peer ≡ o → Front a now peer piece more
    go None e =
        gone (ap (λ o. at_a_moment now (piece_to a.held peer (piece ++ more) o)) e)
        (ap (λ o. at_a_moment now (piece_to a.held peer piece o)) e)
    go (Some session) e = by_close session e session.closed refl

-- A piece that completes nothing, and the next one.
abbrev pub quiet : Answer
quiet = record { output = NoReply NoFrame; close = false }

abbrev pub waiting : AdapterState → ℕ → ℕ → List ℕ → AdapterState
waiting a now peer bytes = record {
  state = at_state a.state now;
  held = with_first (λ (h : Held). h.peer) peer (record { peer = peer; bytes = bytes }) a.held;
}

pub record HasWaited (a : AdapterState) (now peer : ℕ) (piece : List ℕ) : Type 0 where
  pub adapter : after_call a (Feeds now peer piece) ≡ waiting a now peer (bytes_held a.held peer ++ piece)
  pub answer : call_answer a (Feeds now peer piece) ≡ quiet
  pub taken : (call_meaning a (Feeds now peer piece)).taken ≡ length piece

pub has-waited : (a : AdapterState) (now peer : ℕ) (piece : List ℕ) → IsSound a → IsOpen a peer
    → parsed (held_and_taken (bytes_held a.held peer) piece) ≡ Incomplete → HasWaited a now peer piece
has-waited a now peer piece sound live none =
    let held : List ℕ = bytes_held a.held peer in
    let running : IsRunning (bytes_held a.held peer) = sound.ready peer live.session live.found live.alive in
    let n : bytes_taken (bytes_held a.held peer) piece
    ≡ length piece = taken-whole (bytes_held a.held peer) piece running none in
    let j : held_and_taken (bytes_held a.held peer) piece ≡ bytes_held a.held peer ++ piece
    = ap (λ s. bytes_held a.held peer ++ s) (take_all (bytes_taken (bytes_held a.held peer) piece) piece (omega arith)) in
    let m : call_meaning a (Feeds now peer piece) ≡ record {
      events = At now ∷ [];
      taken = length piece;
      held = with_first (λ (h : Held). h.peer) peer
          (record { peer = peer; bytes = bytes_held a.held peer ++ piece }) a.held;
      dropped = false;
    }
    = feed-open a now peer piece live
    ∙ (ap (λ x. let t : Meaning = record {
      events = At now ∷ events_of_parsed peer x;
      taken = bytes_taken (bytes_held a.held peer) piece;
      held = with_first (λ (h : Held). h.peer) peer
          (record { peer = peer; bytes = cleared x (held_and_taken (bytes_held a.held peer) piece) }) a.held;
      dropped = false;
    } in t) none
    ∙ (ap (λ k. let t : Meaning = record {
      events = At now ∷ [];
      taken = k;
      held = with_first (λ (h : Held). h.peer) peer
          (record { peer = peer; bytes = held_and_taken (bytes_held a.held peer) piece }) a.held;
      dropped = false;
    } in t) n
    ∙ ap (λ b. let t : Meaning = record {
      events = At now ∷ [];
      taken = length piece;
      held = with_first (λ (h : Held). h.peer) peer (record { peer = peer; bytes = b }) a.held;
      dropped = false;
    } in t) j)) in
    record {
      adapter = ap (after_meaning a.state) m;
      answer = ap (answer_of a.state) m;
      taken = ap (λ (t : Meaning). t.taken) m;
    }

-- Two pieces do the same in one call as in two, if the first completes nothing.
pub record IsJoined (a : AdapterState) (now peer : ℕ) (piece more : List ℕ) (b : AdapterState) : Type 0 where
  pub adapter : after_call b (Feeds now peer more) ≡ after_call a (Feeds now peer (piece ++ more))
  pub answer : call_answer b (Feeds now peer more) ≡ call_answer a (Feeds now peer (piece ++ more))
  pub rest : drop (call_meaning b (Feeds now peer more)).taken more
      ≡ drop (call_meaning a (Feeds now peer (piece ++ more))).taken (piece ++ more)

pub is-joined : (a : AdapterState) (now peer : ℕ) (piece more : List ℕ) → IsSound a → IsOpen a peer
    → parsed (held_and_taken (bytes_held a.held peer) piece) ≡ Incomplete
    → IsJoined a now peer piece more (waiting a now peer (bytes_held a.held peer ++ piece))
is-joined a now peer piece more sound live none =
    let first : List ℕ = bytes_held a.held peer in
    let running : IsRunning (bytes_held a.held peer) = sound.ready peer live.session live.found live.alive in
    let n : bytes_taken (bytes_held a.held peer) piece
    ≡ length piece = taken-whole (bytes_held a.held peer) piece running none in
    let j : held_and_taken (bytes_held a.held peer) piece ≡ bytes_held a.held peer ++ piece
    = ap (λ s. bytes_held a.held peer ++ s) (take_all (bytes_taken (bytes_held a.held peer) piece) piece (omega arith)) in
    let on : IsRunning (bytes_held a.held peer ++ piece) = subst IsRunning j
    (running-taken (bytes_held a.held peer) piece running none) in
    let all : bytes_taken (bytes_held a.held peer) (piece ++ more)
    ≡ length piece + bytes_taken (bytes_held a.held peer ++ piece) more
    = taken-on (bytes_held a.held peer) piece more on in
    let bytes : held_and_taken (bytes_held a.held peer ++ piece) more ≡ held_and_taken (bytes_held a.held peer) (piece ++ more)
    = append_assoc (bytes_held a.held peer) piece (take (bytes_taken (bytes_held a.held peer ++ piece) more) more)
    ∙ (ap (λ s. bytes_held a.held peer ++ s)
    (sym (take-past (bytes_taken (bytes_held a.held peer ++ piece) more) piece more))
    ∙ ap (λ k. bytes_held a.held peer ++ take k (piece ++ more)) (sym all)) in
    let e : (old : Held) ×
    (first_with (λ (h : Held). h.peer) peer a.held ≡ Some old) = entry-of a peer live.session sound live.found in
    let kept : bytes_held (waiting a now peer (bytes_held a.held peer ++ piece)).held peer
    ≡ bytes_held a.held peer ++ piece
    = ap bytes_found (first_with-set (λ (h : Held). h.peer) peer e.0 _ a.held e.1 refl) in
    let one : call_meaning a (Feeds now peer (piece ++ more))
    ≡ shown a.held peer now (held_and_taken (bytes_held a.held peer) (piece ++ more))
    (bytes_taken (bytes_held a.held peer) (piece ++ more))
    = feed-open a now peer (piece ++ more) live in
    let two : call_meaning (waiting a now peer (bytes_held a.held peer ++ piece)) (Feeds now peer more)
    ≡ shown (waiting a now peer (bytes_held a.held peer ++ piece)).held peer now
    (held_and_taken (bytes_held a.held peer) (piece ++ more))
    (bytes_taken (bytes_held a.held peer ++ piece) more)
    = feed-open (waiting a now peer (bytes_held a.held peer ++ piece)) now peer more
    (record { session = live.session; found = live.found; alive = live.alive })
    ∙ (ap (λ h. shown (waiting a now peer (bytes_held a.held peer ++ piece)).held peer now (held_and_taken h more)
    (bytes_taken h more)) kept
    ∙ ap (λ b. shown (waiting a now peer (bytes_held a.held peer ++ piece)).held peer now b
    (bytes_taken (bytes_held a.held peer ++ piece) more)) bytes) in
    let whole : List ℕ = held_and_taken (bytes_held a.held peer) (piece ++ more) in
    let es : List Event = events_of_parsed peer (parsed (held_and_taken (bytes_held a.held peer) (piece ++ more))) in
    record {
      adapter = ap (after_meaning (at_state a.state now)) two
          ∙ (ap (λ s. let t : AdapterState = record {
            state = after s (events_of_parsed peer (parsed (held_and_taken (bytes_held a.held peer) (piece ++ more))));
            held = (shown (waiting a now peer (bytes_held a.held peer ++ piece)).held peer now
                (held_and_taken (bytes_held a.held peer) (piece ++ more)) 0).held;
          } in t) (at-twice a.state now)
          ∙ (ap (λ hs. let t : AdapterState = record {
            state = after (at_state a.state now)
                (events_of_parsed peer (parsed (held_and_taken (bytes_held a.held peer) (piece ++ more))));
            held = hs;
          } in t) (with_first-twice (λ (h : Held). h.peer) peer _ _ a.held refl)
          ∙ sym (ap (after_meaning a.state) one)));
      answer = ap (answer_of (at_state a.state now)) two
          ∙ (ap (λ s. last_from quiet
          (answers s (events_of_parsed peer (parsed (held_and_taken (bytes_held a.held peer) (piece ++ more))))))
          (at-twice a.state now)
          ∙ sym (ap (answer_of a.state) one));
      rest = ap (λ (m : Meaning). drop m.taken more) two
          ∙ (sym (drop-past (bytes_taken (bytes_held a.held peer ++ piece) more) piece more)
          ∙ (ap (λ k. drop k (piece ++ more)) (sym all)
          ∙ sym (ap (λ (m : Meaning). drop m.taken (piece ++ more)) one)));
    }

-- A flow, by the meaning of its first call.
flow-on : (now peer : ℕ) (a last : AdapterState) (b : ℕ) (bs : List ℕ) (xs : List Answer) (y : Answer)
    (next : AdapterState) (rest : List ℕ)
    → call_answer a (Feeds now peer (b ∷ bs)) ≡ y → after_call a (Feeds now peer (b ∷ bs)) ≡ next
    → drop (call_meaning a (Feeds now peer (b ∷ bs))).taken (b ∷ bs) ≡ rest
    → y.close ≡ false → Flows now peer next rest xs last → Flows now peer a (b ∷ bs) (y ∷ xs) last
flow-on now peer a last b bs xs y next rest e f g going flow =
    subst (λ z. Flows now peer a (b ∷ bs) (z ∷ xs) last) e
    (Flowed (ap (λ (z : Answer). z.close) e ∙ going)
    (subst (λ r. Flows now peer (after_call a (Feeds now peer (b ∷ bs))) r xs last) (sym g)
    (subst (λ n. Flows now peer n rest xs last) (sym f) flow)))

flow-shut : (now peer : ℕ) (a : AdapterState) (b : ℕ) (bs : List ℕ) (y : Answer) (last : AdapterState)
    → call_answer a (Feeds now peer (b ∷ bs)) ≡ y → after_call a (Feeds now peer (b ∷ bs)) ≡ last
    → y.close ≡ true → Flows now peer a (b ∷ bs) (y ∷ []) last
flow-shut now peer a b bs y last e f shut =
    subst (λ n. Flows now peer a (b ∷ bs) (y ∷ []) n) f
    (subst (λ z. Flows now peer a (b ∷ bs) (z ∷ []) (after_call a (Feeds now peer (b ∷ bs)))) e
    (Shut (ap (λ (z : Answer). z.close) e ∙ shut)))

-- These bytes flow, with the same visible answers.
record IsFlow (now peer : ℕ) (a : AdapterState) (bytes : List ℕ) (xs : List Answer) (last : AdapterState) : Type 0 where
  ys : List Answer
  flow : Flows now peer a bytes ys last
  same : visible_answers xs ≡ visible_answers ys

pub told-cons : (x : Answer) (xs ys : List Answer) → visible_answers xs ≡ visible_answers ys
    → visible_answers (x ∷ xs) ≡ visible_answers (x ∷ ys)
told-cons x xs ys e = ap (λ zs. cond (not (is_no_reply x.output) || x.close) (x ∷ zs) zs) e

pub told-quiet : (x : Answer) (xs : List Answer) → x ≡ quiet → visible_answers (x ∷ xs) ≡ visible_answers xs
told-quiet x xs e = ap (λ y. visible_answers (y ∷ xs)) e

-- What flows after a piece that completed nothing flows with it.
flow-before : {now peer : ℕ} {next last : AdapterState} {more : List ℕ} {ys : List Answer}
    → Flows now peer next more ys last
    → (a : AdapterState) (b : ℕ) (bs : List ℕ) (xs : List Answer) → HasWaited a now peer (b ∷ bs)
    → IsJoined a now peer (b ∷ bs) more next
    → after_call a (Feeds now peer (b ∷ bs)) ≡ next → visible_answers xs ≡ visible_answers ys
    → IsFlow now peer a ((b ∷ bs) ++ more) (quiet ∷ xs) last
flow-before {now} {peer} (Stopped {a = next}) a b bs xs waited joined is e = record {
  ys = quiet ∷ [];
  flow = subst (λ p. Flows now peer a p (quiet ∷ []) next) (sym (append-nil (b ∷ bs)))
      (flow-on now peer a next b bs [] quiet next [] waited.answer is
      (ap (λ k. drop k (b ∷ bs)) waited.taken ∙ drop-whole (b ∷ bs)) refl Stopped);
  same = e;
}
flow-before {now} {peer}
    (Flowed {a = next} {last} {b = c} {bs = cs} {answers = zs} going flow) a b bs xs waited joined is e = record {
      ys = call_answer next (Feeds now peer (c ∷ cs)) ∷ zs;
      flow = flow-on now peer a last b (bs ++ c ∷ cs) zs (call_answer next (Feeds now peer (c ∷ cs)))
          (after_call next (Feeds now peer (c ∷ cs)))
          (drop (call_meaning next (Feeds now peer (c ∷ cs))).taken (c ∷ cs)) (sym joined.answer) (sym joined.adapter)
          (sym joined.rest) going flow;
      same = e;
    }
flow-before {now} {peer} (Shut {a = next} {b = c} {bs = cs} shut) a b bs xs waited joined is e = record {
  ys = call_answer next (Feeds now peer (c ∷ cs)) ∷ [];
  flow = flow-shut now peer a b (bs ++ c ∷ cs) (call_answer next (Feeds now peer (c ∷ cs)))
      (after_call next (Feeds now peer (c ∷ cs)))
      (sym joined.answer) (sym joined.adapter) shut;
  same = e;
}

went-on : (now peer : ℕ) (a last : AdapterState) (b : ℕ) (bs more : List ℕ) (xs : List Answer) → IsSound a
    → (call_answer a (Feeds now peer (b ∷ bs))).close ≡ false
    → IsFlow now peer (after_call a (Feeds now peer (b ∷ bs)))
    (drop (call_meaning a (Feeds now peer (b ∷ bs))).taken (b ∷ bs) ++ more) xs last
    → Front a now peer (b ∷ bs) more
    → IsFlow now peer a ((b ∷ bs) ++ more) (call_answer a (Feeds now peer (b ∷ bs)) ∷ xs) last
went-on now peer a last b bs more xs sound going rest (Same e within) = record {
  ys = call_answer a (Feeds now peer (b ∷ bs)) ∷ rest.ys;
  flow = flow-on now peer a last b (bs ++ more) rest.ys (call_answer a (Feeds now peer (b ∷ bs)))
      (after_call a (Feeds now peer (b ∷ bs)))
      (drop (call_meaning a (Feeds now peer (b ∷ bs))).taken (b ∷ bs) ++ more) (ap (answer_of a.state) e)
      (ap (after_meaning a.state) e)
      (ap (λ (m : Meaning). drop m.taken (b ∷ bs ++ more)) e
      ∙ drop-front (call_meaning a (Feeds now peer (b ∷ bs))).taken (b ∷ bs) more within) going rest.flow;
  same = told-cons (call_answer a (Feeds now peer (b ∷ bs))) xs rest.ys rest.same;
}
went-on now peer a last b bs more xs sound going rest (Waits live none) =
    let waited : HasWaited a now peer (b ∷ bs) = has-waited a now peer (b ∷ bs) sound live none in
    let joined : IsJoined a now peer (b ∷ bs) more
    (waiting a now peer (bytes_held a.held peer ++ b ∷ bs)) = is-joined a now peer (b ∷ bs) more sound live none in
    let left : drop (call_meaning a (Feeds now peer (b ∷ bs))).taken (b ∷ bs) ++ more ≡ more
    = ap (λ s. s ++ more) (ap (λ k. drop k (b ∷ bs)) waited.taken ∙ drop-whole (b ∷ bs)) in
    let flow : Flows now peer (waiting a now peer (bytes_held a.held peer ++ b ∷ bs)) more rest.ys last
    = subst (λ n. Flows now peer n more rest.ys last) waited.adapter
    (subst (λ s. Flows now peer (after_call a (Feeds now peer (b ∷ bs))) s rest.ys last) left rest.flow) in
    subst (λ y. IsFlow now peer a ((b ∷ bs) ++ more) (y ∷ xs) last) (sym waited.answer)
    (flow-before flow a b bs xs waited joined waited.adapter rest.same)

closed-flow : (now peer : ℕ) (a : AdapterState) (b : ℕ) (bs more : List ℕ) → IsSound a
    → (call_answer a (Feeds now peer (b ∷ bs))).close ≡ true
    → Front a now peer (b ∷ bs) more
    → IsFlow now peer a ((b ∷ bs) ++ more) (call_answer a (Feeds now peer (b ∷ bs)) ∷ [])
    (after_call a (Feeds now peer (b ∷ bs)))
closed-flow now peer a b bs more sound shut (Same e within) = record {
  ys = call_answer a (Feeds now peer (b ∷ bs)) ∷ [];
  flow = flow-shut now peer a b (bs ++ more) (call_answer a (Feeds now peer (b ∷ bs)))
      (after_call a (Feeds now peer (b ∷ bs)))
      (ap (answer_of a.state) e) (ap (after_meaning a.state) e) shut;
  same = refl;
}
closed-flow now peer a b bs more sound shut (Waits live none) =
    let waited : HasWaited a now peer (b ∷ bs) = has-waited a now peer (b ∷ bs) sound live none in
    absurd (false≢true (sym (ap (λ (y : Answer). y.close) waited.answer) ∙ shut))

flow-pours : {now peer : ℕ} {a last : AdapterState} {pieces : List (List ℕ)} {xs : List Answer}
    → FeedsPieces now peer a pieces xs last
    → IsSound a → IsFlow now peer a (concat pieces) xs last
flow-pours Ended sound = record { ys = []; flow = Stopped; same = refl }
flow-pours (Taken pours) sound = flow-pours pours sound
flow-pours {now} {peer} (Continued {a} {last} {b} {bs} {pieces} {answers = xs} going pours) sound =
    went-on now peer a last b bs (concat pieces) xs sound going
    (flow-pours pours (sound-call a (Feeds now peer (b ∷ bs)) sound))
    (front a now peer (b ∷ bs) (concat pieces) sound)
flow-pours {now} {peer} (Closed {a} {b} {bs} {pieces} shut) sound =
    closed-flow now peer a b bs (concat pieces) sound shut (front a now peer (b ∷ bs) (concat pieces) sound)

record AreAlike (xs ys : List Answer) (a b : AdapterState) : Type 0 where
  answers : visible_answers xs ≡ visible_answers ys
  adapter : a ≡ b

alike : (now peer : ℕ) (a l m : AdapterState) (pieces others : List (List ℕ)) (xs ys : List Answer) → IsSound a
    → concat pieces ≡ concat others
    → FeedsPieces now peer a pieces xs l → FeedsPieces now peer a others ys m → AreAlike xs ys l m
alike now peer a l m pieces others xs ys sound e p q =
    let f : IsFlow now peer a (concat pieces) xs l = flow-pours p sound in
    let g : IsFlow now peer a (concat others) ys m = flow-pours q sound in
    let one : AreSame f.ys g.ys l m = one-flow f.flow (subst (λ s. Flows now peer a s g.ys m) (sym e) g.flow) in
    record { answers = f.same ∙ (ap visible_answers one.answers ∙ sym g.same); adapter = one.adapter }

module _ (device : Device) (listen : Listen) (limits : Limits) (shares : Shares) (calls : List Call) where
  reached : IsSound (after_calls (shared_adapter device listen limits shares) calls)
  reached = sound-calls (shared_adapter device listen limits shares) calls (sound-shared device listen limits shares)

  pub cuts-answers : (now peer : ℕ) (pieces others : List (List ℕ)) (xs ys : List Answer) (l m : AdapterState)
      → concat pieces ≡ concat others
      → FeedsPieces now peer (after_calls (shared_adapter device listen limits shares) calls) pieces xs l
      → FeedsPieces now peer (after_calls (shared_adapter device listen limits shares) calls) others ys m
      → visible_answers xs ≡ visible_answers ys
  cuts-answers now peer pieces others xs ys l m e p q =
      (alike now peer (after_calls
      (shared_adapter device listen limits shares) calls) l m pieces others xs ys reached e p q).answers

  pub cuts-adapter : (now peer : ℕ) (pieces others : List (List ℕ)) (xs ys : List Answer) (l m : AdapterState)
      → concat pieces ≡ concat others
      → FeedsPieces now peer (after_calls (shared_adapter device listen limits shares) calls) pieces xs l
      → FeedsPieces now peer (after_calls (shared_adapter device listen limits shares) calls) others ys m → l ≡ m
  cuts-adapter now peer pieces others xs ys l m e p q =
      (alike now peer (after_calls
      (shared_adapter device listen limits shares) calls) l m pieces others xs ys reached e p q).adapter

-- There is a way for every list of pieces.
record HasPour (now peer : ℕ) (a : AdapterState) (pieces : List (List ℕ)) : Type 0 where
  answers : List Answer
  last : AdapterState
  pours : FeedsPieces now peer a pieces answers last

pour-piece : (most : ℕ) (now peer : ℕ) (piece : List ℕ) (pieces : List (List ℕ)) (a : AdapterState)
    → length piece ≤ most → IsSound a
    → ((b : AdapterState) → IsSound b → HasPour now peer b pieces) → HasPour now peer a (piece ∷ pieces)
pour-piece most now peer [] pieces a le sound later =
    let rest : HasPour now peer a pieces = later a sound in
    record { answers = rest.answers; last = rest.last; pours = Taken rest.pours }
pour-piece zero now peer (b ∷ bs) pieces a le sound later = absurd (omega arith)
pour-piece (suc most) now peer (b ∷ bs) pieces a le sound later =
    go (call_answer a (Feeds now peer (b ∷ bs))).close refl
    (λ less. pour-piece most now peer (drop (call_meaning a (Feeds now peer (b ∷ bs))).taken (b ∷ bs)) pieces
    (after_call a (Feeds now peer (b ∷ bs)))
    less (sound-call a (Feeds now peer (b ∷ bs)) sound) later)
  where
    go : (c : Bool) → (call_answer a (Feeds now peer (b ∷ bs))).close ≡ c
        → (length (drop (call_meaning a (Feeds now peer (b ∷ bs))).taken (b ∷ bs)) ≤ most
        → HasPour now peer (after_call a (Feeds now peer (b ∷ bs)))
        (drop (call_meaning a (Feeds now peer (b ∷ bs))).taken (b ∷ bs) ∷ pieces))
        → HasPour now peer a ((b ∷ bs) ∷ pieces)
    go true shut next = record { answers = _; last = _; pours = Closed shut }
    go false going next =
        let some : 1 ≤ (call_meaning a (Feeds now peer (b ∷ bs))).taken
        = taken-piece a now peer b bs sound (session_of a.state peer) refl going in
        let size : length (drop (call_meaning a (Feeds now peer (b ∷ bs))).taken (b ∷ bs))
        ≡ length (b ∷ bs) - (call_meaning a (Feeds now peer (b ∷ bs))).taken
        = length-drop (call_meaning a (Feeds now peer (b ∷ bs))).taken (b ∷ bs) in
        let rest : HasPour now peer (after_call a (Feeds now peer (b ∷ bs)))
        (drop (call_meaning a (Feeds now peer (b ∷ bs))).taken (b ∷ bs) ∷ pieces)
        = next (omega (arith, some, size, le)) in
        record { answers = _; last = rest.last; pours = Continued going rest.pours }

pour-pieces : (now peer : ℕ) (pieces : List (List ℕ)) (a : AdapterState) → IsSound a → HasPour now peer a pieces
pour-pieces now peer [] a sound = record { answers = []; last = a; pours = Ended }
pour-pieces now peer (piece ∷ pieces) a sound =
    pour-piece (length piece) now peer piece pieces a (omega arith) sound (pour-pieces now peer pieces)

pub some-pour : (device : Device) (listen : Listen) (limits : Limits) (shares : Shares) (calls : List Call) (now peer : ℕ)
    (pieces : List (List ℕ))
    → (xs : List Answer) ×
    ((l : AdapterState) × FeedsPieces now peer (after_calls (shared_adapter device listen limits shares) calls) pieces xs l)
some-pour device listen limits shares calls now peer pieces =
    let p : HasPour now peer (after_calls (shared_adapter device listen limits shares) calls) pieces
    = pour-pieces now peer pieces (after_calls (shared_adapter device listen limits shares) calls)
    (sound-calls (shared_adapter device listen limits shares) calls (sound-shared device listen limits shares)) in
    (p.answers, (p.last, p.pours))
