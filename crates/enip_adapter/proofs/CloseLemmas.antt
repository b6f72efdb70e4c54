-- A stream closes its peer at one byte.
use Rattle.std.proofs.Common.{◌≡◌, ℕ, ◌+◌, ◌≤◌, min, ◌-◌, List, [], ◌∷◌, ◌++◌, Bool, true, false, cond, not, eqb}
use Rattle.std.proofs.Common.{length, take, Option, Some, None, refl, sym, ap, subst, ◌∙◌, arith}
use Rattle.std.proofs.Common.{append_assoc, append-nil, length-append, length-take}
use Rattle.std.specs.List.{AllByRecursion}
use Rattle.std.specs.Option.{option_map}
use Rattle.std.proofs.Math.Seq.{take-append-add}
use Rattle.std.proofs.lemmas.Bool.{eqb-true, false≢true}
use Rattle.cip_bytes.specs.Numbers.{number_at}
use Rattle.enip_wire.specs.Frames.{Frame, end_after}
use Rattle.enip_wire.specs.Stream.{Cut, Parsed, bytes_taken, held_and_taken, parsed}
use Rattle.enip_wire.specs.Stream.Parsed.{Incomplete, WholeFrame, TooLongHeader}
use Rattle.enip_wire.proofs.FrameLemmas.{number_at-append, number_at-take}
use Rattle.enip_wire.proofs.StreamLemmas.{one_cut_lem}
use Rattle.enip_adapter.specs.declared.peer.Session.{Session}
use Rattle.enip_adapter.specs.declared.shared.Shared.{Shared}
use Rattle.enip_adapter.specs.declared.no_reply_reason.NoReplyReason.TheVariants.{NotServed}
use Rattle.enip_adapter.specs.Adapter.{shared_adapter}
use Rattle.enip_adapter.specs.Commands.{command_served, long_refused}
use Rattle.enip_adapter.specs.Replies.{Served, leaving}
use Rattle.enip_adapter.specs.Turn.{State, turned, serve_found, session_of, after}
use Rattle.enip_adapter.specs.Turn.Output.{NoReply, Begins}
use Rattle.enip_adapter.specs.Calls.{AdapterState, Call, Meaning, call_meaning, after_call, call_answer}
use Rattle.enip_adapter.specs.Calls.{answer_of, bytes_found, bytes_held, piece_to, piece_meaning, dropped_piece}
use Rattle.enip_adapter.specs.Calls.{at_a_moment, events_of_parsed}
use Rattle.enip_adapter.specs.Calls.Call.{Begins_peer, Feeds, Ends_peer, Ticks, Writes}
use Rattle.enip_adapter.specs.Runs.{after_calls, frames_of_peer, taken_by_call, taken_by_calls}
use Rattle.enip_adapter.specs.Runs.{GoesOn, Run, at_beginning, at_end, taken_in, frames_in, progress_of}
use Rattle.enip_adapter.specs.Serving.{is_open, is_peer_served}
use Rattle.enip_wire.proofs.ParsedLemmas.{then-cut, none-running}
use Rattle.enip_adapter.proofs.CutLemmas.{feed-open}
use Rattle.enip_adapter.proofs.ListLemmas.{next-none, numbers-none}
use Rattle.enip_adapter.proofs.OwnLemmas.{steps, steps-append, closing, Says, served_turn, served-open, says-call}
use Rattle.enip_adapter.proofs.OwnLemmas.{says-beginning, says-run, same-session, session_at_beginning, same-as}
use Rattle.enip_adapter.proofs.PeerLemmas.{at_state}
use Rattle.enip_wire.proofs.RunningLemmas.{IsRunning, bytes_taken-long, bytes_taken-within, parsed-running}
use Rattle.enip_adapter.proofs.SoundLemmas.{IsSound, sound-call, sound-calls, sound-shared, no-entry}
use Rattle.enip_adapter.proofs.StreamLemmas.{IsAt, Advances, advances-call, at-beginning}
use Rattle.enip_adapter.proofs.StreamLemmas.{cut-of-run}

-- No shorter front of what is taken of a piece completes anything.
running-front : (held piece front : List ℕ) (b : ℕ) (bs : List ℕ) → IsRunning held
    → take (bytes_taken held piece) piece ≡ front ++ b ∷ bs → IsRunning (held ++ front)
running-front held piece front b bs running e =
    let within : bytes_taken held piece ≤ length piece = bytes_taken-within held piece in
    let count : bytes_taken held piece ≡ length front + length (b ∷ bs)
    = sym (length-take (bytes_taken held piece) piece ∙ omega (arith, within))
    ∙ (ap length e ∙ length-append front (b ∷ bs)) in
    let size : length (held ++ front) ≡ length held + length front = length-append held front in
    let whole : held ++ take (bytes_taken held piece) piece ≡ (held ++ front) ++ b ∷ bs
    = ap (λ s. held ++ s) e ∙ sym (append_assoc held front (b ∷ bs)) in
    record {
      before = λ long.
          let says : number_at 2 2 (held ++ front) ≡ number_at 2 2 (held ++ piece)
          = sym (number_at-append (held ++ front) (b ∷ bs) (omega (arith, long)))
          ∙ (ap (λ s. number_at 2 2 s) (sym whole)
          ∙ (ap (λ s. number_at 2 2 s) (sym (take-append-add held piece (bytes_taken held piece)))
          ∙ number_at-take (length held + bytes_taken held piece) (held ++ piece) (omega (arith, long, size, count)))) in
          let ends : end_after (number_at 2 2 (held ++ front)) ≡ end_after (number_at 2 2 (held ++ piece))
          = ap end_after says in
          let taken : bytes_taken held piece
          ≡ min (end_after (number_at 2 2 (held ++ piece)) - length held) (length piece)
          = bytes_taken-long held piece (omega (arith, long, size, count, within)) in
          omega (arith, taken, count, size, ends);
    }

-- The stream, by its cut, leaves the session open.
record IsLive (base : Shared) (session : Session) (stream : List ℕ) : Type 0 where
  frames : List Frame
  rest : List ℕ
  cut : Cut stream frames rest
  alive : (closing (steps base session frames) (parsed rest)).closed ≡ false

no-byte : (front : List ℕ) (b : ℕ) (bs : List ℕ) → [] ≡ front ++ b ∷ bs → ⊥
no-byte [] b bs e = cc
no-byte (x ∷ front) b bs e = cc

-- A byte of its own piece is taken while the peer is open.
live-own : (base : Shared) (a : AdapterState) (now peer : ℕ) (piece : List ℕ) (session : Session) → IsSound a
    → Says base peer session [] a
    → (front : List ℕ) (b : ℕ) (bs : List ℕ)
    → take (call_meaning a (Feeds now peer piece)).taken piece ≡ front ++ b ∷ bs
    → IsLive base session (bytes_held a.held peer ++ front)
live-own base a now peer piece session sound says front b bs e =
    by_close (closing session (parsed (bytes_held a.held peer))) says refl _ refl
  where
    by_close : (found : Session) → session_of a.state peer ≡ Some found
        → closing session (parsed (bytes_held a.held peer)) ≡ found
        → (c : Bool) → found.closed ≡ c
        → IsLive base session (bytes_held a.held peer ++ front)
    by_close found at is true shut =
        let dropped : call_meaning a (Feeds now peer piece) ≡ at_a_moment now (dropped_piece a.held)
        = ap (λ o. at_a_moment now (piece_to a.held peer piece o)) at
        ∙ ap (λ c. at_a_moment now
        (cond c (dropped_piece a.held) (piece_meaning a.held peer (bytes_held a.held peer) piece))) shut in
        absurd (no-byte front b bs (sym (ap (λ (m : Meaning). take m.taken piece) dropped) ∙ e))
    by_close found at is false alive =
        let ready : IsRunning (bytes_held a.held peer) = sound.ready peer found at alive in
        let none : parsed (bytes_held a.held peer) ≡ Incomplete = parsed-running (bytes_held a.held peer) ready in
        let same : session ≡ found = ap (closing session) (sym none) ∙ is in
        let taken : (call_meaning a (Feeds now peer piece)).taken ≡ bytes_taken (bytes_held a.held peer) piece
        = ap (λ (m : Meaning). m.taken)
        (feed-open a now peer piece (record { session = found; found = at; alive = alive })) in
        let running : IsRunning (bytes_held a.held peer ++ front)
        = running-front (bytes_held a.held peer) piece front b bs ready (ap (λ n. take n piece) (sym taken) ∙ e) in
        record {
          frames = [];
          rest = bytes_held a.held peer ++ front;
          cut = record {
            parts = refl;
            each = tt;
            no_more = none-running (bytes_held a.held peer ++ front) running;
          };
          alive = ap (λ x. (closing session x).closed) (parsed-running (bytes_held a.held peer ++ front) running)
              ∙ (ap (λ (p : Session). p.closed) same ∙ alive);
        }

live-call : (base : Shared) (peer : ℕ) (session : Session) (a : AdapterState) (c : Call) → IsSound a
    → Says base peer session [] a
    → (front : List ℕ) (b : ℕ) (bs : List ℕ) → taken_by_call peer a c ≡ front ++ b ∷ bs
    → IsLive base session (bytes_held a.held peer ++ front)
live-call base peer session a (Begins_peer rights group) sound says front b bs e = absurd (no-byte front b bs e)
live-call base peer session a (Feeds now other piece) sound says front b bs e = go (eqb other peer) refl e
  where
    go : (c : Bool) → eqb other peer ≡ c
        → cond c (take (call_meaning a (Feeds now other piece)).taken piece) [] ≡ front ++ b ∷ bs
        → IsLive base session (bytes_held a.held peer ++ front)
    go true t f =
        live-own base a now peer piece session sound says front b bs
        (subst (λ q. take (call_meaning a (Feeds now q piece)).taken piece ≡ front ++ b ∷ bs) (eqb-true other peer t) f)
    go false t f = absurd (no-byte front b bs f)
live-call base peer session a (Ends_peer other) sound says front b bs e = absurd (no-byte front b bs e)
live-call base peer session a (Ticks now) sound says front b bs e = absurd (no-byte front b bs e)
live-call base peer session a (Writes write) sound says front b bs e = absurd (no-byte front b bs e)

-- A byte of two joined lists belongs to the first or to the second.
data Split (xs more front : List ℕ) (b : ℕ) (bs : List ℕ) : Type 0 where
  Within : (x : ℕ) (rest : List ℕ) → xs ≡ front ++ x ∷ rest → Split xs more front b bs
  Past : (rest : List ℕ) → front ≡ xs ++ rest → more ≡ rest ++ b ∷ bs → Split xs more front b bs

split-next : (x y : ℕ) (xs more front : List ℕ) (b : ℕ) (bs : List ℕ) → x ≡ y → Split xs more front b bs
    → Split (x ∷ xs) more (y ∷ front) b bs
split-next x y xs more front b bs e (Within z rest f) = Within z rest cc
split-next x y xs more front b bs e (Past rest f g) =
    let longer : y ∷ front ≡ x ∷ (xs ++ rest) = cc in
    Past rest longer g

split : (xs more front : List ℕ) (b : ℕ) (bs : List ℕ) → xs ++ more ≡ front ++ b ∷ bs → Split xs more front b bs
split [] more front b bs e = Past front refl e
split (x ∷ xs) more [] b bs e = Within x xs refl
split (x ∷ xs) more (y ∷ front) b bs e =
    let head : x ≡ y = cc in
    let tail : xs ++ more ≡ front ++ b ∷ bs = cc in
    split-next x y xs more front b bs head (split xs more front b bs tail)

-- Each shorter front of what calls take leaves the session open.
live-calls : (base : Shared) (peer : ℕ) (session : Session) (bytes : List ℕ) (a : AdapterState) (calls : List Call)
    → IsSound a → IsAt peer bytes a.held → AllByRecursion (GoesOn peer) calls → Says base peer session [] a
    → (front : List ℕ) (b : ℕ) (bs : List ℕ) → taken_by_calls peer a calls ≡ front ++ b ∷ bs
    → IsLive base session (bytes ++ front)
live-calls base peer session bytes a [] sound at goes says front b bs e = absurd (no-byte front b bs e)
live-calls base peer session bytes a (c ∷ cs) sound at goes says front b bs e =
    go (split (taken_by_call peer a c) (taken_by_calls peer (after_call a c) cs) front b bs e)
    (advances-call peer bytes a c sound at goes.0)
    (λ left there rest f. live-calls base peer (steps base session (frames_of_peer peer (call_meaning a c).events)) left
    (after_call a c) cs (sound-call a c sound) there goes.1 (says-call base peer session a c sound goes.0 says)
    rest b bs f)
  where
    go : Split (taken_by_call peer a c) (taken_by_calls peer (after_call a c) cs) front b bs
        → Advances peer bytes (taken_by_call peer a c) (call_meaning a c)
        → ((left : List ℕ) → IsAt peer left (after_call a c).held → (rest : List ℕ)
        → taken_by_calls peer (after_call a c) cs ≡ rest ++ b ∷ bs
        → IsLive base (steps base session (frames_of_peer peer (call_meaning a c).events)) (left ++ rest))
        → IsLive base session (bytes ++ front)
    go (Within x rest f) step later =
        subst (λ h. IsLive base session (h ++ front)) (ap bytes_found at.found)
        (live-call base peer session a c sound says front x rest f)
    go (Past rest f g) step later =
        let live : IsLive base (steps base session (frames_of_peer peer (call_meaning a c).events)) (step.left ++ rest)
        = later step.left step.at rest g in
        record {
          frames = frames_of_peer peer (call_meaning a c).events ++ live.frames;
          rest = live.rest;
          cut = subst
              (λ s. Cut (bytes ++ s) (frames_of_peer peer (call_meaning a c).events ++ live.frames) live.rest) (sym f)
              (then-cut bytes (taken_by_call peer a c) rest step.left live.rest
              (frames_of_peer peer (call_meaning a c).events) live.frames step.parts step.each live.cut);
          alive = ap (λ s. (closing s (parsed live.rest)).closed)
              (steps-append base session (frames_of_peer peer (call_meaning a c).events) live.frames) ∙ live.alive;
        }

live-run : (base : Shared) (peer : ℕ) (run : Run peer) (front : List ℕ) (b : ℕ) (bs : List ℕ)
    → taken_in peer run ≡ front ++ b ∷ bs → IsLive base (session_at_beginning peer run) front
live-run base peer run front b bs e =
    from (after_calls (shared_adapter run.device run.listen run.limits run.shares) run.earlier)
    (sound-calls (shared_adapter run.device run.listen run.limits run.shares) run.earlier
    (sound-shared run.device run.listen run.limits run.shares)) run.begins e
  where
    from : (a : AdapterState) → IsSound a → (call_answer a (Begins_peer run.rights run.group)).output ≡ Begins peer
        → taken_by_calls peer (after_call a (Begins_peer run.rights run.group)) run.calls ≡ front ++ b ∷ bs
        → IsLive base (session_at_beginning peer run) front
    from a sound output taken =
        live-calls base peer (session_at_beginning peer run) [] (after_call a (Begins_peer run.rights run.group)) run.calls
        (sound-call a (Begins_peer run.rights run.group) sound)
        (at-beginning a.state run.rights run.group a.held peer
        (no-entry a a.state.next_handle sound.same
        (numbers-none (λ (p : Session). p.handle) a.state.next_handle a.state.peers
        (next-none a.state.next_handle _ sound.drawn))) output)
        run.goes_on (says-beginning base a run.rights run.group peer sound output) front b bs taken

-- Whether a peer is open depends on what it has become, and not on its rights and group.
abbrev is_open_by : Option (Bool × Bool) → Bool
is_open_by None = false
is_open_by (Some progress) = not progress.1

open-progress : (o : Option Session) → is_open o ≡ is_open_by (option_map progress_of o)
open-progress None = refl
open-progress (Some session) = refl

-- If a run has closed the peer, no run takes a byte more.
pub closed-last : (peer : ℕ) (r s : Run peer) (more : List ℕ) → is_peer_served (at_end peer r) peer ≡ false
    → taken_in peer s ≡ taken_in peer r ++ more
    → (more ≡ []) × (is_peer_served (at_end peer s) peer ≡ false)
closed-last peer r s [] shut e = (
  refl,
  open-progress (session_of (at_end peer s).state peer)
      ∙ (ap is_open_by (sym (same-session peer r s (sym (e ∙ append-nil (taken_in peer r)))))
      ∙ (sym (open-progress (session_of (at_end peer r).state peer)) ∙ shut)),
)
closed-last peer r s (b ∷ bs) shut e =
    let base : Shared = (at_beginning peer r).state.shared in
    let live : IsLive (at_beginning peer r).state.shared (session_at_beginning peer s) (taken_in peer r)
    = live-run (at_beginning peer r).state.shared peer s (taken_in peer r) b bs e in
    let one : (frames_in peer r ≡ live.frames) × (bytes_held (at_end peer r).held peer ≡ live.rest)
    = one_cut_lem (taken_in peer r) (frames_in peer r) live.frames (bytes_held (at_end peer r).held peer) live.rest
    (cut-of-run peer r) live.cut in
    let open_then : is_peer_served (at_end peer r) peer ≡ true
    = ap is_open (says-run (at_beginning peer r).state.shared peer r)
    ∙ (ap (λ fs. not
    (closing (steps (at_beginning peer r).state.shared (session_at_beginning peer r) fs)
    (parsed (bytes_held (at_end peer r).held peer))).closed) one.0
    ∙ (ap (λ h. not
    (closing (steps (at_beginning peer r).state.shared (session_at_beginning peer r) live.frames) (parsed h)).closed) one.1
    ∙ (ap (λ x. not x.1)
    (same-as (at_beginning peer r).state.shared peer r s live.frames (parsed live.rest))
    ∙ ap not live.alive))) in
    absurd (false≢true (sym shut ∙ open_then))

-- Of two fronts of one list, one is a front of the other.
data Fronts (xs ys : List ℕ) : Type 0 where
  First : (more : List ℕ) → ys ≡ xs ++ more → Fronts xs ys
  Second : (more : List ℕ) → xs ≡ ys ++ more → Fronts xs ys

fronts-next : (x y : ℕ) (xs ys : List ℕ) → x ≡ y → Fronts xs ys → Fronts (x ∷ xs) (y ∷ ys)
fronts-next x y xs ys e (First more f) = First more cc
fronts-next x y xs ys e (Second more f) = Second more cc

fronts : (xs ys rest later : List ℕ) → xs ++ rest ≡ ys ++ later → Fronts xs ys
fronts [] ys rest later e = First ys refl
fronts (x ∷ xs) [] rest later e = Second (x ∷ xs) refl
fronts (x ∷ xs) (y ∷ ys) rest later e =
    let head : x ≡ y = cc in
    let tail : xs ++ rest ≡ ys ++ later = cc in
    fronts-next x y xs ys head (fronts xs ys rest later tail)

pub closed-same : (peer : ℕ) (r s : Run peer) (rest later : List ℕ)
    → taken_in peer r ++ rest ≡ taken_in peer s ++ later
    → is_peer_served (at_end peer r) peer ≡ false → is_peer_served (at_end peer s) peer ≡ false
    → taken_in peer r ≡ taken_in peer s
closed-same peer r s rest later e shut closed = go (fronts (taken_in peer r) (taken_in peer s) rest later e)
  where
    go : Fronts (taken_in peer r) (taken_in peer s) → taken_in peer r ≡ taken_in peer s
    go (First more f) =
        sym (f ∙ (ap (λ m. taken_in peer r ++ m) (closed-last peer r s more shut f).0 ∙ append-nil (taken_in peer r)))
    go (Second more f) =
        f ∙ (ap (λ m. taken_in peer s ++ m) (closed-last peer s r more closed f).0 ∙ append-nil (taken_in peer s))

-- An answer closes exactly if the peer is closed after it.
twice-not : (b : Bool) → b ≡ not (not b)
twice-not true = refl
twice-not false = refl

pub told-served : (s : State) (peer : ℕ) (serve : Session → Served) (session : Session) → session_of s peer ≡ Some session
    → session.closed ≡ false
    → (serve_found s peer serve (session_of s peer)).answer.close
    ≡ not (is_open (session_of (serve_found s peer serve (session_of s peer)).state peer))
told-served s peer serve session e alive =
    ap (λ o. (serve_found s peer serve o).answer.close) e
    ∙ (ap (λ b. (cond b (turned s (NoReply NotServed) true) (served_turn s peer serve session)).answer.close) alive
    ∙ (twice-not (serve session).reaction.close
    ∙ ap (λ o. not (is_open o)) (sym (served-open s peer serve session e alive))))

told-parsed_frame : (s : State) (peer : ℕ) (session : Session) (x : Parsed) (m : Meaning) → session_of s peer ≡ Some session
    → session.closed ≡ false → (now : ℕ)
    → (answer_of s (at_a_moment now (record m { events = events_of_parsed peer x; dropped = false }))).close
    ≡ not (is_open (session_of (after (at_state s now) (events_of_parsed peer x)) peer))
told-parsed_frame s peer session Incomplete m e alive now = sym
    (ap (λ o. not (is_open o)) e ∙ ap (λ b. not (not b)) alive)
told-parsed_frame s peer session (WholeFrame f) m e alive now =
    told-served (at_state s now) peer (λ p. command_served (at_state s now).shared p f) session e alive
told-parsed_frame s peer session (TooLongHeader h) m e alive now =
    told-served (at_state s now) peer (λ p. leaving (at_state s now).shared (long_refused p h)) session e alive

pub closed-told : (a : AdapterState) (now peer : ℕ) (piece : List ℕ)
    → (call_answer a (Feeds now peer piece)).close
    ≡ not (is_peer_served (after_call a (Feeds now peer piece)) peer)
closed-told a now peer piece = go (session_of a.state peer) refl
  where
    by_close : (session : Session) → session_of a.state peer ≡ Some session → (b : Bool) → session.closed ≡ b
        → (answer_of a.state (at_a_moment now
        (cond b (dropped_piece a.held) (piece_meaning a.held peer (bytes_held a.held peer) piece)))).close
        ≡ not (is_open (session_of (after a.state (at_a_moment now
        (cond b (dropped_piece a.held) (piece_meaning a.held peer (bytes_held a.held peer) piece))).events) peer))
    by_close session e true shut = sym (ap (λ o. not (is_open o)) e ∙ ap (λ b. not (not b)) shut)
    by_close session e false alive =
        told-parsed_frame a.state peer session (parsed (held_and_taken (bytes_held a.held peer) piece))
        (piece_meaning a.held peer (bytes_held a.held peer) piece) e alive now

    go : (o : Option Session) → session_of a.state peer ≡ o
        → (answer_of a.state (at_a_moment now (piece_to a.held peer piece o))).close
        ≡ not (is_open (session_of (after a.state (at_a_moment now (piece_to a.held peer piece o)).events) peer))
    go None e = sym (ap (λ o. not (is_open o)) e)
    go (Some session) e = by_close session e session.closed refl
