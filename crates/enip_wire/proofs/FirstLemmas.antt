-- A frame at the front of a piece, when nothing is held.
use Rattle.std.proofs.Common.{◌≡◌, ℕ, ◌+◌, ◌-◌, ◌<◌, ◌≤◌, min, List, [], length, take, drop, sym, ap, ◌∙◌, arith, length-take, length-drop}
use Rattle.std.proofs.lemmas.List.{take-take, drop-take}
use Rattle.enip_wire.specs.declared.header.Header.{Header}
use Rattle.cip_bytes.specs.Numbers.{number_at, AreBytes}
use Rattle.cip_bytes.proofs.Bytes.{AreBytes-take}
use Rattle.enip_wire.specs.Headers.{header_spelling, header_at}
use Rattle.enip_wire.specs.Frames.{Frame, frame, IsFrame, end_after}
use Rattle.enip_wire.specs.Stream.{IsAtMostOneFrame, bytes_taken, held_and_taken, parsed, IsTakenFirst}
use Rattle.enip_wire.specs.Stream.Parsed.{WholeFrame, TooLongHeader}
use Rattle.enip_wire.proofs.FrameLemmas.{end_after-within, end_after-over, number_at-take}
use Rattle.enip_wire.proofs.TakeLemmas.{Takes-count}
use Rattle.enip_wire.proofs.RunningLemmas.{bytes_taken-long}
use Rattle.enip_wire.proofs.ParseFrameLemmas.{header_at-take, parse_frame-whole, kind-whole, parsed-long}

-- the header decides where the frame ends
says-length : (piece : List ℕ) (h : Header) → h ≡ header_at (take 24 piece) → number_at 2 2 piece ≡ h.length
says-length piece h is = sym (ap (λ x. x.length) (is ∙ header_at-take piece))

-- No whole frame is at the front.

pub none-long : (piece : List ℕ) (h : Header) → 24 ≤ length piece → h ≡ header_at (take 24 piece) → 65511 < h.length
    → (f : Frame) → parsed (held_and_taken [] piece) ≡ WholeFrame f → ⊥
none-long piece h long is over f e =
    let says : number_at 2 2 piece ≡ h.length = says-length piece h is in
    let number : bytes_taken [] piece ≡ 24
    = bytes_taken-long [] piece (omega (arith, long)) ∙ omega (arith, end_after-over (number_at 2 2 piece) (omega (arith, says, over))) in
    let size : length (take (bytes_taken [] piece) piece) ≡ 24
    = length-take (bytes_taken [] piece) piece ∙ omega (arith, number, long) in
    let same : number_at 2 2 (take (bytes_taken [] piece) piece) ≡ number_at 2 2 piece
    = number_at-take (bytes_taken [] piece) piece (omega (arith, number)) in
    let bad : TooLongHeader (header_at (held_and_taken [] piece)) ≡ WholeFrame f
    = sym (parsed-long (held_and_taken [] piece) (omega (arith, size)) (omega (arith, same, says, over))) ∙ e in
    cc

-- A whole frame is at the front: its bytes are those that are taken.

body-size : (piece body : List ℕ) (n : ℕ) → 24 + n ≤ length piece → body ≡ take n (drop 24 piece) → length body ≡ n
body-size piece body n whole is =
    ap length is ∙ length-take n (drop 24 piece) ∙ omega (arith, length-drop 24 piece, whole)

head-same : (piece : List ℕ) (n : ℕ) → take 24 piece ≡ take 24 (take (24 + n) piece)
head-same piece n = sym (take-take 24 (24 + n) piece (omega arith))

body-same : (piece body : List ℕ) (n : ℕ) → 24 + n ≤ length piece → body ≡ take n (drop 24 piece)
    → body ≡ drop 24 (take (24 + length body) piece)
body-same piece body n whole is =
    is ∙ sym (drop-take 24 n piece)
    ∙ ap (λ k. drop 24 (take (24 + k) piece)) (sym (body-size piece body n whole is))

long-front : (piece : List ℕ) (n : ℕ) → 24 + n ≤ length piece → 24 ≤ length (take (24 + n) piece)
long-front piece n whole = omega (arith, length-take (24 + n) piece, whole)

pub first-taken : (piece body : List ℕ) (h : Header) → AreBytes piece → 24 ≤ length piece → h ≡ header_at (take 24 piece)
    → h.length ≤ 65511 → 24 + h.length ≤ length piece → body ≡ take h.length (drop 24 piece)
    → IsTakenFirst piece (24 + length body)
first-taken piece body h fits long is within whole back =
    let says : number_at 2 2 piece ≡ h.length = says-length piece h is in
    let size : length body ≡ h.length = body-size piece body h.length whole back in
    let end : end_after (number_at 2 2 piece) ≡ 24 + h.length
    = ap end_after says ∙ end_after-within h.length within in
    let count : 24 + length body ≡ min (end_after (number_at 2 2 piece) - 0) (length piece)
    = omega (arith, size, end, whole) in
    let fresh : IsAtMostOneFrame [] = record { running = λ k below. absurd (omega (arith, below)) } in
    record {
      takes = Takes-count [] piece (24 + length body) (AreBytes-take 0 piece fits) fits fresh (omega (arith, long)) count;
      number = count ∙ sym (bytes_taken-long [] piece (omega (arith, long)));
      bound = omega (arith, size, within);
    }

pub first-shown : (piece body : List ℕ) (h : Header) → AreBytes piece → 24 ≤ length piece → h ≡ header_at (take 24 piece)
    → header_spelling h ≡ take 24 piece → h.length ≤ 65511 → 24 + h.length ≤ length piece
    → body ≡ take h.length (drop 24 piece)
    → IsFrame (record { header = h; body = body })
    × (take (24 + length body) piece ≡ frame (record { header = h; body = body }))
first-shown piece body h fits long is spelled within whole back =
    let size : length body ≡ h.length = body-size piece body h.length whole back in
    parse_frame-whole (take (24 + length body) piece) (take 24 piece) body h (head-same piece (length body))
    (body-same piece body h.length whole back) (long-front piece (length body) (omega (arith, size, whole)))
    (AreBytes-take (24 + length body) piece fits) is spelled within size

pub first-kind : (piece body : List ℕ) (h : Header) → 24 ≤ length piece → h ≡ header_at (take 24 piece)
    → h.length ≤ 65511 → 24 + h.length ≤ length piece → body ≡ take h.length (drop 24 piece)
    → WholeFrame (record { header = h; body = body }) ≡ parsed (take (24 + length body) piece)
first-kind piece body h long is within whole back =
    let size : length body ≡ h.length = body-size piece body h.length whole back in
    kind-whole (take (24 + length body) piece) (take 24 piece) body h (head-same piece (length body))
    (body-same piece body h.length whole back) (long-front piece (length body) (omega (arith, size, whole))) is within size
