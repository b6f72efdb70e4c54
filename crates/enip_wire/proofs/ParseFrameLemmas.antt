-- What a reader holds after a piece, and what it shows.
use Rattle.std.proofs.Common.{◌≡◌, ℕ, ◌+◌, ◌-◌, ◌<◌, ◌≤◌, inl, inr, List, ◌++◌, length, take, drop, sym, ap, subst, ◌∙◌, arith, length-take, length-drop}
use Rattle.std.proofs.lemmas.List.{take-append-drop, take_at, take-take, drop-take}
use Rattle.std.proofs.lemmas.Bool.Decides.{nat_tests}
use Rattle.byteorder.specs.Numbers.{little_from-take}
use Rattle.enip_wire.specs.declared.header.Header.{Header}
use Rattle.cip_bytes.specs.Numbers.{number_at, AreBytes}
use Rattle.enip_wire.specs.Headers.{header_spelling, header_at, IsHeader}
use Rattle.enip_wire.specs.Frames.{Frame, frame, IsFrame, IsTooLong, IsComplete}
use Rattle.enip_wire.specs.Stream.{parsed}
use Rattle.enip_wire.specs.Stream.Parsed.{Incomplete, WholeFrame, TooLongHeader}
use Rattle.enip_wire.proofs.HeaderLemmas.{same_header}
use Rattle.enip_wire.proofs.FrameLemmas.{Sized, Sized-whole, IsHeader-header_at}

pub same_frame : {h k : Header} {b c : List ℕ} → h ≡ k → b ≡ c
    → ◌≡◌ {A = Frame} (record { header = h; body = b }) (record { header = k; body = c })
same_frame p q = cc

-- a buffer whose front was overwritten
pub placed : (len n size : ℕ) (items new piece rest : List ℕ) → n ≤ length piece → length new ≡ size
    → take (len + length (take n piece)) new ≡ take len items ++ take n piece
    → take (len + n) (take size (new ++ rest)) ≡ take len items ++ take n piece
placed len n size items new piece rest within whole e =
    let all : take size (new ++ rest) ≡ new = take_at new rest size whole in
    let taken : length (take n piece) ≡ n = length-take n piece ∙ omega arith in
    ap (take (len + n)) all ∙ ap (λ k. take (len + k) new) (sym taken) ∙ e

pub header_at-take : (bytes : List ℕ) → header_at (take 24 bytes) ≡ header_at bytes
header_at-take bytes =
    same_header (little_from-take 0 2 24 bytes (omega arith)) (little_from-take 2 2 24 bytes (omega arith))
    (little_from-take 4 4 24 bytes (omega arith)) (little_from-take 8 4 24 bytes (omega arith))
    (ap (take 8) (drop-take 12 12 bytes) ∙ take-take 8 12 (drop 12 bytes) (omega arith))
    (little_from-take 20 4 24 bytes (omega arith))

pub parse_frame-long : (bytes head : List ℕ) (h : Header) → head ≡ take 24 bytes → 24 ≤ length bytes → h ≡ header_at head
    → 65511 < h.length → IsTooLong bytes × (h ≡ header_at bytes)
parse_frame-long bytes head h front long is over =
    let same : h ≡ header_at bytes = is ∙ ap header_at front ∙ header_at-take bytes in
    let says : h.length ≡ number_at 2 2 bytes = ap (λ x. x.length) same in
    (record { header = long; over = omega (arith, says) }, same)

pub parse_frame-whole : (bytes head body : List ℕ) (h : Header) → head ≡ take 24 bytes → body ≡ drop 24 bytes
    → 24 ≤ length bytes → AreBytes bytes → h ≡ header_at head → header_spelling h ≡ head → h.length ≤ 65511
    → length body ≡ h.length
    → IsFrame (record { header = h; body = body }) × (bytes ≡ frame (record { header = h; body = body }))
parse_frame-whole bytes head body h front back long fits is spelled within counted = (
  record {
    fields = subst IsHeader (sym (is ∙ ap header_at front ∙ header_at-take bytes)) (IsHeader-header_at bytes long fits);
    counted = counted;
    within = within;
  },
  sym (take-append-drop 24 bytes) ∙ ap (λ r. r ++ drop 24 bytes) (sym (spelled ∙ front))
      ∙ ap (λ r. header_spelling h ++ r) (sym back),
)

pub parse_frame-more : (bytes head body : List ℕ) (h : Header) → head ≡ take 24 bytes → body ≡ drop 24 bytes
    → h ≡ header_at head → h.length ≤ 65511 → (length body ≡ h.length → ⊥) → IsComplete bytes → ⊥
parse_frame-more bytes head body h front back is within differs (inl whole) =
    let s : Sized bytes = Sized-whole bytes whole in
    let says : h.length ≡ number_at 2 2 bytes = ap (λ x. x.length) (is ∙ ap header_at front ∙ header_at-take bytes) in
    differs (ap length back ∙ length-drop 24 bytes ∙ (omega (arith, says, s.total)))
parse_frame-more bytes head body h front back is within differs (inr over) =
    let says : h.length ≡ number_at 2 2 bytes = ap (λ x. x.length) (is ∙ ap header_at front ∙ header_at-take bytes) in
    omega (arith, says, over.over)

pub parsed-short : (bytes : List ℕ) → length bytes < 24 → parsed bytes ≡ Incomplete
parsed-short bytes short = grind (arith, nat_tests)

pub parsed-long : (bytes : List ℕ) → 24 ≤ length bytes → 65511 < number_at 2 2 bytes
    → parsed bytes ≡ TooLongHeader (header_at bytes)
parsed-long bytes long over = grind (arith, nat_tests)

pub parsed-frame : (bytes : List ℕ) → 24 ≤ length bytes → number_at 2 2 bytes ≤ 65511
    → length bytes ≡ 24 + number_at 2 2 bytes
    → parsed bytes ≡ WholeFrame (record { header = header_at bytes; body = drop 24 bytes })
parsed-frame bytes long within total = grind (arith, nat_tests)

pub kind-long : (bytes : List ℕ) (h : Header) → IsTooLong bytes × (h ≡ header_at bytes) → TooLongHeader h ≡ parsed bytes
kind-long bytes h p = ap TooLongHeader p.1 ∙ sym (parsed-long bytes p.0.header p.0.over)

pub kind-whole : (bytes head body : List ℕ) (h : Header) → head ≡ take 24 bytes → body ≡ drop 24 bytes
    → 24 ≤ length bytes → h ≡ header_at head → h.length ≤ 65511 → length body ≡ h.length
    → WholeFrame (record { header = h; body = body }) ≡ parsed bytes
kind-whole bytes head body h front back long is within counted =
    let same : h ≡ header_at bytes = is ∙ ap header_at front ∙ header_at-take bytes in
    let says : h.length ≡ number_at 2 2 bytes = ap (λ x. x.length) same in
    let size : length body ≡ length bytes - 24 = ap length back ∙ length-drop 24 bytes in
    let one : ◌≡◌ {A = Frame} (record { header = h; body = body }) (record { header = header_at bytes; body = drop 24 bytes })
    = same_frame same back in
    ap WholeFrame one ∙ sym (parsed-frame bytes long (omega (arith, says)) (omega (arith, says, size)))

-- bytes that are laid behind those that are held leave them
pub kept_before : (len n size : ℕ) (items new piece rest : List ℕ) → n ≤ length piece → length new ≡ size → len ≤ length items
    → take (len + length (take n piece)) new ≡ take len items ++ take n piece
    → take len (take size (new ++ rest)) ≡ take len items
kept_before len n size items new piece rest within whole room e =
    let all : take size (new ++ rest) ≡ new = take_at new rest size whole in
    let size_is : length (take len items) ≡ len = length-take len items ∙ omega arith in
    ap (take len) all
    ∙ sym (take-take len (len + length (take n piece)) new (omega arith))
    ∙ ap (take len) e
    ∙ take_at (take len items) (take n piece) len size_is
