-- Frames that follow each other in one block.
use Rattle.std.proofs.Common.{◌≡◌, ℕ, zero, suc, ◌+◌, ◌-◌, ◌≤◌, ◌<◌, Some, None, List, [], ◌∷◌, ◌++◌, map, length}
use Rattle.std.proofs.Common.{take, drop, slice_get, get_or, refl, ap, ap₂, sym, ◌∙◌, subst, arith}
use Rattle.std.proofs.Math.Seq.{drop-append_seam}
use Rattle.std.proofs.lemmas.List.{take-append-le, drop-append-le, length-append, length-drop, take_all}
use Rattle.enip_bench.specs.Frames.{part_of, LieWithin}
use Rattle.enip_bench.specs.declared.frames.Span.{Span}
use Rattle.enip_bench.proofs.PositionLemmas.{map-push}

-- a span within a block has the same bytes in a longer block
part-kept : (block more : List ℕ) (span : Span) → span.start ≤ span.end → span.end ≤ length block →
    part_of (block ++ more) span ≡ part_of block span
part-kept block more span rises within =
    ap (take (span.end - span.start)) (drop-append-le span.start block more (omega (arith, rises, within)))
    ∙ take-append-le (span.end - span.start) (drop span.start block) more
    (omega (arith, length-drop span.start block, rises, within))

parts-kept : (block more : List ℕ) (spans : List Span) → LieWithin block spans →
    map (part_of (block ++ more)) spans ≡ map (part_of block) spans
parts-kept block more [] lie = refl
parts-kept block more (span ∷ spans) lie =
    ap₂ (λ x xs. x ∷ xs) (part-kept block more span lie.0 lie.1) (parts-kept block more spans lie.2)

still-within : (block more : List ℕ) (spans : List Span) → LieWithin block spans → LieWithin (block ++ more) spans
still-within block more [] lie = lie
still-within block more (span ∷ spans) lie =
    (lie.0, omega (arith, lie.1, length-append block more), still-within block more spans lie.2)

one-more-within : (block : List ℕ) (spans : List Span) (span : Span) → LieWithin block spans → span.start ≤ span.end →
    span.end ≤ length block → LieWithin block (spans ++ span ∷ [])
one-more-within block [] span lie rises within = (rises, within, lie)
one-more-within block (first ∷ spans) span lie rises within =
    (lie.0, lie.1, one-more-within block spans span lie.2 rises within)

-- the bytes appended to a block
part-behind : (block more : List ℕ) (span : Span) → span.start ≡ length block → span.end ≡ length block + length more →
    part_of (block ++ more) span ≡ more
part-behind block more span start end =
    ap₂ (λ a b. take (b - a) (drop a (block ++ more))) start end
    ∙ ap (take (length block + length more - length block)) (drop-append_seam block more)
    ∙ take_all (length block + length more - length block) more (omega arith)

-- a frame is appended
pub frame_put : (block more all : List ℕ) (spans : List Span) (span : Span) → LieWithin block spans →
    all ≡ block ++ more → span.start ≡ length block → span.end ≡ length block + length more →
    map (part_of all) (spans ++ span ∷ []) ≡ map (part_of block) spans ++ more ∷ []
frame_put block more all spans span lie is start end =
    ap (λ b. map (part_of b) (spans ++ span ∷ [])) is
    ∙ (map-push (part_of (block ++ more)) spans span
    ∙ ap₂ (λ xs x. xs ++ x ∷ []) (parts-kept block more spans lie) (part-behind block more span start end))

pub within_put : (block more all : List ℕ) (spans : List Span) (span : Span) → LieWithin block spans →
    all ≡ block ++ more → span.start ≡ length block → span.end ≡ length block + length more →
    LieWithin all (spans ++ span ∷ [])
within_put block more all spans span lie is start end =
    subst (λ b. LieWithin b (spans ++ span ∷ [])) (sym is)
    (one-more-within (block ++ more) spans span (still-within block more spans lie) (omega (arith, start, end))
    (omega (arith, end, length-append block more)))

-- the span at a position is within the block
pub lies_at : (block : List ℕ) (spans : List Span) (k : ℕ) (span : Span) → LieWithin block spans → k < length spans →
    span ≡ get_or spans k span → (span.start ≤ span.end) × (span.end ≤ length block)
lies_at block [] k span lie below is = absurd (omega (arith, below))
lies_at block (first ∷ spans) zero span lie below is =
    subst (λ (s : Span). (s.start ≤ s.end) × (s.end ≤ length block)) (sym is) (lie.0, lie.1)
lies_at block (first ∷ spans) (suc k) span lie below is = lies_at block spans k span lie.2 (omega (arith, below)) is

pub got : (f : Span → List ℕ) (spans : List Span) (k : ℕ) (span : Span) → k < length spans →
    span ≡ get_or spans k span → Some (f span) ≡ slice_get (map f spans) k
got f [] k span below is = absurd (omega (arith, below))
got f (first ∷ spans) zero span below is = ap (λ s. Some (f s)) is
got f (first ∷ spans) (suc k) span below is = got f spans k span (omega (arith, below)) is

pub none_there : (f : Span → List ℕ) (spans : List Span) (k : ℕ) → length spans ≤ k → None ≡ slice_get (map f spans) k
none_there f [] k past = refl
none_there f (first ∷ spans) zero past = absurd (omega (arith, past))
none_there f (first ∷ spans) (suc k) past = none_there f spans k (omega (arith, past))
