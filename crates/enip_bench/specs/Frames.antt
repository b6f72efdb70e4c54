-- Frames that follow each other in one block.
use Rattle.std.specs.Prelude.{ℕ, ◌≤◌, List, [], ◌∷◌, length, slice_range}
use Rattle.enip_bench.specs.declared.frames.Span.{Span}

-- the frames by position, and the spare capacity: for how many more frames, and for how many bytes
pub record FramesState : Type 0 where
  pub frames : List (List ℕ)
  pub places : ℕ
  pub spare : ℕ

-- the bytes of a span
abbrev pub part_of : List ℕ → Span → List ℕ
part_of block span = slice_range block span.start span.end

-- each span is within the block
abbrev pub LieWithin : List ℕ → List Span → Type 0
LieWithin block [] = Unit {0}
LieWithin block (span ∷ spans) = (span.start ≤ span.end) × (span.end ≤ length block) × LieWithin block spans
