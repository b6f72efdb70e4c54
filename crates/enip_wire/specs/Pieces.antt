use Rattle.std.specs.Prelude.{ℕ, List, [], ◌∷◌, ◌≡◌, ◌++◌, length, take, drop}
use Rattle.std.specs.List.{concat}
use Rattle.enip_wire.specs.Frames.{Frame, frame, IsFrame, IsTooLong, IsComplete}
use Rattle.enip_wire.specs.Stream.{Takes}

-- A reader that holds some bytes is given these pieces, by repeated `push`, `state` and `clear`. It shows these
-- frames, and these bytes are left: those that it holds in the end, or everything from a too long header on.
pub data Reads : List ℕ → List (List ℕ) → List Frame → List ℕ → Type 0 where
  -- No piece is left.
  Ended : {held : List ℕ} → Reads held [] [] held
  -- The whole piece is taken, and what is held is not yet a frame.
  Waited : {held piece rest : List ℕ} {pieces : List (List ℕ)} {frames : List Frame}
      → Takes held piece (length piece) → (IsComplete (held ++ piece) → ⊥) → Reads (held ++ piece) pieces frames rest
      → Reads held (piece ∷ pieces) frames rest
  -- A frame is shown and cleared, and the rest of the piece is pushed.
  Showed : {held piece rest : List ℕ} {pieces : List (List ℕ)} {frames : List Frame} {f : Frame} {n : ℕ}
      → Takes held piece n → IsFrame f → held ++ take n piece ≡ frame f → Reads [] (drop n piece ∷ pieces) frames rest
      → Reads held (piece ∷ pieces) (f ∷ frames) rest
  -- A too long header is held, and nothing more is taken.
  Stayed : {held piece : List ℕ} {pieces : List (List ℕ)} {n : ℕ}
      → Takes held piece n → IsTooLong (held ++ take n piece)
      → Reads held (piece ∷ pieces) [] (held ++ piece ++ concat pieces)
