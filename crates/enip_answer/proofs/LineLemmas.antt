use Rattle.std.proofs.Common.{◌≡◌, ℕ, false, inr, List, ◌∷◌}
use Rattle.enip_answer.specs.declared.peer_number.PeerNumber.{PeerNumber}
use Rattle.enip_answer.specs.Lines.{digit, spells_bytes, IsRefusedLine}

-- A piece that spells no byte is refused.
pub piece_refused : (text : List ℕ) (number : PeerNumber) (piece : List ℕ) → text ≡ digit number ∷ 32 ∷ piece → spells_bytes piece ≡ false → IsRefusedLine text
piece_refused text number piece says none = inr (number, (piece, (says, none)))
