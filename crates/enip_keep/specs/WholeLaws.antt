-- What the checksum shows.
use Rattle.std.specs.Prelude.{◌≡◌, ◌≢◌, ◌<◌, ◌^◌, ℕ, true, false, List, ◌∷◌, ◌++◌}
use Rattle.std.specs.List.{AllByRecursion}
use Rattle.cip_bytes.specs.Numbers.{AreBytes}
use Rattle.enip_keep.specs.Kept.{Kept}
use Rattle.enip_keep.specs.Rounds.{is_whole}

-- If entries are whole, they are not whole with another byte in place of one byte of an entry of the device.
abbrev pub byte_law : Type 0
byte_law =
    (before after : Kept) (key : ℕ) (first last : List ℕ) (byte other : ℕ) → 0 < key → byte ≢ other
    → AreBytes (first ++ byte ∷ last) → other < 2 ^ 8 → AllByRecursion (λ entry. AreBytes entry.1) after
    → is_whole (before ++ (key, first ++ byte ∷ last) ∷ after) ≡ true
    → is_whole (before ++ (key, first ++ other ∷ last) ∷ after) ≡ false

-- Nor with another byte in place of one byte of the entry of the round, which is the first.
abbrev pub round_byte_law : Type 0
round_byte_law =
    (after : Kept) (first last : List ℕ) (byte other : ℕ) → byte ≢ other
    → AreBytes (first ++ byte ∷ last) → other < 2 ^ 8 → AllByRecursion (λ entry. AreBytes entry.1) after
    → is_whole ((0, first ++ byte ∷ last) ∷ after) ≡ true
    → is_whole ((0, first ++ other ∷ last) ∷ after) ≡ false
