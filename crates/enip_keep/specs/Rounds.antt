-- The number of the last round, which is kept under a key of its own, with a checksum of everything that is kept.
use Rattle.std.specs.Prelude.{◌≡◌, ◌≤◌, ℕ, ◌==◌, nat_le, not, ◌&&◌, Bool, true, if◌then◌else◌}
use Rattle.std.specs.Prelude.{List, [], ◌∷◌, ◌++◌, length, filter, drop}
use Rattle.std.specs.List.{flat_map}
use Rattle.byteorder.specs.Endian.{little_bytes, little_number}
use Rattle.saved_state.specs.Checksum.{checksum}
use Rattle.enip_keep.specs.Kept.{Kept}

-- all entries but that of the round
abbrev pub without_round : Kept → Kept
without_round kept = filter (λ entry. not (entry.0 == 0)) kept

-- none of these entries is that of the round
abbrev pub are_of_device : Kept → Bool
are_of_device [] = true
are_of_device (entry ∷ kept) = not (entry.0 == 0) && are_of_device kept

-- ---- the number

-- the bytes under the key of the round, none if they are not kept
abbrev pub round_bytes_in : Kept → List ℕ
round_bytes_in [] = []
round_bytes_in (entry ∷ kept) = if entry.0 == 0 then entry.1 else round_bytes_in kept

-- the number in the first eight bytes
abbrev pub round_of_bytes : List ℕ → ℕ
round_of_bytes bytes = if nat_le 8 (length bytes) then little_number 8 bytes else 0

-- the number of the last round, 0 before the first
abbrev pub round_in : Kept → ℕ
round_in kept = round_of_bytes (round_bytes_in kept)

-- ---- the checksum

-- An entry as bytes: its key, how many bytes it has, and these bytes. Nothing for that of the round.
abbrev pub entry_bytes : ℕ × List ℕ → List ℕ
entry_bytes entry =
    if entry.0 == 0 then [] else little_bytes 8 entry.0 ++ (little_bytes 8 (length entry.1) ++ entry.1)

-- the checksum of a round: of its number and of all entries but its own, in their order
unfoldable pub checksum_of : ℕ → Kept → ℕ
checksum_of round kept = checksum (little_bytes 8 round ++ flat_map entry_bytes kept)

-- what is kept under the key of the round: its number and the checksum
abbrev pub round_bytes : ℕ → Kept → List ℕ
round_bytes round kept = little_bytes 8 round ++ little_bytes 8 (checksum_of round kept)

-- these bytes are a number, and its checksum with these entries
abbrev pub has_checksum : List ℕ → Kept → Bool
has_checksum bytes kept =
    (length bytes == 16) && (little_number 8 (drop 8 bytes) == checksum_of (round_of_bytes bytes) kept)

-- Nothing is kept yet, or the checksum is right. So an entry that is damaged, lost or added shows.
abbrev pub is_whole : Kept → Bool
is_whole [] = true
is_whole (entry ∷ kept) = has_checksum (round_bytes_in (entry ∷ kept)) (entry ∷ kept)

-- A keeper that numbers its commits knows this of what is kept: the entries of the device, whether all is whole, and a
-- number that is not below that of the last round.
pub record IsLoaded (kept device : Kept) (number : ℕ) (flag : Bool) : Type 0 where
  pub entries : device ≡ without_round kept
  pub round : round_in kept ≤ number
  pub whole : flag ≡ is_whole kept
