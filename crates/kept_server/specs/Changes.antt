-- What has changed of the entries of a device, and what a commit of the changes makes of what is kept.
use Rattle.std.specs.Prelude.{ℕ, ◌≢◌, ◌^◌, ◌&&◌, ◌==◌, nat_lt, bytes_eq, if◌then◌else◌, Bool, true, false}
use Rattle.std.specs.Prelude.{List, [], ◌∷◌, length, drop, map}
use Rattle.std.specs.List.{list_all, list_any}
use Rattle.enip_keep.specs.Kept.{Kept, set_all}

-- The keys of entries, in their order.
abbrev pub keys_of : Kept → List ℕ
keys_of entries = map (λ entry. entry.0) entries

-- These keys rise, all of them above this one.
abbrev pub rise_above : ℕ → List ℕ → Bool
rise_above key [] = true
rise_above key (next ∷ keys) = nat_lt key next && rise_above next keys

abbrev pub rise : List ℕ → Bool
rise [] = true
rise (key ∷ keys) = rise_above key keys

-- Each entry is small enough to be kept.
abbrev pub is_small : ℕ × List ℕ → Bool
is_small entry = nat_lt entry.0 (2 ^ 63) && nat_lt (length entry.1) (2 ^ 16)

abbrev pub are_small : Kept → Bool
are_small entries = list_all is_small entries

-- The changes from some entries to others under the same keys: an entry that is left out is the same.
pub data AreChanges : Kept → Kept → Kept → Type 0 where
  No_entry : AreChanges [] [] []
  Is_same : {old new changes : Kept} {entry : ℕ × List ℕ} → AreChanges old new changes
      → AreChanges (entry ∷ old) (entry ∷ new) changes
  Differs : {old new changes : Kept} {key : ℕ} {before after : List ℕ} → before ≢ after → AreChanges old new changes
      → AreChanges ((key, before) ∷ old) ((key, after) ∷ new) ((key, after) ∷ changes)

-- ---- entries that wait

-- Marks say of entries, in their order, which of them wait: such an entry is not kept yet, and what was found under its
-- key stays. The entries with these keys wait.
abbrev pub waiting_for : List ℕ → Kept → List Bool
waiting_for keys entries = map (λ entry. list_any (λ key. key == entry.0) keys) entries

abbrev pub is_marked : List Bool → Bool
is_marked [] = false
is_marked (mark ∷ marks) = mark

-- The first entries have the same bytes, or there is no such entry.
abbrev pub same_first : Kept → Kept → Bool
same_first [] new = true
same_first (before ∷ old) [] = true
same_first (before ∷ old) (after ∷ new) = bytes_eq before.1 after.1

-- An entry waits as long as its bytes stay the same.
abbrev pub still_waiting : List Bool → Kept → Kept → List Bool
still_waiting [] old new = []
still_waiting (waits ∷ marks) old new = (waits && same_first old new) ∷ still_waiting marks (drop 1 old) (drop 1 new)

-- The entries that do not wait.
abbrev pub without_waiting : List Bool → Kept → Kept
without_waiting marks [] = []
without_waiting marks (entry ∷ entries) =
    let others = without_waiting (drop 1 marks) entries in
    if is_marked marks then others else entry ∷ others

-- ---- what is kept

-- What is kept: what was found, and over it the entries that do not wait. Entries that were found under other keys stay.
abbrev pub kept_over : List Bool → Kept → Kept → Kept
kept_over marks entries found = set_all (without_waiting marks entries) found

-- What is to be kept: that of the last commit if nothing was saved since, otherwise what was.
abbrev pub newest : {A : Type 0} → Bool → A → A → A
newest true kept current = kept
newest false kept current = current
