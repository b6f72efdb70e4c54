-- The entry of the round beside those of the device.
use Rattle.std.proofs.Common.{ℕ, ◌≡◌, ◌<◌, List, [], ◌∷◌, ◌++◌, Bool, true, false, not, eqb, refl, sym, ap, ◌∙◌, arith}
use Rattle.std.proofs.Common.{if◌then◌else◌, filter, ◌&&◌, ◌⊎◌, inl, inr}
use Rattle.std.specs.Prelude.{OnOk, Result, Ok, Err}
use Rattle.enip_keep.specs.declared.entry.Entry.{Entry}
use Rattle.enip_keep.specs.Rounds.{are_of_device}
use Rattle.enip_keep.specs.Kept.{pair_of, pairs_of}
use Rattle.std.proofs.lemmas.Bool.Decides.{nat_tests}
use Rattle.enip_keep.specs.Kept.{Kept, set, set_all}
use Rattle.enip_keep.specs.Rounds.{without_round, round_bytes_in}
use Rattle.enip_keep.proofs.SetLemmas.{set_here, set_before, set_behind, Compared, compared}
use Rattle.enip_keep.proofs.SetLemmas.Compared.{Below, Same, Above}

pub left_out : (p : ℕ × List ℕ) (rest : Kept) → p.0 ≡ 0 → without_round (p ∷ rest) ≡ without_round rest
left_out p rest is = grind (arith, nat_tests)

pub stays_in : (p : ℕ × List ℕ) (rest : Kept) → 0 < p.0 → without_round (p ∷ rest) ≡ p ∷ without_round rest
stays_in p rest more = grind (arith, nat_tests)

-- a key of the device is set beside the entry of the round
without-set_at : (key : ℕ) (bytes : List ℕ) (p : ℕ × List ℕ) (rest : Kept) → 0 < key → Compared p.0 key → Compared p.0 0
    → without_round (set key bytes rest) ≡ set key bytes (without_round rest)
    → without_round (set key bytes (p ∷ rest)) ≡ set key bytes (without_round (p ∷ rest))
without-set_at key bytes p rest more c (Below never) later = absurd (omega (arith, never))
without-set_at key bytes p rest more (Below less) (Same is) later =
    ap without_round (set_behind key bytes p rest less) ∙ left_out p (set key bytes rest) is ∙ later
    ∙ sym (ap (set key bytes) (left_out p rest is))
without-set_at key bytes p rest more (Same same) (Same is) later = absurd (omega (arith, same, is, more))
without-set_at key bytes p rest more (Above over) (Same is) later = absurd (omega (arith, over, is))
without-set_at key bytes p rest more (Below less) (Above own) later =
    ap without_round (set_behind key bytes p rest less) ∙ stays_in p (set key bytes rest) own ∙ ap (λ xs. p ∷ xs) later
    ∙ sym (ap (set key bytes) (stays_in p rest own) ∙ set_behind key bytes p (without_round rest) less)
without-set_at key bytes p rest more (Same same) (Above own) later =
    ap without_round (set_here key bytes p rest same) ∙ stays_in (key, bytes) rest more
    ∙ sym (ap (set key bytes) (stays_in p rest own) ∙ set_here key bytes p (without_round rest) same)
without-set_at key bytes p rest more (Above over) (Above own) later =
    ap without_round (set_before key bytes p rest over) ∙ stays_in (key, bytes) (p ∷ rest) more
    ∙ ap (λ xs. (key, bytes) ∷ xs) (stays_in p rest own)
    ∙ sym (ap (set key bytes) (stays_in p rest own) ∙ set_before key bytes p (without_round rest) over)

without-set : (key : ℕ) (bytes : List ℕ) (kept : Kept) → 0 < key
    → without_round (set key bytes kept) ≡ set key bytes (without_round kept)
without-set key bytes [] more = stays_in (key, bytes) [] more
without-set key bytes (p ∷ rest) more =
    without-set_at key bytes p rest more (compared p.0 key) (compared p.0 0) (without-set key bytes rest more)

-- the entry of the round is set in front of all others
without-set_round : (bytes : List ℕ) (kept : Kept) → without_round (set 0 bytes kept) ≡ without_round kept
without-set_round bytes [] = left_out (0, bytes) [] refl
without-set_round bytes (p ∷ rest) = by (compared p.0 0)
  where
    by : Compared p.0 0 → without_round (set 0 bytes (p ∷ rest)) ≡ without_round (p ∷ rest)
    by (Below never) = absurd (omega (arith, never))
    by (Same is) = ap without_round (set_here 0 bytes p rest is) ∙ left_out (0, bytes) rest refl ∙ sym (left_out p rest is)
    by (Above own) = ap without_round (set_before 0 bytes p rest own) ∙ left_out (0, bytes) (p ∷ rest) refl

bytes-set : (bytes : List ℕ) (kept : Kept) → round_bytes_in (set 0 bytes kept) ≡ bytes
bytes-set bytes [] = refl
bytes-set bytes (p ∷ rest) = by (compared p.0 0)
  where
    by : Compared p.0 0 → round_bytes_in (set 0 bytes (p ∷ rest)) ≡ bytes
    by (Below never) = absurd (omega (arith, never))
    by (Same is) = ap round_bytes_in (set_here 0 bytes p rest is)
    by (Above own) = ap round_bytes_in (set_before 0 bytes p rest own)

set_all-append : (xs ys kept : Kept) → set_all (xs ++ ys) kept ≡ set_all ys (set_all xs kept)
set_all-append [] ys kept = refl
set_all-append (x ∷ xs) ys kept = set_all-append xs ys (set x.0 x.1 kept)

first_is : (a b : Bool) → (a && b) ≡ true → a ≡ true
first_is true b both = refl
first_is false b both = both

others_are : (a b : Bool) → (a && b) ≡ true → b ≡ true
others_are true b both = both
others_are false b both = cc

own_key : (key : ℕ) → not (eqb key 0) ≡ true → 0 < key
own_key key is = grind (arith, nat_tests)

without-set_all : (changes kept : Kept) → are_of_device changes ≡ true
    → without_round (set_all changes kept) ≡ set_all changes (without_round kept)
without-set_all [] kept own = refl
without-set_all (e ∷ changes) kept own =
    without-set_all changes (set e.0 e.1 kept) (others_are (not (eqb e.0 0)) (are_of_device changes) own)
    ∙ ap (set_all changes) (without-set e.0 e.1 kept (own_key e.0 (first_is (not (eqb e.0 0)) (are_of_device changes) own)))

pub without_numbered : (changes kept : Kept) (bytes : List ℕ) → are_of_device changes ≡ true
    → without_round (set_all (changes ++ (0, bytes) ∷ []) kept) ≡ set_all changes (without_round kept)
without_numbered changes kept bytes own =
    ap without_round (set_all-append changes ((0, bytes) ∷ []) kept) ∙ without-set_round bytes (set_all changes kept)
    ∙ without-set_all changes kept own

pub bytes_numbered : (changes kept : Kept) (bytes : List ℕ)
    → round_bytes_in (set_all (changes ++ (0, bytes) ∷ []) kept) ≡ bytes
bytes_numbered changes kept bytes =
    ap round_bytes_in (set_all-append changes ((0, bytes) ∷ []) kept) ∙ bytes-set bytes (set_all changes kept)

-- what a crash may leave of the entries of the device
pub left_without : (new old : Kept → Type 0) (kept numbered changes : Kept)
    → without_round (set_all numbered kept) ≡ set_all changes (without_round kept)
    → ((c : Kept) → new c → old c ⊎ (c ≡ set_all numbered kept))
    → (c : Kept) → ((all : Kept) × new all × (c ≡ without_round all))
    → ((all : Kept) × old all × (c ≡ without_round all)) ⊎ (c ≡ set_all changes (without_round kept))
left_without new old kept numbered changes is crash c left = by (crash left.0 left.1)
  where
    by : old left.0 ⊎ (left.0 ≡ set_all numbered kept)
        → ((all : Kept) × old all × (c ≡ without_round all)) ⊎ (c ≡ set_all changes (without_round kept))
    by (inl there) = inl (left.0, there, left.2)
    by (inr same) = inr (left.2 ∙ ap without_round same ∙ is)

-- a list of entries without that of the round
pub pairs-without : (entries : List Entry) → pairs_of (filter (λ e. not (eqb e.key 0)) entries) ≡ without_round (pairs_of entries)
pairs-without [] = refl
pairs-without (e ∷ entries) = by (not (eqb e.key 0)) (pairs-without entries)
  where
    by : (stays : Bool) → pairs_of (filter (λ e. not (eqb e.key 0)) entries) ≡ without_round (pairs_of entries)
        → pairs_of (if stays then e ∷ filter (λ e. not (eqb e.key 0)) entries else filter (λ e. not (eqb e.key 0)) entries)
        ≡ (if stays then pair_of e ∷ without_round (pairs_of entries) else without_round (pairs_of entries))
    by true later = ap (λ xs. pair_of e ∷ xs) later
    by false later = later

-- what holds at success leads to something else
pub on_ok : {A B : Type 0} (r : Result A B) (P Q : Type 0) → (P → Q) → OnOk r P → OnOk r Q
on_ok (Ok x) P Q leads holds = leads holds
on_ok (Err e) P Q leads holds = holds

-- the calls of a keeper to which these entries are given, in the order of its clauses
module _ (changes kept new : Kept) (bytes : List ℕ) (items : List Entry)
    (own : are_of_device changes ≡ true) (is : pairs_of items ≡ changes ++ (0, bytes) ∷ []) where
  pub set_without : new ≡ set_all (pairs_of items) kept → without_round new ≡ set_all changes (without_round kept)
  set_without e =
      ap without_round (e ∙ ap (λ xs. set_all xs kept) is) ∙ without_numbered changes kept bytes own

  pub set_bytes : new ≡ set_all (pairs_of items) kept → round_bytes_in new ≡ bytes
  set_bytes e =
      ap round_bytes_in (e ∙ ap (λ xs. set_all xs kept) is) ∙ bytes_numbered changes kept bytes
