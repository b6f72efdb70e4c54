-- The names of what is kept of the objects, object by object.
use Rattle.std.proofs.Common.{◌≡◌, ℕ, zero, suc, ◌+◌, ◌-◌, ◌<◌, ◌≤◌, Bool, true, cond, List, [], ◌∷◌, ◌++◌, length, get_or, drop, map, Option, Some, None, option_map, refl, sym, ap, ◌∙◌, arith}
use Rattle.std.proofs.lemmas.Option.{slice_get-map}
use Rattle.std.specs.Prelude.{slice_get, filter}
use Rattle.std.specs.List.{flat_map}
use Rattle.cip_application.specs.declared.object.AttributeName.{AttributeName}
use Rattle.cip_application.specs.Attributes.{AttributeValues}
use Rattle.cip_application.specs.Objects.{ObjectValues}
use Rattle.cip_application.specs.Kept.{kept_names_in, kept_names_of}

pub get_front : {A : Type 0} (xs ys : List A) (i : ℕ) (x : A) → slice_get xs i ≡ Some x → slice_get (xs ++ ys) i ≡ Some x
get_front [] ys i x e = absurd (cc)
get_front (y ∷ xs) ys zero x e = e
get_front (y ∷ xs) ys (suc i) x e = get_front xs ys i x e

get_within : {A : Type 0} (xs ys : List A) (i : ℕ) → i < length xs → slice_get (xs ++ ys) i ≡ slice_get xs i
get_within [] ys i h = absurd (omega arith)
get_within (y ∷ xs) ys zero h = refl
get_within (y ∷ xs) ys (suc i) h = get_within xs ys i (omega arith)

pub get_behind : {A : Type 0} (xs ys : List A) (i : ℕ) → length xs ≤ i → slice_get (xs ++ ys) i ≡ slice_get ys (i - length xs)
get_behind [] ys i h =
    let e : i ≡ i - 0 = omega arith in ap (slice_get ys) e
get_behind (y ∷ xs) ys zero h = absurd (omega arith)
get_behind (y ∷ xs) ys (suc i) h =
    let e : suc i - suc (length xs) ≡ i - length xs = omega arith in
    get_behind xs ys i (omega arith) ∙ ap (slice_get ys) (sym e)

rest_of : {A : Type 0} (os : List A) (k : ℕ) (o : A) → k < length os → o ≡ get_or os k o → drop k os ≡ o ∷ drop (k + 1) os
rest_of [] k o h is = absurd (omega arith)
rest_of (x ∷ os) zero o h is = ap (λ y. y ∷ os) (sym is)
rest_of (x ∷ os) (suc k) o h is =
    let e : suc (k + 1) ≡ suc k + 1 = omega arith in rest_of os k o (omega arith) is ∙ ap (λ n. o ∷ drop n (x ∷ os)) e

past_end : {A : Type 0} (xs : List A) (k : ℕ) → length xs ≤ k → drop k xs ≡ []
past_end [] zero h = refl
past_end [] (suc k) h = refl
past_end (x ∷ xs) zero h = absurd (omega arith)
past_end (x ∷ xs) (suc k) h = past_end xs k (omega arith)

names_from : (os : List ObjectValues) (k : ℕ) (o : ObjectValues) → k < length os → o ≡ get_or os k o → flat_map kept_names_in (drop k os) ≡ kept_names_in o ++ flat_map kept_names_in (drop (k + 1) os)
names_from os k o h is = ap (flat_map kept_names_in) (rest_of os k o h is)

-- the name is one of this object, or of a later one
module _ (os m : List ObjectValues) (k left index : ℕ) (o : ObjectValues) (within : k < length os) (is : o ≡ get_or os k o) (reached : slice_get (flat_map kept_names_in (drop k os)) left ≡ slice_get (flat_map kept_names_in os) index) (count : ℕ) (size : count ≡ length (kept_names_in o)) where
  pub name_here : (r : Option AttributeName) → os ≡ m → left < count → r ≡ slice_get (kept_names_in o) left → r ≡ slice_get (kept_names_of m) index
  name_here r same h e =
      e
      ∙ sym (get_within (kept_names_in o) (flat_map kept_names_in (drop (k + 1) os)) left (omega (arith, size, h)))
      ∙ ap (λ ns. slice_get ns left) (sym (names_from os k o within is))
      ∙ reached
      ∙ ap (λ xs. slice_get (kept_names_of xs) index) same

  pub name_later : count ≤ left → slice_get (flat_map kept_names_in (drop (k + 1) os)) (left - count) ≡ slice_get (flat_map kept_names_in os) index
  name_later h =
      ap (λ n. slice_get (flat_map kept_names_in (drop (k + 1) os)) (left - n)) size
      ∙ sym (get_behind (kept_names_in o) (flat_map kept_names_in (drop (k + 1) os)) left (omega (arith, size, h)))
      ∙ ap (λ ns. slice_get ns left) (sym (names_from os k o within is))
      ∙ reached

-- a kept attribute, by its index among those
module _ (keeps : AttributeValues → Bool) (name : AttributeValues → AttributeName) (items all : List AttributeValues) (k left index : ℕ) (same : items ≡ all) (reached : slice_get (filter keeps (drop k items)) left ≡ slice_get (filter keeps items) index) where
  named : (r : Option AttributeValues) → r ≡ slice_get (filter keeps (drop k items)) left → option_map name r ≡ slice_get (map name (filter keeps all)) index
  named r is =
      ap (option_map name) (is ∙ reached)
      ∙ sym (slice_get-map name (filter keeps items) index)
      ∙ ap (λ xs. slice_get (map name (filter keeps xs)) index) same

  pub name_found : (a : AttributeValues) → k < length items → a ≡ get_or items k a → keeps a ≡ true → left ≡ 0 → Some (name a) ≡ slice_get (map name (filter keeps all)) index
  name_found a within is kept first =
      named (Some a)
      (sym (ap (λ n. slice_get (filter keeps (drop k items)) n) first
      ∙ ap (λ xs. slice_get (filter keeps xs) 0) (rest_of items k a within is)
      ∙ ap (λ t. slice_get (cond t (a ∷ filter keeps (drop (k + 1) items)) (filter keeps (drop (k + 1) items))) 0) kept))

  pub name_missing : length items ≤ k → None ≡ slice_get (map name (filter keeps all)) index
  name_missing end = named None (sym (ap (λ xs. slice_get (filter keeps xs) left) (past_end items k end)))
