-- Lists of numbers that rise, and logs that grow.
use Rattle.std.proofs.Common.{◌≡◌, inl, inr, ℕ, zero, suc, ◌<◌, Some, unwrap_or, List, [], ◌∷◌, ◌++◌, refl, ap, subst}
use Rattle.std.specs.List.{slice_get, AllByRecursion}
use Rattle.std.proofs.lemmas.List.Sums.{fold-append}
use Rattle.cip_ledger.specs.declared.target.Standing.{Standing}
use Rattle.enip_reconnect.specs.Worlds.{Opening}
use Rattle.enip_reconnect.specs.NumberedWorld.{Entry, Own, Another, device_at, device_step, device_after}
use Rattle.enip_reconnect.specs.CommanderLaws.{numbers_in, Rises, IsAmong, WasGiven}

-- ---- all of a list

pub all_at : {A : Type 0} (P : A → Type 0) (xs : List A) (k : ℕ) (x : A) → AllByRecursion P xs → slice_get xs k ≡ Some x → P x
all_at P [] k x all is = absurd (cc)
all_at P (y ∷ xs) zero x all is = subst P (ap (λ o. unwrap_or o x) is) all.0
all_at P (y ∷ xs) (suc k) x all is = all_at P xs k x all.1 is

pub all_append : {A : Type 0} (P : A → Type 0) (xs ys : List A) → AllByRecursion P xs → AllByRecursion P ys → AllByRecursion P (xs ++ ys)
all_append P [] ys first second = second
all_append P (x ∷ xs) ys first second = (first.0, all_append P xs ys first.1 second)

pub all_second : {A : Type 0} (P : A → Type 0) (xs ys : List A) → AllByRecursion P (xs ++ ys) → AllByRecursion P ys
all_second P [] ys all = all
all_second P (x ∷ xs) ys all = all_second P xs ys all.1

pub all_map : {A : Type 0} (P Q : A → Type 0) (xs : List A) → ((x : A) → P x → Q x) → AllByRecursion P xs → AllByRecursion Q xs
all_map P Q [] each all = tt
all_map P Q (x ∷ xs) each all = (each x all.0, all_map P Q xs each all.1)

-- ---- rising

pub rises_snoc : (xs : List ℕ) (number : ℕ) → Rises xs → AllByRecursion (λ other. other < number) xs → Rises (xs ++ number ∷ [])
rises_snoc [] number rises below = (tt, tt)
rises_snoc (x ∷ xs) number rises below =
    (all_append (λ other. x < other) xs (number ∷ []) rises.0 (below.0, tt), rises_snoc xs number rises.1 below.1)

-- at a number of a rising list, those before it are smaller and those behind it greater
pub rises_smaller : (xs ys : List ℕ) (number : ℕ) → Rises (xs ++ number ∷ ys) → AllByRecursion (λ other. other < number) xs
rises_smaller [] ys number rises = tt
rises_smaller (x ∷ xs) ys number rises =
    ((all_second (λ other. x < other) xs (number ∷ ys) rises.0).0, rises_smaller xs ys number rises.1)

pub rises_greater : (xs ys : List ℕ) (number : ℕ) → Rises (xs ++ number ∷ ys) → AllByRecursion (λ other. number < other) ys
rises_greater [] ys number rises = rises.0
rises_greater (x ∷ xs) ys number rises = rises_greater xs ys number rises.1

pub numbers_in-append : (log more : List Entry) → numbers_in (log ++ more) ≡ numbers_in log ++ numbers_in more
numbers_in-append [] more = refl
numbers_in-append (Own number request ∷ log) more = ap (λ numbers. number ∷ numbers) (numbers_in-append log more)
numbers_in-append (Another max_size request ∷ log) more = numbers_in-append log more

-- ---- among

pub among_first : (given more : List (ℕ × List ℕ)) (number : ℕ) (request : List ℕ) → IsAmong given number request →
    IsAmong (given ++ more) number request
among_first [] more number request is = absurd is
among_first (first ∷ given) more number request (inl is) = inl is
among_first (first ∷ given) more number request (inr is) = inr (among_first given more number request is)

pub among_last : (given : List (ℕ × List ℕ)) (number : ℕ) (request : List ℕ) →
    IsAmong (given ++ (number, request) ∷ []) number request
among_last [] number request = inl refl
among_last (first ∷ given) number request = inr (among_last given number request)

pub was_given-first : (given more : List (ℕ × List ℕ)) (entry : Entry) → WasGiven given entry → WasGiven (given ++ more) entry
was_given-first given more (Own number request) is = among_first given more number request is
was_given-first given more (Another max_size request) is = tt

-- ---- a device after one more entry

module _ {M : Type 0} (after : M → ℕ → List ℕ → M) (answer : M → ℕ → List ℕ → List ℕ) (standing : M → List ℕ → Standing)
    (opening : Opening M) where
  pub device-after : (log : List Entry) (entry : Entry) →
      device_after after answer standing opening (log ++ entry ∷ [])
      ≡ device_step after answer standing opening.commander.originator (device_after after answer standing opening log) entry
  device-after log entry =
      fold-append (device_step after answer standing opening.commander.originator) (device_at opening) log (entry ∷ [])
