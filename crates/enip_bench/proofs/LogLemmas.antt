-- The log of the tracked world, newest first: the connection's numbers fall.
use Rattle.std.proofs.Common.{◌≡◌, ℕ, ◌+◌, ◌<◌, ◌≤◌, inl, inr, true, false, ◌==◌, Some, List, [], ◌∷◌, ◌++◌, length, slice_get, eqb-true, eq-eqb, arith}
use Rattle.std.proofs.lemmas.Bool.{or_cases, or_left, or_right, both_ways, cases_lt, false_from_ne_true}
use Rattle.std.proofs.lemmas.Option.{slice_get_within}
use Rattle.enip_bench.proofs.PositionLemmas.{get-kept}
use Rattle.enip_bench.proofs.TrackedWorld.{Own, Logged, OwnLogged, OtherLogged, WriteLogged, is_logged}

-- one more than the newest own number, or 0 if there is none
abbrev pub next_logged : List Logged → ℕ
next_logged [] = 0
next_logged (OwnLogged own ∷ log) = own.number + 1
next_logged (OtherLogged request ∷ log) = next_logged log
next_logged (WriteLogged write ∷ log) = next_logged log

abbrev pub Falls : List Logged → Type 0
Falls [] = Unit {0}
Falls (OwnLogged own ∷ log) = (next_logged log ≤ own.number) × Falls log
Falls (OtherLogged request ∷ log) = Falls log
Falls (WriteLogged write ∷ log) = Falls log

-- the request is that of the submit with this number
abbrev pub IsSubmitted : List (List ℕ) → Own → Type 0
IsSubmitted submits own = slice_get submits own.number ≡ Some own.request

abbrev pub AreSubmitted : List (List ℕ) → List Logged → Type 0
AreSubmitted submits [] = Unit {0}
AreSubmitted submits (OwnLogged own ∷ log) = IsSubmitted submits own × AreSubmitted submits log
AreSubmitted submits (OtherLogged request ∷ log) = AreSubmitted submits log
AreSubmitted submits (WriteLogged write ∷ log) = AreSubmitted submits log

pub logged_below : (log : List Logged) (number : ℕ) → Falls log → is_logged number log ≡ true → number < next_logged log
logged_below [] number falls e = absurd (cc)
logged_below (OwnLogged own ∷ log) number falls e = elim (or_cases (own.number == number) (is_logged number log) e) [
  | inl h ↦ omega (arith, eqb-true own.number number h)
  | inr h ↦ omega (arith, falls.0, logged_below log number falls.1 h)
]
logged_below (OtherLogged request ∷ log) number falls e = logged_below log number falls e
logged_below (WriteLogged write ∷ log) number falls e = logged_below log number falls e

-- a number above the newest one is not in the log
pub not_logged : (log : List Logged) (number : ℕ) → Falls log → next_logged log ≤ number → is_logged number log ≡ false
not_logged log number falls above =
    false_from_ne_true (is_logged number log) (λ e. omega (arith, logged_below log number falls e))

pub newest_logged : (log : List Logged) (number : ℕ) → next_logged log ≡ number + 1 → is_logged number log ≡ true
newest_logged [] number e = absurd (omega arith)
newest_logged (OwnLogged own ∷ log) number e =
    or_left (own.number == number) (is_logged number log) (eq-eqb own.number number (omega arith))
newest_logged (OtherLogged request ∷ log) number e = newest_logged log number e
newest_logged (WriteLogged write ∷ log) number e = newest_logged log number e

-- a number that is not in the log, and not below the newest one, is above it
pub new_above : (log : List Logged) (number : ℕ) → next_logged log ≤ number + 1 → is_logged number log ≡ false →
    next_logged log ≤ number
new_above log number near e = elim (cases_lt number (next_logged log)) [
  | inl lt ↦ absurd (both_ways (is_logged number log) e (newest_logged log number (omega arith)))
  | inr le ↦ le
]

pub next_logged-within : (submits : List (List ℕ)) (log : List Logged) → AreSubmitted submits log →
    next_logged log ≤ length submits
next_logged-within submits [] are = omega arith
next_logged-within submits (OwnLogged own ∷ log) are =
    omega (arith, slice_get_within submits own.number own.request are.0)
next_logged-within submits (OtherLogged request ∷ log) are = next_logged-within submits log are
next_logged-within submits (WriteLogged write ∷ log) are = next_logged-within submits log are

pub submitted-kept : (submits : List (List ℕ)) (request : List ℕ) (log : List Logged) → AreSubmitted submits log →
    AreSubmitted (submits ++ request ∷ []) log
submitted-kept submits request [] are = tt
submitted-kept submits request (OwnLogged own ∷ log) are =
    (get-kept submits request own.request own.number are.0, submitted-kept submits request log are.1)
submitted-kept submits request (OtherLogged other ∷ log) are = submitted-kept submits request log are
submitted-kept submits request (WriteLogged write ∷ log) are = submitted-kept submits request log are

-- what is in the log stays there when another is executed
pub logged-kept : (log : List Logged) (own : Own) (number : ℕ) → is_logged number log ≡ true →
    is_logged number (OwnLogged own ∷ log) ≡ true
logged-kept log own number e = or_right (own.number == number) (is_logged number log) e
