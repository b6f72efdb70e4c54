-- Lists that are searched by a number, and what holds of each of their elements.
use Rattle.std.proofs.Common.{◌≡◌, ◌≢◌, ℕ, zero, suc, ◌<◌, ◌≤◌, ◌==◌, Bool, true, false, if◌then◌else◌, Option, Some, None, List, [], ◌∷◌, ◌++◌, length, get_or, drop, refl, ap, sym, subst, ◌∙◌, arith}
use Rattle.std.proofs.lemmas.Bool.{eq-eqb, ne_eqb, eqb-true}
use Rattle.std.proofs.lemmas.List.{get_or_read}
use Rattle.std.specs.List.{AllByRecursion, filter}
use Rattle.cip_owner.specs.Queue.{first_with}

-- each of these has P
pub all-append : {X : Type 0} (P : X → Type 0) (xs ys : List X) → AllByRecursion P xs → AllByRecursion P ys → AllByRecursion P (xs ++ ys)
all-append P [] ys h g = g
all-append P (x ∷ xs) ys h g = (h.0, all-append P xs ys h.1 g)

pub all-filter : {X : Type 0} (P : X → Type 0) (p : X → Bool) (xs : List X) → AllByRecursion P xs → AllByRecursion P (filter p xs)
all-filter P p [] h = tt
all-filter P p (x ∷ xs) h =
    elim (p x) as (λ is. AllByRecursion P (if is then x ∷ filter p xs else filter p xs)) [
      | true ↦ (h.0, all-filter P p xs h.1)
      | false ↦ all-filter P p xs h.1
    ]

pub all-rest : {X : Type 0} (P : X → Type 0) (xs : List X) → AllByRecursion P xs → AllByRecursion P (drop 1 xs)
all-rest P [] h = tt
all-rest P (x ∷ xs) h = h.1

pub all-weaker : {X : Type 0} (P Q : X → Type 0) → ((x : X) → P x → Q x) → (xs : List X) → AllByRecursion P xs → AllByRecursion Q xs
all-weaker P Q f [] h = tt
all-weaker P Q f (x ∷ xs) h = (f x h.0, all-weaker P Q f xs h.1)

pub all-both : {X : Type 0} (P Q R : X → Type 0) → ((x : X) → P x → Q x → R x) → (xs : List X) → AllByRecursion P xs → AllByRecursion Q xs → AllByRecursion R xs
all-both P Q R f [] h g = tt
all-both P Q R f (x ∷ xs) h g = (f x h.0 g.0, all-both P Q R f xs h.1 g.1)

pub length-filter_at_most : {X : Type 0} (p : X → Bool) (xs : List X) → length (filter p xs) ≤ length xs
length-filter_at_most p [] = omega arith
length-filter_at_most p (x ∷ xs) =
    let h : length (filter p xs) ≤ length xs = length-filter_at_most p xs in
    elim (p x) as (λ is. length (if is then x ∷ filter p xs else filter p xs) ≤ suc (length xs)) [
      | true ↦ omega arith
      | false ↦ omega arith
    ]

-- none of the first k has this number
abbrev pub NoneBefore : {X : Type 0} → (X → ℕ) → ℕ → ℕ → List X → Type 0
NoneBefore {X} number n k xs = (i : ℕ) (d : X) → i < k → i < length xs → number (get_or xs i d) ≢ n

pub first-none : {X : Type 0} (number : X → ℕ) (n : ℕ) (xs : List X) → NoneBefore number n (length xs) xs → first_with number n xs ≡ None
first-none number n [] none = refl
first-none number n (x ∷ xs) none =
    rw (ne_eqb _ _ (none 0 x (omega arith) (omega arith)))
    (first-none number n xs (λ i d below within. none (suc i) d (omega arith) (omega arith)))

pub first-at : {X : Type 0} (number : X → ℕ) (n : ℕ) (xs : List X) (k : ℕ) (d : X) → k < length xs → NoneBefore number n k xs → number (get_or xs k d) ≡ n → first_with number n xs ≡ Some (get_or xs k d)
first-at number n [] k d within none is = absurd (omega (arith, within))
first-at number n (x ∷ xs) zero d within none is = rw (eq-eqb _ _ is) refl
first-at number n (x ∷ xs) (suc k) d within none is =
    rw (ne_eqb _ _ (none 0 d (omega arith) (omega arith)))
    (first-at number n xs k d (omega (arith, within)) (λ i e below inside. none (suc i) e (omega arith) (omega arith)) is)

-- the same for a list that is another name of it, where an element was read
pub found_at : {X : Type 0} (number : X → ℕ) (all xs : List X) (k n : ℕ) (read : X) → xs ≡ all → k < length xs → NoneBefore number n k xs → read ≡ get_or xs k read → number read ≡ n
    → (k < length all) × ((d : X) → first_with number n all ≡ Some (get_or all k d))
found_at number all xs k n read same within none is its =
    rw (← same) (within, λ d. first-at number n xs k d within none (ap number (sym (get_or_read xs k read within is d)) ∙ its))

pub missing_in : {X : Type 0} (number : X → ℕ) (all xs : List X) (k n : ℕ) → xs ≡ all → length xs ≤ k → NoneBefore number n k xs → first_with number n all ≡ None
missing_in number all xs k n same ended none =
    rw (← same) (first-none number n xs (λ i d below within. none i d (omega (arith, below, ended)) within))

-- what is found has the number, and what each element has
pub first-number : {X : Type 0} (number : X → ℕ) (n : ℕ) (xs : List X) (x : X) → first_with number n xs ≡ Some x → number x ≡ n
first-number number n [] x e = absurd (cc)
first-number {X} number n (y ∷ xs) x e = go (number y == n) (λ f. first-number number n xs x f) refl e
  where
    same : (a b : X) → ◌≡◌ {A = Option X} (Some a) (Some b) → a ≡ b
    same a b f = cc

    go : (is : Bool) → (first_with number n xs ≡ Some x → number x ≡ n) → (number y == n) ≡ is → (if is then Some y else first_with number n xs) ≡ Some x → number x ≡ n
    go true later h f = ap number (sym (same y x f)) ∙ eqb-true (number y) n h
    go false later h f = later f

pub first-all : {X : Type 0} (P : X → Type 0) (number : X → ℕ) (n : ℕ) (xs : List X) (x : X) → AllByRecursion P xs → first_with number n xs ≡ Some x → P x
first-all P number n [] x h e = absurd (cc)
first-all {X} P number n (y ∷ xs) x h e = go (number y == n) (λ f. first-all P number n xs x h.1 f) e
  where
    same : (a b : X) → ◌≡◌ {A = Option X} (Some a) (Some b) → a ≡ b
    same a b f = cc

    go : (is : Bool) → (first_with number n xs ≡ Some x → P x) → (if is then Some y else first_with number n xs) ≡ Some x → P x
    go true later f = subst P (same y x f) h.0
    go false later f = later f

-- a search of two lists, one behind the other
pub first-front : {X : Type 0} (number : X → ℕ) (n : ℕ) (xs ys : List X) (x : X) → first_with number n xs ≡ Some x → first_with number n (xs ++ ys) ≡ Some x
first-front number n [] ys x e = absurd (cc)
first-front number n (y ∷ xs) ys x e = go (number y == n) (λ f. first-front number n xs ys x f) e
  where
    go : (is : Bool) → (first_with number n xs ≡ Some x → first_with number n (xs ++ ys) ≡ Some x) → (if is then Some y else first_with number n xs) ≡ Some x
        → (if is then Some y else first_with number n (xs ++ ys)) ≡ Some x
    go true later f = f
    go false later f = later f

pub first-behind : {X : Type 0} (number : X → ℕ) (n : ℕ) (xs ys : List X) → first_with number n xs ≡ None → first_with number n (xs ++ ys) ≡ first_with number n ys
first-behind number n [] ys e = refl
first-behind {X} number n (y ∷ xs) ys e = go (number y == n) (λ f. first-behind number n xs ys f) e
  where
    some_none : (a : X) → ◌≡◌ {A = Option X} (Some a) None → ⊥
    some_none a f = cc

    go : (is : Bool) → (first_with number n xs ≡ None → first_with number n (xs ++ ys) ≡ first_with number n ys) → (if is then Some y else first_with number n xs) ≡ None
        → (if is then Some y else first_with number n (xs ++ ys)) ≡ first_with number n ys
    go true later f = absurd (some_none y f)
    go false later f = later f

-- a number that none has is not found, and one that is not found none has
pub first-absent : {X : Type 0} (number : X → ℕ) (n : ℕ) (xs : List X) → AllByRecursion (λ x. number x ≢ n) xs → first_with number n xs ≡ None
first-absent number n [] h = refl
first-absent number n (x ∷ xs) h = rw (ne_eqb (number x) n h.0) (first-absent number n xs h.1)
