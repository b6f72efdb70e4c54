-- Look-ups by a number, after a change and after a removal.
use Rattle.std.proofs.Common.{◌≡◌, ◌≢◌, ℕ, ◌+◌, ◌<◌, ◌≤◌, arith, subst, map, List, [], ◌∷◌, ◌++◌, Bool, true, false}
use Rattle.std.proofs.Common.{cond, eqb, Some, None, refl, sym, ap, ◌∙◌}
use Rattle.std.proofs.lemmas.Bool.{eqb-true, ne_eqb, eq-eqb}
use Rattle.std.specs.List.{AllByRecursion}
use Rattle.enip_adapter.specs.Lookup.{first_with, with_first, without_first}

-- What holds of both alternatives holds of the choice.
pub both : {X : Type 0} → (P : X → Type 0) (b : Bool) (x y : X) → P x → P y → P (cond b x y)
both P true x y p q = p
both P false x y p q = q

-- The item that is found has the number.
pub first_with-number : {X : Type 0} → (number : X → ℕ) (n : ℕ) (x : X) (xs : List X) → first_with number n xs ≡ Some x
    → number x ≡ n
first_with-number number n x [] e = cc
first_with-number {X} number n x (y ∷ ys) e = go (eqb (number y) n) refl (λ f. first_with-number number n x ys f) e
  where
    go : (b : Bool) → eqb (number y) n ≡ b → (first_with number n ys ≡ Some x → number x ≡ n)
        → cond b (Some y) (first_with number n ys) ≡ Some x → number x ≡ n
    go true t rest f =
        let same : y ≡ x = cc in
        ap number (sym same) ∙ eqb-true (number y) n t
    go false t rest f = rest f

pub first_with-changed : {X : Type 0} → (number : X → ℕ) (n q : ℕ) (new : X) (xs : List X) → number new ≡ q → q ≢ n
    → first_with number n (with_first number q new xs) ≡ first_with number n xs
first_with-changed number n q new [] e d = refl
first_with-changed {X} number n q new (x ∷ xs) e d =
    go (eqb (number x) q) refl (first_with-changed number n q new xs e d)
  where
    go : (b : Bool) → eqb (number x) q ≡ b
        → first_with number n (with_first number q new xs) ≡ first_with number n xs
        → first_with number n (cond b (new ∷ xs) (x ∷ with_first number q new xs)) ≡ first_with number n (x ∷ xs)
    go true t rest =
        let no : eqb (number new) n ≡ false = ne_eqb (number new) n (λ h. d (sym e ∙ h)) in
        let not_x : eqb (number x) n ≡ false = ne_eqb (number x) n (λ h. d (sym (eqb-true (number x) q t) ∙ h)) in
        ap (λ b. cond b (Some new) (first_with number n xs)) no
        ∙ sym (ap (λ b. cond b (Some x) (first_with number n xs)) not_x)
    go false t rest = ap (λ r. cond (eqb (number x) n) (Some x) r) rest

pub first_with-set : {X : Type 0} → (number : X → ℕ) (n : ℕ) (x new : X) (xs : List X) → first_with number n xs ≡ Some x
    → number new ≡ n → first_with number n (with_first number n new xs) ≡ Some new
first_with-set number n x new [] e h = cc
first_with-set {X} number n x new (y ∷ ys) e h = go (eqb (number y) n) refl
    (λ f. first_with-set number n x new ys f h) e
  where
    go : (b : Bool) → eqb (number y) n ≡ b
        → (first_with number n ys ≡ Some x → first_with number n (with_first number n new ys) ≡ Some new)
        → cond b (Some y) (first_with number n ys) ≡ Some x
        → first_with number n (cond b (new ∷ ys) (y ∷ with_first number n new ys)) ≡ Some new
    go true t rest f = ap (λ b. cond b (Some new) (first_with number n ys)) (eq-eqb (number new) n h)
    go false t rest f = ap (λ b. cond b (Some y) (first_with number n (with_first number n new ys))) t ∙ rest f

pub first_with-removed : {X : Type 0} → (number : X → ℕ) (n q : ℕ) (xs : List X) → q ≢ n
    → first_with number n (without_first number q xs) ≡ first_with number n xs
first_with-removed number n q [] d = refl
first_with-removed {X} number n q (x ∷ xs) d = go (eqb (number x) q) refl (first_with-removed number n q xs d)
  where
    go : (b : Bool) → eqb (number x) q ≡ b → first_with number n (without_first number q xs) ≡ first_with number n xs
        → first_with number n (cond b xs (x ∷ without_first number q xs)) ≡ first_with number n (x ∷ xs)
    go true t rest =
        let not_x : eqb (number x) n ≡ false = ne_eqb (number x) n (λ h. d (sym (eqb-true (number x) q t) ∙ h)) in
        sym (ap (λ b. cond b (Some x) (first_with number n xs)) not_x)
    go false t rest = ap (λ r. cond (eqb (number x) n) (Some x) r) rest

pub first_with-append : {X : Type 0} → (number : X → ℕ) (n : ℕ) (x : X) (xs ys : List X) → first_with number n xs
    ≡ Some x
    → first_with number n (xs ++ ys) ≡ Some x
first_with-append number n x [] ys e = cc
first_with-append {X} number n x (z ∷ zs) ys e = go (eqb (number z) n) (λ f. first_with-append number n x zs ys f) e
  where
    go : (b : Bool) → (first_with number n zs ≡ Some x → first_with number n (zs ++ ys) ≡ Some x)
        → cond b (Some z) (first_with number n zs) ≡ Some x → cond b (Some z) (first_with number n (zs ++ ys)) ≡ Some x
    go true rest f = f
    go false rest f = rest f

-- If no item of the front has the number, it is searched in the rest.
pub first_with-behind : {X : Type 0} → (number : X → ℕ) (n : ℕ) (xs ys : List X) → first_with number n xs ≡ None
    → first_with number n (xs ++ ys) ≡ first_with number n ys
first_with-behind number n [] ys e = refl
first_with-behind {X} number n (z ∷ zs) ys e = go (eqb (number z) n) (λ f. first_with-behind number n zs ys f) e
  where
    go : (b : Bool) → (first_with number n zs ≡ None → first_with number n (zs ++ ys) ≡ first_with number n ys)
        → cond b (Some z) (first_with number n zs) ≡ None
        → cond b (Some z) (first_with number n (zs ++ ys)) ≡ first_with number n ys
    go true rest f = cc
    go false rest f = rest f

-- If no item has the number, none is changed.
pub with_first-none : {X : Type 0} → (number : X → ℕ) (n : ℕ) (new : X) (xs : List X) → first_with number n xs ≡ None
    → with_first number n new xs ≡ xs
with_first-none number n new [] e = refl
with_first-none {X} number n new (y ∷ ys) e = go (eqb (number y) n) (λ f. with_first-none number n new ys f) e
  where
    go : (b : Bool) → (first_with number n ys ≡ None → with_first number n new ys ≡ ys)
        → cond b (Some y) (first_with number n ys) ≡ None → cond b (new ∷ ys) (y ∷ with_first number n new ys) ≡ y ∷ ys
    go true rest f = cc
    go false rest f = ap (λ r. y ∷ r) (rest f)

-- An item replaced by itself.
pub with_first-same : {X : Type 0} → (number : X → ℕ) (n : ℕ) (x : X) (xs : List X) → first_with number n xs ≡ Some x
    → with_first number n x xs ≡ xs
with_first-same number n x [] e = refl
with_first-same {X} number n x (y ∷ ys) e = go (eqb (number y) n) (λ f. with_first-same number n x ys f) e
  where
    go : (b : Bool) → (first_with number n ys ≡ Some x → with_first number n x ys ≡ ys)
        → cond b (Some y) (first_with number n ys) ≡ Some x
        → cond b (x ∷ ys) (y ∷ with_first number n x ys) ≡ y ∷ ys
    go true rest f = cc
    go false rest f = ap (λ zs. y ∷ zs) (rest f)

pub without_first-none : {X : Type 0} → (number : X → ℕ) (n : ℕ) (xs : List X) → first_with number n xs ≡ None
    → without_first number n xs ≡ xs
without_first-none number n [] e = refl
without_first-none {X} number n (y ∷ ys) e = go (eqb (number y) n) (λ f. without_first-none number n ys f) e
  where
    go : (b : Bool) → (first_with number n ys ≡ None → without_first number n ys ≡ ys)
        → cond b (Some y) (first_with number n ys) ≡ None → cond b ys (y ∷ without_first number n ys) ≡ y ∷ ys
    go true rest f = cc
    go false rest f = ap (λ zs. y ∷ zs) (rest f)

-- The numbers of a list.
abbrev pub numbers : {X : Type 0} → (X → ℕ) → List X → List ℕ
numbers number xs = map number xs

pub numbers-with_first : {X : Type 0} → (number : X → ℕ) (n : ℕ) (new : X) (xs : List X) → number new ≡ n
    → numbers number (with_first number n new xs) ≡ numbers number xs
numbers-with_first number n new [] e = refl
numbers-with_first {X} number n new (x ∷ xs) e = go (eqb (number x) n) refl (numbers-with_first number n new xs e)
  where
    go : (b : Bool) → eqb (number x) n ≡ b → numbers number (with_first number n new xs) ≡ numbers number xs
        → numbers number (cond b (new ∷ xs) (x ∷ with_first number n new xs)) ≡ number x ∷ numbers number xs
    go true t rest = ap (λ m. m ∷ numbers number xs) (e ∙ sym (eqb-true (number x) n t))
    go false t rest = ap (λ ms. number x ∷ ms) rest

pub numbers-without_first : {X : Type 0} → (number : X → ℕ) (n : ℕ) (xs : List X)
    → numbers number (without_first number n xs) ≡ without_first (λ m. m) n (numbers number xs)
numbers-without_first number n [] = refl
numbers-without_first {X} number n (x ∷ xs) = go (eqb (number x) n) (numbers-without_first number n xs)
  where
    go : (b : Bool) → numbers number (without_first number n xs) ≡ without_first (λ m. m) n (numbers number xs)
        → numbers number (cond b xs (x ∷ without_first number n xs))
        ≡ cond b (numbers number xs) (number x ∷ without_first (λ m. m) n (numbers number xs))
    go true rest = refl
    go false rest = ap (λ ms. number x ∷ ms) rest

-- An item is found where its number is.
pub none-numbers : {X : Type 0} → (number : X → ℕ) (n : ℕ) (xs : List X) → first_with number n xs ≡ None
    → first_with (λ m. m) n (numbers number xs) ≡ None
none-numbers number n [] e = refl
none-numbers {X} number n (x ∷ xs) e = go (eqb (number x) n) (λ f. none-numbers number n xs f) e
  where
    go : (b : Bool) → (first_with number n xs ≡ None → first_with (λ m. m) n (numbers number xs) ≡ None)
        → cond b (Some x) (first_with number n xs) ≡ None
        → cond b (Some (number x)) (first_with (λ m. m) n (numbers number xs)) ≡ None
    go true rest f = cc
    go false rest f = rest f

pub numbers-none : {X : Type 0} → (number : X → ℕ) (n : ℕ) (xs : List X)
    → first_with (λ m. m) n (numbers number xs) ≡ None → first_with number n xs ≡ None
numbers-none number n [] e = refl
numbers-none {X} number n (x ∷ xs) e = go (eqb (number x) n) (λ f. numbers-none number n xs f) e
  where
    go : (b : Bool) → (first_with (λ m. m) n (numbers number xs) ≡ None → first_with number n xs ≡ None)
        → cond b (Some (number x)) (first_with (λ m. m) n (numbers number xs)) ≡ None
        → cond b (Some x) (first_with number n xs) ≡ None
    go true rest f = cc
    go false rest f = rest f

-- No number occurs twice.
abbrev pub AreOnce : List ℕ → Type 0
AreOnce [] = Unit {0}
AreOnce (n ∷ ns) = (first_with (λ m. m) n ns ≡ None) × AreOnce ns

-- Numbers that differ, each below a number.
pub record AreDrawn (next : ℕ) (ns : List ℕ) : Type 0 where
  pub once : AreOnce ns
  pub below : AllByRecursion (λ n. n < next) ns

none-below : (next n : ℕ) (ns : List ℕ) → next ≤ n → AllByRecursion (λ m. m < next) ns → first_with (λ m. m) n ns ≡ None
none-below next n [] le below = refl
none-below next n (m ∷ ms) le below =
    let less : m < next = below.0 in
    ap (λ b. cond b (Some m) (first_with (λ k. k) n ms)) (ne_eqb m n (λ e. omega arith))
    ∙ none-below next n ms le below.1

pub next-none : (next : ℕ) (ns : List ℕ) → AreDrawn next ns → first_with (λ m. m) next ns ≡ None
next-none next ns drawn = none-below next next ns (omega arith) drawn.below

below-more : (next : ℕ) (ns : List ℕ) → AllByRecursion (λ m. m < next) ns
    → AllByRecursion (λ m. m < next + 1) (ns ++ next ∷ [])
below-more next [] below = (omega arith, tt)
below-more next (m ∷ ms) below = let less : m < next = below.0 in (omega arith, below-more next ms below.1)

once-more : (next : ℕ) (ns : List ℕ) → AreOnce ns → AllByRecursion (λ m. m < next) ns → AreOnce (ns ++ next ∷ [])
once-more next [] once below = (refl, tt)
once-more next (m ∷ ms) once below =
    let less : m < next = below.0 in (
      first_with-behind (λ k. k) m ms (next ∷ []) once.0
          ∙ ap (λ b. cond b (Some next) None) (ne_eqb next m (λ e. omega arith)),
      once-more next ms once.1 below.1,
    )

pub drawn-more : (next : ℕ) (ns : List ℕ) → AreDrawn next ns → AreDrawn (next + 1) (ns ++ next ∷ [])
drawn-more next ns drawn =
    record { once = once-more next ns drawn.once drawn.below; below = below-more next ns drawn.below }

below-without : (next n : ℕ) (ns : List ℕ) → AllByRecursion (λ m. m < next) ns
    → AllByRecursion (λ m. m < next) (without_first (λ m. m) n ns)
below-without next n [] below = tt
below-without next n (m ∷ ms) below =
    both (AllByRecursion (λ k. k < next)) (eqb m n) _ _ below.1 (below.0, below-without next n ms below.1)

pub none-without : (m n : ℕ) (ns : List ℕ) → first_with (λ k. k) m ns ≡ None
    → first_with (λ k. k) m (without_first (λ k. k) n ns) ≡ None
none-without m n [] e = refl
none-without m n (k ∷ ks) e = go (eqb k m) (eqb k n) refl (λ f. none-without m n ks f) e
  where
    go : (b c : Bool) → eqb k m ≡ b
        → (first_with (λ i. i) m ks ≡ None → first_with (λ i. i) m (without_first (λ i. i) n ks) ≡ None)
        → cond b (Some k) (first_with (λ i. i) m ks) ≡ None
        → first_with (λ i. i) m (cond c ks (k ∷ without_first (λ i. i) n ks)) ≡ None
    go true c t rest f = cc
    go false true t rest f = f
    go false false t rest f = ap (λ b. cond b (Some k) (first_with (λ i. i) m (without_first (λ i. i) n ks))) t ∙ rest f

once-without : (n : ℕ) (ns : List ℕ) → AreOnce ns → AreOnce (without_first (λ m. m) n ns)
once-without n [] once = tt
once-without n (m ∷ ms) once =
    both AreOnce (eqb m n) _ _ once.1 (none-without m n ms once.0, once-without n ms once.1)

pub drawn-without : (next n : ℕ) (ns : List ℕ) → AreDrawn next ns → AreDrawn next (without_first (λ m. m) n ns)
drawn-without next n ns drawn =
    record { once = once-without n ns drawn.once; below = below-without next n ns drawn.below }

-- What was removed is no longer there.
pub gone : (n : ℕ) (ns : List ℕ) → AreOnce ns → first_with (λ m. m) n (without_first (λ m. m) n ns) ≡ None
gone n [] once = refl
gone n (m ∷ ms) once = go (eqb m n) refl (gone n ms once.1)
  where
    go : (b : Bool) → eqb m n ≡ b → first_with (λ k. k) n (without_first (λ k. k) n ms) ≡ None
        → first_with (λ k. k) n (cond b ms (m ∷ without_first (λ k. k) n ms)) ≡ None
    go true t rest = subst (λ k. first_with (λ i. i) k ms ≡ None) (eqb-true m n t) once.0
    go false t rest = ap (λ b. cond b (Some m) (first_with (λ k. k) n (without_first (λ k. k) n ms))) t ∙ rest

-- A change of what was changed.
pub with_first-twice : {X : Type 0} → (number : X → ℕ) (n : ℕ) (a b : X) (xs : List X) → number a ≡ n
    → with_first number n b (with_first number n a xs) ≡ with_first number n b xs
with_first-twice number n a b [] h = refl
with_first-twice {X} number n a b (x ∷ xs) h = go (eqb (number x) n) refl (with_first-twice number n a b xs h)
  where
    go : (t : Bool) → eqb (number x) n ≡ t → with_first number n b (with_first number n a xs) ≡ with_first number n b xs
        → with_first number n b (cond t (a ∷ xs) (x ∷ with_first number n a xs))
        ≡ cond t (b ∷ xs) (x ∷ with_first number n b xs)
    go true t rest = ap (λ s. cond s (b ∷ xs) (a ∷ with_first number n b xs)) (eq-eqb (number a) n h)
    go false t rest = ap (λ s. cond s (b ∷ with_first number n a xs)
        (x ∷ with_first number n b (with_first number n a xs))) t ∙ ap (λ ys. x ∷ ys) rest
