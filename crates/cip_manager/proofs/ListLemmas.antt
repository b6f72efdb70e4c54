-- Filters, the first element that passes a test, and pairs.
use Rattle.std.proofs.Common.{◌≡◌, suc, List, [], ◌∷◌, ◌++◌, Bool, true, false, cond, ◌&&◌, Some, length, refl, ap, subst, sym, ◌∙◌, arith}
use Rattle.std.specs.Prelude.{filter, find, All, AllPairs}
use Rattle.std.proofs.lemmas.List.Elements.{All-cons, All-head, All-tail, All-weaker, filter_agree}
use Rattle.std.proofs.lemmas.List.Kept.{AllPairs-cons}
use Rattle.cip_manager.specs.Items.{with_first}

both-swap : (a b : Bool) → (a && b) ≡ (b && a)
both-swap true true = refl
both-swap true false = refl
both-swap false true = refl
both-swap false false = refl

both-implied : (a b : Bool) → (b ≡ true → a ≡ true) → (a && b) ≡ b
both-implied true b h = refl
both-implied false true h = h refl
both-implied false false h = refl

module _ {X : Type 0} where
  pub filter-true : (xs : List X) → filter (λ x. true) xs ≡ xs
  filter-true [] = refl
  filter-true (x ∷ xs) = ap (λ ys. x ∷ ys) (filter-true xs)

  pub filter-filter : (p q : X → Bool) (xs : List X) → filter q (filter p xs) ≡ filter (λ x. p x && q x) xs
  filter-filter p q [] = refl
  filter-filter p q (x ∷ xs) =
      let rest : filter q (filter p xs) ≡ filter (λ y. p y && q y) xs = filter-filter p q xs in
      elim (p x) as (
      λ b. filter q (cond b (x ∷ filter p xs) (filter p xs)) ≡ cond (b && q x) (x ∷ filter (λ y. p y && q y) xs) (filter (λ y. p y && q y) xs)
      ) [
        | true ↦ ap (λ ys. cond (q x) (x ∷ ys) ys) rest
        | false ↦ rest
      ]

  pub filter-swap : (p q : X → Bool) (xs : List X) → filter p (filter q xs) ≡ filter q (filter p xs)
  filter-swap p q xs =
      filter-filter q p xs ∙ (filter_agree (λ x. q x && p x) (λ x. p x && q x) (λ x. both-swap (q x) (p x)) xs ∙ sym (filter-filter p q xs))

  -- a test that lets all of the others through keeps them
  pub filter-implied : (p q : X → Bool) (xs : List X) → ((x : X) → p x ≡ true → q x ≡ true) → filter p (filter q xs) ≡ filter p xs
  filter-implied p q xs h = filter-filter q p xs ∙ filter_agree (λ x. q x && p x) p (λ x. both-implied (q x) (p x) (h x)) xs

  -- what is found passes
  pub find-passes : (p : X → Bool) (c : X) (xs : List X) → find p xs ≡ Some c → p c ≡ true
  find-passes p c [] e = cc
  find-passes p c (x ∷ xs) e = go (p x) refl (λ f. find-passes p c xs f) e
    where
      go : (b : Bool) → p x ≡ b → (find p xs ≡ Some c → p c ≡ true) → cond b (Some x) (find p xs) ≡ Some c → p c ≡ true
      go true hits rest f =
          let same : x ≡ c = cc in
          ap p (sym same) ∙ hits
      go false misses rest f = rest f

  -- the first that passes is still the first after others are appended
  pub find-append : (p : X → Bool) (c : X) (xs ys : List X) → find p xs ≡ Some c → find p (xs ++ ys) ≡ Some c
  find-append p c [] ys e = cc
  find-append p c (x ∷ xs) ys e = go (p x) (λ f. find-append p c xs ys f) e
    where
      go : (b : Bool) → (find p xs ≡ Some c → find p (xs ++ ys) ≡ Some c) → cond b (Some x) (find p xs) ≡ Some c → cond b (Some x) (find p (xs ++ ys)) ≡ Some c
      go true rest f = f
      go false rest f = rest f

  -- and of those that another test keeps, if that keeps it
  pub find-filter : (p q : X → Bool) (c : X) (xs : List X) → find p xs ≡ Some c → q c ≡ true → find p (filter q xs) ≡ Some c
  find-filter p q c [] e k = cc
  find-filter p q c (x ∷ xs) e k = go (p x) refl (λ f. find-filter p q c xs f k) e
    where
      kept : (b : Bool) → find p (filter q xs) ≡ Some c → p x ≡ false → find p (cond b (x ∷ filter q xs) (filter q xs)) ≡ Some c
      kept true rest misses = ap (λ t. cond t (Some x) (find p (filter q xs))) misses ∙ rest
      kept false rest misses = rest

      go : (b : Bool) → p x ≡ b → (find p xs ≡ Some c → find p (filter q xs) ≡ Some c) → cond b (Some x) (find p xs) ≡ Some c
          → find p (cond (q x) (x ∷ filter q xs) (filter q xs)) ≡ Some c
      go true hits rest f =
          let same : x ≡ c = cc in
          let keeps : q x ≡ true = ap q same ∙ k in
          ap (λ t. find p (cond t (x ∷ filter q xs) (filter q xs))) keeps ∙ (ap (λ t. cond t (Some x) (find p (filter q xs))) hits ∙ f)
      go false misses rest f = kept (q x) (rest f) misses

  -- a change of the first that passes a test, if another test gives the same result before and after it
  pub find-with_first : (p test : X → Bool) (c old new : X) (xs : List X) → find p xs ≡ Some c → find test xs ≡ Some old → test c ≡ false → p new ≡ p old
      → find p (with_first test new xs) ≡ Some c
  find-with_first p test c old new [] e f misses s = cc
  find-with_first p test c old new (x ∷ xs) e f misses s = go (test x) refl (p x) refl (λ k l. find-with_first p test c old new xs k l misses s) e f
    where
      go : (t : Bool) → test x ≡ t → (b : Bool) → p x ≡ b → (find p xs ≡ Some c → find test xs ≡ Some old → find p (with_first test new xs) ≡ Some c)
          → cond b (Some x) (find p xs) ≡ Some c → cond t (Some x) (find test xs) ≡ Some old
          → find p (cond t (new ∷ xs) (x ∷ with_first test new xs)) ≡ Some c
      go true hits true here rest k l =
          let same : x ≡ c = cc in
          let wrong : test c ≡ true = ap test (sym same) ∙ hits in
          cc
      go true hits false here rest k l =
          let same : x ≡ old = cc in
          let other : p new ≡ false = s ∙ (ap p (sym same) ∙ here) in
          ap (λ b. cond b (Some new) (find p xs)) other ∙ k
      go false away true here rest k l = ap (λ b. cond b (Some x) (find p (with_first test new xs))) here ∙ k
      go false away false here rest k l = ap (λ b. cond b (Some x) (find p (with_first test new xs))) here ∙ rest k l

  -- a change of the first that passes a test, if another test drops it before and after it
  pub filter-with_first : (p test : X → Bool) (old new : X) (xs : List X) → find test xs ≡ Some old → p old ≡ false → p new ≡ false
      → filter p (with_first test new xs) ≡ filter p xs
  filter-with_first p test old new [] f o n = refl
  filter-with_first p test old new (x ∷ xs) f o n = go (test x) (λ l. filter-with_first p test old new xs l o n) f
    where
      go : (t : Bool) → (find test xs ≡ Some old → filter p (with_first test new xs) ≡ filter p xs) → cond t (Some x) (find test xs) ≡ Some old
          → filter p (cond t (new ∷ xs) (x ∷ with_first test new xs)) ≡ cond (p x) (x ∷ filter p xs) (filter p xs)
      go true rest l =
          let same : x ≡ old = cc in
          let other : p x ≡ false = ap p same ∙ o in
          ap (λ b. cond b (new ∷ filter p xs) (filter p xs)) n ∙ sym (ap (λ b. cond b (x ∷ filter p xs) (filter p xs)) other)
      go false rest l = ap (λ ys. cond (p x) (x ∷ ys) ys) (rest l)

  -- a change of the first that passes a test, if another test gives the same result before and after it: as many pass
  pub length-with_first : (p test : X → Bool) (old new : X) (xs : List X) → find test xs ≡ Some old → p new ≡ p old
      → length (filter p (with_first test new xs)) ≡ length (filter p xs)
  length-with_first p test old new [] f s = refl
  length-with_first p test old new (x ∷ xs) f s = go (test x) (λ l. length-with_first p test old new xs l s) f
    where
      counted : (b : Bool) (y z : X) (ys : List X) → length (cond b (y ∷ ys) ys) ≡ length (cond b (z ∷ ys) ys)
      counted true y z ys = refl
      counted false y z ys = refl

      more : (b : Bool) (ys zs : List X) → length ys ≡ length zs → length (cond b (x ∷ ys) ys) ≡ length (cond b (x ∷ zs) zs)
      more true ys zs e = ap suc e
      more false ys zs e = e

      go : (t : Bool) → (find test xs ≡ Some old → length (filter p (with_first test new xs)) ≡ length (filter p xs)) → cond t (Some x) (find test xs) ≡ Some old
          → length (filter p (cond t (new ∷ xs) (x ∷ with_first test new xs))) ≡ length (cond (p x) (x ∷ filter p xs) (filter p xs))
      go true rest l =
          let same : x ≡ old = cc in
          ap (λ b. length (cond b (new ∷ filter p xs) (filter p xs))) (s ∙ ap p (sym same)) ∙ counted (p x) new x (filter p xs)
      go false rest l = more (p x) (filter p (with_first test new xs)) (filter p xs) (rest l)

  -- what holds of each element still holds after one is changed to another of which it holds
  pub All-with_first : (P : X → Type 0) (test : X → Bool) (old new : X) (xs : List X) → find test xs ≡ Some old → (P old → P new) → All P xs → All P (with_first test new xs)
  All-with_first P test old new [] f h a = a
  All-with_first P test old new (x ∷ xs) f h a = go (test x) (λ l. All-with_first P test old new xs l h (All-tail P x xs a)) f
    where
      go : (t : Bool) → (find test xs ≡ Some old → All P (with_first test new xs)) → cond t (Some x) (find test xs) ≡ Some old
          → All P (cond t (new ∷ xs) (x ∷ with_first test new xs))
      go true rest l =
          let same : x ≡ old = cc in
          All-cons P new xs (h (subst P same (All-head P x xs a))) (All-tail P x xs a)
      go false rest l = All-cons P x (with_first test new xs) (All-head P x xs a) (rest l)

  AllPairs-head : (R : X → X → Type 0) (x : X) (xs : List X) → AllPairs R (x ∷ xs) → All (R x) xs
  AllPairs-head R x xs a = λ k d h. a 0 (suc k) d (omega arith) (omega arith)

  AllPairs-tail : (R : X → X → Type 0) (x : X) (xs : List X) → AllPairs R (x ∷ xs) → AllPairs R xs
  AllPairs-tail R x xs a = λ i j d h k. a (suc i) (suc j) d (omega arith) (omega arith)

  pub AllPairs-with_first : (R : X → X → Type 0) (test : X → Bool) (old new : X) (xs : List X) → find test xs ≡ Some old
      → ((x : X) → R old x → R new x) → ((x : X) → R x old → R x new) → AllPairs R xs → AllPairs R (with_first test new xs)
  AllPairs-with_first R test old new [] f h k a = a
  AllPairs-with_first R test old new (x ∷ xs) f h k a = go (test x) (λ l. AllPairs-with_first R test old new xs l h k (AllPairs-tail R x xs a)) f
    where
      go : (t : Bool) → (find test xs ≡ Some old → AllPairs R (with_first test new xs)) → cond t (Some x) (find test xs) ≡ Some old
          → AllPairs R (cond t (new ∷ xs) (x ∷ with_first test new xs))
      go true rest l =
          let same : x ≡ old = cc in
          AllPairs-cons R new xs (All-weaker (R x) (R new) (λ y r. h y (subst (λ z. R z y) same r)) xs (AllPairs-head R x xs a)) (AllPairs-tail R x xs a)
      go false rest l =
          AllPairs-cons R x (with_first test new xs) (All-with_first (R x) test old new xs l (k x) (AllPairs-head R x xs a)) (rest l)
