-- Lists read by position, and deliveries from them.
use Rattle.std.proofs.Common.{◌≡◌, ℕ, zero, suc, ◌<◌, ◌≤◌, ◌⊎◌, inl, inr, Bool, true, false, cond, Option, Some, None, option_map, List, [], ◌∷◌, ◌++◌, map, length, slice_get, leb, leb-true, le-leb, refl, ap, ap₂, sym, ◌∙◌, subst, arith}
use Rattle.std.proofs.lemmas.Option.{slice_get-map, slice_get_within, same_Some}
use Rattle.enip_bench.specs.Events.{is_in_order, delivery, with_any}

-- an element keeps its position when one more is appended
pub get-kept : {X : Type 0} (xs : List X) (x y : X) (i : ℕ) → slice_get xs i ≡ Some y → slice_get (xs ++ x ∷ []) i
    ≡ Some y
get-kept [] x y i e = absurd (cc)
get-kept (z ∷ xs) x y zero e = e
get-kept (z ∷ xs) x y (suc i) e = get-kept xs x y i e

pub get-last : {X : Type 0} (xs : List X) (x : X) → slice_get (xs ++ x ∷ []) (length xs) ≡ Some x
get-last [] x = refl
get-last (z ∷ xs) x = get-last xs x

-- an element after one more was appended was there before, or is that one
pub get-push : {X : Type 0} (xs : List X) (x y : X) (i : ℕ) → slice_get (xs ++ x ∷ []) i ≡ Some y →
    (slice_get xs i ≡ Some y) ⊎ ((length xs ≡ i) × (x ≡ y))
get-push [] x y zero e = inr (refl, same_Some x y e)
get-push [] x y (suc i) e = absurd (cc)
get-push (z ∷ xs) x y zero e = inl e
get-push (z ∷ xs) x y (suc i) e = elim (get-push xs x y i e) [ inl h ↦ inl h | inr h ↦ inr (ap suc h.0, h.1) ]

-- P holds for every element of a list
abbrev pub Each : {X : Type 0} → (X → Type 0) → List X → Type 0
Each P xs = (i : ℕ) (x : _) → slice_get xs i ≡ Some x → P x

pub each-push : {X : Type 0} (P : X → Type 0) (xs : List X) (x : X) → Each P xs → P x → Each P (xs ++ x ∷ [])
each-push P xs x each here i y e = elim (get-push xs x y i e) [ inl h ↦ each i y h | inr h ↦ subst P h.1 here ]

-- R holds for any two elements, the first before the second
abbrev pub Ordered : {X : Type 0} → (X → X → Type 0) → List X → Type 0
Ordered R xs = (i j : ℕ) (x y : _) → i < j → slice_get xs i ≡ Some x → slice_get xs j ≡ Some y → R x y

before_last : {X : Type 0} (R : X → X → Type 0) (xs : List X) (last : X) → Each (λ x. R x last) xs →
    (i j : ℕ) (x y : X) →
    i < j → (length xs ≡ j) × (last ≡ y) → (slice_get xs i ≡ Some x) ⊎ ((length xs ≡ i) × (last ≡ x)) → R x y
before_last R xs last below i j x y lt end (inl e) = subst (λ z. R x z) end.1 (below i x e)
before_last R xs last below i j x y lt end (inr e) = absurd (omega arith)

before_old : {X : Type 0} (R : X → X → Type 0) (xs : List X) (last : X) → Ordered R xs → (i j : ℕ) (x y : X) → i < j →
    slice_get xs j ≡ Some y → (slice_get xs i ≡ Some x) ⊎ ((length xs ≡ i) × (last ≡ x)) → R x y
before_old R xs last ordered i j x y lt f (inl e) = ordered i j x y lt e f
before_old R xs last ordered i j x y lt f (inr e) = absurd (omega (arith, slice_get_within xs j y f))

pub ordered-push : {X : Type 0} (R : X → X → Type 0) (xs : List X) (last : X) → Ordered R xs → Each (λ x. R x last) xs →
    Ordered R (xs ++ last ∷ [])
ordered-push R xs last ordered below i j x y lt e f = elim (get-push xs last y j f) [
  | inl g ↦ before_old R xs last ordered i j x y lt g (get-push xs last x i e)
  | inr g ↦ before_last R xs last below i j x y lt g (get-push xs last x i e)
]

pub map-same : {X Y : Type 0} (f g : X → Y) (xs : List X) → Each (λ x. f x ≡ g x) xs → map f xs ≡ map g xs
map-same f g [] same = refl
map-same f g (x ∷ xs) same = ap₂ (λ y ys. y ∷ ys) (same zero x refl) (map-same f g xs (λ i y e. same (suc i) y e))

pub map-push : {X Y : Type 0} (f : X → Y) (xs : List X) (x : X) → map f (xs ++ x ∷ []) ≡ map f xs ++ f x ∷ []
map-push f [] x = refl
map-push f (y ∷ xs) x = ap (λ ys. f y ∷ ys) (map-push f xs x)

pub map-with_any : {X Y : Type 0} (f : X → Y) (o : Option X) (xs : List X) → map f (with_any o xs)
    ≡ with_any (option_map f o) (map f xs)
map-with_any f None xs = refl
map-with_any f (Some x) xs = map-push f xs x

some_of_cond : {X : Type 0} (b : Bool) (o : Option X) (x : X) → cond b o None ≡ Some x → (b ≡ true) × (o ≡ Some x)
some_of_cond true o x e = (refl, e)
some_of_cond false o x e = absurd (cc)

map-cond : {X Y : Type 0} (f : X → Y) (b : Bool) (o : Option X) → cond b (option_map f o) None
    ≡ option_map f (cond b o None)
map-cond f true o = refl
map-cond f false o = refl

-- a delivery brings the element at its position
pub delivered : {X : Type 0} (last : Option ℕ) (xs : List X) (k : ℕ) (x : X) → delivery last xs k ≡ Some x →
    slice_get xs k ≡ Some x
delivered last xs k x e = (some_of_cond (is_in_order last k) (slice_get xs k) x e).1

in_order_later : (last : Option ℕ) (k j : ℕ) → is_in_order last k ≡ true → k ≤ j → is_in_order last j ≡ true
in_order_later None k j e le = refl
in_order_later (Some last) k j e le = le-leb last j (omega (arith, leb-true last k e))

-- what can be delivered after a delivery could be delivered before it
pub delivered_later : {X : Type 0} (last : Option ℕ) (xs : List X) (k j : ℕ) (x y : X) → delivery last xs k ≡ Some x →
    delivery (Some k) xs j ≡ Some y → (k ≤ j) × (delivery last xs j ≡ Some y)
delivered_later last xs k j x y e f =
    let a = some_of_cond (is_in_order last k) (slice_get xs k) x e in
    let b = some_of_cond (leb k j) (slice_get xs j) y f in
    let le : k ≤ j = leb-true k j b.0 in
    (le, ap (λ t. cond t (slice_get xs j) None) (in_order_later last k j a.0 le) ∙ b.1)

in_order-push : {X : Type 0} (last : Option ℕ) (xs : List X) (k : ℕ) (x y : X) → is_in_order last k ≡ true →
    (slice_get xs k ≡ Some y) ⊎ ((length xs ≡ k) × (x ≡ y)) →
    (delivery last xs k ≡ Some y) ⊎ ((length xs ≡ k) × (x ≡ y))
in_order-push last xs k x y e (inl h) = inl (ap (λ t. cond t (slice_get xs k) None) e ∙ h)
in_order-push last xs k x y e (inr h) = inr h

-- after one more was appended, a delivery brings what it brought before, or that one
pub delivered-push : {X : Type 0} (last : Option ℕ) (xs : List X) (x y : X) (k : ℕ) → delivery last (xs ++ x ∷ []) k
    ≡ Some y →
    (delivery last xs k ≡ Some y) ⊎ ((length xs ≡ k) × (x ≡ y))
delivered-push last xs x y k e =
    let a = some_of_cond (is_in_order last k) (slice_get (xs ++ x ∷ []) k) y e in
    in_order-push last xs k x y a.0 (get-push xs x y k a.1)

pub delivery-map : {X Y : Type 0} (f : X → Y) (last : Option ℕ) (xs : List X) (k : ℕ) →
    delivery last (map f xs) k ≡ option_map f (delivery last xs k)
delivery-map f last xs k =
    ap (λ o. cond (is_in_order last k) o None) (slice_get-map f xs k) ∙ map-cond f (is_in_order last k) (slice_get xs k)

-- the element at the same or a later position is not lower
pub not_lower : {X : Type 0} (f : X → ℕ) (xs : List X) → Ordered (λ x y. f x ≤ f y) xs → (i j : ℕ) (x y : X) → i ≤ j →
    slice_get xs i ≡ Some x → slice_get xs j ≡ Some y → (i < j) ⊎ (j ≤ i) → f x ≤ f y
not_lower f xs ordered i j x y le d e (inl lt) = ordered i j x y lt d e
not_lower f xs ordered i j x y le d e (inr ge) =
    let same : i ≡ j = omega arith in
    omega (arith, ap f (same_Some x y (sym d ∙ ap (slice_get xs) same ∙ e)))
