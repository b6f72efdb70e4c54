-- Look-ups by a number, of what is mapped.
use Rattle.std.proofs.Common.{◌≡◌, ℕ, List, [], ◌∷◌, ◌++◌, length, ◌≤◌, not, Bool, true, false, cond, eqb, Some, map, refl, ap, arith}
use Rattle.std.specs.Prelude.{filter}
use Rattle.std.proofs.lemmas.List.Filters.{length-filter_both}
use Rattle.std.specs.Option.{option_map}
use Rattle.enip_adapter.specs.declared.peer.PeerSlot.{PeerSlot}
use Rattle.enip_adapter.specs.Adapter.{session_in}
use Rattle.enip_adapter.specs.Groups.{is_of_group, peers_of_group}
use Rattle.enip_adapter.specs.Lookup.{first_with, with_first, without_first}

-- look-ups of what is mapped
pub map-first_with : {X Y : Type 0} → (f : X → Y) (number : Y → ℕ) (n : ℕ) (xs : List X)
    → first_with number n (map f xs) ≡ option_map f (first_with (λ x. number (f x)) n xs)
map-first_with f number n [] = refl
map-first_with {X} {Y} f number n (x ∷ xs) =
    let rest : first_with number n (map f xs) ≡ option_map f (first_with (λ y. number (f y)) n xs) = map-first_with f number n xs in
    elim (eqb (number (f x)) n) as (
    λ b. cond b (Some (f x)) (first_with number n (map f xs)) ≡ option_map f (cond b (Some x) (first_with (λ y. number (f y)) n xs))
    ) [ true ↦ refl | false ↦ rest ]

pub map-with_first : {X Y : Type 0} → (f : X → Y) (number : Y → ℕ) (n : ℕ) (new : X) (xs : List X)
    → map f (with_first (λ x. number (f x)) n new xs) ≡ with_first number n (f new) (map f xs)
map-with_first f number n new [] = refl
map-with_first {X} {Y} f number n new (x ∷ xs) =
    let rest : map f (with_first (λ y. number (f y)) n new xs) ≡ with_first number n (f new) (map f xs) = map-with_first f number n new xs in
    elim (eqb (number (f x)) n) as (
    λ b. map f (cond b (new ∷ xs) (x ∷ with_first (λ y. number (f y)) n new xs))
    ≡ cond b (f new ∷ map f xs) (f x ∷ with_first number n (f new) (map f xs))
    ) [ true ↦ refl | false ↦ ap (λ ys. f x ∷ ys) rest ]

pub map-without_first : {X Y : Type 0} → (f : X → Y) (number : Y → ℕ) (n : ℕ) (xs : List X)
    → map f (without_first (λ x. number (f x)) n xs) ≡ without_first number n (map f xs)
map-without_first f number n [] = refl
map-without_first {X} {Y} f number n (x ∷ xs) =
    let rest : map f (without_first (λ y. number (f y)) n xs) ≡ without_first number n (map f xs) = map-without_first f number n xs in
    elim (eqb (number (f x)) n) as (
    λ b. map f (cond b xs (x ∷ without_first (λ y. number (f y)) n xs))
    ≡ cond b (map f xs) (f x ∷ without_first number n (map f xs))
    ) [ true ↦ refl | false ↦ ap (λ ys. f x ∷ ys) rest ]

-- ---- the slots of a group

abbrev pub is_at_group : ℕ → PeerSlot → Bool
is_at_group group place = is_of_group group place.session

pub slots_of_group : (group : ℕ) (places : List PeerSlot)
    → peers_of_group group (map session_in places) ≡ length (filter (is_at_group group) places)
slots_of_group group [] = refl
slots_of_group group (p ∷ places) =
    let rest : peers_of_group group (map session_in places) ≡ length (filter (is_at_group group) places)
    = slots_of_group group places in
    elim (is_at_group group p) as (
    λ b. length (cond b (session_in p ∷ filter (is_of_group group) (map session_in places))
    (filter (is_of_group group) (map session_in places)))
    ≡ length (cond b (p ∷ filter (is_at_group group) places) (filter (is_at_group group) places))
    ) [ true ↦ omega (arith, rest) | false ↦ rest ]

pub at_most : (p : PeerSlot → Bool) (xs : List PeerSlot) → length (filter p xs) ≤ length xs
at_most p xs = omega (arith, length-filter_both p (λ x. not (p x)) (λ x. refl) xs)
