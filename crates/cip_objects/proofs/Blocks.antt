-- The first assembly with an instance number, by its index.
use Rattle.std.proofs.Common.{◌≡◌, ℕ, zero, suc, ◌<◌, eqb, true, false, cond, List, [], ◌∷◌, length, get_or, Some, None, refl, ap, ◌∙◌, arith}
use Rattle.std.proofs.lemmas.Bool.Decides.{nat_tests}
use Rattle.cip_objects.specs.Entries.{AssemblyValues, assembly_at}
use Rattle.cip_objects.specs.FirstOf.{IsFirst}

pub eqb-same : (a b : ℕ) → a ≡ b → eqb a b ≡ true
eqb-same a b h = grind (arith, nat_tests)

pub eqb-other : (a b : ℕ) → (a ≡ b → ⊥) → eqb a b ≡ false
eqb-other a b h = grind (arith, nat_tests)

-- if no assembly has the number, none is found
pub none_at : (bs : List AssemblyValues) (i : ℕ) → ((k : ℕ) (d : AssemblyValues) → k < length bs → (get_or bs k d).instance ≡ i → ⊥) → assembly_at i bs ≡ None
none_at [] i h = refl
none_at (b ∷ bs) i h =
    ap (λ t. cond t (Some b) (assembly_at i bs)) (eqb-other b.instance i (h 0 b (omega arith)))
    ∙ none_at bs i (λ k d lt. h (suc k) d (omega arith))

-- the first one is the one that is found
pub first_at : (bs : List AssemblyValues) (i k : ℕ) (d : AssemblyValues) → IsFirst (λ b. b.instance) bs i k → assembly_at i bs ≡ Some (get_or bs k d)
first_at [] i k d f = absurd (omega (arith, f.within))
first_at (b ∷ bs) i zero d f = ap (λ t. cond t (Some b) (assembly_at i bs)) (eqb-same b.instance i (f.here d))
first_at (b ∷ bs) i (suc k) d f =
    ap (λ t. cond t (Some b) (assembly_at i bs)) (eqb-other b.instance i (f.before 0 d (omega arith)))
    ∙ first_at bs i k d (record { within = omega (arith, f.within); here = f.here; before = λ j e lt. f.before (suc j) e (omega arith) })
