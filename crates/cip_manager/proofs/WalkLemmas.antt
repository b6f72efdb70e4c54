-- A walk over a list from its end that removes what fails a test.
use Rattle.std.proofs.Common.{◌≡◌, ℕ, zero, suc, ◌+◌, ◌-◌, ◌<◌, ◌≤◌, List, [], ◌∷◌, Bool, true, false, cond, get_or, length, drop, refl, ap, sym, ◌∙◌, arith}
use Rattle.std.specs.Prelude.{filter}
use Rattle.std.specs.List.{remove}
use Rattle.std.proofs.lemmas.List.{drop_more}
use Rattle.std.proofs.lemmas.List.Edits.{length-remove}

module _ {X : Type 0} where
  filter-remove : (p : X → Bool) (xs : List X) (i : ℕ) (d : X) → i < length xs → p (get_or xs i d) ≡ false → filter p (remove xs i) ≡ filter p xs
  filter-remove p [] i d h f = absurd (omega arith)
  filter-remove p (x ∷ xs) zero d h f = sym (ap (λ b. cond b (x ∷ filter p xs) (filter p xs)) f)
  filter-remove p (x ∷ xs) (suc i) d h f =
      ap (λ ys. cond (p x) (x ∷ ys) ys) (filter-remove p xs i d (omega arith) f)

  drop-remove : (xs : List X) (i : ℕ) → drop i (remove xs i) ≡ drop (suc i) xs
  drop-remove [] zero = refl
  drop-remove [] (suc i) = refl
  drop-remove (x ∷ xs) zero = refl
  drop-remove (x ∷ xs) (suc i) = drop-remove xs i

  -- the elements from the position on are those of the old ones that pass the test
  pub record IsKeptFrom (p : X → Bool) (old now : List X) (position : ℕ) : Type 0 where
    pub within : position ≤ length now
    pub same : filter p now ≡ filter p old
    pub passes : filter p (drop position now) ≡ drop position now

  -- one that passes stays
  pub IsKeptFrom-kept : (p : X → Bool) (old now : List X) (position : ℕ) (d : X) → 0 < position → p (get_or now (position - 1) d) ≡ true
      → IsKeptFrom p old now position → IsKeptFrom p old now (position - 1)
  IsKeptFrom-kept p old now position d h t kept =
      let at : ℕ = position - 1 in
      let rest : drop (at + 1) now ≡ drop position now = ap (λ i. drop i now) {x = at + 1} {y = position} (omega arith) in
      let parts : drop at now ≡ get_or now at d ∷ drop position now = drop_more now at d (omega (arith, kept.within)) ∙ ap (λ xs. get_or now at d ∷ xs) rest in
      record {
        within = omega (arith, kept.within);
        same = kept.same;
        passes =
            ap (filter p) parts
            ∙ (ap (λ b. cond b (get_or now at d ∷ filter p (drop position now)) (filter p (drop position now))) t
            ∙ (ap (λ xs. get_or now at d ∷ xs) kept.passes ∙ sym parts));
      }

  -- one that fails is removed
  pub IsKeptFrom-removed : (p : X → Bool) (old now : List X) (position : ℕ) (d : X) → 0 < position → p (get_or now (position - 1) d) ≡ false
      → IsKeptFrom p old now position → IsKeptFrom p old (remove now (position - 1)) (position - 1)
  IsKeptFrom-removed p old now position d h f kept =
      let at : ℕ = position - 1 in
      let here : at < length now = omega (arith, kept.within) in
      let rest : drop at (remove now at) ≡ drop position now = drop-remove now at ∙ ap (λ i. drop i now) {x = suc at} {y = position} (omega arith) in
      record {
        within = omega (arith, length-remove now at here);
        same = filter-remove p now at d here f ∙ kept.same;
        passes = ap (filter p) rest ∙ (kept.passes ∙ sym rest);
      }

  pub IsKeptFrom-done : (p : X → Bool) (old now : List X) → IsKeptFrom p old now 0 → now ≡ filter p old
  IsKeptFrom-done p old now kept = sym kept.passes ∙ kept.same
