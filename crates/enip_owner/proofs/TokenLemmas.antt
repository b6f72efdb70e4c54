-- The comparison with a token, byte by byte.
use Rattle.std.proofs.Common.{◌≡◌, ℕ, ◌+◌, ◌<◌, ◌≤◌, ◌%◌, ◌*◌, ◌==◌, ◌||◌, not, Bool, true, false, List, [], ◌∷◌, ◌++◌, length, take, get_or, refl, sym, ap, ◌∙◌, arith}
use Rattle.std.proofs.lemmas.Bool.{eqb-true, eq-eqb, or_parts, or_from, not-false, not_from_true}
use Rattle.std.proofs.lemmas.List.{take_more, take_all}
use Rattle.std.proofs.lemmas.Nat.{mod-mul-add}

-- The first bytes of a line were compared with a token.
pub record IsCompared (line token : List ℕ) (index : ℕ) (differs : Bool) : Type 0 where
  pub sizes : differs ≡ false → length line ≡ length token
  pub front : differs ≡ false → take index line ≡ take index token
  pub same : line ≡ token → differs ≡ false

within : (index size : ℕ) → index < size → index % size ≡ index
within index size h =
    let same : index ≡ 0 * size + index = omega arith in ap (λ (n : ℕ). n % size) same ∙ mod-mul-add 0 size index h

pub one_more : (line token : List ℕ) (index : ℕ) (old new : Bool) (other : ℕ) → index < length line
    → other ≡ get_or token (index % length token) 0 → new ≡ (old || not (get_or line index 0 == other))
    → IsCompared line token index old → IsCompared line token (index + 1) new
one_more line token index old new other inside other_is new_is before = record {
  sizes = λ is. before.sizes (or_parts old _ (sym new_is ∙ is)).0;
  front = λ is.
      let parts = or_parts old (not (get_or line index 0 == other)) (sym new_is ∙ is) in
      let sizes : length line ≡ length token = before.sizes parts.0 in
      let inside_token : index < length token = omega (arith, inside, sizes) in
      let place : index % length token ≡ index = within index (length token) inside_token in
      let bytes : get_or line index 0 ≡ get_or token index 0 =
      eqb-true (get_or line index 0) other (not-false (get_or line index 0 == other) parts.1) ∙ other_is
      ∙ ap (λ (k : ℕ). get_or token k 0) place in
      take_more line index 0 inside ∙ ap (λ (l : List ℕ). l ++ get_or line index 0 ∷ []) (before.front parts.0)
      ∙ ap (λ (b : ℕ). take index token ++ b ∷ []) bytes ∙ sym (take_more token index 0 inside_token);
  same = λ is.
      let inside_token : index < length token = omega (arith, inside, ap (λ (l : List ℕ). length l) is) in
      let place : index % length token ≡ index = within index (length token) inside_token in
      let bytes : get_or line index 0 ≡ other =
      ap (λ (l : List ℕ). get_or l index 0) is ∙ ap (λ (k : ℕ). get_or token k 0) (sym place) ∙ sym other_is in
      new_is
      ∙ or_from old (not (get_or line index 0 == other)) (before.same is)
      (not_from_true (get_or line index 0 == other) (eq-eqb (get_or line index 0) other bytes));
}

pub all_compared : (line token : List ℕ) (index : ℕ) (differs : Bool) → length line ≤ index → IsCompared line token index differs
    → differs ≡ false → line ≡ token
all_compared line token index differs done compared is =
    let sizes : length line ≡ length token = compared.sizes is in
    sym (take_all index line done) ∙ compared.front is ∙ take_all index token (omega (arith, done, sizes))
