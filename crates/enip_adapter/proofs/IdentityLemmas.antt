-- The identity item, attribute by attribute.
use Rattle.std.proofs.Common.{◌≡◌, ℕ, ◌+◌, ◌<◌, List, ◌++◌, length, drop, get_or, append_assoc, sym, ap, ◌∙◌}
use Rattle.std.specs.List.{flat_map}
use Rattle.std.proofs.lemmas.List.{drop_more}

-- one more element of a joined list
pub joined_more : (f : ℕ → List ℕ) (xs front more whole : List ℕ) (i d : ℕ) → i < length xs → more ≡ front ++ f (get_or xs i d)
    → front ++ flat_map f (drop i xs) ≡ whole → more ++ flat_map f (drop (i + 1) xs) ≡ whole
joined_more f xs front more whole i d inside is before =
    ap (λ m. m ++ flat_map f (drop (i + 1) xs)) is
    ∙ append_assoc front (f (get_or xs i d)) (flat_map f (drop (i + 1) xs))
    ∙ ap (λ l. front ++ flat_map f l) (sym (drop_more xs i d inside))
    ∙ before
