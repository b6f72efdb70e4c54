-- Lists that are written one item after another.
use Rattle.std.proofs.Common.{◌≡◌, ℕ, ◌+◌, ◌<◌, ◌≤◌, List, [], ◌∷◌, ◌++◌, length, take, get_or, sym, ap, subst, ◌∙◌, arith}
use Rattle.std.proofs.lemmas.List.{take_more, length-take-le}
use Rattle.std.proofs.lemmas.List.{flat_map_more}
use Rattle.std.specs.List.{flat_map}
use Rattle.enip_eds.specs.Steps.{Written, written, Steps, More}

-- One more item was written: the one at this index.
pub more_steps_at : {X : Type 0} (step : ℕ → X → Written → Written → Type 0) (items : List X) (index : ℕ) (item : X) (start before after : Written)
    → index < length items → Steps step start (take index items) before → step index (get_or items index item) before after
    → Steps step start (take (index + 1) items) after
more_steps_at step items index item start before after inside steps next =
    let size : length (take index items) ≡ index = length-take-le index items (omega (arith, inside)) in
    subst (λ l. Steps step start l after) (sym (take_more items index item inside))
    (More steps (subst (λ n. step n (get_or items index item) before after) (sym size) next))

-- The same for an item that is known to be there.
pub more_steps : {X : Type 0} (step : ℕ → X → Written → Written → Type 0) (items : List X) (index : ℕ) (item : X) (start before after : Written)
    → index < length items → item ≡ get_or items index item → Steps step start (take index items) before → step index item before after
    → Steps step start (take (index + 1) items) after
more_steps step items index item start before after inside is steps next =
    more_steps_at step items index item start before after inside steps (subst (λ x. step index x before after) is next)

-- The same number and the same text.
pub written_is : (next next' : ℕ) (text text' : List ℕ) → next ≡ next' → text ≡ text' → written next text ≡ written next' text'
written_is next next' text text' same_next same_text = ap (λ n. written n text) same_next ∙ ap (written next') same_text

-- The text of one more item.
pub flat_map_next : {X : Type 0} (f : X → List ℕ) (items : List X) (index : ℕ) (item : X) → index < length items → item ≡ get_or items index item
    → flat_map f (take index items) ++ f item ≡ flat_map f (take (index + 1) items)
flat_map_next f items index item inside is =
    flat_map_more f [] (take index items) item
    ∙ ap (flat_map f) (ap (λ x. take index items ++ x ∷ []) is ∙ sym (take_more items index item inside))
