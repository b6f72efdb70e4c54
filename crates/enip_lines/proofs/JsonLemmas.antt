-- Values as JSON, one after the other.
use Rattle.std.proofs.Common.{◌≡◌, ℕ, ◌+◌, ◌<◌, ◌≤◌, List, [], ◌∷◌, ◌++◌, length, map, take, get_or, sym, ap, subst, ◌∙◌, Vec, Global}
use Rattle.std.proofs.lemmas.List.{take_more, take_all, map-append}
use Rattle.cip_values.specs.Values.{Value, value_in}
use Rattle.cip_values.specs.declared.value.Value.{Value as ValueInCode}
use Rattle.serde_json.specs.Data.{Data}
use Rattle.serde_json.specs.View.{view, items_of, items_view}
use Rattle.serde_json.specs.declared.value.Value.{Value as Json, Array}
use Rattle.enip_lines.specs.JsonValues.{IsJsonOf, EachJsonOf, AreJsonOf}
use Rattle.serde_json.proofs.Views.{view-Array}

rendered-append : (values : List Value) (rendered : List Data) (value : Value) (d : Data) → EachJsonOf values (items_of rendered) → IsJsonOf value d
    → EachJsonOf (values ++ value ∷ []) (items_of (rendered ++ d ∷ []))
rendered-append [] [] value d h k = (k, tt)
rendered-append [] (e ∷ rendered) value d h k = absurd h
rendered-append (v ∷ values) [] value d h k = absurd h
rendered-append (v ∷ values) (e ∷ rendered) value d h k = (h.0, rendered-append values rendered value d h.1 k)

pub told_more : (values : List ValueInCode) (place : ℕ) (default_ : ValueInCode) (list : List Json) (json : Json) → place < length values
    → EachJsonOf (map value_in (take place values)) (items_view list) → IsJsonOf (value_in (get_or values place default_)) (view json)
    → EachJsonOf (map value_in (take (place + 1) values)) (items_view (list ++ json ∷ []))
told_more values place default_ list json inside h k =
    let shown : map value_in (take (place + 1) values) ≡ map value_in (take place values) ++ value_in (get_or values place default_) ∷ [] =
    ap (map value_in) (take_more values place default_ inside) ∙ map-append value_in (take place values) (get_or values place default_ ∷ []) in
    let seen : items_view (list ++ json ∷ []) ≡ items_of (map view list ++ view json ∷ []) = ap items_of (map-append view list (json ∷ [])) in
    subst (λ (vs : List Value). EachJsonOf vs (items_view (list ++ json ∷ []))) (sym shown)
    (subst (EachJsonOf (map value_in (take place values) ++ value_in (get_or values place default_) ∷ [])) (sym seen)
    (rendered-append (map value_in (take place values)) (map view list) (value_in (get_or values place default_)) (view json) h k))

pub told_all : (values : List ValueInCode) (place : ℕ) (list : Vec Json Global) → length values ≤ place
    → EachJsonOf (map value_in (take place values)) (items_view list.items) → AreJsonOf (map value_in values) (view (Array list))
told_all values place list done h =
    rw (view-Array list) (subst (λ (vs : List ValueInCode). EachJsonOf (map value_in vs) (items_view list.items)) (take_all place values done) h)
