-- Values as JSON, and the lines that have them.
use Rattle.std.proofs.Common.{◌≡◌, ◌≤◌, ℕ, List, [], ◌∷◌, ap, refl, suc, ℤ, pos, negsuc, ◌∙◌, Global, String, string_bytes, Some, Result, Ok, Err}
use Rattle.std.specs.Prelude.{IfOk}
use Rattle.json.specs.Lex.{tokens}
use Rattle.json.specs.Print.{print}
use Rattle.serde_json.specs.Read.{read, max_depth}
use Rattle.cip_values.specs.Values.{Value, Truth, Signed, Unsigned, Bits, Real, Text, Lreal, Wide, Path, Day, Clock, Instant}
use Rattle.cip_values.specs.declared.element.ValueType.{ValueType}
use Rattle.serde_json.specs.Data.{Data, null, boolean, number, string, array, object, Items, no_items, item, depth, items_depth}
use Rattle.enip_lines.specs.JsonValues.{IsJsonOf, EachJsonOf, AreJsonOf, integer}
use Rattle.enip_commands.specs.Json.{AreValuesJson, IsValuesLine}

-- Values do not nest.
integer_flat : (z : ℤ) → depth (integer z) ≡ 0
integer_flat (pos n) = refl
integer_flat (negsuc n) = refl

pub told_flat : (value : Value) (d : Data) → IsJsonOf value d → depth d ≡ 0
told_flat (Truth truth) d h = ap depth h
told_flat (Signed z) d h = ap depth h ∙ integer_flat z
told_flat (Unsigned n) d h = ap depth h
told_flat (Bits n) d h = ap depth h
told_flat (Real bits) d h = h
told_flat (Text bytes) d h = ap depth h
told_flat (Lreal bits) d h = h
told_flat (Wide bytes) d h = ap depth h
told_flat (Path bytes) d h = ap depth h
told_flat (Day date) d h = ap depth h
told_flat (Clock clock) d h = ap depth h
told_flat (Instant date clock) d h = ap depth h

each_flat : (values : List Value) (items : Items) → EachJsonOf values items → items_depth items ≡ 0
each_flat [] no_items h = refl
each_flat [] (item d ds) h = absurd h
each_flat (value ∷ values) no_items h = absurd h
each_flat (value ∷ values) (item d ds) h = rw (told_flat value d h.0, each_flat values ds h.1) refl

pub list_nests : (values : List Value) (d : Data) → AreJsonOf values d → depth d ≡ 1
list_nests values null h = absurd h
list_nests values (boolean b) h = absurd h
list_nests values (number n) h = absurd h
list_nests values (string s) h = absurd h
list_nests values (array ds) h = ap (λ (n : ℕ). suc n) (each_flat values ds h)
list_nests values (object ms) h = absurd h

pub values_nest : (bytes : List ℕ) (value_type : ValueType) (values : List Value) (d : Data) → AreValuesJson bytes value_type values d → depth d ≡ 2
values_nest bytes value_type values d (list, rendered, is) = ap depth is ∙ rw (list_nests values list rendered) refl

-- What is known of the line of some values, if there is one.
pub values_line_from : {E : Type 0} (d : Data) (bytes : List ℕ) (value_type : ValueType) (values : List Value) (r : Result (String Global) E) → AreValuesJson bytes value_type values d
    → depth d ≤ max_depth → IfOk r (λ s. depth d ≤ max_depth → read (string_bytes s) ≡ Some d) → IfOk r (λ s. string_bytes s ≡ print (tokens (string_bytes s)))
    → IfOk r (λ s. IsValuesLine bytes value_type values (string_bytes s))
values_line_from d bytes value_type values (Ok s) shown flat reads compact = (d, (shown, reads flat, compact))
values_line_from d bytes value_type values (Err why) shown flat reads compact = tt
