use Rattle.std.proofs.Common.{◌≡◌, ℕ, List, map, length}
use Rattle.cip_values.specs.declared.element.Form.{Form}
use Rattle.cip_values.specs.Values.{Value, value_in, BeginsWithAll}
use Rattle.cip_values.proofs.values.read_front.Given as goal

pub record ReadSoFar (form : Form) (bytes : List ℕ) (values : List Value) (rest : List ℕ) (count : ℕ) : Type 0 where
  pub begins : BeginsWithAll form bytes values rest
  pub counted : length values ≡ count

abbrev pub invariant-loop-index : goal.invariant-loop-index
invariant-loop-index l = ReadSoFar l.form l.bytes (map value_in l.values.items) l.rest l._index
