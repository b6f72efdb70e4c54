use Rattle.std.proofs.Common.{◌≤◌, ◌<◌, ℕ, get_or}
use Rattle.cip_application.specs.Attributes.{AttributeValues}
use Rattle.cip_application.proofs.object.index_for.Given as goal

abbrev pub invariant-loop-i : goal.invariant-loop-i
invariant-loop-i l = (k : ℕ) (d : AttributeValues) → k < l.i → (get_or l.attributes k d).number ≤ l.number
