use Rattle.std.proofs.Common.{◌≡◌, drop}
use Rattle.kept_adapter.specs.Origins.{attribute_in}
use Rattle.kept_adapter.proofs.origins.kind_in.Given as goal

abbrev pub invariant-loop-attribute : goal.invariant-loop-attribute
invariant-loop-attribute l =
    attribute_in l.number (drop l.attribute-index l.attributes) ≡ attribute_in l.number l.attributes
