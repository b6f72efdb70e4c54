use Rattle.std.proofs.Common.{◌≡◌, drop, ◌==◌}
use Rattle.std.specs.List.{list_any}
use Rattle.cip_application.proofs.config.has_attribute.Given as goal

abbrev pub invariant-loop-attribute : goal.invariant-loop-attribute
invariant-loop-attribute l = list_any (λ a. a.number == l.number) (drop l.attribute-index l.attributes) ≡ list_any (λ a. a.number == l.number) l.attributes
