use Rattle.std.proofs.Common.{take}
use Rattle.std.specs.List.{flat_map}
use Rattle.json.specs.Tree.{json_tokens}
use Rattle.enip_owner.specs.Hello.{attribute_json}
use Rattle.enip_owner.proofs.PartLemmas.{AreAdded}
use Rattle.enip_owner.proofs.hello.write_attributes.Given as goal

abbrev pub invariant-loop-attribute : goal.invariant-loop-attribute
invariant-loop-attribute l = AreAdded l.fn.writer l.writer (flat_map (λ x. json_tokens (attribute_json l.detail x)) (take l.attribute-index l.attributes))
