use Rattle.std.proofs.Common.{take}
use Rattle.std.specs.List.{flat_map}
use Rattle.json.specs.Tree.{json_tokens}
use Rattle.enip_owner.specs.Hello.{object_json}
use Rattle.enip_owner.proofs.PartLemmas.{AreAdded}
use Rattle.enip_owner.proofs.hello.write_objects.Given as goal

abbrev pub invariant-loop-object : goal.invariant-loop-object
invariant-loop-object l = AreAdded l.fn.writer l.writer (flat_map (λ x. json_tokens (object_json l.detail x)) (take l.object-index l.objects))
