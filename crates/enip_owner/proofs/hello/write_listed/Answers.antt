use Rattle.std.proofs.Common.{[], ◌∷◌, codes}
use Rattle.std.specs.List.{flat_map}
use Rattle.json.specs.Token.{key, begin_array, end_array}
use Rattle.json.specs.Tree.{json_tokens}
use Rattle.enip_owner.specs.Hello.{attribute_json}
use Rattle.enip_owner.proofs.HelloLemmas.{joined}
use Rattle.enip_owner.proofs.hello.write_listed.Goals as goal

pub returns : goal.returns
returns c =
    joined c.write_part-2.result c.args.writer.now c.write_part.new.writer c.write_attributes.new.writer c.write_part-2.new.writer
    (key (codes "attributes") ∷ begin_array ∷ []) (flat_map (λ a. json_tokens (attribute_json c.args.detail a)) c.args.attributes.now)
    (end_array ∷ []) c.in_ok-write_part.ensures.ok c.write_part.ensures.before c.in_ok-write_attributes.ensures.ok
    c.write_attributes.ensures.before c.write_part-2.ensures
