use Rattle.std.proofs.Common.{[], ◌∷◌, ◌++◌, codes, decimal, ap, refl, subst, ◌∙◌}
use Rattle.json.specs.Token.{begin_object, end_object, key, number}
use Rattle.enip_owner.specs.Hello.{attribute_list, object_head, name_tokens}
use Rattle.enip_owner.specs.Parts.{Adds}
use Rattle.enip_owner.proofs.HelloLemmas.{joined_four, object_tokens}
use Rattle.enip_owner.proofs.hello.write_object.Goals as goal

pub returns : goal.returns
returns c =
    let o = c.args.object.now in
    subst (Adds c.write_part.result c.args.writer.now c.write_part.new.writer) (object_tokens c.args.detail o)
    (joined_four c.write_part.result c.args.writer.now c.write_numbers.new.writer c.write_name.new.writer c.write_attribute_list.new.writer
    c.write_part.new.writer (object_head o) (name_tokens o.name) (attribute_list c.args.detail o.attributes.now) (end_object ∷ [])
    c.in_ok-write_numbers.ensures.ok c.write_numbers.ensures.before
    c.in_ok-write_name.ensures.ok c.write_name.ensures.before
    c.in_ok-write_attribute_list.ensures.ok c.write_attribute_list.ensures.before c.write_part.ensures)
