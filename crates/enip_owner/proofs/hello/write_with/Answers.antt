use Rattle.std.proofs.Common.{[], ◌∷◌, ◌∙◌}
use Rattle.std.specs.List.{flat_map}
use Rattle.json.specs.Token.{end_object, end_array}
use Rattle.json.specs.Tree.{json_tokens}
use Rattle.enip_owner.specs.Hello.{object_json, hello_json, hello_head}
use Rattle.enip_owner.proofs.PartLemmas.{written}
use Rattle.enip_owner.proofs.HelloLemmas.{joined_all, hello_tokens, hello_shallow}
use Rattle.enip_owner.proofs.hello.write_with.Goals as goal

pub returns : goal.returns
returns c =
    let h = c.args.hello.now in
    let same =
    joined_all c.in_ok-writer.writer c.write_device.new.writer c.write_objects.new.writer c.write_parts.new.writer (hello_head h)
    (flat_map (λ o. json_tokens (object_json c.args.detail o)) h.objects.now) (end_array ∷ end_object ∷ end_object ∷ [])
    c.in_ok-writer.ensures.tokens c.in_ok-write_device.ensures.ok c.in_ok-write_objects.ensures.ok c.in_ok-write_parts.ensures.ok in
    written (hello_json c.args.detail h) c.write_parts.new.writer c.line_from.result
    (c.write_parts.ensures.before ∙ c.write_objects.ensures.before ∙ c.write_device.ensures.before ∙ c.in_ok-writer.ensures.before)
    (same ∙ hello_tokens c.args.detail h) (hello_shallow c.args.detail h) c.line_from.ensures
