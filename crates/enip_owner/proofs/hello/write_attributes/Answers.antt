use Rattle.std.proofs.Common.{take}
use Rattle.std.specs.List.{flat_map}
use Rattle.json.specs.Tree.{json_tokens}
use Rattle.enip_owner.specs.Hello.{attribute_json}
use Rattle.enip_owner.proofs.PartLemmas.{none_added, more_added, done_adding, failed_adding}
use Rattle.enip_owner.proofs.hello.write_attributes.Goals as goal

pub loop-attribute-init : goal.loop-attribute-init
loop-attribute-init c = none_added c.args.writer.now

pub loop-attribute-preserved : goal.loop-attribute-preserved
loop-attribute-preserved c =
    more_added (λ x. json_tokens (attribute_json c.args.detail x)) c.args.attributes.now c.loop-attribute.attribute-index _ c.args.writer.now
    c.loop-attribute.writer c.write_attribute.new.writer c.loop-attribute-test.true c.loop-attribute.invariant c.in_ok-write_attribute.ensures.ok
    c.write_attribute.ensures.before

pub returns-in_err-write_attribute : goal.returns-in_err-write_attribute
returns-in_err-write_attribute c =
    failed_adding c.from_residual.result c.args.writer.now c.loop-attribute.writer c.write_attribute.new.writer
    (flat_map (λ x. json_tokens (attribute_json c.args.detail x)) (take c.loop-attribute.attribute-index c.args.attributes.now))
    (flat_map (λ x. json_tokens (attribute_json c.args.detail x)) c.args.attributes.now) c.from_residual.ensures.0 c.loop-attribute.invariant
    c.write_attribute.ensures.before

pub returns : goal.returns
returns c =
    done_adding (λ x. json_tokens (attribute_json c.args.detail x)) c.args.attributes.now c.loop-attribute.attribute-index c.args.writer.now
    c.loop-attribute.writer c.loop-attribute-test.false c.loop-attribute.invariant
