use Rattle.std.proofs.Common.{take}
use Rattle.std.specs.List.{flat_map}
use Rattle.json.specs.Tree.{json_tokens}
use Rattle.enip_owner.specs.Hello.{object_json}
use Rattle.enip_owner.proofs.PartLemmas.{none_added, more_added, done_adding, failed_adding}
use Rattle.enip_owner.proofs.hello.write_objects.Goals as goal

pub loop-object-init : goal.loop-object-init
loop-object-init c = none_added c.args.writer.now

pub loop-object-preserved : goal.loop-object-preserved
loop-object-preserved c =
    more_added (λ x. json_tokens (object_json c.args.detail x)) c.args.objects.now c.loop-object.object-index _ c.args.writer.now
    c.loop-object.writer c.write_object.new.writer c.loop-object-test.true c.loop-object.invariant c.in_ok-write_object.ensures.ok
    c.write_object.ensures.before

pub returns-in_err-write_object : goal.returns-in_err-write_object
returns-in_err-write_object c =
    failed_adding c.from_residual.result c.args.writer.now c.loop-object.writer c.write_object.new.writer
    (flat_map (λ x. json_tokens (object_json c.args.detail x)) (take c.loop-object.object-index c.args.objects.now))
    (flat_map (λ x. json_tokens (object_json c.args.detail x)) c.args.objects.now) c.from_residual.ensures.0 c.loop-object.invariant
    c.write_object.ensures.before

pub returns : goal.returns
returns c =
    done_adding (λ x. json_tokens (object_json c.args.detail x)) c.args.objects.now c.loop-object.object-index c.args.writer.now
    c.loop-object.writer c.loop-object-test.false c.loop-object.invariant
