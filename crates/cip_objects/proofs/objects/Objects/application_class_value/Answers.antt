use Rattle.std.proofs.Common.{sym, ap, ◌∙◌, option_map}
use Rattle.std.specs.Box.{boxed_slice_items}
use Rattle.cip_objects.specs.AttributeValue.{value_bytes}
use Rattle.cip_objects.specs.Counter.{counter_values}
use Rattle.cip_objects.specs.Entries.{attribute_in, class_attributes}
use Rattle.cip_objects.proofs.ObjectLemmas.{class_unread, class_read}
use Rattle.cip_objects.proofs.objects.Objects.application_class_value.Goals as goal

pub returns-in_err-summary-clause-value : goal.returns-in_err-summary-clause-value
returns-in_err-summary-clause-value c =
    let o = c.self.inside in
    ap (option_map value_bytes) c.from_residual.ensures
    ∙ sym (class_unread o.identity (boxed_slice_items o.assemblies) (counter_values o.counter) o.application
    c.args.self.now c.args.class c.args.attribute c.self.view_is c.self.invariant.numbered c.self.invariant.free
    c.requires.free (sym c.in_err-summary.ensures))

pub returns-clause-value : goal.returns-clause-value
returns-clause-value c =
    let o = c.self.inside in
    let summary = c.in_ok-summary.summary in
    c.class_attribute.ensures.value
    ∙ ap (λ r. attribute_in c.args.attribute (class_attributes r summary.greatest summary.instances)) c.class_revision.ensures
    ∙ sym (class_read o.identity (boxed_slice_items o.assemblies) (counter_values o.counter) o.application
    c.args.self.now c.args.class c.args.attribute c.in_ok-summary.summary c.self.view_is c.self.invariant.numbered
    c.self.invariant.free c.requires.free (sym c.in_ok-summary.ensures))
