use Rattle.std.proofs.Common.{Some, Err, sym, ap, ◌∙◌}
use Rattle.std.specs.Box.{boxed_slice_items}
use Rattle.cip_objects.specs.Counter.{counter_values}
use Rattle.cip_objects.proofs.ObjectLemmas.{found_index}
use Rattle.cip_objects.proofs.OwnRequests.{checks_here, as_refusal}
use Rattle.cip_objects.proofs.objects.Objects.check_checked.Goals as goal

pub check_before_asking-requires : goal.check_before_asking-requires
check_before_asking-requires c =
    let o = c.self.inside in
    (found_index o.identity (boxed_slice_items o.assemblies) (counter_values o.counter) o.application c.args.self.now
    c.args.object_index c.self.view_is c.self.invariant.free c.requires).within

pub returns-in_err-check_before_asking-clause-checks :
    goal.returns-in_err-check_before_asking-clause-checks
returns-in_err-check_before_asking-clause-checks c =
    let o = c.self.inside in
    c.from_residual.ensures
    ∙ checks_here o.identity (boxed_slice_items o.assemblies) (counter_values o.counter) o.application c.args.self.now
    c.args.object_index c.args.attribute c.args.data.now _ c.self.view_is c.self.invariant.numbered c.self.invariant.free c.requires
    c.in_err-check_before_asking.ensures.checks

pub returns-in-Ok-clause-checks : goal.returns-in-Ok-clause-checks
returns-in-Ok-clause-checks c =
    let o = c.self.inside in
    sym (ap (λ r. Some (as_refusal r)) c.in-Ok.is)
    ∙ checks_here o.identity (boxed_slice_items o.assemblies) (counter_values o.counter) o.application c.args.self.now
    c.args.object_index c.args.attribute c.args.data.now _ c.self.view_is c.self.invariant.numbered c.self.invariant.free c.requires
    c.in_ok-check_before_asking.ensures.checks

pub returns-in-Err-clause-checks : goal.returns-in-Err-clause-checks
returns-in-Err-clause-checks c =
    let o = c.self.inside in
    ap (λ s. Some (Err s)) c.from.ensures
    ∙ sym (ap (λ r. Some (as_refusal r)) c.in-Err.is)
    ∙ checks_here o.identity (boxed_slice_items o.assemblies) (counter_values o.counter) o.application c.args.self.now
    c.args.object_index c.args.attribute c.args.data.now _ c.self.view_is c.self.invariant.numbered c.self.invariant.free c.requires
    c.in_ok-check_before_asking.ensures.checks
