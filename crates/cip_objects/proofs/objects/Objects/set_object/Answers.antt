use Rattle.std.proofs.Common.{sym}
use Rattle.std.specs.Box.{boxed_slice_items}
use Rattle.cip_objects.specs.Counter.{counter_values}
use Rattle.cip_objects.proofs.ObjectLemmas.{found_index, settable_here, set_apart, set_done, set_refused, answer_refused}
use Rattle.cip_objects.proofs.objects.Objects.set_object.Goals as goal

pub set-requires : goal.set-requires
set-requires c =
    let o = c.self.inside in
    (found_index o.identity (boxed_slice_items o.assemblies) (counter_values o.counter) o.application c.args.self.now
    c.args.object_index c.self.view_is c.self.invariant.free c.requires.there).within

pub returns-in_err-set-clause-change_result : goal.returns-in_err-set-clause-change_result
returns-in_err-set-clause-change_result c =
    let o = c.self.inside in
    answer_refused _ c.from_residual.result _ _ c.from_residual.ensures
    (set_refused o.identity (boxed_slice_items o.assemblies) (counter_values o.counter) o.application c.args.self.now
    c.args.object_index c.args.number c.args.data.now _ c.self.view_is c.requires.there c.requires.settable
    c.in_err-set.ensures.fault)

pub invariant_of-self-2 : goal.invariant_of-self-2
invariant_of-self-2 c =
    let o = c.self.inside in
    let old = c.self.invariant in
    let s = settable_here o.identity (boxed_slice_items o.assemblies) (counter_values o.counter) o.application
    c.args.self.now c.args.object_index c.args.number c.self.view_is c.requires.settable in
    record {
      few = old.few;
      numbered = old.numbered;
      free = set_apart o.counter.enabled c.args.object_index c.args.number o.application c.set.new.self s.attribute
          c.args.data.now s.found s.settable c.in_ok-set.ensures.set old.free;
      value = old.value;
      limit = old.limit;
      additions = old.additions;
    }

pub returns-clause-change_result : goal.returns-clause-change_result
returns-clause-change_result c =
    let o = c.self.inside in
    sym (set_done o.identity (boxed_slice_items o.assemblies) (counter_values o.counter) o.application c.args.self.now
    c.args.object_index c.args.number c.args.data.now c.set.new.self c.self.view_is c.self.invariant.free
    c.requires.there c.requires.settable c.in_ok-set.ensures.set)
