use Rattle.std.specs.Box.{boxed_slice_items}
use Rattle.cip_objects.specs.Counter.{counter_values}
use Rattle.cip_objects.specs.ObjectRef.{number_at}
use Rattle.cip_objects.proofs.Counting.{count_set, numbered_counted}
use Rattle.cip_objects.proofs.ObjectRefs.{first_at_place, place_within}
use Rattle.cip_objects.proofs.objects.Objects.count_change.Goals as goal

pub index_mut-requires : goal.index_mut-requires
index_mut-requires c = place_within c.self.inside c.args.self.now c.args.assembly_index c.self.view_is c.requires

pub invariant_of-self : goal.invariant_of-self
invariant_of-self c =
    let bs = boxed_slice_items c.self.inside.assemblies in
    let old = c.self.invariant in
    record {
      few = old.few;
      numbered = numbered_counted bs c.args.assembly_index c.index_mut.result.now c.count_change.new.self old.numbered
          c.index_mut.ensures.value c.count_change.ensures;
      free = old.free;
      value = old.value;
      limit = old.limit;
      additions = old.additions;
    }

pub returns : goal.returns
returns c =
    let o = c.self.inside in
    let m = c.args.self.now in
    let n = number_at m.shapes c.args.assembly_index in
    let f = first_at_place o m c.args.assembly_index c.self.view_is c.requires in
    count_set o.identity (boxed_slice_items o.assemblies) (counter_values o.counter) o.application m n c.args.assembly_index
    c.index_mut.result.now c.count_change.new.self c.self.view_is f c.index_mut.ensures.value c.count_change.ensures
