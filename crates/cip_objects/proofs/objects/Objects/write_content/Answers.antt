use Rattle.std.specs.Box.{boxed_slice_items}
use Rattle.cip_objects.specs.Counter.{counter_values}
use Rattle.cip_objects.specs.ObjectRef.{number_at}
use Rattle.cip_objects.proofs.ObjectRefs.{first_at_place, place_within}
use Rattle.cip_objects.proofs.Writes.{content_read, content_set, numbered_set}
use Rattle.cip_objects.proofs.objects.Objects.write_content.Goals as goal

pub index_mut-requires : goal.index_mut-requires
index_mut-requires c = place_within c.self.inside c.args.self.now c.args.assembly_index c.self.view_is c.requires.there

pub write-requires : goal.write-requires
write-requires c =
    let o = c.self.inside in
    let m = c.args.self.now in
    let n = number_at m.shapes c.args.assembly_index in
    let f = first_at_place o m c.args.assembly_index c.self.view_is c.requires.there in
    let b = c.index_mut.result.now in
    let numbered = c.self.invariant.numbered in
    let e = content_read o.identity (boxed_slice_items o.assemblies) (counter_values o.counter) o.application m n c.args.assembly_index b
    c.self.view_is numbered c.self.invariant.free f in
    rw (c.index_mut.ensures.value, ← e) c.requires.inside

pub invariant_of-self : goal.invariant_of-self
invariant_of-self c =
    let bs = boxed_slice_items c.self.inside.assemblies in
    let old = c.self.invariant in
    record {
      few = old.few;
      numbered = numbered_set bs c.args.assembly_index c.index_mut.result.now c.write.new.self _ old.numbered
          c.index_mut.ensures.value c.write.ensures;
      free = old.free;
      value = old.value;
      limit = old.limit;
      additions = old.additions;
    }

pub returns : goal.returns
returns c =
    let o = c.self.inside in
    let m = c.args.self.now in
    let n = number_at m.shapes c.args.assembly_index in
    let f = first_at_place o m c.args.assembly_index c.self.view_is c.requires.there in
    content_set o.identity (boxed_slice_items o.assemblies) (counter_values o.counter) o.application m n c.args.assembly_index
    c.index_mut.result.now c.write.new.self c.args.offset c.args.bytes.now c.self.view_is c.self.invariant.numbered c.self.invariant.free f
    c.index_mut.ensures.value c.write.ensures
