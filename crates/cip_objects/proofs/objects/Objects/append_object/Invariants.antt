use Rattle.std.proofs.Common.{◌≡◌, ◌≤◌, ◌++◌, length, drop, Some}
use Rattle.std.specs.List.{flat_map}
use Rattle.cip_objects.specs.declared.object_ref.ObjectRef.TheVariants as object_refs
use Rattle.cip_objects.specs.ObjectRef.{bytes_to, object_in}
use Rattle.cip_objects.specs.ReadServices.{numbers_of}
use Rattle.cip_objects.proofs.objects.Objects.append_object.Given as goal

abbrev pub invariant-loop-index : goal.invariant-loop-index
invariant-loop-index l = record {
  text : l.reply.items ++ flat_map (bytes_to l.self (object_refs.Application l.object_index)) (drop l.index (numbers_of (Some (object_in l.self.shapes l.object_index)))) ≡ l.fn.reply.items ++ flat_map (bytes_to l.self (object_refs.Application l.object_index)) (numbers_of (Some (object_in l.self.shapes l.object_index)));
  fits : length l.reply.items ≤ l.max_size;
}
