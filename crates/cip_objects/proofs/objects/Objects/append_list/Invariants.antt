use Rattle.std.proofs.Common.{◌≡◌, ◌≤◌, ◌*◌, ◌++◌, ◌&&◌, length, drop}
use Rattle.std.specs.List.{flat_map}
use Rattle.cip_objects.specs.ObjectRef.{path_to}
use Rattle.cip_bytes.specs.Numbers.{words_of}
use Rattle.cip_objects.specs.ReadServices.{list_entry, has_all_attributes}
use Rattle.cip_objects.proofs.objects.Objects.append_list.Given as goal

abbrev pub invariant-loop-i : goal.invariant-loop-i
invariant-loop-i l = record {
  text : l.reply.items ++ flat_map (list_entry l.self (path_to l.self.shapes l.resolved)) (words_of (drop (2 * l.i) l.list)) ≡ l.fn.reply.items ++ flat_map (list_entry l.self (path_to l.self.shapes l.resolved)) (words_of l.list);
  there : l.all && has_all_attributes l.self (path_to l.self.shapes l.resolved) (words_of (drop (2 * l.i) l.list)) ≡ has_all_attributes l.self (path_to l.self.shapes l.resolved) (words_of l.list);
  fits : length l.reply.items ≤ l.max_size;
}
