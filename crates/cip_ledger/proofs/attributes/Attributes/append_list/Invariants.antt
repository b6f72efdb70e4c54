use Rattle.std.proofs.Common.{◌≡◌, ◌≤◌, ◌*◌, ◌++◌, ◌&&◌, length, drop}
use Rattle.std.specs.List.{flat_map}
use Rattle.cip_bytes.specs.Numbers.{words_of}
use Rattle.cip_ledger.specs.AttributeValue.{values_in}
use Rattle.cip_ledger.specs.Services.{list_entry, has_all}
use Rattle.cip_ledger.proofs.attributes.Attributes.append_list.Given as goal

abbrev pub invariant-loop-i : goal.invariant-loop-i
invariant-loop-i l = record {
  text : l.reply.items ++ flat_map (list_entry (values_in l.self)) (words_of (drop (2 * l.i) l.list)) ≡ l.fn.reply.items ++ flat_map (list_entry (values_in l.self)) (words_of l.list);
  there : l.all && has_all (values_in l.self) (words_of (drop (2 * l.i) l.list)) ≡ has_all (values_in l.self) (words_of l.list);
  fits : length l.reply.items ≤ l.max_size;
}
