use Rattle.std.proofs.Common.{◌≡◌, ◌+◌, ◌++◌, drop, length}
use Rattle.std.specs.List.{flat_map}
use Rattle.byteorder.specs.Endian.{little_bytes}
use Rattle.cip_application.specs.MessageRouter.{object_list}
use Rattle.cip_application.proofs.message_router.list_value.Given as goal

abbrev pub invariant-loop-class : goal.invariant-loop-class
invariant-loop-class l = record {
  value : l.bytes.items ++ flat_map (little_bytes 2) (drop l.class-index l.classes) ≡ object_list l.classes;
  size : length l.bytes.items ≡ l.class-index + l.class-index + 2;
}
