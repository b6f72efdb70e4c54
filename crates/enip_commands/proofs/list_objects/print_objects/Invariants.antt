use Rattle.enip_client.specs.Lists.{entries_left}
use Rattle.enip_commands.specs.ListObjects.{object_line}
use Rattle.enip_commands.proofs.ListingLemmas.{Printed}
use Rattle.enip_commands.proofs.list_objects.print_objects.Given as goal

abbrev pub invariant-loop-entry : goal.invariant-loop-entry
invariant-loop-entry g l =
    Printed object_line (g.O.Write.contents l.initial.output) (g.O.Write.contents l.output) (entries_left l.initial.entry-iterator) (entries_left l.entry-iterator)
