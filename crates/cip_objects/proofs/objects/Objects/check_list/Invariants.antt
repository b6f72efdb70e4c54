use Rattle.std.proofs.Common.{◌≡◌, ◌-◌}
use Rattle.cip_objects.specs.SetLists.{listed, read_to_end}
use Rattle.cip_objects.proofs.objects.Objects.check_list.Given as goal

abbrev pub invariant-loop : goal.invariant-loop
invariant-loop l =
    read_to_end (listed l.self.shapes l.resolved.object (l.count - l.counter) l.rest)
    ≡ read_to_end (listed l.self.shapes l.resolved.object l.count l.list)
