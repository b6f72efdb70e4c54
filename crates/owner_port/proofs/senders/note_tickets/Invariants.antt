use Rattle.std.proofs.Common.{◌-◌, ◌≤◌}
use Rattle.owner_port.specs.Senders.{AreNoted}
use Rattle.owner_port.proofs.senders.note_tickets.Given as goal

abbrev pub invariant-loop-ticket : goal.invariant-loop-ticket
invariant-loop-ticket l = record {
  within : l.ticket - l.from ≤ l.to - l.from;
  noted : AreNoted (l.ticket - l.from) l.from l.by l.fn.known.items l.known.items;
}
