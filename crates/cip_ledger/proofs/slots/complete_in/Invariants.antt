use Rattle.std.proofs.Common.{◌≡◌}
use Rattle.cip_ledger.proofs.CompletedSlots.{completed_front, any_front}
use Rattle.cip_ledger.proofs.slots.complete_in.Given as goal

abbrev pub invariant-loop-index : goal.invariant-loop-index
invariant-loop-index l = record {
  taken : l.taken ≡ completed_front l.index l.ticket l.reply l.fn.taken;
  any : l.any ≡ any_front l.index l.ticket l.fn.taken;
}
