use Rattle.std.proofs.Common.{length, subst, sym}
use Rattle.cip_commander.specs.Withdrawing.{withdrawing_in}
use Rattle.enip_c.specs.CommanderCalls.{IsWithdrawingWithin}
use Rattle.enip_c.proofs.CommanderLemmas.{withdrawing_within}
use Rattle.enip_c.proofs.commander.receive_withdrawal.Goals as goal

pub return_withdrawing-requires : goal.return_withdrawing-requires
return_withdrawing-requires c =
    subst (IsWithdrawingWithin (length c.args.buffer.now)) (sym c.receive_withdrawal.ensures.outcome)
    (withdrawing_within c.args.commander.now c.args.reply.now (length c.args.buffer.now) c.requires)
