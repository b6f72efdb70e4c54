use Rattle.std.proofs.Common.{length, subst, sym}
use Rattle.cip_commander.specs.Outcome.{outcome_in}
use Rattle.enip_c.specs.CommanderCalls.{IsWithin}
use Rattle.enip_c.proofs.CommanderLemmas.{outcome_within}
use Rattle.enip_c.proofs.commander.receive.Goals as goal

pub return_outcome-requires : goal.return_outcome-requires
return_outcome-requires c =
    subst (IsWithin (length c.args.buffer.now)) (sym c.receive.ensures.outcome)
    (outcome_within c.args.commander.now c.args.reply.now (length c.args.buffer.now) c.requires)
