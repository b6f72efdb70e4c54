use Rattle.std.proofs.Common.{refl}
use Rattle.std.proofs.Output.{has_written_append}
use Rattle.enip_commands.proofs.listing.ServiceLinesDisplay.fmt.Goals as goal

pub returns-clause-writes : goal.returns-clause-writes
returns-clause-writes g c = λ plain done.
    let version = c.in_ok-write.ensures.writes plain refl in
    let flags = c.in_ok-write-2.ensures.writes version.plain refl in
    let name = c.write-3.ensures.writes flags.plain done in
    has_written_append _ _ _ _ _ _ (has_written_append _ _ _ _ _ _ version flags) name
