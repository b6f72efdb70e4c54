use Rattle.std.proofs.Common.{refl}
use Rattle.std.proofs.Output.{has_written_append}
use Rattle.enip_commands.proofs.interface.InterfaceConfigurationDisplay.fmt.Goals as goal

pub returns-clause-writes : goal.returns-clause-writes
returns-clause-writes g c = λ plain done.
    let address = c.in_ok-write.ensures.writes plain refl in
    let mask = c.in_ok-write-2.ensures.writes address.plain refl in
    let gateway = c.in_ok-write-3.ensures.writes mask.plain refl in
    let server = c.in_ok-write-4.ensures.writes gateway.plain refl in
    let server_2 = c.in_ok-write-5.ensures.writes server.plain refl in
    let name = c.write-6.ensures.writes server_2.plain done in
    has_written_append _ _ _ _ _ _ (has_written_append _ _ _ _ _ _ (has_written_append _ _ _ _ _ _ (has_written_append _ _ _ _ _ _
    (has_written_append _ _ _ _ _ _ address mask) gateway) server) server_2) name
