use Rattle.std.proofs.Common.{refl}
use Rattle.std.proofs.Output.{has_written_append}
use Rattle.enip_commands.proofs.listing.DeviceLineDisplay.fmt.Goals as goal

pub returns-clause-writes : goal.returns-clause-writes
returns-clause-writes g c = λ plain done.
    let address = c.in_ok-write.ensures.writes plain refl in
    let name = c.in_ok-write-2.ensures.writes address.plain refl in
    let vendor = c.in_ok-write-3.ensures.writes name.plain refl in
    let product_code = c.in_ok-write-4.ensures.writes vendor.plain refl in
    let serial = c.write-5.ensures.writes product_code.plain done in
    has_written_append _ _ _ _ _ _ (has_written_append _ _ _ _ _ _ (has_written_append _ _ _ _ _ _ (has_written_append _ _ _ _ _ _ address name) vendor) product_code) serial
