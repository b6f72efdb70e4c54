use Rattle.std.proofs.Common.{refl}
use Rattle.std.proofs.Output.{has_written_append}
use Rattle.enip_commands.proofs.listing.IdentityLinesDisplay.fmt.Goals as goal

pub returns-clause-writes : goal.returns-clause-writes
returns-clause-writes g c = λ plain done.
    let vendor = c.in_ok-write.ensures.writes plain refl in
    let device_type = c.in_ok-write-2.ensures.writes vendor.plain refl in
    let product_code = c.in_ok-write-3.ensures.writes device_type.plain refl in
    let revision = c.in_ok-write-4.ensures.writes product_code.plain refl in
    let status = c.in_ok-write-5.ensures.writes revision.plain refl in
    let serial = c.in_ok-write-6.ensures.writes status.plain refl in
    let name = c.in_ok-write-7.ensures.writes serial.plain refl in
    let state = c.in_ok-write-8.ensures.writes name.plain refl in
    let address = c.write-9.ensures.writes state.plain done in
    has_written_append _ _ _ _ _ _ (has_written_append _ _ _ _ _ _ (has_written_append _ _ _ _ _ _ (has_written_append _ _ _ _ _ _ (has_written_append _ _ _ _ _ _ (has_written_append _ _ _ _ _ _ (has_written_append _ _ _ _ _ _ (has_written_append _ _ _ _ _ _ vendor device_type) product_code) revision) status) serial) name) state) address
