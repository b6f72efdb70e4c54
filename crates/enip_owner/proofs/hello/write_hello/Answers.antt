use Rattle.enip_owner.proofs.HelloLemmas.{whole_fits, whole_long}
use Rattle.enip_owner.proofs.hello.write_hello.Goals as goal

pub returns-in-Err-TooLong : goal.returns-in-Err-TooLong
returns-in-Err-TooLong c =
    whole_long c.args.hello.now c.write_without_data.result (rw c.in-Err-TooLong.field-0-is at c.in-Err-TooLong.ensures)
    c.write_without_data.ensures

pub returns-in-Ok : goal.returns-in-Ok
returns-in-Ok c = whole_fits c.args.hello.now c.in-Ok.line c.in-Ok.ensures
