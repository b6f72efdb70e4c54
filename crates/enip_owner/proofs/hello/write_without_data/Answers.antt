use Rattle.enip_owner.proofs.HelloLemmas.{types_fit, types_long}
use Rattle.enip_owner.proofs.hello.write_without_data.Goals as goal

pub returns-in-Err-TooLong : goal.returns-in-Err-TooLong
returns-in-Err-TooLong c =
    types_long c.args.hello.now c.write_with-in-Err-TooLong.result (rw c.in-Err-TooLong.field-0-is at c.in-Err-TooLong.ensures)
    c.write_with-in-Err-TooLong.ensures

pub returns-in-Ok : goal.returns-in-Ok
returns-in-Ok c = types_fit c.args.hello.now c.in-Ok.line c.in-Ok.ensures
