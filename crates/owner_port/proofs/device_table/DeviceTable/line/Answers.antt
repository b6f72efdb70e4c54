use Rattle.std.proofs.Common.{refl}
use Rattle.enip_owner.specs.declared.hello.HelloEvent.{HelloEvent}
use Rattle.owner_port.proofs.SessionLemmas.{written_hello}
use Rattle.owner_port.proofs.device_table.DeviceTable.line.Goals as goal

pub returns : goal.returns
returns c =
    let table = c.args.self.now in
    let e : HelloEvent = record {
      vendor = table.vendor;
      product_code = table.product_code;
      serial = table.serial;
      name = c.as_str.result;
      life = c.args.life;
      ahead = table.ahead;
      objects = c.as_slice.result;
    } in
    written_hello table c.args.life e c.write_hello.result
    (record {
      vendor_is = refl;
      product_code_is = refl;
      serial_is = refl;
      name_is = c.as_str.ensures.value;
      life_is = refl;
      ahead_is = refl;
    }) c.write_hello.ensures
