use Rattle.std.proofs.Common.{refl}
use Rattle.enip_wire.proofs.header.Header.write.Goals as goal

pub returns : goal.returns
returns c =
    rw (
      c.copy_from_slice.ensures.after,
      c.write_u32-3.ensures,
      c.write_u32-2.ensures,
      c.write_u32.ensures,
      c.write_u16-2.ensures,
      c.write_u16.ensures,
    ) refl
