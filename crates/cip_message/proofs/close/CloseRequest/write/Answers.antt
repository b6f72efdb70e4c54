use Rattle.std.proofs.Common.{◌/◌, [], ◌∷◌, length}
use Rattle.cip_bytes.specs.Numbers.{le}
use Rattle.cip_bytes.proofs.Joined.{seven_grow}
use Rattle.cip_message.proofs.close.CloseRequest.write.Goals as goal

pub returns-clause-ok : goal.returns-clause-ok
returns-clause-ok g c =
    let s = c.args.self.now in
    seven_grow c.args.out.now.items (s.priority_and_tick_time ∷ []) (s.timeout_ticks ∷ []) (le 2 s.connection_serial) (le 2 s.originator_vendor) (le 4 s.originator_serial) ((length s.path.now / 2) ∷ 0 ∷ []) s.path.now _ _ _ _ _ _ _
    c.append_u8.ensures.text c.append_u8-2.ensures.text c.append_u16.ensures.text c.append_u16-2.ensures.text c.append_u32.ensures.text c.append.ensures.text c.append-2.ensures.text

pub returns-clause-spelled : goal.returns-clause-spelled
returns-clause-spelled g c =
    record {
      priority_and_tick_time = c.append_u8.ensures.fits;
      timeout_ticks = c.append_u8-2.ensures.fits;
      connection_serial = c.append_u16.ensures.fits;
      originator_vendor = c.append_u16-2.ensures.fits;
      originator_serial = c.append_u32.ensures.fits;
      whole_words = c.requires.whole_words;
      counted = c.requires.counted;
      path = c.append-2.ensures.bytes;
    }
