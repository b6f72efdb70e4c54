use Rattle.std.proofs.Common.{[], ◌∷◌}
use Rattle.cip_bytes.specs.Numbers.{le}
use Rattle.cip_bytes.proofs.Joined.{seven_grow}
use Rattle.cip_message.proofs.open.OpenRequest.append_front.Goals as goal

pub returns-clause-text : goal.returns-clause-text
returns-clause-text g c =
    let s = c.args.self.now in
    seven_grow c.args.out.now.items (s.priority_and_tick_time ∷ []) (s.timeout_ticks ∷ []) (le 4 s.o_to_t_id) (le 4 s.t_to_o_id) (le 2 s.connection_serial) (le 2 s.originator_vendor) (le 4 s.originator_serial) _ _ _ _ _ _ _
    c.append_u8.ensures.text c.append_u8-2.ensures.text c.append_u32.ensures.text c.append_u32-2.ensures.text c.append_u16.ensures.text c.append_u16-2.ensures.text c.append_u32-3.ensures.text
