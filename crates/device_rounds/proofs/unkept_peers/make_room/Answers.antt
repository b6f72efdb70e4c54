use Rattle.std.proofs.Common.{◌≡◌, is_some, true, ap, sym, ◌∙◌}
use Rattle.enip_server.specs.Rounds.{ServerState, first_free, state_of}
use Rattle.enip_server.proofs.RoomRounds.{room_free_some}
use Rattle.device_rounds.proofs.unkept_peers.make_room.Goals as goal

pub returns-then-is_some : goal.returns-then-is_some
returns-then-is_some g c =
    let p : ServerState g.row.W.Denot = state_of c.args.peers.now in
    let some : is_some (first_free p.slots) ≡ true
    = ap is_some (sym c.first_free.ensures) ∙ sym c.is_some.ensures ∙ c.if-is_some.true in
    sym (room_free_some p c.args.now c.args.group some)
