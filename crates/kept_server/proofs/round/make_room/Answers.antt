use Rattle.std.proofs.Common.{◌≡◌, ℕ, slice_get, slice_set, is_some, true, false, Some, None, ap, sym, ◌∙◌}
use Rattle.enip_server.specs.declared.held_wire.HeldWire.{HeldWire}
use Rattle.enip_server.specs.declared.peer_io.PeerIo.{PeerIo}
use Rattle.enip_server.specs.Evictions.{with_room}
use Rattle.enip_server.specs.Rounds.{ServerState, first_free, state_of}
use Rattle.enip_server.proofs.RoomRounds.{room_free_some, room_given}
use Rattle.kept_server.proofs.round.make_room.Goals as goal

pub returns-then-is_some-clause-room : goal.returns-then-is_some-clause-room
returns-then-is_some-clause-room g c =
    let p : ServerState (HeldWire g.row.W.Denot) = state_of c.args.peers.now in
    let some : is_some (first_free p.slots) ≡ true
    = ap is_some (sym c.first_free.ensures) ∙ sym c.is_some.ensures ∙ c.if-is_some.true in
    sym (room_free_some p c.args.now c.args.group some)

pub returns-clause-ended : goal.returns-clause-ended
returns-clause-ended g c = λ given.
    let p : ServerState (HeldWire g.row.W.Denot) = state_of c.args.peers.now in
    let none : is_some (first_free p.slots) ≡ false
    = ap is_some (sym c.first_free.ensures) ∙ sym c.is_some.ensures ∙ c.if-is_some.false in
    let one : (slot : ℕ) × (io : PeerIo (HeldWire g.row.W.Denot)) × (slice_get p.slots slot ≡ Some (Some io))
    × ((with_room p c.args.now c.args.group).slots ≡ slice_set p.slots slot None)
    = room_given p c.args.now c.args.group none (sym c.make_room.ensures.told ∙ given) in
    (one.0, one.1, one.2, ap (λ (q : ServerState (HeldWire g.row.W.Denot)). q.slots) c.make_room.ensures.room ∙ one.3)
