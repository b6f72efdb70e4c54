use Rattle.std.proofs.Common.{◌≡◌, ℕ, ap, subst, ◌∙◌}
use Rattle.enip_adapter.specs.Device.{resets_of}
use Rattle.enip_server.specs.Evictions.{with_room}
use Rattle.enip_server.specs.Resets.{after_reset}
use Rattle.enip_server.specs.Rounds.{ServerState, IsRound, state_of}
use Rattle.kept_server.specs.Rounds.{with_marks}
use Rattle.device_rounds.proofs.unkept_peers.take_round.Goals as goal

pub returns : goal.returns
returns g c =
    let now : ℕ = c.args.input.now in
    let old : ServerState g.row.W.Denot = state_of c.args.peers.now in
    let added : ServerState g.row.W.Denot = state_of c.add_accepted.new.peers in
    let marked : ServerState g.row.W.Denot = state_of c.mark_ready.new.peers in
    let served : ServerState g.row.W.Denot = state_of c.round_watched-end.new.self in
    let admitted : ServerState g.row.W.Denot = state_of c.admit_frames-is_admitted.new.peers in
    let closed : ServerState g.row.W.Denot = state_of c.close_if_reset-was_reset.new.self in
    let before : ℕ = resets_of old.adapter in
    let reset : closed ≡ after_reset before now admitted
    = c.close_if_reset-was_reset.ensures.closed
    ∙ ap (λ n. after_reset n now admitted) (c.resets-before.ensures ∙ ap (λ a. resets_of a) c.adapter.ensures) in
    let marks : marked ≡ with_marks c.args.input.ready.items added
    = c.mark_ready.ensures ∙ ap (λ wires. with_marks wires added) c.as_slice.ensures.value in
    record {
      guest = c.args.guest.now;
      guest_begun = c.begin_round-owner.new.self;
      guest_served = c.round_watched-end.new.watcher;
      last = c.admit_frames-is_admitted.new.self;
      begun = state_of c.begin_round-owner.new.peers;
      added = added;
      served = served;
      admitted = admitted;
      owner = c.begin_round-owner.result;
      owner_served = c.round_watched-end.new.owner;
      guest_begins = c.begin_round-owner.ensures.begun;
      wrote = c.begin_round-owner.ensures.writes;
      accepted = c.add_accepted.ensures;
      round = subst (λ p. IsRound g.W.Wire.left g.W.Wire.written g.W.Wire.known g.W.Wire.counts g.G.RoundOwner.Owner.answer
          g.G.RoundOwner.Owner.after now c.begin_round-owner.result p c.round_watched-end.new.owner served) marks
          c.round_watched-end.ensures.round;
      guest_admits = c.admit_frames-is_admitted.ensures;
      room = c.make_room-gave_way.ensures ∙ ap (λ p. with_room p now c.args.input.room_for) reset;
      next_is = c.next_moment.ensures;
    }
