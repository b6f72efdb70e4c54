use Rattle.std.proofs.Common.{◌≡◌, ℕ, ◌+◌, ap, sym, subst, ◌∙◌, arith}
use Rattle.enip_adapter.specs.Device.{resets_of}
use Rattle.enip_server.specs.declared.held_wire.HeldWire.{HeldWire}
use Rattle.enip_server.specs.Resets.{after_reset}
use Rattle.enip_server.specs.Rounds.{ServerState, state_of, ended_in}
use Rattle.enip_server.proofs.RoomLemmas.{slots_small}
use Rattle.kept_server.specs.Rounds.{IsHeldRound, with_marks}
use Rattle.kept_server.proofs.RoundLemmas.{byte_small, ended_more, few_ended, nothing_sent, round_taken, still_seen}
use Rattle.kept_server.proofs.round.take_round.Goals as goal

pub overflow_add-result : goal.overflow_add-result
overflow_add-result g c =
    omega (
      arith,
      c.serve_round-end.ensures.ended,
      few_ended (state_of c.mark_ready.new.peers).slots (state_of c.serve_round-end.new.peers).slots,
      slots_small c.serve_round-end.new.peers,
      c.from.ensures,
      byte_small c.make_room-gave_way.result,
    )

pub returns : goal.returns
returns g c =
    let left = g.W.Wire.left in
    let written = g.W.Wire.written in
    let answer = g.G.RoundOwner.Owner.answer in
    let next = g.G.RoundOwner.Owner.after in
    let owner = c.begin_round-owner.result in
    let last = c.serve_round-end.new.owner in
    let old : ServerState (HeldWire g.row.W.Denot) = state_of c.args.peers.now in
    let begun : ServerState (HeldWire g.row.W.Denot) = state_of c.begin_round-owner.new.peers in
    let added : ServerState (HeldWire g.row.W.Denot) = state_of c.add_accepted.new.peers in
    let marked : ServerState (HeldWire g.row.W.Denot) = state_of c.mark_ready.new.peers in
    let served : ServerState (HeldWire g.row.W.Denot) = state_of c.serve_round-end.new.peers in
    let admitted : ServerState (HeldWire g.row.W.Denot) = state_of c.admit_frames.new.peers in
    let closed : ServerState (HeldWire g.row.W.Denot) = state_of c.close_if_reset-was_reset.new.self in
    let new : ServerState (HeldWire g.row.W.Denot) = state_of c.make_room-gave_way.new.peers in
    let before : ℕ = resets_of old.adapter in
    let reset : closed ≡ after_reset before c.args.input.now admitted
    = c.close_if_reset-was_reset.ensures.closed
    ∙ ap (λ n. after_reset n c.args.input.now admitted)
    (c.resets-before.ensures ∙ ap (λ a. resets_of a) c.adapter.ensures) in
    let marks : marked ≡ with_marks c.args.input.ready.items added
    = c.mark_ready.ensures ∙ ap (λ wires. with_marks wires added) c.as_slice.ensures.value in
    let round : IsHeldRound left written answer next c.args.input.now owner (with_marks c.args.input.ready.items added) last
    served
    = subst (λ p. IsHeldRound left written answer next c.args.input.now owner p last served) marks
    c.serve_round-end.ensures.round in
    record {
      round = round_taken left written answer next g.G.RoundGuest.begins g.G.RoundGuest.admits c.args.input c.args.guest.now
          c.begin_round-owner.new.self c.serve_round-end.new.guest c.admit_frames.new.self old begun added served admitted closed new
          owner last _ c.begin_round-owner.ensures.begun c.begin_round-owner.ensures.writes c.add_accepted.ensures round
          c.admit_frames.ensures.admitted c.admit_frames.ensures.admission reset c.make_room-gave_way.ensures.room
          (ap (λ n. n + c.from.result)
          (c.serve_round-end.ensures.ended
          ∙ ap (λ (p : ServerState (HeldWire g.row.W.Denot)). ended_in p.slots served.slots) marks)
          ∙ ap (λ n. ended_in (with_marks c.args.input.ready.items added).slots served.slots + n) c.from.ensures
          ∙ sym (ended_more left written answer next c.args.input before added served admitted closed new owner last round
          c.admit_frames.ensures.admission reset c.make_room-gave_way.result c.make_room-gave_way.ensures.ended
          c.make_room-gave_way.ensures.still))
          c.next_moment.ensures;
      silent = nothing_sent left written answer next c.args.input before old begun added served admitted closed new owner last
          c.begin_round-owner.ensures.writes c.add_accepted.ensures round c.admit_frames.ensures.admission reset
          c.make_room-gave_way.ensures.room;
      watched = λ seen.
          still_seen g.G.Watcher.has_seen left written c.begin_round-owner.new.self c.serve_round-end.new.guest
          c.admit_frames.new.self c.args.input before begun added marked served admitted closed new c.add_accepted.ensures marks
          c.serve_round-end.ensures.watched c.admit_frames.ensures.admission c.admit_frames.ensures.seen reset
          c.make_room-gave_way.ensures.room (c.begin_round-owner.ensures.seen seen);
    }
