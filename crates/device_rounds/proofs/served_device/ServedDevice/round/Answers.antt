use Rattle.std.proofs.Common.{◌≡◌, ap, subst, ◌∙◌}
use Rattle.enip_adapter.specs.Calls.{AdapterState}
use Rattle.enip_server.specs.Rounds.{ServerState}
use Rattle.enip_server.specs.declared.peers.RoundEnd.{RoundEnd}
use Rattle.device_rounds.proofs.served_device.ServedDevice.round.Goals as goal

pub returns-clause-sent : goal.returns-clause-sent
returns-clause-sent g c =
    let last : c.last_round.result ≡ g.D.RoundDevice.last c.round.new.self.device
    = c.last_round.ensures ∙ ap g.D.RoundDevice.last c.device-device.ensures in
    let adapter : c.adapter-adapter.result.now ≡ (g.D.RoundDevice.state c.round.new.self.device).adapter
    = c.adapter-adapter.ensures
    ∙ ap (λ (peers : ServerState g.row.D-PeerWire.Denot). peers.adapter)
    (c.peers.ensures ∙ ap g.D.RoundDevice.state c.device-device.ensures) in (
      c.round.new.guest,
      subst (λ (adapter : AdapterState). g.G.GuestSockets.ends_round c.args.now c.round.new.guest
          (g.D.RoundDevice.last c.round.new.self.device) adapter c.end_round-end.new.self c.end_round-end.result) adapter
          (subst (λ (end : RoundEnd). g.G.GuestSockets.ends_round c.args.now c.round.new.guest end c.adapter-adapter.result.now
          c.end_round-end.new.self c.end_round-end.result) last c.end_round-end.ensures),
    )
