use Rattle.enip_keep.specs.Server.{IsReady}
use Rattle.device_rounds.proofs.serve.Server.run.Given as goal

-- The server of the device is ready at each turn.
abbrev pub invariant-loop : goal.invariant-loop
invariant-loop g l =
    IsReady g.K.Keeper.doubt g.K.Keeper.is_up g.K.Keeper.kept g.D.Device.contents g.D.Device.known_kept g.D.Device.kept_part
    l.self.device.server
