use Rattle.std.proofs.Common.{◌≡◌}
use Rattle.device_rounds.proofs.serve.Server.wait.Given as goal

-- The server of the device, which comes after the system, the acceptor and the discovery, is the same at each turn.
abbrev pub invariant-loop-event : goal.invariant-loop-event
invariant-loop-event g l = l.self.1.1.1.1.0.server ≡ l.fn.self.device.server
