use Rattle.std.proofs.Common.{◌≡◌, ◌≤◌, take, length, map}
use Rattle.cip_manager.specs.ConnectionInfo.{connection_info}
use Rattle.enip_adapter.proofs.endings.remember.Given as goal

-- those at the indices so far
abbrev pub invariant-loop-index : goal.invariant-loop-index
invariant-loop-index l =
    (l.remembered.items ≡ map connection_info (take l.index l.adapter.state.shared.manager.connections)) × (length l.remembered.items ≤ l.index)
