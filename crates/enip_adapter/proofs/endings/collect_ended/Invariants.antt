use Rattle.std.proofs.Common.{◌≡◌, ◌≤◌, take, length}
use Rattle.enip_adapter.specs.Endings.{endings_of}
use Rattle.enip_adapter.proofs.endings.collect_ended.Given as goal

-- those so far, each once at most
abbrev pub invariant-loop-connection : goal.invariant-loop-connection
invariant-loop-connection l =
    (l.ended.items ≡ endings_of l.adapter (take l.connection-index l.remembered)) × (length l.ended.items ≤ l.connection-index)
