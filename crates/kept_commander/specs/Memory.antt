-- What a keeper in memory has.
use Rattle.std.specs.Prelude.{ℕ, Option, Some, None, List}
use Rattle.std.specs.Global.{Vec}
use Rattle.cip_commander.specs.CommanderRule.{CommanderState, commander_at}
use Rattle.kept_commander.specs.declared.memory.MemoryKeeper.{MemoryKeeper}

abbrev pub pending_bytes : Option (Vec ℕ) → Option (List ℕ)
pending_bytes None = None
pending_bytes (Some request) = Some request.items

abbrev pub kept_in_memory : MemoryKeeper → CommanderState
kept_in_memory k = commander_at k.life k.originator k.last_number (pending_bytes k.pending)
