-- A device that was reset: all its peers are closed.
use Rattle.std.specs.Prelude.{ℕ, Bool, not, ◌==◌, true, if◌then◌else◌, List, map, Option, Some, None}
use Rattle.enip_adapter.specs.Calls.{AdapterState}
use Rattle.enip_adapter.specs.Device.{resets_of}
use Rattle.enip_server.specs.declared.peer_io.PeerIo.{PeerIo}
use Rattle.enip_server.specs.PeerStates.{moment_after}
use Rattle.enip_server.specs.Rounds.{ServerState}

-- A peer that is closed at a time is still read for one second, like one that the adapter closed. A peer that was closed
-- before stays as it is.
abbrev pub closed_by : ℕ → Option ℕ → Option ℕ
closed_by now None = Some (moment_after now 1_000_000)
closed_by now (Some last) = Some last

-- Its next turn writes the answers that wait and shuts the writing side down. Nothing that it sends is fed any more.
abbrev pub closed_peer : {W : Type 0} → ℕ → PeerIo W → PeerIo W
closed_peer now io = record io { ready = true; closed = closed_by now io.closed }

abbrev pub closed_slot : {W : Type 0} → ℕ → Option (PeerIo W) → Option (PeerIo W)
closed_slot now None = None
closed_slot now (Some io) = Some (closed_peer now io)

abbrev pub closed_slots : {W : Type 0} → ℕ → List (Option (PeerIo W)) → List (Option (PeerIo W))
closed_slots now slots = map (closed_slot now) slots

-- The device was reset since it had executed so many resets.
abbrev pub was_reset : ℕ → AdapterState → Bool
was_reset before a = not (resets_of a == before)

-- The peers of a device that had executed so many resets before: if it was reset since, all of them are closed at this
-- time.
abbrev pub after_reset : {W : Type 0} → ℕ → ℕ → ServerState W → ServerState W
after_reset before now p =
    if was_reset before p.adapter then record p { slots = closed_slots now p.slots } else p
