-- The number of open connections, as the Message Router shows it (Volume 1, Message Router object).
use Rattle.std.specs.Prelude.{ℕ, ◌==◌, if◌then◌else◌, List, [], ◌∷◌, length, Option, Some, None, option_map}
use Rattle.byteorder.specs.Endian.{little_bytes, little_number}
use Rattle.cip_objects.specs.Contents.{value_at}
use Rattle.enip_adapter.specs.OwnWrites.{OwnWrite, WritesAttribute}
use Rattle.enip_server.specs.Rounds.{ServerState}

-- The own write that shows this number in attribute 3 of the Message Router. None if the device does not have this
-- object, or shows this number.
abbrev pub writes_for : ℕ → Option ℕ → List OwnWrite
writes_for count None = []
writes_for count (Some shown) = if shown == count then [] else WritesAttribute 2 1 3 0 (little_bytes 2 count) ∷ []

unfoldable pub shown_connections : {W : Type 0} → ServerState W → List OwnWrite
shown_connections p =
    writes_for (length p.adapter.state.shared.manager.connections)
    (option_map (little_number 2) (value_at p.adapter.state.shared.objects.router.objects 2 1 3))
