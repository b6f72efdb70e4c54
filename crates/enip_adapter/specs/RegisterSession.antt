-- RegisterSession, 0x0065 (Volume 2, encapsulation commands).
use Rattle.std.specs.Prelude.{ℕ, List, ◌++◌, length, ◌==◌, not, if◌then◌else◌, true}
use Rattle.cip_bytes.specs.Numbers.{le, number_at}
use Rattle.cip_bytes.specs.declared.protocol.EncapsulationStatus.TheVariants.{Success, UnsupportedCommand, PoorlyFormedData}
use Rattle.cip_bytes.specs.declared.protocol.EncapsulationStatus.TheVariants.{InvalidLength, UnsupportedRevision}
use Rattle.enip_wire.specs.Frames.{Frame}
use Rattle.enip_adapter.specs.declared.peer.Session.{Session}
use Rattle.enip_adapter.specs.Replies.{Reaction, reply, answered, refused}

-- Protocol version 1, no option flags.
abbrev pub version_one : List ℕ
version_one = le 2 1 ++ le 2 0

-- The first check that fails decides: the data have 4 bytes, a version and flags; the peer has no session yet (ours);
-- the version is 1, otherwise the reply has the supported one; the flags are 0 (ours). The reply has the handle.
abbrev pub register_session : Session → Frame → Reaction
register_session session f =
    if not (length f.body == 4) then refused session f.header InvalidLength
    else if session.registered then refused session f.header UnsupportedCommand
    else if not (number_at 0 2 f.body == 1)
    then answered session (reply f.header f.header.session UnsupportedRevision version_one)
    else if not (number_at 2 2 f.body == 0) then refused session f.header PoorlyFormedData
    else record (answered session (reply f.header session.handle Success version_one)) { registered = true }
