-- The adapter's value: how it is made, and how the code's fields form it.
use Rattle.std.specs.Prelude.{ℕ, List, [], ◌≡◌, map, false, Option, Some, None, Result, Ok}
use Rattle.std.specs.Prelude.{Err, unwrap_or}
use Rattle.std.specs.Borrow.{Bor}
use Rattle.cip_manager.specs.Manager.{no_connection_with_share}
use Rattle.cip_ledger.specs.Device.{Device}
use Rattle.enip_wire.specs.Frames.{IsComplete}
use Rattle.enip_adapter.specs.declared.adapter.Full.{Full}
use Rattle.enip_adapter.specs.declared.adapter.Full.TheVariants.{Places, Handles, Share}
use Rattle.enip_adapter.specs.declared.adapter.Limits.{Limits}
use Rattle.enip_adapter.specs.declared.adapter.Shares.{Shares}
use Rattle.enip_adapter.specs.declared.peer.PeerSlot.{PeerSlot}
use Rattle.enip_adapter.specs.declared.peer.Session.{Session}
use Rattle.enip_adapter.specs.declared.shared.Listen.{Listen}
use Rattle.enip_adapter.specs.declared.shared.Shared.{Shared}
use Rattle.enip_adapter.specs.declared.no_reply_reason.NoReplyReason.{NoReplyReason}
use Rattle.enip_adapter.specs.declared.no_reply_reason.NoReplyReason.TheVariants.{NoFrame}
use Rattle.enip_adapter.specs.Calls.{AdapterState, Held}
use Rattle.enip_adapter.specs.Groups.{no_shares}
use Rattle.enip_adapter.specs.Turn.{State, Output}
use Rattle.enip_adapter.specs.Turn.Output.{NoReply, Sends, Begins, Refuses}

-- The number of a refusal to begin a peer.
abbrev pub full_number : Full → ℕ
full_number Places = 1
full_number Handles = 2
full_number Share = 3

-- A peer's session, and the bytes that its reader holds.
abbrev pub session_in : PeerSlot → Session
session_in place = place.session

abbrev pub held_in : PeerSlot → Held
held_in place = record { peer = place.session.handle; bytes = place.reader }

-- The adapter's value, by the fields of the code.
abbrev pub state_in : ℕ → ℕ → Shared → List PeerSlot → State
state_in places next_handle shared peers =
    record { places = places; next_handle = next_handle; shared = shared; peers = map session_in peers }

abbrev pub adapter_in : ℕ → ℕ → Shared → List PeerSlot → AdapterState
adapter_in places next_handle shared peers =
    record { state = state_in places next_handle shared peers; held = map held_in peers }

-- An adapter with no peer and no connection.
abbrev pub new_shared : Device → Listen → Limits → Shares → Shared
new_shared device listen limits shares = record {
  listen = listen;
  share = shares.peers;
  moment = 0;
  manager = no_connection_with_share limits.connections shares.connections limits.first_id device.router.objects.device;
  objects = device;
}

abbrev pub shared_adapter : Device → Listen → Limits → Shares → AdapterState
shared_adapter device listen limits shares =
    adapter_in limits.peers limits.first_handle (new_shared device listen limits shares) []

-- The same, without a share for groups.
abbrev pub new_adapter : Device → Listen → Limits → AdapterState
new_adapter device listen limits = shared_adapter device listen limits no_shares

-- Between calls, a peer that is not closed holds neither a whole frame nor a header whose length is over the limit.
abbrev pub IsWaiting : PeerSlot → Type 0
IsWaiting place = place.session.closed ≡ false → IsComplete place.reader → ⊥

-- The output of `begin_as`, and of `feed`, which has a frame to send or a reason why there is none.
abbrev pub begin_output : Result ℕ Full → Output
begin_output (Ok handle) = Begins handle
begin_output (Err full) = Refuses full

abbrev pub feed_output : Option (Bor (List ℕ)) → Option NoReplyReason → Output
feed_output None no_reply_reason = NoReply (unwrap_or no_reply_reason NoFrame)
feed_output (Some bytes) no_reply_reason = Sends bytes.now
