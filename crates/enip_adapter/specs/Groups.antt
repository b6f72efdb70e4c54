-- Groups of peers, and the share that one group may hold (ours). A group is a number, such as an address.
use Rattle.std.specs.Prelude.{ℕ, nat_lt, Bool, true, Option, Some, None, List, length, filter}
use Rattle.cip_manager.specs.Connection.{is_group}
use Rattle.enip_adapter.specs.declared.adapter.Shares.{Shares}
use Rattle.enip_adapter.specs.declared.peer.Session.{Session}

-- No group can hold more than this, so nothing is limited.
abbrev pub no_shares : Shares
no_shares = record { peers = 16; connections = 64 }

abbrev pub is_of_group : ℕ → Session → Bool
is_of_group group peer = is_group group peer.group

-- The number of peers of a group.
abbrev pub peers_of_group : ℕ → List Session → ℕ
peers_of_group group peers = length (filter (is_of_group group) peers)

-- Whether a group holds fewer peers than its share. A peer without a group counts for nobody.
abbrev pub has_share : ℕ → List Session → Option ℕ → Bool
has_share share peers None = true
has_share share peers (Some group) = nat_lt (peers_of_group group peers) share
