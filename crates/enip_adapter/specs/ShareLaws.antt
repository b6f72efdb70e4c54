-- Shares: no group ever holds more than its own, and while a group is under its share, the others cannot keep it out.
use Rattle.std.specs.Prelude.{◌≡◌, ◌≢◌, ◌<◌, ◌≤◌, ℕ, ◌*◌, Bool, true, Option, Some, List, length, All}
use Rattle.std.specs.List.{Contains, list_any}
use Rattle.cip_ledger.specs.Device.{Device}
use Rattle.cip_manager.specs.Connection.{count_of_group}
use Rattle.enip_adapter.specs.declared.adapter.Full.{Full}
use Rattle.enip_adapter.specs.declared.adapter.Full.TheVariants.{Places, Share}
use Rattle.enip_adapter.specs.declared.adapter.Limits.{Limits}
use Rattle.enip_adapter.specs.declared.adapter.Shares.{Shares}
use Rattle.enip_adapter.specs.declared.peer.Rights.{Rights}
use Rattle.enip_adapter.specs.declared.peer.Session.{Session}
use Rattle.enip_adapter.specs.declared.shared.Listen.{Listen}
use Rattle.enip_adapter.specs.Adapter.{shared_adapter}
use Rattle.enip_adapter.specs.Calls.{AdapterState, Call, call_answer, after_call}
use Rattle.enip_adapter.specs.Calls.Call.{Begins_peer}
use Rattle.enip_adapter.specs.Groups.{is_of_group, peers_of_group, has_share}
use Rattle.enip_adapter.specs.Runs.{after_calls}
use Rattle.enip_adapter.specs.Turn.Output.{Refuses}

-- Whatever calls are made, no group has more peers than its share.
abbrev pub peers_share_law : Type 0
peers_share_law =
    (device : Device) (listen : Listen) (limits : Limits) (shares : Shares) (calls : List Call) (group : ℕ) →
    peers_of_group group (after_calls (shared_adapter device listen limits shares) calls).state.peers ≤ shares.peers

-- Nor more connections.
abbrev pub connections_share_law : Type 0
connections_share_law =
    (device : Device) (listen : Listen) (limits : Limits) (shares : Shares) (calls : List Call) (group : ℕ) →
    count_of_group group (after_calls (shared_adapter device listen limits shares) calls).state.shared.manager.connections
    ≤ shares.connections

-- A begin that is refused changes nothing.
abbrev pub refused_begin_law : Type 0
refused_begin_law = (a : AdapterState) (rights : Rights) (group : Option ℕ) (full : Full) →
    (call_answer a (Begins_peer rights group)).output ≡ Refuses full → after_call a (Begins_peer rights group) ≡ a

-- A group under its share is not refused for its share.
abbrev pub under_share_law : Type 0
under_share_law = (a : AdapterState) (rights : Rights) (group : Option ℕ) →
    has_share a.state.shared.share a.state.peers group ≡ true →
    (call_answer a (Begins_peer rights group)).output ≢ Refuses Share

-- The peer counts for one of these groups.
abbrev pub is_of_one_of : List ℕ → Session → Bool
is_of_one_of groups peer = list_any (λ group. is_of_group group peer) groups

-- If the shares of some groups together are at most all slots, and each peer is of one of these groups, one of them that
-- is under its share is not refused for want of a slot.
abbrev pub slot_for_each_share_law : Type 0
slot_for_each_share_law =
    (device : Device) (listen : Listen) (limits : Limits) (shares : Shares) (calls : List Call) (rights : Rights)
    (groups : List ℕ) (group : ℕ) →
    let a = after_calls (shared_adapter device listen limits shares) calls in
    length groups * shares.peers ≤ limits.peers →
    All (λ (peer : Session). is_of_one_of groups peer ≡ true) a.state.peers →
    Contains groups group → peers_of_group group a.state.peers < shares.peers →
    (call_answer a (Begins_peer rights (Some group))).output ≢ Refuses Places
