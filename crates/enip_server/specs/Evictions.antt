-- A client that is added with rights, as one of a group: which slot it gets, which peer gives way to it, and how room is
-- made for it before it is added.
use Rattle.std.specs.Prelude.{ℕ, suc, ◌-◌, ◌≡◌, nat_lt, Bool, false, not, ◌&&◌, if◌then◌else◌, List, [], ◌∷◌}
use Rattle.std.specs.Prelude.{Option, Some, None, Result, Ok, Err, slice_get, slice_set}
use Rattle.std.specs.Option.{option_map}
use Rattle.enip_adapter.specs.declared.adapter.Full.{Full}
use Rattle.enip_adapter.specs.declared.adapter.Full.TheVariants.{Places, Handles, Share}
use Rattle.enip_adapter.specs.declared.peer.Rights.{Rights}
use Rattle.enip_adapter.specs.Calls.{AdapterState, call_answer, after_call}
use Rattle.enip_adapter.specs.Calls.Call.{Begins_peer, Ends_peer}
use Rattle.enip_adapter.specs.Groups.{has_share}
use Rattle.enip_adapter.specs.Turn.{session_of}
use Rattle.enip_adapter.specs.Turn.Output.{Begins, Refuses}
use Rattle.enip_server.specs.declared.peer_io.PeerIo.{PeerIo}
use Rattle.enip_server.specs.declared.evictions.Silent.{Silent}
use Rattle.enip_server.specs.Rounds.{ServerState, new_peer_io, first_free}

-- Whether a peer has registered a session, if the adapter holds it.
abbrev pub is_registered : AdapterState → ℕ → Option Bool
is_registered a peer = option_map (λ session. session.registered) (session_of a.state peer)

abbrev pub is_without_session : Option Bool → Bool
is_without_session None = false
is_without_session (Some registered) = not registered

-- A peer may give way: it has registered no session, and no byte of it has arrived for 10 seconds.
abbrev pub may_give_way : {W : Type 0} → AdapterState → ℕ → PeerIo W → Bool
may_give_way a now io =
    is_without_session (is_registered a io.peer) && not (nat_lt (now - io.last_byte_at) 10000000)

-- A slot whose peer may give way, and since when that peer is silent.
abbrev pub silent_in : {W : Type 0} → AdapterState → ℕ → Option (PeerIo W) → Option Silent
silent_in a now None = None
silent_in a now (Some io) =
    if may_give_way a now io then Some (record { slot = 0; since = io.last_byte_at }) else None

-- Of two such slots, the one that is silent longer: the first, if both are for as long.
abbrev pub longer : Option Silent → Option Silent → Option Silent
longer None other = other
longer (Some first) None = Some first
longer (Some first) (Some other) = if nat_lt other.since first.since then Some other else Some first

abbrev pub one_further : Silent → Silent
one_further silent = record silent { slot = suc silent.slot }

-- Of these slots, the one whose peer may give way and has been silent longest.
abbrev pub longest_silent : {W : Type 0} → AdapterState → ℕ → List (Option (PeerIo W)) → Option Silent
longest_silent a now [] = None
longest_silent a now (slot ∷ slots) =
    longer (silent_in a now slot) (option_map one_further (longest_silent a now slots))

-- The peer that gives way to a new client of a group. None does to a client without a group.
abbrev pub gives_way : {W : Type 0} → ServerState W → ℕ → Option ℕ → Option Silent
gives_way p now None = None
gives_way p now (Some group) = longest_silent p.adapter now p.slots

-- Whether a session handle is left: the last one is 0xffffffff.
abbrev pub has_handle : AdapterState → Bool
has_handle a = not (nat_lt 0xffffffff a.state.next_handle)

-- The slot that a new client gets: the first free one, else that of the peer that gives way to it. A group that holds
-- its share gets none, and nobody does if no session handle is left.
abbrev pub slot_given : Option Silent → Result ℕ Full
slot_given None = Err Places
slot_given (Some silent) = Ok silent.slot

abbrev pub slot_found : Option ℕ → Option Silent → Result ℕ Full
slot_found None silent = slot_given silent
slot_found (Some free) silent = Ok free

abbrev pub with_handle : Bool → Result ℕ Full → Result ℕ Full
with_handle left (Err full) = Err full
with_handle left (Ok slot) = if left then Ok slot else Err Handles

abbrev pub slot_for : {W : Type 0} → ServerState W → ℕ → Option ℕ → Result ℕ Full
slot_for p now group =
    if not (has_share p.adapter.state.shared.share p.adapter.state.peers group) then Err Share
    else with_handle (has_handle p.adapter) (slot_found (first_free p.slots) (gives_way p now group))

-- A slot is freed: the peer in it is ended, if there is one.
abbrev pub freed_of : {W : Type 0} → ServerState W → ℕ → Option (Option (PeerIo W)) → ServerState W
freed_of p slot None = p
freed_of p slot (Some None) = p
freed_of p slot (Some (Some io)) = record p {
  adapter = after_call p.adapter (Ends_peer io.peer);
  slots = slice_set p.slots slot None;
}

abbrev pub freed : {W : Type 0} → ServerState W → ℕ → ServerState W
freed p slot = freed_of p slot (slice_get p.slots slot)

-- Room is made for a new client: the slot that is for it is freed. Nothing changes if no slot is for it.
abbrev pub with_room_at : {W : Type 0} → ServerState W → Result ℕ Full → ServerState W
with_room_at p (Err full) = p
with_room_at p (Ok slot) = freed p slot

abbrev pub with_room : {W : Type 0} → ServerState W → ℕ → Option ℕ → ServerState W
with_room p now group = with_room_at p (slot_for p now group)

-- A peer begins in a slot, or the adapter refuses it and nothing changes.
abbrev pub BeginsIn : {W : Type 0} → ℕ → W → Rights → Option ℕ → ℕ → ServerState W → ServerState W → Result ℕ Full
    → Type 0
BeginsIn now wire rights group slot old new (Ok taken) =
    (handle : ℕ) × (taken ≡ slot)
    × ((call_answer old.adapter (Begins_peer rights group)).output ≡ Begins handle)
    × (new ≡ record old {
      adapter = after_call old.adapter (Begins_peer rights group);
      slots = slice_set old.slots slot (Some (new_peer_io handle wire now));
    })
BeginsIn now wire rights group slot old new (Err full) =
    ((call_answer old.adapter (Begins_peer rights group)).output ≡ Refuses full) × (new ≡ old)

-- A client is added with rights, as one of a group. It gets the slot that is for it, once the peer that gives way has
-- ended. If no slot is for it, nothing changes.
abbrev pub IsAddedAt : {W : Type 0} → ℕ → W → Rights → Option ℕ → Result ℕ Full → ServerState W → ServerState W
    → Result ℕ Full → Type 0
IsAddedAt now wire rights group (Err full) old new result = (result ≡ Err full) × (new ≡ old)
IsAddedAt now wire rights group (Ok slot) old new result = BeginsIn now wire rights group slot (freed old slot) new result

abbrev pub IsAddedAs : {W : Type 0} → ℕ → W → Rights → Option ℕ → ServerState W → ServerState W → Result ℕ Full → Type 0
IsAddedAs now wire rights group old new result =
    IsAddedAt now wire rights group (slot_for old now group) old new result
