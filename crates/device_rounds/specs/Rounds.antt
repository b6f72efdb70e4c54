-- Rounds of a device of which nothing is kept. Their answers leave at once.
use Rattle.std.specs.Prelude.{ℕ, ◌≡◌, ⊤, List, [], ◌∷◌, Option, Some, None, Result}
use Rattle.cip_objects.specs.OwnRequests.{Asked}
use Rattle.cip_owner.specs.Replies.{Reply}
use Rattle.enip_adapter.specs.declared.adapter.Full.{Full}
use Rattle.enip_adapter.specs.Calls.{AdapterState}
use Rattle.enip_adapter.specs.Device.{resets_of}
use Rattle.enip_keep.specs.Kept.{Kept}
use Rattle.enip_server.specs.declared.peers.RoundEnd.{RoundEnd}
use Rattle.enip_server.specs.declared.wire_counts.WireCounts.{WireCounts}
use Rattle.enip_server.specs.Evictions.{IsAddedAs, with_room}
use Rattle.enip_server.specs.Resets.{after_reset}
use Rattle.enip_server.specs.Rounds.{ServerState, IsRound, IsWritten, first_free, next_moment}
use Rattle.enip_server.specs.Wires.{KnownCalls}
use Rattle.kept_server.specs.declared.round.Accepted.{Accepted}
use Rattle.kept_server.specs.declared.round.RoundInput.{RoundInput}
use Rattle.kept_server.specs.Rounds.{with_marks}

-- A connection is added at a time, if there is one and a slot is free.
abbrev pub IsAddedIn : {W : Type 0} → Option ℕ → ℕ → Accepted W → ServerState W → ServerState W → Type 0
IsAddedIn None now accepted old new = new ≡ old
IsAddedIn (Some free) now accepted old new =
    (result : Result ℕ Full) × IsAddedAs now accepted.wire accepted.rights accepted.group old new result

abbrev pub IsAddedIfAny : {W : Type 0} → ℕ → Option (Accepted W) → ServerState W → ServerState W → Type 0
IsAddedIfAny now None old new = new ≡ old
IsAddedIfAny now (Some accepted) old new = IsAddedIn (first_free old.slots) now accepted old new

-- What a round is asked, and the adapter that it leaves.
pub record UnkeptRequests (W : Type 0) : Type 0 where
  pub input : RoundInput W
  pub adapter : AdapterState

-- Answers leave at once, so nothing is said of what has left between two states.
abbrev pub MayHaveSent : {D : Type 0} → D → D → Type 0
MayHaveSent old new = ⊤

pub may_have_sent : {D : Type 0} (d : D) → MayHaveSent d d
may_have_sent d = tt

-- Such a device starts from no entries.
abbrev pub IsNotEmpty : Kept → Type 0
IsNotEmpty [] = ⊥
IsNotEmpty (entry ∷ found) = ⊤

-- A guest of rounds, as relations: what it makes of the beginning of a round and of its end.
module _ {W G O : Type 0} (left written : W → Option (List ℕ)) (known : W → Option KnownCalls) (counts : W → WireCounts)
    (answer : O → Asked → Option Reply) (next : O → Asked → O)
    (begins : ℕ → G → ServerState W → G → ServerState W → O → Type 0)
    (admits : ℕ → G → ServerState W → G → ServerState W → Type 0) where
  -- The peers take a round: the guest begins it, the connection is added, the wires are marked ready, and then the round is
  -- made at the time of the input, in which the guest's owner is asked. After it the guest admits frames. If the device was
  -- reset, all peers are closed. Last, room is made for the client that waits for a slot.
  pub record IsUnkeptRound (input : RoundInput W) (old new : ServerState W) (outcome : RoundEnd) : Type 0 where
    pub guest : G
    pub guest_begun : G
    pub guest_served : G
    pub last : G
    pub begun : ServerState W
    pub added : ServerState W
    pub served : ServerState W
    pub admitted : ServerState W
    pub owner : O
    pub owner_served : O
    pub guest_begins : begins input.now guest old guest_begun begun owner
    pub wrote : IsWritten old begun
    pub accepted : IsAddedIfAny input.now input.accepted begun added
    pub round : IsRound left written known counts answer next input.now owner (with_marks input.ready.items added)
        owner_served served
    pub guest_admits : admits input.now guest_served served last admitted
    pub room : new ≡ with_room (after_reset (resets_of old.adapter) input.now admitted) input.now input.room_for
    pub next_is : outcome.next ≡ next_moment new
