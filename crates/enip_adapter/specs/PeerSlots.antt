-- The peer slots, and a piece for one of them, which is the piece for the adapter.
use Rattle.std.specs.Prelude.{ℕ, Option, List, [], ◌∷◌, ◌++◌, ◌≡◌, ◌≤◌, ◌+◌, map, vec_len, All}
use Rattle.std.specs.Global.{Vec}
use Rattle.std.specs.Vec.{vec_capacity}
use Rattle.enip_adapter.specs.declared.peer.PeerSlot.{PeerSlot}
use Rattle.enip_adapter.specs.declared.peer.Rights.{Rights}
use Rattle.enip_adapter.specs.declared.reply.Reaction.{Reaction}
use Rattle.enip_adapter.specs.declared.shared.Shared.{Shared}
use Rattle.enip_adapter.specs.Adapter.{adapter_in, state_in, held_in, IsWaiting}
use Rattle.enip_adapter.specs.Calls.{Meaning, piece_to, after_meaning, answer_of}
use Rattle.enip_adapter.specs.Replies.{written}
use Rattle.enip_adapter.specs.Turn.{Answer, session_of, sent, new_session}

-- The number of peer slots, and those that are taken, in the order in which their peers began.
pub record PeerSlotsState : Type 0 where
  pub limit : ℕ
  pub taken : List PeerSlot

abbrev pub peer_slots_in : ℕ → List PeerSlot → PeerSlotsState
peer_slots_in limit taken = record { limit = limit; taken = taken }

abbrev pub no_slot_taken : ℕ → PeerSlotsState
no_slot_taken limit = peer_slots_in limit []

-- The session handle of the peer that holds a slot.
abbrev pub handle_of : PeerSlot → ℕ
handle_of place = place.session.handle

-- A peer that begins takes a slot. No byte of it has arrived.
abbrev pub with_slot : PeerSlotsState → ℕ → Rights → Option ℕ → PeerSlotsState
with_slot p handle rights group =
    peer_slots_in p.limit (p.taken ++ record { session = new_session handle rights group; reader = [] } ∷ [])

-- Each slot is taken or free, a free reader holds no byte, and both lists have capacity for all slots.
pub record HasFreeReaders (places : ℕ) (peers : Vec PeerSlot) (free : Vec (List ℕ)) : Type 0 where
  pub few : places ≤ 16
  pub for_peers : places ≤ vec_capacity peers
  pub for_free : places ≤ vec_capacity free
  pub all : vec_len peers + vec_len free ≡ places
  pub blank : All (λ held. held ≡ []) free.items
  pub waiting : All IsWaiting peers.items

-- After a piece for a peer: what is shared, the slots, the number of bytes taken, the reaction, and the answer buffer.
pub record IsFed (limit next_handle : ℕ) (shared : Shared) (places : List PeerSlot) (m : Meaning) (left : Shared)
    (kept : List PeerSlot) (outcome : ℕ × Reaction) (bytes : List ℕ) : Type 0 where
  pub adapter : adapter_in limit next_handle left kept ≡ after_meaning (state_in limit next_handle shared places) m
  pub taken : outcome.0 ≡ m.taken
  pub answer : ◌≡◌ {A = Answer} (record { output = sent (written outcome.1.reply bytes); close = outcome.1.close })
      (answer_of (state_in limit next_handle shared places) m)

-- The meaning of a piece for a peer.
abbrev pub piece_at : ℕ → ℕ → Shared → List PeerSlot → ℕ → List ℕ → Meaning
piece_at limit next_handle shared places peer piece =
    piece_to (map held_in places) peer piece (session_of (state_in limit next_handle shared places) peer)
