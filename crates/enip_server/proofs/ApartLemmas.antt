-- The peers of an adapter have different handles, each below the adapter's next one.
use Rattle.std.proofs.Common.{◌≡◌, ◌≢◌, ◌<◌, ◌≤◌, ◌+◌, ℕ, zero, suc, List, [], ◌∷◌, replicate, slice_get, slice_set}
use Rattle.std.proofs.Common.{Bool, Option, Some, None, refl, sym, ap, ◌∙◌, subst, arith}
use Rattle.std.specs.Prelude.{◌-◌, length, ⊤}
use Rattle.enip_adapter.specs.Calls.{AdapterState}
use Rattle.enip_server.specs.declared.peer_io.PeerIo.{PeerIo}
use Rattle.enip_server.specs.Rounds.{ServerState, new_peers, marked_ready_in, marked_ready_at}

-- None of these slots holds this peer.
abbrev pub HasNone : {W : Type 0} → ℕ → List (Option (PeerIo W)) → Type 0
HasNone peer [] = ⊤
HasNone peer (None ∷ slots) = HasNone peer slots
HasNone peer (Some io ∷ slots) = (io.peer ≢ peer) × HasNone peer slots

-- The peers in these slots differ.
abbrev pub AreApart : {W : Type 0} → List (Option (PeerIo W)) → Type 0
AreApart [] = ⊤
AreApart (None ∷ slots) = AreApart slots
AreApart (Some io ∷ slots) = HasNone io.peer slots × AreApart slots

-- The handles of the peers in these slots are below a number.
abbrev pub AreBelow : {W : Type 0} → ℕ → List (Option (PeerIo W)) → Type 0
AreBelow n [] = ⊤
AreBelow n (None ∷ slots) = AreBelow n slots
AreBelow n (Some io ∷ slots) = (io.peer < n) × AreBelow n slots

pub record AreSound {W : Type 0} (p : ServerState W) : Type 0 where
  pub apart : AreApart p.slots
  pub below : AreBelow p.adapter.state.next_handle p.slots

-- A slot is free, or holds the same peer as before.
abbrev pub IsOf : {W : Type 0} → Option (PeerIo W) → Option (PeerIo W) → Type 0
IsOf None None = ⊤
IsOf None (Some after) = ⊥
IsOf (Some io) None = ⊤
IsOf (Some io) (Some after) = after.peer ≡ io.peer

abbrev pub AreOf : {W : Type 0} → List (Option (PeerIo W)) → List (Option (PeerIo W)) → Type 0
AreOf [] [] = ⊤
AreOf [] (slot ∷ places) = ⊥
AreOf (io ∷ slots) [] = ⊥
AreOf (io ∷ slots) (slot ∷ places) = IsOf io slot × AreOf slots places

module _ {W : Type 0} where
  -- the slots after the first
  pub none_tail : (peer : ℕ) (first : Option (PeerIo W)) (slots : List (Option (PeerIo W))) → HasNone peer (first ∷ slots)
      → HasNone peer slots
  none_tail peer None slots none = none
  none_tail peer (Some io) slots none = none.1

  pub apart_tail : (first : Option (PeerIo W)) (slots : List (Option (PeerIo W))) → AreApart (first ∷ slots) → AreApart slots
  apart_tail None slots apart = apart
  apart_tail (Some io) slots apart = apart.1

  below_tail : (n : ℕ) (first : Option (PeerIo W)) (slots : List (Option (PeerIo W))) → AreBelow n (first ∷ slots)
      → AreBelow n slots
  below_tail n None slots below = below
  below_tail n (Some io) slots below = below.1

  -- no slot holds a peer that is in none of them
  pub none_at : (peer : ℕ) (slots : List (Option (PeerIo W))) (slot : ℕ) (io : PeerIo W) → HasNone peer slots
      → slice_get slots slot ≡ Some (Some io) → io.peer ≢ peer
  none_at peer [] slot io none there = cc
  none_at peer (None ∷ slots) zero io none there = cc
  none_at peer (Some first ∷ slots) zero io none there =
      let same : first ≡ io = cc in subst (λ (l : PeerIo W). l.peer ≢ peer) same none.0
  none_at peer (first ∷ slots) (suc slot) io none there =
      none_at peer slots slot io (none_tail peer first slots none) there

  -- no peer has the next handle
  none_next : (n : ℕ) (slots : List (Option (PeerIo W))) → AreBelow n slots → HasNone n slots
  none_next n [] below = tt
  none_next n (None ∷ slots) below = none_next n slots below
  none_next n (Some io ∷ slots) below =
      (λ same. let first : io.peer < n = below.0 in absurd (omega arith), none_next n slots below.1)

  below_more : (n m : ℕ) (slots : List (Option (PeerIo W))) → n ≤ m → AreBelow n slots → AreBelow m slots
  below_more n m [] more below = tt
  below_more n m (None ∷ slots) more below = below_more n m slots more below
  below_more n m (Some io ∷ slots) more below =
      (let first : io.peer < n = below.0 in omega arith, below_more n m slots more below.1)

  -- one more peer
  none_set : (peer slot : ℕ) (io : PeerIo W) (slots : List (Option (PeerIo W))) → io.peer ≢ peer → HasNone peer slots
      → HasNone peer (slice_set slots slot (Some io))
  none_set peer slot io [] differs none = tt
  none_set peer zero io (first ∷ slots) differs none = (differs, none_tail peer first slots none)
  none_set peer (suc slot) io (None ∷ slots) differs none = none_set peer slot io slots differs none
  none_set peer (suc slot) io (Some first ∷ slots) differs none =
      (none.0, none_set peer slot io slots differs none.1)

  apart_set : (slot : ℕ) (io : PeerIo W) (slots : List (Option (PeerIo W))) → HasNone io.peer slots → AreApart slots
      → AreApart (slice_set slots slot (Some io))
  apart_set slot io [] none apart = tt
  apart_set zero io (first ∷ slots) none apart =
      (none_tail io.peer first slots none, apart_tail first slots apart)
  apart_set (suc slot) io (None ∷ slots) none apart = apart_set slot io slots none apart
  apart_set (suc slot) io (Some first ∷ slots) none apart = (
    none_set first.peer slot io slots (λ same. none.0 (sym same)) apart.0,
    apart_set slot io slots none.1 apart.1,
  )

  below_set : (n slot : ℕ) (io : PeerIo W) (slots : List (Option (PeerIo W))) → io.peer < n → AreBelow n slots
      → AreBelow n (slice_set slots slot (Some io))
  below_set n slot io [] less below = tt
  below_set n zero io (first ∷ slots) less below = (less, below_tail n first slots below)
  below_set n (suc slot) io (None ∷ slots) less below = below_set n slot io slots less below
  below_set n (suc slot) io (Some first ∷ slots) less below = (below.0, below_set n slot io slots less below.1)

  -- a peer with the next handle is added
  pub sound_come : (p new : ServerState W) (slot : ℕ) (io : PeerIo W) → AreSound p
      → io.peer ≡ p.adapter.state.next_handle → new.slots ≡ slice_set p.slots slot (Some io)
      → new.adapter.state.next_handle ≡ p.adapter.state.next_handle + 1 → AreSound new
  sound_come p new slot io sound is slots next = record {
    apart = subst AreApart (sym slots)
        (apart_set slot io p.slots
        (subst (λ n. HasNone n p.slots) (sym is) (none_next p.adapter.state.next_handle p.slots sound.below)) sound.apart);
    below = subst (AreBelow new.adapter.state.next_handle) (sym slots)
        (below_set new.adapter.state.next_handle slot io p.slots (omega arith)
        (below_more p.adapter.state.next_handle new.adapter.state.next_handle p.slots (omega arith) sound.below));
  }

  -- each peer stays or is ended
  none_of : (peer : ℕ) (slots places : List (Option (PeerIo W))) → AreOf slots places → HasNone peer slots
      → HasNone peer places
  none_of peer [] [] of none = tt
  none_of peer [] (slot ∷ places) of none = absurd of
  none_of peer (io ∷ slots) [] of none = absurd of
  none_of peer (None ∷ slots) (None ∷ places) of none = none_of peer slots places of.1 none
  none_of peer (None ∷ slots) (Some after ∷ places) of none = absurd of.0
  none_of peer (Some io ∷ slots) (None ∷ places) of none = none_of peer slots places of.1 none.1
  none_of peer (Some io ∷ slots) (Some after ∷ places) of none =
      (subst (λ n. n ≢ peer) (sym of.0) none.0, none_of peer slots places of.1 none.1)

  apart_of : (slots places : List (Option (PeerIo W))) → AreOf slots places → AreApart slots → AreApart places
  apart_of [] [] of apart = tt
  apart_of [] (slot ∷ places) of apart = absurd of
  apart_of (io ∷ slots) [] of apart = absurd of
  apart_of (None ∷ slots) (None ∷ places) of apart = apart_of slots places of.1 apart
  apart_of (None ∷ slots) (Some after ∷ places) of apart = absurd of.0
  apart_of (Some io ∷ slots) (None ∷ places) of apart = apart_of slots places of.1 apart.1
  apart_of (Some io ∷ slots) (Some after ∷ places) of apart = (
    subst (λ n. HasNone n places) (sym of.0) (none_of io.peer slots places of.1 apart.0),
    apart_of slots places of.1 apart.1,
  )

  below_of : (n : ℕ) (slots places : List (Option (PeerIo W))) → AreOf slots places → AreBelow n slots → AreBelow n places
  below_of n [] [] of below = tt
  below_of n [] (slot ∷ places) of below = absurd of
  below_of n (io ∷ slots) [] of below = absurd of
  below_of n (None ∷ slots) (None ∷ places) of below = below_of n slots places of.1 below
  below_of n (None ∷ slots) (Some after ∷ places) of below = absurd of.0
  below_of n (Some io ∷ slots) (None ∷ places) of below = below_of n slots places of.1 below.1
  below_of n (Some io ∷ slots) (Some after ∷ places) of below =
      (subst (λ m. m < n) (sym of.0) below.0, below_of n slots places of.1 below.1)

  -- no peer is added
  pub sound_of : (p new : ServerState W) → AreSound p → AreOf p.slots new.slots
      → p.adapter.state.next_handle ≤ new.adapter.state.next_handle → AreSound new
  sound_of p new sound of next = record {
    apart = apart_of p.slots new.slots of sound.apart;
    below = below_of new.adapter.state.next_handle p.slots new.slots of
        (below_more p.adapter.state.next_handle new.adapter.state.next_handle p.slots next sound.below);
  }

  is_of_itself : (slot : Option (PeerIo W)) → IsOf slot slot
  is_of_itself None = tt
  is_of_itself (Some io) = refl

  pub are_of_themselves : (slots : List (Option (PeerIo W))) → AreOf slots slots
  are_of_themselves [] = tt
  are_of_themselves (io ∷ slots) = (is_of_itself io, are_of_themselves slots)

  of_set : (slots : List (Option (PeerIo W))) (slot : ℕ) (io after : PeerIo W) → slice_get slots slot ≡ Some (Some io)
      → after.peer ≡ io.peer → AreOf slots (slice_set slots slot (Some after))
  of_set [] slot io after there same = tt
  of_set (first ∷ slots) zero io after there same =
      let is : first ≡ Some io = cc in
      (subst (λ o. IsOf o (Some after)) (sym is) same, are_of_themselves slots)
  of_set (first ∷ slots) (suc slot) io after there same =
      (is_of_itself first, of_set slots slot io after there same)

  -- a slot is freed
  pub of_freed : (slots : List (Option (PeerIo W))) (slot : ℕ) → AreOf slots (slice_set slots slot None)
  of_freed [] slot = tt
  of_freed (None ∷ slots) zero = (tt, are_of_themselves slots)
  of_freed (Some io ∷ slots) zero = (tt, are_of_themselves slots)
  of_freed (first ∷ slots) (suc slot) = (is_of_itself first, of_freed slots slot)

  -- the peers of two slots differ
  pub apart_at : (slots : List (Option (PeerIo W))) (i j : ℕ) (io other : PeerIo W) → AreApart slots
      → slice_get slots i ≡ Some (Some io) → slice_get slots j ≡ Some (Some other) → i ≢ j → io.peer ≢ other.peer
  apart_at [] i j io other apart here there differs = cc
  apart_at (first ∷ slots) zero zero io other apart here there differs = absurd (differs refl)
  apart_at (None ∷ slots) zero (suc j) io other apart here there differs = cc
  apart_at (Some first ∷ slots) zero (suc j) io other apart here there differs =
      let is : first ≡ io = cc in
      λ same. none_at first.peer slots j other apart.0 there (sym (ap (λ (l : PeerIo W). l.peer) is ∙ same))
  apart_at (None ∷ slots) (suc i) zero io other apart here there differs = cc
  apart_at (Some first ∷ slots) (suc i) zero io other apart here there differs =
      let is : first ≡ other = cc in
      λ same. none_at first.peer slots i io apart.0 here (same ∙ sym (ap (λ (l : PeerIo W). l.peer) is))
  apart_at (first ∷ slots) (suc i) (suc j) io other apart here there differs =
      apart_at slots i j io other (apart_tail first slots apart) here there (λ same. differs (ap suc same))

  -- a peer of a slot does not have the next handle
  pub below_at : (n : ℕ) (slots : List (Option (PeerIo W))) (slot : ℕ) (io : PeerIo W) → AreBelow n slots
      → slice_get slots slot ≡ Some (Some io) → io.peer ≢ n
  below_at n slots slot io below there = none_at n slots slot io (none_next n slots below) there

  -- a slot is marked ready
  pub of_woken : (ends : Bool) (slots : List (Option (PeerIo W))) (slot : ℕ) (found : Option (Option (PeerIo W)))
      → slice_get slots slot ≡ found → AreOf slots (marked_ready_at ends slots slot found)
  of_woken ends slots slot None is = are_of_themselves slots
  of_woken ends slots slot (Some None) is = are_of_themselves slots
  of_woken ends slots slot (Some (Some io)) is = of_set slots slot io (marked_ready_in ends io) is refl

apart_free : (W : Type 0) (n : ℕ) → AreApart {W = W} (replicate n None)
apart_free W zero = tt
apart_free W (suc n) = apart_free W n

below_free : (W : Type 0) (next n : ℕ) → AreBelow {W = W} next (replicate n None)
below_free W next zero = tt
below_free W next (suc n) = below_free W next n

-- at the beginning, without peers
pub sound_new : {W : Type 0} (adapter : AdapterState) (idle_timeout : ℕ) → AreSound {W = W} (new_peers adapter idle_timeout)
sound_new {W} adapter idle_timeout = record {
  apart = apart_free W (adapter.state.places - length adapter.state.peers);
  below = below_free W adapter.state.next_handle (adapter.state.places - length adapter.state.peers);
}
