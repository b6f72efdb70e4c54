-- Slots and the adapter's places: what a call adds to one it takes from the other.
use Rattle.std.proofs.Common.{◌≡◌, ◌≢◌, ◌<◌, ◌≤◌, ◌+◌, ◌-◌, ◌^◌, ℕ, zero, suc, List, [], ◌∷◌, ◌++◌, length, replicate}
use Rattle.std.proofs.Common.{cond, slice_get, slice_set, get_or, Bool, true, false, is_none, eqb, ltb, ltb-true, ltb-false}
use Rattle.std.proofs.Common.{lt-ltb, le-ltb, length-set, Option, Some, None, refl, sym, ap, subst, ◌∙◌, arith}
use Rattle.std.proofs.lemmas.Bool.{eq-eqb}
use Rattle.std.proofs.lemmas.List.{length-map, length_push, map-append}
use Rattle.std.proofs.lemmas.List.Quantifiers.{position-Some}
use Rattle.std.specs.Prelude.{⊤}
use Rattle.std.specs.List.{AllByRecursion, position_or_len}
use Rattle.std.specs.Option.{option_map}
use Rattle.enip_adapter.specs.Calls.{AdapterState, Call, after_call, call_answer}
use Rattle.enip_adapter.specs.Calls.Call.{Begins_peer, Ends_peer}
use Rattle.enip_adapter.specs.declared.peer.Rights.{Rights}
use Rattle.enip_adapter.specs.declared.peer.Session.{Session}
use Rattle.enip_adapter.specs.Lookup.{first_with, without_first}
use Rattle.enip_adapter.specs.Runs.{after_calls, IsForOther}
use Rattle.enip_adapter.specs.Turn.{State, TurnResult, new_session, session_of, end_found}
use Rattle.enip_adapter.specs.Turn.Output.{Begins}
use Rattle.enip_adapter.proofs.BeginLemmas.{each-begun}
use Rattle.enip_adapter.proofs.ListLemmas.{first_with-number, first_with-removed, first_with-append, first_with-behind}
use Rattle.enip_adapter.proofs.ListLemmas.{none-numbers, numbers-none}
use Rattle.enip_adapter.proofs.LookupLemmas.{slice_get-within}
use Rattle.enip_adapter.proofs.PeerLemmas.{session-calls}
use Rattle.enip_adapter.proofs.SoundLemmas.{handles, handles-ended}
use Rattle.enip_server.specs.declared.peer_io.PeerIo.{PeerIo}
use Rattle.enip_server.specs.declared.peers.Peers.{Peers}
use Rattle.enip_server.specs.Rounds.{ServerState, state_of, first_free, new_peers, marked_ready_in, marked_ready_at}
use Rattle.enip_server.proofs.ApartLemmas.{HasNone, AreApart, none_at}

-- ---- session handles

abbrev pub itself : ℕ → ℕ
itself n = n

-- A handle is among these.
abbrev pub Holds : List ℕ → ℕ → Type 0
Holds held peer = first_with itself peer held ≡ Some peer

-- one fewer
pub length_without : (peer : ℕ) (held : List ℕ) → Holds held peer
    → suc (length (without_first itself peer held)) ≡ length held
length_without peer [] holds = cc
length_without peer (n ∷ ns) holds = by (eqb n peer) holds (length_without peer ns)
  where
    by : (b : Bool) → cond b (Some n) (first_with itself peer ns) ≡ Some peer
        → (Holds ns peer → suc (length (without_first itself peer ns)) ≡ length ns)
        → suc (length (cond b ns (n ∷ without_first itself peer ns))) ≡ suc (length ns)
    by true holds others = refl
    by false holds others = ap suc (others holds)

pub holds_without : (peer other : ℕ) (held : List ℕ) → peer ≢ other → Holds held other
    → Holds (without_first itself peer held) other
holds_without peer other held differs holds = first_with-removed itself other peer held differs ∙ holds

-- one more
pub holds_more : (peer next : ℕ) (held : List ℕ) → Holds held peer → Holds (held ++ next ∷ []) peer
holds_more peer next held holds = first_with-append itself peer peer held (next ∷ []) holds

pub holds_last : (next : ℕ) (held : List ℕ) → Holds (held ++ next ∷ []) next
holds_last next held = by (first_with itself next held) refl
  where
    by : (o : Option ℕ) → first_with itself next held ≡ o → Holds (held ++ next ∷ []) next
    by None none =
        first_with-behind itself next held (next ∷ []) none
        ∙ ap (λ b. cond b (Some next) None) (eq-eqb next next refl)
    by (Some n) some =
        first_with-append itself next n held (next ∷ []) some ∙ ap Some (first_with-number itself next n held some)

-- the adapter holds a session with such a handle, and no other
pub session_held : (s : State) (peer : ℕ) → Holds (handles s) peer
    → (session : Session) × (session_of s peer ≡ Some session)
session_held s peer holds = by (session_of s peer) refl
  where
    by : (o : Option Session) → session_of s peer ≡ o → (session : Session) × (session_of s peer ≡ Some session)
    by None none =
        let free : first_with itself peer (handles s) ≡ None
        = none-numbers (λ (p : Session). p.handle) peer s.peers none in
        let both : None ≡ Some peer = sym free ∙ holds in
        absurd (cc)
    by (Some session) some = (session, some)

pub holds_session : (s : State) (peer : ℕ) (session : Session) → session_of s peer ≡ Some session → Holds (handles s) peer
holds_session s peer session there = by (first_with itself peer (handles s)) refl
  where
    by : (o : Option ℕ) → first_with itself peer (handles s) ≡ o → Holds (handles s) peer
    by None none =
        let free : session_of s peer ≡ None = numbers-none (λ (p : Session). p.handle) peer s.peers none in
        let both : None ≡ Some session = sym free ∙ there in
        absurd (cc)
    by (Some n) some = some ∙ ap Some (first_with-number itself peer n (handles s) some)

-- calls for others do not end it
pub holds_on : (peer : ℕ) (a : AdapterState) (calls : List Call) → AllByRecursion (IsForOther peer) calls
    → Holds (handles a.state) peer → Holds (handles (after_calls a calls).state) peer
holds_on peer a calls each holds =
    let s : (session : Session) × (session_of a.state peer ≡ Some session) = session_held a.state peer holds in
    holds_session (after_calls a calls).state peer s.0 (session-calls peer s.0 a calls each s.1)

-- What a peer that ends does: its handle is gone.
pub record IsLess (peer : ℕ) (a b : AdapterState) : Type 0 where
  pub handles_left : handles b.state ≡ without_first itself peer (handles a.state)
  pub places : b.state.places ≡ a.state.places

places_ended : (s : State) (peer : ℕ) (o : Option Session) → (end_found s peer o).places ≡ s.places
places_ended s peer None = refl
places_ended s peer (Some session) = refl

pub less_ended : (a : AdapterState) (peer : ℕ) → IsLess peer a (after_call a (Ends_peer peer))
less_ended a peer = record {
  handles_left = handles-ended a.state peer (session_of a.state peer) refl;
  places = places_ended a.state peer (session_of a.state peer);
}

-- What a peer that begins does: its handle is the last.
pub record IsMore (peer : ℕ) (a b : AdapterState) : Type 0 where
  pub handles_now : handles b.state ≡ handles a.state ++ peer ∷ []
  pub places : b.state.places ≡ a.state.places

pub more_begun : (a : AdapterState) (rights : Rights) (group : Option ℕ) (peer : ℕ)
    → (call_answer a (Begins_peer rights group)).output ≡ Begins peer
    → IsMore peer a (after_call a (Begins_peer rights group))
more_begun a rights group peer is =
    let P : TurnResult → Type 0 = λ t. t.answer.output ≡ Begins peer
    → (handles t.state ≡ handles a.state ++ peer ∷ []) × (t.state.places ≡ a.state.places) in
    let m : (handles (after_call a (Begins_peer rights group)).state ≡ handles a.state ++ peer ∷ [])
    × ((after_call a (Begins_peer rights group)).state.places ≡ a.state.places)
    = each-begun P a.state rights group (λ full begins. absurd (cc))
    (λ begins.
    let same : a.state.next_handle ≡ peer = cc in (
      map-append (λ (p : Session). p.handle) a.state.peers (new_session a.state.next_handle rights group ∷ [])
          ∙ ap (λ n. handles a.state ++ n ∷ []) same,
      refl,
    ))
    is in
    record { handles_now = m.0; places = m.1 }

-- ---- slots

-- The number of free slots.
abbrev pub free_in : {W : Type 0} → List (Option (PeerIo W)) → ℕ
free_in [] = zero
free_in (None ∷ slots) = suc (free_in slots)
free_in (Some io ∷ slots) = free_in slots

-- The adapter holds the peer of each slot.
abbrev pub AreHeld : {W : Type 0} → List ℕ → List (Option (PeerIo W)) → Type 0
AreHeld held [] = ⊤
AreHeld held (None ∷ slots) = AreHeld held slots
AreHeld held (Some io ∷ slots) = Holds held io.peer × AreHeld held slots

-- A slot is free as before, or holds the same peer.
abbrev pub IsAs : {W : Type 0} → Option (PeerIo W) → Option (PeerIo W) → Type 0
IsAs None None = ⊤
IsAs None (Some after) = ⊥
IsAs (Some io) None = ⊥
IsAs (Some io) (Some after) = after.peer ≡ io.peer

abbrev pub AreAs : {W : Type 0} → List (Option (PeerIo W)) → List (Option (PeerIo W)) → Type 0
AreAs [] [] = ⊤
AreAs [] (slot ∷ places) = ⊥
AreAs (io ∷ slots) [] = ⊥
AreAs (io ∷ slots) (slot ∷ places) = IsAs io slot × AreAs slots places

-- What a call does to the slots and to the adapter: it holds the peer of each slot, and the free slots and its peers are
-- as many together as before.
pub record KeepsRoom {W : Type 0} (a : AdapterState) (slots : List (Option (PeerIo W))) (b : AdapterState)
    (places : List (Option (PeerIo W))) : Type 0 where
  pub held : AreHeld (handles b.state) places
  pub count : free_in places + length (handles b.state) ≡ free_in slots + length (handles a.state)
  pub size : length places ≡ length slots
  pub limit : b.state.places ≡ a.state.places

-- The adapter holds the peer of each slot. If there are slots, there are as many free ones as free places.
pub record IsRoomy {W : Type 0} (p : ServerState W) : Type 0 where
  pub held : AreHeld (handles p.adapter.state) p.slots
  pub all : 0 < length p.slots → free_in p.slots + length (handles p.adapter.state) ≡ p.adapter.state.places

-- ---- an index that is one greater

one_later : (k n : ℕ) → cond (ltb (1 + k) (suc n)) (Some (1 + k)) None ≡ option_map suc (cond (ltb k n) (Some k) None)
one_later k n = by (ltb k n) refl
  where
    by : (b : Bool) → ltb k n ≡ b
        → cond (ltb (1 + k) (suc n)) (Some (1 + k)) None ≡ option_map suc (cond b (Some k) None)
    by true less =
        let here : k < n = ltb-true k n less in
        let one : 1 + k ≡ suc k = omega arith in
        ap (λ b. cond b (Some (1 + k)) None) (lt-ltb (1 + k) (suc n) (omega (arith, here))) ∙ ap Some one
    by false more =
        let there : n ≤ k = ltb-false k n more in
        ap (λ b. cond b (Some (1 + k)) None) (le-ltb (1 + k) (suc n) (omega (arith, there)))

none_before : (o : Option ℕ) → option_map suc o ≡ None → o ≡ None
none_before None is = refl
none_before (Some n) is = cc

-- ---- at the beginning

-- So many free slots.
abbrev all_free : (W : Type 0) → ℕ → List (Option (PeerIo W))
all_free W n = replicate n None

held_free : (W : Type 0) (held : List ℕ) (n : ℕ) → AreHeld held (all_free W n)
held_free W held zero = tt
held_free W held (suc n) = held_free W held n

free_all : (W : Type 0) (n : ℕ) → free_in (all_free W n) ≡ n
free_all W zero = refl
free_all W (suc n) = ap suc (free_all W n)

size_all : (W : Type 0) (n : ℕ) → length (all_free W n) ≡ n
size_all W zero = refl
size_all W (suc n) = ap suc (size_all W n)

all_places : (W : Type 0) (places peers : ℕ) → 0 < length (all_free W (places - peers))
    → free_in (all_free W (places - peers)) + peers ≡ places
all_places W places peers some = omega (arith, some, free_all W (places - peers), size_all W (places - peers))

pub roomy_new : {W : Type 0} (adapter : AdapterState) (idle_timeout : ℕ) → IsRoomy {W = W} (new_peers adapter idle_timeout)
roomy_new {W} adapter idle_timeout = record {
  held = held_free W (handles adapter.state) (adapter.state.places - length adapter.state.peers);
  all = λ some.
      ap (λ n. free_in (all_free W (adapter.state.places - length adapter.state.peers)) + n)
      (length-map adapter.state.peers (λ (p : Session). p.handle))
      ∙ all_places W adapter.state.places (length adapter.state.peers) some;
}

module _ {W : Type 0} where
  pub roomy_by : (old new : ServerState W) → IsRoomy old → KeepsRoom old.adapter old.slots new.adapter new.slots
      → IsRoomy new
  roomy_by old new roomy k = record {
    held = k.held;
    all = λ some.
        let before : 0 < length old.slots = omega (arith, some, k.size) in
        omega (arith, roomy.all before, k.count, k.limit);
  }

  -- nothing is done
  pub room_same : (a b : AdapterState) (slots : List (Option (PeerIo W))) → handles b.state ≡ handles a.state
      → b.state.places ≡ a.state.places → AreHeld (handles a.state) slots → KeepsRoom a slots b slots
  room_same a b slots same limit held = record {
    held = subst (λ ns. AreHeld ns slots) (sym same) held;
    count = ap (λ ns. free_in slots + length ns) same;
    size = refl;
    limit = limit;
  }

  -- the slots hold the same peers
  held_as : (held : List ℕ) (slots places : List (Option (PeerIo W))) → AreAs slots places → AreHeld held slots
      → AreHeld held places
  held_as held [] [] alike all = tt
  held_as held [] (slot ∷ places) alike all = absurd alike
  held_as held (io ∷ slots) [] alike all = absurd alike
  held_as held (None ∷ slots) (None ∷ places) alike all = held_as held slots places alike.1 all
  held_as held (None ∷ slots) (Some after ∷ places) alike all = absurd alike.0
  held_as held (Some io ∷ slots) (None ∷ places) alike all = absurd alike.0
  held_as held (Some io ∷ slots) (Some after ∷ places) alike all =
      (subst (Holds held) (sym alike.0) all.0, held_as held slots places alike.1 all.1)

  free_as : (slots places : List (Option (PeerIo W))) → AreAs slots places → free_in places ≡ free_in slots
  free_as [] [] alike = refl
  free_as [] (slot ∷ places) alike = absurd alike
  free_as (io ∷ slots) [] alike = absurd alike
  free_as (None ∷ slots) (None ∷ places) alike = ap suc (free_as slots places alike.1)
  free_as (None ∷ slots) (Some after ∷ places) alike = absurd alike.0
  free_as (Some io ∷ slots) (None ∷ places) alike = absurd alike.0
  free_as (Some io ∷ slots) (Some after ∷ places) alike = free_as slots places alike.1

  size_as : (slots places : List (Option (PeerIo W))) → AreAs slots places → length places ≡ length slots
  size_as [] [] alike = refl
  size_as [] (slot ∷ places) alike = absurd alike
  size_as (io ∷ slots) [] alike = absurd alike
  size_as (io ∷ slots) (slot ∷ places) alike = ap suc (size_as slots places alike.1)

  pub room_as : (a b : AdapterState) (slots places : List (Option (PeerIo W))) → b ≡ a → AreAs slots places
      → AreHeld (handles a.state) slots → KeepsRoom a slots b places
  room_as a b slots places same alike held =
      subst (λ x. KeepsRoom a slots x places) (sym same)
      (record {
        held = held_as (handles a.state) slots places alike held;
        count = ap (λ n. n + length (handles a.state)) (free_as slots places alike);
        size = size_as slots places alike;
        limit = refl;
      })

  is_as_itself : (slot : Option (PeerIo W)) → IsAs slot slot
  is_as_itself None = tt
  is_as_itself (Some io) = refl

  as_themselves : (slots : List (Option (PeerIo W))) → AreAs slots slots
  as_themselves [] = tt
  as_themselves (io ∷ slots) = (is_as_itself io, as_themselves slots)

  as_set : (slots : List (Option (PeerIo W))) (slot : ℕ) (io after : PeerIo W) → slice_get slots slot ≡ Some (Some io)
      → after.peer ≡ io.peer → AreAs slots (slice_set slots slot (Some after))
  as_set [] slot io after there same = tt
  as_set (first ∷ slots) zero io after there same =
      let is : first ≡ Some io = cc in
      (subst (λ o. IsAs o (Some after)) (sym is) same, as_themselves slots)
  as_set (first ∷ slots) (suc slot) io after there same =
      (is_as_itself first, as_set slots slot io after there same)

  -- as if one is marked ready
  pub as_marked : (ends : Bool) (slots : List (Option (PeerIo W))) (slot : ℕ) (found : Option (Option (PeerIo W)))
      → slice_get slots slot ≡ found → AreAs slots (marked_ready_at ends slots slot found)
  as_marked ends slots slot None is = as_themselves slots
  as_marked ends slots slot (Some None) is = as_themselves slots
  as_marked ends slots slot (Some (Some io)) is = as_set slots slot io (marked_ready_in ends io) is refl

  -- ---- a slot is freed

  pub free_freed : (slots : List (Option (PeerIo W))) (slot : ℕ) (io : PeerIo W) → slice_get slots slot ≡ Some (Some io)
      → free_in (slice_set slots slot None) ≡ suc (free_in slots)
  free_freed [] slot io there = cc
  free_freed (None ∷ slots) zero io there = cc
  free_freed (Some first ∷ slots) zero io there = refl
  free_freed (None ∷ slots) (suc slot) io there = ap suc (free_freed slots slot io there)
  free_freed (Some first ∷ slots) (suc slot) io there = free_freed slots slot io there

  -- the others are still held
  pub held_without : (peer : ℕ) (held : List ℕ) (slots : List (Option (PeerIo W))) → HasNone peer slots
      → AreHeld held slots → AreHeld (without_first itself peer held) slots
  held_without peer held [] none all = tt
  held_without peer held (None ∷ slots) none all = held_without peer held slots none all
  held_without peer held (Some io ∷ slots) none all = (
    holds_without peer io.peer held (λ same. none.0 (sym same)) all.0,
    held_without peer held slots none.1 all.1,
  )

  held_freed : (held : List ℕ) (slots : List (Option (PeerIo W))) (slot : ℕ) (io : PeerIo W) → AreApart slots
      → slice_get slots slot ≡ Some (Some io) → AreHeld held slots
      → AreHeld (without_first itself io.peer held) (slice_set slots slot None)
  held_freed held [] slot io apart there all = tt
  held_freed held (None ∷ slots) zero io apart there all = cc
  held_freed held (Some first ∷ slots) zero io apart there all =
      let is : first ≡ io = cc in
      held_without io.peer held slots (subst (λ (l : PeerIo W). HasNone l.peer slots) is apart.0) all.1
  held_freed held (None ∷ slots) (suc slot) io apart there all = held_freed held slots slot io apart there all
  held_freed held (Some first ∷ slots) (suc slot) io apart there all = (
    holds_without io.peer first.peer held (none_at first.peer slots slot io apart.0 there) all.0,
    held_freed held slots slot io apart.1 there all.1,
  )

  pub held_at : (held : List ℕ) (slots : List (Option (PeerIo W))) (slot : ℕ) (io : PeerIo W)
      → slice_get slots slot ≡ Some (Some io) → AreHeld held slots → Holds held io.peer
  held_at held [] slot io there all = cc
  held_at held (None ∷ slots) zero io there all = cc
  held_at held (Some first ∷ slots) zero io there all =
      let is : first ≡ io = cc in subst (λ (l : PeerIo W). Holds held l.peer) is all.0
  held_at held (None ∷ slots) (suc slot) io there all = held_at held slots slot io there all
  held_at held (Some first ∷ slots) (suc slot) io there all = held_at held slots slot io there all.1

  pub room_freed : (a : AdapterState) (slots : List (Option (PeerIo W))) (slot : ℕ) (io : PeerIo W) → AreApart slots
      → slice_get slots slot ≡ Some (Some io) → AreHeld (handles a.state) slots
      → KeepsRoom a slots (after_call a (Ends_peer io.peer)) (slice_set slots slot None)
  room_freed a slots slot io apart there held =
      let less : IsLess io.peer a (after_call a (Ends_peer io.peer)) = less_ended a io.peer in
      record {
        held = subst (λ ns. AreHeld ns (slice_set slots slot None)) (sym less.handles_left)
            (held_freed (handles a.state) slots slot io apart there held);
        count = omega (
          arith,
          free_freed slots slot io there,
          ap length less.handles_left,
          length_without io.peer (handles a.state) (held_at (handles a.state) slots slot io there held),
        );
        size = length-set slots slot None;
        limit = less.places;
      }

  -- ---- a free slot is taken

  free_taken : (slots : List (Option (PeerIo W))) (slot : ℕ) (io : PeerIo W) → slice_get slots slot ≡ Some None
      → suc (free_in (slice_set slots slot (Some io))) ≡ free_in slots
  free_taken [] slot io there = cc
  free_taken (None ∷ slots) zero io there = refl
  free_taken (Some first ∷ slots) zero io there = cc
  free_taken (None ∷ slots) (suc slot) io there = ap suc (free_taken slots slot io there)
  free_taken (Some first ∷ slots) (suc slot) io there = free_taken slots slot io there

  held_more : (next : ℕ) (held : List ℕ) (slots : List (Option (PeerIo W))) → AreHeld held slots
      → AreHeld (held ++ next ∷ []) slots
  held_more next held [] all = tt
  held_more next held (None ∷ slots) all = held_more next held slots all
  held_more next held (Some io ∷ slots) all =
      (holds_more io.peer next held all.0, held_more next held slots all.1)

  held_tail : (held : List ℕ) (first : Option (PeerIo W)) (slots : List (Option (PeerIo W)))
      → AreHeld held (first ∷ slots) → AreHeld held slots
  held_tail held None slots all = all
  held_tail held (Some io) slots all = all.1

  held_set : (held : List ℕ) (slots : List (Option (PeerIo W))) (slot : ℕ) (io : PeerIo W) → Holds held io.peer
      → AreHeld held slots → AreHeld held (slice_set slots slot (Some io))
  held_set held [] slot io holds all = tt
  held_set held (first ∷ slots) zero io holds all = (holds, held_tail held first slots all)
  held_set held (None ∷ slots) (suc slot) io holds all = held_set held slots slot io holds all
  held_set held (Some first ∷ slots) (suc slot) io holds all = (all.0, held_set held slots slot io holds all.1)

  pub room_begun : (a : AdapterState) (rights : Rights) (group : Option ℕ) (slots : List (Option (PeerIo W))) (slot : ℕ)
      (io : PeerIo W) → (call_answer a (Begins_peer rights group)).output ≡ Begins io.peer
      → slice_get slots slot ≡ Some None → AreHeld (handles a.state) slots
      → KeepsRoom a slots (after_call a (Begins_peer rights group)) (slice_set slots slot (Some io))
  room_begun a rights group slots slot io begins there held =
      let more : IsMore io.peer a (after_call a (Begins_peer rights group)) = more_begun a rights group io.peer begins in
      record {
        held = subst (λ ns. AreHeld ns (slice_set slots slot (Some io))) (sym more.handles_now)
            (held_set (handles a.state ++ io.peer ∷ []) slots slot io (holds_last io.peer (handles a.state))
            (held_more io.peer (handles a.state) slots held));
        count = omega (
          arith,
          free_taken slots slot io there,
          ap length more.handles_now,
          length_push (handles a.state) io.peer,
        );
        size = length-set slots slot (Some io);
        limit = more.places;
      }

  -- ---- the first free slot

  none_is : (o : Option (PeerIo W)) → is_none o ≡ true → o ≡ None
  none_is None is = refl
  none_is (Some io) is = cc

  pub free_there : (slots : List (Option (PeerIo W))) (free : ℕ) → first_free slots ≡ Some free
      → slice_get slots free ≡ Some None
  free_there slots free is =
      let found : (free < length slots) × (is_none (get_or slots free None) ≡ true)
      × ((k : ℕ) → k < free → is_none (get_or slots k None) ≡ false)
      = position-Some (λ o. is_none o) slots free None is in
      slice_get-within slots free None found.0 ∙ ap Some (none_is (get_or slots free None) found.1)

  -- there is one
  pub free_some : (slots : List (Option (PeerIo W))) (slot : ℕ) → slice_get slots slot ≡ Some None → 0 < free_in slots
  free_some [] slot there = cc
  free_some (None ∷ slots) zero there = omega arith
  free_some (Some first ∷ slots) zero there = cc
  free_some (None ∷ slots) (suc slot) there = omega arith
  free_some (Some first ∷ slots) (suc slot) there = free_some slots slot there

  pub slots_some : (slots : List (Option (PeerIo W))) (slot : ℕ) (o : Option (PeerIo W)) → slice_get slots slot ≡ Some o
      → 0 < length slots
  slots_some [] slot o there = cc
  slots_some (first ∷ slots) slot o there = omega arith

  free_first : (slots : List (Option (PeerIo W))) → first_free {W = W} (None ∷ slots) ≡ Some zero
  free_first slots = ap (λ b. cond b (Some zero) None) (lt-ltb zero (suc (length slots)) (omega arith))

  free_later : (io : PeerIo W) (slots : List (Option (PeerIo W)))
      → first_free (Some io ∷ slots) ≡ option_map suc (first_free slots)
  free_later io slots = one_later (position_or_len (λ o. is_none o) slots) (length slots)

  -- if there is none, all are taken
  pub first_none : (slots : List (Option (PeerIo W))) (slot : ℕ) → first_free slots ≡ None
      → slice_get slots slot ≡ Some None → ⊥
  first_none [] slot none there = cc
  first_none (None ∷ slots) slot none there =
      let some : first_free {W = W} (None ∷ slots) ≡ Some zero = free_first slots in
      cc
  first_none (Some first ∷ slots) zero none there = cc
  first_none (Some first ∷ slots) (suc slot) none there =
      first_none slots slot (none_before (first_free slots) (sym (free_later first slots) ∙ none)) there

  -- all are taken, and one is freed: that is the first free one
  pub free_only : (slots : List (Option (PeerIo W))) (slot : ℕ) (io : PeerIo W) → first_free slots ≡ None
      → slice_get slots slot ≡ Some (Some io) → first_free (slice_set slots slot None) ≡ Some slot
  free_only [] slot io none there = cc
  free_only (None ∷ slots) slot io none there =
      let some : first_free {W = W} (None ∷ slots) ≡ Some zero = free_first slots in
      absurd (cc)
  free_only (Some first ∷ slots) zero io none there = free_first slots
  free_only (Some first ∷ slots) (suc slot) io none there =
      let rest : first_free slots ≡ None = none_before (first_free slots) (sym (free_later first slots) ∙ none) in
      free_later first (slice_set slots slot None) ∙ ap (option_map suc) (free_only slots slot io rest there)

  -- a slice has fewer items than half of all addresses
  pub slots_small : (p : Peers W) → length (state_of p).slots < 2 ^ 63
  slots_small p = omega (arith, p.slots.items.ok.0, p.slots.items.ok.1, p.slots.items.small)
