-- A peer that begins, and one that ends.
use Rattle.std.proofs.Common.{◌≡◌, ℕ, ◌+◌, List, [], ◌∷◌, ◌++◌, Bool, false, cond, if◌then◌else◌, Option, Some, None, map, refl, sym, ap, ◌∙◌, All, ◌≤◌}
use Rattle.std.specs.Prelude.{is_some}
use Rattle.std.proofs.lemmas.List.Elements.{All-head, All-tail}
use Rattle.enip_adapter.specs.declared.adapter.Full.TheVariants.{Places, Handles, Share}
use Rattle.enip_adapter.specs.declared.peer.PeerSlot.{PeerSlot}
use Rattle.enip_adapter.specs.declared.peer.Rights.{Rights}
use Rattle.enip_adapter.specs.declared.peer.Session.{Session}
use Rattle.enip_adapter.specs.declared.shared.Shared.{Shared}
use Rattle.enip_adapter.specs.Adapter.{adapter_in, state_in, session_in, held_in}
use Rattle.enip_adapter.specs.Calls.{AdapterState, Held, after_call}
use Rattle.enip_adapter.specs.Calls.Call.{Ends_peer}
use Rattle.enip_adapter.specs.Lookup.{first_with, without_first}
use Rattle.enip_adapter.specs.Turn.{State, TurnResult, turned, with_peer, session_of, end_found, without_connections}
use Rattle.enip_adapter.specs.Turn.Output.{Begins, Refuses}
use Rattle.enip_adapter.specs.PeerSlots.{PeerSlotsState, handle_of}
use Rattle.enip_adapter.proofs.FeedLemmas.{session_found}
use Rattle.enip_adapter.proofs.ListLemmas.{without_first-none}
use Rattle.enip_adapter.proofs.MapLemmas.{map-without_first}

-- A peer that frees its slot.
ended_found : (limit next_handle : ℕ) (shared : Shared) (places : List PeerSlot) (handle : ℕ) (p : PeerSlot) → first_with handle_of handle places ≡ Some p
    → adapter_in limit next_handle (without_connections shared handle) (without_first handle_of handle places)
    ≡ after_call (adapter_in limit next_handle shared places) (Ends_peer handle)
ended_found limit next_handle shared places handle p e =
    let o : session_of (state_in limit next_handle shared places) handle ≡ Some p.session
    = session_found limit next_handle shared places handle (Some p) e in
    let peers : map session_in (without_first handle_of handle places) ≡ without_first (λ (s : Session). s.handle) handle (map session_in places)
    = map-without_first session_in (λ (s : Session). s.handle) handle places in
    let held : map held_in (without_first handle_of handle places) ≡ without_first (λ (h : Held). h.peer) handle (map held_in places)
    = map-without_first held_in (λ (h : Held). h.peer) handle places in
    ap (λ ps. let r : AdapterState = record { state = record { places = limit; next_handle = next_handle; shared = without_connections shared handle; peers = ps }; held = map held_in (without_first handle_of handle places) } in r) peers
    ∙ ap (λ h. let r : AdapterState = record { state = end_found (state_in limit next_handle shared places) handle (Some p.session); held = h } in r) held
    ∙ ap (λ x. let r : AdapterState = record { state = end_found (state_in limit next_handle shared places) handle x; held = without_first (λ (h : Held). h.peer) handle (map held_in places) } in r) (sym o)

-- A peer that holds no slot.
ended_none : (limit next_handle : ℕ) (shared : Shared) (places : List PeerSlot) (handle : ℕ) → first_with handle_of handle places ≡ None
    → adapter_in limit next_handle shared (without_first handle_of handle places)
    ≡ after_call (adapter_in limit next_handle shared places) (Ends_peer handle)
ended_none limit next_handle shared places handle e =
    let o : session_of (state_in limit next_handle shared places) handle ≡ None
    = session_found limit next_handle shared places handle None e in
    let same : without_first handle_of handle places ≡ places = without_first-none handle_of handle places e in
    let held : map held_in places ≡ without_first (λ (h : Held). h.peer) handle (map held_in places)
    = ap (map held_in) (sym same) ∙ map-without_first held_in (λ (h : Held). h.peer) handle places in
    ap (adapter_in limit next_handle shared) same
    ∙ ap (λ h. let r : AdapterState = record { state = state_in limit next_handle shared places; held = h } in r) held
    ∙ ap (λ x. let r : AdapterState = record { state = end_found (state_in limit next_handle shared places) handle x; held = without_first (λ (h : Held). h.peer) handle (map held_in places) } in r) (sym o)

ended_either : (limit next_handle : ℕ) (shared : Shared) (places : List PeerSlot) (handle : ℕ) (o : Option PeerSlot) → first_with handle_of handle places ≡ o
    → adapter_in limit next_handle (if is_some o then without_connections shared handle else shared) (without_first handle_of handle places)
    ≡ after_call (adapter_in limit next_handle shared places) (Ends_peer handle)
ended_either limit next_handle shared places handle (Some p) e = ended_found limit next_handle shared places handle p e
ended_either limit next_handle shared places handle None e = ended_none limit next_handle shared places handle e

-- the adapter after a slot was freed, or none was held
pub ended : (old new : PeerSlotsState) (next_handle handle peer : ℕ) (shared left : Shared) (held : Bool) (a : AdapterState)
    → adapter_in old.limit next_handle shared old.taken ≡ a → handle ≡ peer → held ≡ is_some (first_with handle_of handle old.taken)
    → new.limit ≡ old.limit → new.taken ≡ without_first handle_of handle old.taken
    → left ≡ (if held then without_connections shared handle else shared)
    → adapter_in new.limit next_handle left new.taken ≡ after_call a (Ends_peer peer)
ended old new next_handle handle peer shared left held a is who found limit taken ends =
    ap (λ n. adapter_in n next_handle left new.taken) limit ∙ ap (adapter_in old.limit next_handle left) taken
    ∙ ap (λ s. adapter_in old.limit next_handle s (without_first handle_of handle old.taken)) ends
    ∙ ap (λ b. adapter_in old.limit next_handle (if b then without_connections shared handle else shared) (without_first handle_of handle old.taken)) found
    ∙ ended_either old.limit next_handle shared old.taken handle (first_with handle_of handle old.taken) refl
    ∙ ap (λ x. after_call x (Ends_peer handle)) is ∙ ap (λ n. after_call a (Ends_peer n)) who

-- The result of begin, by its three checks.
abbrev begun_by : State → Rights → Option ℕ → Bool → Bool → Bool → TurnResult
begun_by s rights group over full used =
    cond over (turned s (Refuses Share) false)
    (cond full (turned s (Refuses Places) false)
    (cond used (turned s (Refuses Handles) false) (turned (with_peer s rights group) (Begins s.next_handle) false)))

-- The last item of a list, all of whose items have a property.
pub last_of : {X : Type 0} (P : X → Type 0) (xs : List X) (x : X) → All P (xs ++ x ∷ []) → P x
last_of P [] x all = All-head P x [] all
last_of P (y ∷ ys) x all = last_of P ys x (All-tail P y (ys ++ x ∷ []) all)
