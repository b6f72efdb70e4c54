-- The request that a piece completes, by the slot of its peer.
use Rattle.std.proofs.Common.{◌≡◌, ℕ, List, [], ◌∷◌, map, Bool, true, false, cond, length, Option, Some, None, unwrap_or, get_or, refl, sym, ap, ◌∙◌}
use Rattle.std.specs.Prelude.{is_some}
use Rattle.std.specs.Option.{option_and_then}
use Rattle.cip_ledger.specs.Device.{Device}
use Rattle.cip_ledger.specs.Ledger.{LedgerState}
use Rattle.cip_ledger.specs.Runs.{Request}
use Rattle.cip_ledger.specs.Withdrawing.{withdrawal_of, withdrawn_from, found_by}
use Rattle.enip_wire.specs.Stream.{held_and_taken, parsed}
use Rattle.enip_adapter.specs.declared.peer.PeerSlot.{PeerSlot}
use Rattle.enip_adapter.specs.declared.shared.Shared.{Shared}
use Rattle.enip_adapter.specs.Adapter.{adapter_in, held_in}
use Rattle.enip_adapter.specs.Calls.{AdapterState, bytes_held}
use Rattle.enip_adapter.specs.Withdrawing.{requests_by_parsed, requests_by_piece, requests_at, requests_of_piece, writes_of, shared_found, is_withdrawing, found_by_piece}
use Rattle.enip_adapter.specs.Lookup.{first_with, IsFirstWith}
use Rattle.enip_adapter.specs.Device.{with_device}
use Rattle.enip_adapter.specs.PeerSlots.{PeerSlotsState, handle_of}
use Rattle.enip_adapter.specs.Runs.{after_calls}
use Rattle.enip_adapter.proofs.FeedLemmas.{finds, session_found, bytes_at_place, found_item}
use Rattle.enip_adapter.proofs.LookupLemmas.{first-None, slice_get-past}

pub requests_nowhere : (limit next_handle : ℕ) (shared : Shared) (places : List PeerSlot) (handle : ℕ)
    (piece : List ℕ) → finds handle places ≡ None → [] ≡ requests_at limit next_handle shared places handle piece
requests_nowhere limit next_handle shared places handle piece e =
    let there : IsFirstWith handle_of handle places (length places) = first-None handle_of handle places e in
    sym (ap (requests_by_piece shared (bytes_held (map held_in places) handle) piece)
    (session_found limit next_handle shared places handle None (there.found ∙ slice_get-past places)))

abbrev at_slot : Shared → List ℕ → PeerSlot → Bool → List Request
at_slot shared piece p closed =
    cond closed [] (requests_by_parsed shared p.session (parsed (held_and_taken p.reader piece)))

-- By the slot that is found.
requests_there : (limit next_handle : ℕ) (shared : Shared) (places : List PeerSlot) (handle i : ℕ) (piece : List ℕ)
    (p : PeerSlot) → finds handle places ≡ Some i
    → requests_at limit next_handle shared places handle piece
    ≡ at_slot shared piece (get_or places i p) (get_or places i p).session.closed
requests_there limit next_handle shared places handle i piece p e =
    let found : first_with handle_of handle places ≡ Some (get_or places i p) = found_item places handle i p e in
    ap (requests_by_piece shared (bytes_held (map held_in places) handle) piece)
    (session_found limit next_handle shared places handle (Some (get_or places i p)) found)
    ∙ ap (λ held. requests_by_piece shared held piece (Some (get_or places i p).session))
    (bytes_at_place places handle (get_or places i p) found)

pub requests_closed : (limit next_handle : ℕ) (shared : Shared) (places : List PeerSlot) (handle i : ℕ)
    (piece : List ℕ) (p : PeerSlot) → finds handle places ≡ Some i → (get_or places i p).session.closed ≡ true
    → [] ≡ requests_at limit next_handle shared places handle piece
requests_closed limit next_handle shared places handle i piece p e closed =
    sym (requests_there limit next_handle shared places handle i piece p e
    ∙ ap (at_slot shared piece (get_or places i p)) closed)

pub requests_open : (limit next_handle : ℕ) (shared : Shared) (places : List PeerSlot) (handle i : ℕ)
    (piece : List ℕ) (p : PeerSlot) → finds handle places ≡ Some i → (get_or places i p).session.closed ≡ false
    → requests_by_parsed shared (get_or places i p).session (parsed (held_and_taken (get_or places i p).reader piece))
    ≡ requests_at limit next_handle shared places handle piece
requests_open limit next_handle shared places handle i piece p e alive =
    sym (requests_there limit next_handle shared places handle i piece p e
    ∙ ap (at_slot shared piece (get_or places i p)) alive)

-- At the adapter.
pub requests_adapter : (limit next_handle : ℕ) (shared : Shared) (places : List PeerSlot) (handle peer : ℕ)
    (piece : List ℕ) (a : AdapterState) → adapter_in limit next_handle shared places ≡ a → handle ≡ peer
    → requests_at limit next_handle shared places handle piece ≡ requests_of_piece a peer piece
requests_adapter limit next_handle shared places handle peer piece a is who =
    ap (λ x. requests_of_piece x handle piece) is ∙ ap (λ h. requests_of_piece a h piece) who

-- ---- what it withdraws

found-writes : (limit next_handle : ℕ) (shared : Shared) (places : List PeerSlot) (requests : List Request)
    → adapter_in limit next_handle (shared_found shared requests) places
    ≡ after_calls (adapter_in limit next_handle shared places) (writes_of requests)
found-writes limit next_handle shared places [] = refl
found-writes limit next_handle shared places (request ∷ more) = refl

-- The adapter once it is withdrawn, by the fields of the code.
pub found_adapter : (slots kept : PeerSlotsState) (next_handle : ℕ) (shared left : Shared) (peer : ℕ) (piece : List ℕ)
    (a : AdapterState) (requests : List Request) → adapter_in slots.limit next_handle shared slots.taken ≡ a
    → left ≡ shared_found shared requests → requests ≡ requests_of_piece a peer piece → kept ≡ slots
    → adapter_in kept.limit next_handle left kept.taken ≡ found_by_piece a peer piece
found_adapter slots kept next_handle shared left peer piece a requests is left_is own same =
    ap (λ (p : PeerSlotsState). adapter_in p.limit next_handle left p.taken) same
    ∙ (ap (λ s. adapter_in slots.limit next_handle s slots.taken) left_is
    ∙ (found-writes slots.limit next_handle shared slots.taken requests
    ∙ (ap (λ x. after_calls x (writes_of requests)) is ∙ ap (λ rs. after_calls a (writes_of rs)) own)))

none_of : (ledger : Option LedgerState) → is_some ledger ≡ false → ledger ≡ None
none_of None is = refl
none_of (Some ledger) is = absurd (cc)

-- Without a ledger nothing is.
pub found_nothing : (a : AdapterState) (peer : ℕ) (piece : List ℕ) → is_some a.state.shared.objects.ledger ≡ false
    → a ≡ found_by_piece a peer piece
found_nothing a peer piece absent = go (requests_of_piece a peer piece)
  where
    none : a.state.shared.objects.ledger ≡ None
    none = none_of a.state.shared.objects.ledger absent

    same : (text : List ℕ) → found_by text a.state.shared.objects ≡ a.state.shared.objects
    same text =
        ap (λ l. unwrap_or (option_and_then (withdrawn_from a.state.shared.objects) (withdrawal_of l text))
        a.state.shared.objects) none

    go : (requests : List Request) → a ≡ after_calls a (writes_of requests)
    go [] = refl
    go (request ∷ more) = ap (with_device a) (sym (same request.1))

pub withdrawing_as : (device other : Device) (one two : List Request) → device ≡ other → one ≡ two
    → is_withdrawing device one ≡ is_withdrawing other two
withdrawing_as device other one two is same = ap (λ d. is_withdrawing d one) is ∙ ap (is_withdrawing other) same
