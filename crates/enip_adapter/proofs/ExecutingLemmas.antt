-- The command that a piece would execute, by the slot of its peer.
use Rattle.std.proofs.Common.{◌≡◌, ℕ, List, map, Bool, true, false, cond, length, Option, Some, None, get_or, sym, ap, ◌∙◌}
use Rattle.cip_ledger.specs.declared.doubt.DoubtfulCommand.{DoubtfulCommand}
use Rattle.enip_wire.specs.Stream.{held_and_taken, parsed}
use Rattle.enip_adapter.specs.declared.peer.PeerSlot.{PeerSlot}
use Rattle.enip_adapter.specs.declared.shared.Shared.{Shared}
use Rattle.enip_adapter.specs.Adapter.{adapter_in, held_in}
use Rattle.enip_adapter.specs.Calls.{AdapterState, bytes_held}
use Rattle.enip_adapter.specs.Executing.{executing, executing_parsed, executing_piece, executing_at}
use Rattle.enip_adapter.specs.Lookup.{first_with, IsFirstWith}
use Rattle.enip_adapter.specs.PeerSlots.{handle_of}
use Rattle.enip_adapter.proofs.FeedLemmas.{finds, session_found, bytes_at_place, found_item}
use Rattle.enip_adapter.proofs.LookupLemmas.{first-None, slice_get-past}

pub executing_nowhere : (limit next_handle : ℕ) (shared : Shared) (places : List PeerSlot) (handle : ℕ)
    (piece : List ℕ) → finds handle places ≡ None → None ≡ executing_at limit next_handle shared places handle piece
executing_nowhere limit next_handle shared places handle piece e =
    let there : IsFirstWith handle_of handle places (length places) = first-None handle_of handle places e in
    sym (ap (executing_piece shared (bytes_held (map held_in places) handle) piece)
    (session_found limit next_handle shared places handle None (there.found ∙ slice_get-past places)))

abbrev at_slot : Shared → List ℕ → PeerSlot → Bool → Option DoubtfulCommand
at_slot shared piece p closed =
    cond closed None (executing_parsed shared p.session (parsed (held_and_taken p.reader piece)))

-- By the slot that is found.
executing_there : (limit next_handle : ℕ) (shared : Shared) (places : List PeerSlot) (handle i : ℕ) (piece : List ℕ)
    (p : PeerSlot) → finds handle places ≡ Some i
    → executing_at limit next_handle shared places handle piece
    ≡ at_slot shared piece (get_or places i p) (get_or places i p).session.closed
executing_there limit next_handle shared places handle i piece p e =
    let found : first_with handle_of handle places ≡ Some (get_or places i p) = found_item places handle i p e in
    ap (executing_piece shared (bytes_held (map held_in places) handle) piece)
    (session_found limit next_handle shared places handle (Some (get_or places i p)) found)
    ∙ ap (λ held. executing_piece shared held piece (Some (get_or places i p).session))
    (bytes_at_place places handle (get_or places i p) found)

pub executing_closed : (limit next_handle : ℕ) (shared : Shared) (places : List PeerSlot) (handle i : ℕ)
    (piece : List ℕ) (p : PeerSlot) → finds handle places ≡ Some i → (get_or places i p).session.closed ≡ true
    → None ≡ executing_at limit next_handle shared places handle piece
executing_closed limit next_handle shared places handle i piece p e closed =
    sym (executing_there limit next_handle shared places handle i piece p e
    ∙ ap (at_slot shared piece (get_or places i p)) closed)

pub executing_open : (limit next_handle : ℕ) (shared : Shared) (places : List PeerSlot) (handle i : ℕ)
    (piece : List ℕ) (p : PeerSlot) → finds handle places ≡ Some i → (get_or places i p).session.closed ≡ false
    → executing_parsed shared (get_or places i p).session (parsed (held_and_taken (get_or places i p).reader piece))
    ≡ executing_at limit next_handle shared places handle piece
executing_open limit next_handle shared places handle i piece p e alive =
    sym (executing_there limit next_handle shared places handle i piece p e
    ∙ ap (at_slot shared piece (get_or places i p)) alive)

-- At the adapter.
pub executing_adapter : (limit next_handle : ℕ) (shared : Shared) (places : List PeerSlot) (handle peer : ℕ)
    (piece : List ℕ) (a : AdapterState) → adapter_in limit next_handle shared places ≡ a → handle ≡ peer
    → executing_at limit next_handle shared places handle piece ≡ executing a peer piece
executing_adapter limit next_handle shared places handle peer piece a is who =
    ap (λ x. executing x handle piece) is ∙ ap (λ h. executing a h piece) who
