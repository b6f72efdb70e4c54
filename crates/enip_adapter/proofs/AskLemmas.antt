-- What a piece asks the owner, by what of it reaches the objects and by the slot of its peer.
use Rattle.std.proofs.Common.{◌≡◌, ℕ, List, [], ◌∷◌, ◌++◌, map, Bool, true, false, cond, length, Option, Some, None, get_or, append-nil, refl, sym, ap, ◌∙◌}
use Rattle.cip_objects.specs.OwnRequests.{Asked}
use Rattle.cip_owner.specs.Owned.{asks}
use Rattle.enip_wire.specs.Stream.{Parsed, held_and_taken, parsed}
use Rattle.enip_wire.specs.Stream.Parsed.{Incomplete, WholeFrame, TooLongHeader}
use Rattle.enip_adapter.specs.declared.peer.PeerSlot.{PeerSlot}
use Rattle.enip_adapter.specs.declared.peer.Session.{Session}
use Rattle.enip_adapter.specs.declared.shared.Shared.{Shared}
use Rattle.enip_adapter.specs.Adapter.{adapter_in, held_in}
use Rattle.enip_adapter.specs.Asks.{asks_by_steps, asks_of_call, asks_by_requests, asks_by_parsed, asks_by_piece, asks_at}
use Rattle.enip_adapter.specs.Calls.{AdapterState, Meaning, after_call, call_answer, bytes_held, call_meaning, piece_to, piece_meaning, dropped_piece, events_of_parsed, last_from}
use Rattle.enip_adapter.specs.Calls.Call.{Feeds, Ticks}
use Rattle.enip_adapter.specs.DeviceRuns.{Requested, device_steps, requests_in_frame, requests_by_session}
use Rattle.enip_adapter.specs.Lookup.{first_with, IsFirstWith}
use Rattle.enip_adapter.specs.PeerSlots.{PeerSlotsState, handle_of}
use Rattle.enip_adapter.specs.declared.no_reply_reason.NoReplyReason.TheVariants.{NoFrame, NotServed}
use Rattle.enip_adapter.specs.Turn.{State, Answer, session_of, at_moment, after, answers}
use Rattle.enip_adapter.specs.Turn.Output.{NoReply}
use Rattle.enip_adapter.specs.Turn.Event.{At}
use Rattle.enip_adapter.proofs.CutLemmas.{at-twice}
use Rattle.enip_adapter.proofs.PeerLemmas.{at_state}
use Rattle.enip_adapter.proofs.FeedLemmas.{finds, session_found, bytes_at_place, found_item}
use Rattle.enip_adapter.proofs.LookupLemmas.{first-None, slice_get-past}

-- ---- one request

-- ---- a piece

-- By the event, if any, that a peer's bytes are.
asks-parsed : (s : State) (peer : ℕ) (session : Session) (x : Parsed) → session_of s peer ≡ Some session
    → session.closed ≡ false
    → asks_by_steps s.shared.objects (device_steps s (events_of_parsed peer x)) ≡ asks_by_parsed s.shared session x
asks-parsed s peer session Incomplete found alive = refl
asks-parsed s peer session (WholeFrame f) found alive =
    ap (asks_by_steps s.shared.objects) (append-nil (map Requested (requests_by_session s.shared f (session_of s peer))))
    ∙ (ap (λ o. asks_by_requests s.shared.objects (requests_by_session s.shared f o)) found
    ∙ ap (λ b. asks_by_requests s.shared.objects (cond b [] (requests_in_frame s.shared session f))) alive)
asks-parsed s peer session (TooLongHeader h) found alive = refl

abbrev steps_asked : State → ℕ → List ℕ → AdapterState → Bool → List Asked
steps_asked s peer piece a closed =
    asks_by_steps s.shared.objects (device_steps s (cond closed (dropped_piece a.held)
    (piece_meaning a.held peer (bytes_held a.held peer) piece)).events)

abbrev piece_asked : State → ℕ → List ℕ → AdapterState → Session → Bool → List Asked
piece_asked s peer piece a session closed =
    cond closed [] (asks_by_parsed s.shared session (parsed (held_and_taken (bytes_held a.held peer) piece)))

asks-session : (s : State) (peer : ℕ) (piece : List ℕ) (a : AdapterState) (session : Session) (closed : Bool)
    → session_of s peer ≡ Some session → session.closed ≡ closed
    → steps_asked s peer piece a session.closed ≡ piece_asked s peer piece a session session.closed
asks-session s peer piece a session true found e =
    ap (steps_asked s peer piece a) e ∙ sym (ap (piece_asked s peer piece a session) e)
asks-session s peer piece a session false found e =
    ap (steps_asked s peer piece a) e
    ∙ (asks-parsed s peer session (parsed (held_and_taken (bytes_held a.held peer) piece)) found e
    ∙ sym (ap (piece_asked s peer piece a session) e))

asks-found : (s : State) (peer : ℕ) (piece : List ℕ) (a : AdapterState) (o : Option Session) → session_of s peer ≡ o
    → asks_by_steps s.shared.objects (device_steps s (piece_to a.held peer piece o).events)
    ≡ asks_by_piece s.shared (bytes_held a.held peer) piece o
asks-found s peer piece a None found = refl
asks-found s peer piece a (Some session) found = asks-session s peer piece a session session.closed found refl

-- What a feed asks, by the peer's session.
pub feed_asks : (a : AdapterState) (now peer : ℕ) (piece : List ℕ) → asks_of_call a (Feeds now peer piece)
    ≡ asks_by_piece (at_moment a.state.shared now) (bytes_held a.held peer) piece (session_of a.state peer)
feed_asks a now peer piece =
    ap (λ events. asks_by_steps a.state.shared.objects (device_steps a.state (At now ∷ events)))
    (append-nil (piece_to a.held peer piece (session_of a.state peer)).events)
    ∙ asks-found (at_state a.state now) peer piece a (session_of a.state peer) refl

-- ---- at the slots

pub asks_nowhere : (limit next_handle : ℕ) (shared : Shared) (places : List PeerSlot) (handle : ℕ) (piece : List ℕ)
    → finds handle places ≡ None → [] ≡ asks_at limit next_handle shared places handle piece
asks_nowhere limit next_handle shared places handle piece e =
    let there : IsFirstWith handle_of handle places (length places) = first-None handle_of handle places e in
    sym (ap (asks_by_piece shared (bytes_held (map held_in places) handle) piece)
    (session_found limit next_handle shared places handle None (there.found ∙ slice_get-past places)))

abbrev at_slot : Shared → List ℕ → PeerSlot → Bool → List Asked
at_slot shared piece p closed =
    cond closed [] (asks_by_parsed shared p.session (parsed (held_and_taken p.reader piece)))

-- By the slot that is found.
asks_there : (limit next_handle : ℕ) (shared : Shared) (places : List PeerSlot) (handle i : ℕ) (piece : List ℕ)
    (p : PeerSlot) → finds handle places ≡ Some i
    → asks_at limit next_handle shared places handle piece
    ≡ at_slot shared piece (get_or places i p) (get_or places i p).session.closed
asks_there limit next_handle shared places handle i piece p e =
    let found : first_with handle_of handle places ≡ Some (get_or places i p) = found_item places handle i p e in
    ap (asks_by_piece shared (bytes_held (map held_in places) handle) piece)
    (session_found limit next_handle shared places handle (Some (get_or places i p)) found)
    ∙ ap (λ held. asks_by_piece shared held piece (Some (get_or places i p).session))
    (bytes_at_place places handle (get_or places i p) found)

pub asks_closed : (limit next_handle : ℕ) (shared : Shared) (places : List PeerSlot) (handle i : ℕ) (piece : List ℕ)
    (p : PeerSlot) → finds handle places ≡ Some i → (get_or places i p).session.closed ≡ true
    → [] ≡ asks_at limit next_handle shared places handle piece
asks_closed limit next_handle shared places handle i piece p e closed =
    sym (asks_there limit next_handle shared places handle i piece p e
    ∙ ap (at_slot shared piece (get_or places i p)) closed)

pub asks_open : (limit next_handle : ℕ) (shared : Shared) (places : List PeerSlot) (handle i : ℕ) (piece : List ℕ)
    (p : PeerSlot) → finds handle places ≡ Some i → (get_or places i p).session.closed ≡ false
    → asks_by_parsed shared (get_or places i p).session (parsed (held_and_taken (get_or places i p).reader piece))
    ≡ asks_at limit next_handle shared places handle piece
asks_open limit next_handle shared places handle i piece p e alive =
    sym (asks_there limit next_handle shared places handle i piece p e
    ∙ ap (at_slot shared piece (get_or places i p)) alive)

-- ---- at the adapter

pub asked_by_feed : (limit next_handle : ℕ) (shared now_shared : Shared) (places : List PeerSlot)
    (now handle peer : ℕ) (piece : List ℕ) (a : AdapterState) → adapter_in limit next_handle shared places ≡ a
    → now_shared ≡ at_moment shared now → handle ≡ peer
    → asks_at limit next_handle now_shared places handle piece ≡ asks_of_call a (Feeds now peer piece)
asked_by_feed limit next_handle shared now_shared places now handle peer piece a is moment who =
    ap (λ s. asks_at limit next_handle s places handle piece) moment
    ∙ (sym (feed_asks (adapter_in limit next_handle shared places) now handle piece)
    ∙ (ap (λ x. asks_of_call x (Feeds now handle piece)) is ∙ ap (λ h. asks_of_call a (Feeds now h piece)) who))

-- ---- a time that is given before a feed at it counts once

abbrev pub ticked : AdapterState → ℕ → AdapterState
ticked a now = after_call a (Ticks now)

abbrev feed_meaning : AdapterState → ℕ → ℕ → List ℕ → Meaning
feed_meaning a now peer piece = call_meaning a (Feeds now peer piece)

pub ticked_state : (a : AdapterState) (now peer : ℕ) (piece : List ℕ)
    → after_call (ticked a now) (Feeds now peer piece) ≡ after_call a (Feeds now peer piece)
ticked_state a now peer piece =
    ap (λ s. let r : AdapterState = record {
      state = after s (piece_to a.held peer piece (session_of a.state peer)).events;
      held = (feed_meaning a now peer piece).held;
    } in r) (at-twice a.state now)

pub ticked_answer : (a : AdapterState) (now peer : ℕ) (piece : List ℕ)
    → call_answer (ticked a now) (Feeds now peer piece) ≡ call_answer a (Feeds now peer piece)
ticked_answer a now peer piece =
    ap (λ s. cond (feed_meaning a now peer piece).dropped
    (let r : Answer = record { output = NoReply NotServed; close = true } in r)
    (last_from (record { output = NoReply NoFrame; close = false })
    (answers s (piece_to a.held peer piece (session_of a.state peer)).events)))
    (at-twice a.state now)

pub ticked_asks : (a : AdapterState) (now peer : ℕ) (piece : List ℕ)
    → asks_of_call (ticked a now) (Feeds now peer piece) ≡ asks_of_call a (Feeds now peer piece)
ticked_asks a now peer piece =
    feed_asks (ticked a now) now peer piece
    ∙ (ap (λ (s : State). asks_by_piece s.shared (bytes_held a.held peer) piece (session_of a.state peer))
    (at-twice a.state now)
    ∙ sym (feed_asks a now peer piece))

-- The adapter after the time alone, by the fields of the code.
pub ticked_at : (places kept : PeerSlotsState) (next_handle : ℕ) (shared left : Shared) (now : ℕ) (a : AdapterState)
    → adapter_in places.limit next_handle shared places.taken ≡ a → left ≡ at_moment shared now → kept ≡ places
    → adapter_in kept.limit next_handle left kept.taken ≡ ticked a now
ticked_at places kept next_handle shared left now a is moment same =
    ap (λ (p : PeerSlotsState). adapter_in p.limit next_handle left p.taken) same
    ∙ (ap (λ s. adapter_in places.limit next_handle s places.taken) moment ∙ ap (λ x. ticked x now) is)
