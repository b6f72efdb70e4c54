-- A piece for a peer, by where its slot is.
use Rattle.std.proofs.Common.{◌≡◌, ℕ, ◌<◌, List, Bool, true, false, cond, eqb, Option, Some, None, length, map, get_or, refl, sym, ap, subst, ◌∙◌}
use Rattle.std.specs.Prelude.{slice_set}
use Rattle.std.specs.List.{position}
use Rattle.std.specs.Option.{option_map}
use Rattle.enip_wire.specs.Stream.{Parsed, parsed, held_and_taken, bytes_taken, cleared}
use Rattle.enip_wire.specs.Stream.Parsed.{Incomplete, WholeFrame, TooLongHeader}
use Rattle.enip_adapter.specs.declared.peer.PeerSlot.{PeerSlot}
use Rattle.enip_adapter.specs.declared.peer.Session.{Session}
use Rattle.enip_adapter.specs.declared.reply.Reaction.{Reaction}
use Rattle.enip_adapter.specs.declared.reply.Reply.TheVariants as replies
use Rattle.enip_adapter.specs.declared.shared.Shared.{Shared}
use Rattle.enip_adapter.specs.declared.no_reply_reason.NoReplyReason.TheVariants.{NoFrame, NotServed}
use Rattle.enip_adapter.specs.Adapter.{adapter_in, state_in, session_in, held_in}
use Rattle.enip_adapter.specs.Calls.{AdapterState, Held, Meaning, piece_to, piece_meaning, dropped_piece, events_of_parsed, bytes_held, bytes_found, last_from, after_call, call_meaning, call_answer}
use Rattle.enip_adapter.specs.Calls.Call.{Feeds}
use Rattle.enip_adapter.specs.Commands.{command_served, long_refused, parsed_served}
use Rattle.enip_adapter.specs.Lookup.{first_with, with_first, IsFirstWith}
use Rattle.enip_adapter.specs.PeerSlots.{PeerSlotsState, peer_slots_in, IsFed, piece_at, handle_of}
use Rattle.enip_adapter.specs.Replies.{Served, leaving, no_reply, written}
use Rattle.enip_adapter.specs.Turn.{State, Answer, turned, after, answers, session_of, serve_found, session_after, shared_after, sent, at_moment}
use Rattle.enip_adapter.specs.Turn.Output.{NoReply}
use Rattle.enip_adapter.proofs.LookupLemmas.{first-Some, first-None, slice_get-past, slice_get-within}
use Rattle.enip_adapter.proofs.MapLemmas.{map-first_with, map-with_first}
use Rattle.enip_adapter.proofs.ListLemmas.{with_first-same, first_with-number}

abbrev pub finds : ℕ → List PeerSlot → Option ℕ
finds handle places = position (λ p. eqb p.session.handle handle) places

abbrev pub dropped : ℕ × Reaction
dropped = (0, record { reply = replies.NoReply NotServed; close = true })

-- what is found among the slots is found among the sessions and the held bytes
pub session_found : (limit next_handle : ℕ) (shared : Shared) (places : List PeerSlot) (handle : ℕ) (o : Option PeerSlot) → first_with handle_of handle places ≡ o
    → session_of (state_in limit next_handle shared places) handle ≡ option_map session_in o
session_found limit next_handle shared places handle o e =
    map-first_with session_in (λ (s : Session). s.handle) handle places ∙ ap (option_map session_in) e

pub bytes_at_place : (places : List PeerSlot) (handle : ℕ) (p : PeerSlot) → first_with handle_of handle places ≡ Some p
    → bytes_held (map held_in places) handle ≡ p.reader
bytes_at_place places handle p e =
    ap bytes_found (map-first_with held_in (λ (h : Held). h.peer) handle places ∙ ap (option_map held_in) e)

abbrev IsDropped : ℕ → ℕ → Shared → List PeerSlot → List ℕ → Meaning → Type 0
IsDropped limit next_handle shared places bytes m = IsFed limit next_handle shared places m shared places dropped bytes

drops : (limit next_handle : ℕ) (shared : Shared) (places : List PeerSlot) (bytes : List ℕ) → IsDropped limit next_handle shared places bytes (dropped_piece (map held_in places))
drops limit next_handle shared places bytes = record { adapter = refl; taken = refl; answer = refl }

pub none_found : (limit next_handle : ℕ) (shared : Shared) (places : List PeerSlot) (handle : ℕ) (piece bytes : List ℕ) → finds handle places ≡ None
    → IsFed limit next_handle shared places (piece_at limit next_handle shared places handle piece) shared places dropped bytes
none_found limit next_handle shared places handle piece bytes e =
    let there : IsFirstWith handle_of handle places (length places) = first-None handle_of handle places e in
    let none : session_of (state_in limit next_handle shared places) handle ≡ None
    = session_found limit next_handle shared places handle None (there.found ∙ slice_get-past places) in
    subst (λ o. IsDropped limit next_handle shared places bytes (piece_to (map held_in places) handle piece o)) (sym none)
    (drops limit next_handle shared places bytes)

-- the slot that is found
pub found_item : (places : List PeerSlot) (handle i : ℕ) (d : PeerSlot) → finds handle places ≡ Some i
    → first_with handle_of handle places ≡ Some (get_or places i d)
found_item places handle i d e =
    let both : (i < length places) × IsFirstWith handle_of handle places i = first-Some handle_of handle places i e in
    both.1.found ∙ slice_get-within places i d both.0

drops_closed : (limit next_handle : ℕ) (shared : Shared) (places : List PeerSlot) (handle : ℕ) (piece bytes : List ℕ) (b : Bool) → b ≡ true
    → IsDropped limit next_handle shared places bytes
    (cond b (dropped_piece (map held_in places)) (piece_meaning (map held_in places) handle (bytes_held (map held_in places) handle) piece))
drops_closed limit next_handle shared places handle piece bytes true e = drops limit next_handle shared places bytes
drops_closed limit next_handle shared places handle piece bytes false e = cc

pub closed_found : (limit next_handle : ℕ) (shared : Shared) (places : List PeerSlot) (handle i : ℕ) (piece bytes : List ℕ) (d : PeerSlot) → finds handle places ≡ Some i
    → (get_or places i d).session.closed ≡ true
    → IsFed limit next_handle shared places (piece_at limit next_handle shared places handle piece) shared places dropped bytes
closed_found limit next_handle shared places handle i piece bytes d e closed =
    let found : session_of (state_in limit next_handle shared places) handle ≡ Some (get_or places i d).session
    = session_found limit next_handle shared places handle (Some (get_or places i d)) (found_item places handle i d e) in
    subst (λ o. IsDropped limit next_handle shared places bytes (piece_to (map held_in places) handle piece o)) (sym found)
    (drops_closed limit next_handle shared places handle piece bytes (get_or places i d).session.closed closed)

-- a peer that is held and open is served
pub served_turn : (s : State) (peer : ℕ) (serve : Session → Served) (session : Session)
    → session_of s peer ≡ Some session → session.closed ≡ false
    → serve_found s peer serve (session_of s peer)
    ≡ turned (record s {
      shared = shared_after session (serve session);
      peers = with_first (λ p. p.handle) peer (session_after session (serve session)) s.peers;
    }) (sent (serve session).reaction.answer) (serve session).reaction.close
served_turn s peer serve session found alive =
    ap (serve_found s peer serve) found
    ∙ ap (
    λ b. cond b (turned s (NoReply NotServed) true) (turned (record s {
      shared = shared_after session (serve session);
      peers = with_first (λ p. p.handle) peer (session_after session (serve session)) s.peers;
    }) (sent (serve session).reaction.answer) (serve session).reaction.close)
    ) alive

-- what a peer's bytes change and answer
abbrev left_by : ℕ → ℕ → Shared → List PeerSlot → ℕ → PeerSlot → Served → State
left_by limit next_handle shared places handle p served = record {
  places = limit;
  next_handle = next_handle;
  shared = shared_after p.session served;
  peers = with_first (λ s. s.handle) handle (session_after p.session served) (map session_in places);
}

abbrev answer_by : Served → Answer
answer_by served = record { output = sent served.reaction.answer; close = served.reaction.close }

record IsTurned (limit next_handle : ℕ) (shared : Shared) (places : List PeerSlot) (handle : ℕ) (p : PeerSlot) (x : Parsed) : Type 0 where
  state : after (state_in limit next_handle shared places) (events_of_parsed handle x) ≡ left_by limit next_handle shared places handle p (parsed_served shared p.session x)
  answer : last_from (record { output = NoReply NoFrame; close = false }) (answers (state_in limit next_handle shared places) (events_of_parsed handle x))
      ≡ answer_by (parsed_served shared p.session x)

sight_turned : (limit next_handle : ℕ) (shared : Shared) (places : List PeerSlot) (handle : ℕ) (p : PeerSlot) (x : Parsed)
    → first_with handle_of handle places ≡ Some p → p.session.closed ≡ false → IsTurned limit next_handle shared places handle p x
sight_turned limit next_handle shared places handle p Incomplete e alive =
    let same : session_after p.session (leaving shared (no_reply p.session NoFrame)) ≡ p.session
    = ap (λ b. let t : Session = record p.session { closed = b } in t) (sym alive) in
    record {
      state = ap (λ ps. let t : State = record { places = limit; next_handle = next_handle; shared = shared; peers = ps } in t)
          (sym (ap (λ y. with_first (λ (s : Session). s.handle) handle y (map session_in places)) same
          ∙ with_first-same (λ (s : Session). s.handle) handle p.session (map session_in places) (session_found limit next_handle shared places handle (Some p) e)));
      answer = refl;
    }
sight_turned limit next_handle shared places handle p (WholeFrame f) e alive =
    let t : serve_found (state_in limit next_handle shared places) handle (λ session. command_served shared session f) (session_of (state_in limit next_handle shared places) handle)
    ≡ turned (left_by limit next_handle shared places handle p (command_served shared p.session f))
    (sent (command_served shared p.session f).reaction.answer) (command_served shared p.session f).reaction.close
    = served_turn (state_in limit next_handle shared places) handle (λ session. command_served shared session f) p.session
    (session_found limit next_handle shared places handle (Some p) e) alive in
    record { state = ap (λ r. r.state) t; answer = ap (λ r. r.answer) t }
sight_turned limit next_handle shared places handle p (TooLongHeader h) e alive =
    let t : serve_found (state_in limit next_handle shared places) handle (λ session. leaving shared (long_refused session h)) (session_of (state_in limit next_handle shared places) handle)
    ≡ turned (left_by limit next_handle shared places handle p (leaving shared (long_refused p.session h)))
    (sent (long_refused p.session h).answer) (long_refused p.session h).close
    = served_turn (state_in limit next_handle shared places) handle (λ session. leaving shared (long_refused session h)) p.session
    (session_found limit next_handle shared places handle (Some p) e) alive in
    record { state = ap (λ r. r.state) t; answer = ap (λ r. r.answer) t }

abbrev IsFedOpen : ℕ → ℕ → Shared → List PeerSlot → ℕ → List ℕ → Shared → PeerSlot → ℕ × Reaction → List ℕ → Meaning → Type 0
IsFedOpen limit next_handle shared places handle piece left new outcome bytes m =
    IsFed limit next_handle shared places m left (with_first handle_of handle new places) outcome bytes

-- at an open slot, for the bytes that are held there
fed_here : (limit next_handle : ℕ) (shared left : Shared) (places : List PeerSlot) (handle : ℕ) (piece bytes : List ℕ) (outcome : ℕ × Reaction) (p new : PeerSlot)
    → first_with handle_of handle places ≡ Some p → p.session.closed ≡ false
    → new.session ≡ session_after p.session (parsed_served shared p.session (parsed (held_and_taken p.reader piece)))
    → new.reader ≡ cleared (parsed (held_and_taken p.reader piece)) (held_and_taken p.reader piece)
    → left ≡ shared_after p.session (parsed_served shared p.session (parsed (held_and_taken p.reader piece)))
    → outcome.0 ≡ bytes_taken p.reader piece
    → written outcome.1.reply bytes ≡ (parsed_served shared p.session (parsed (held_and_taken p.reader piece))).reaction.answer
    → outcome.1.close ≡ (parsed_served shared p.session (parsed (held_and_taken p.reader piece))).reaction.close
    → IsFedOpen limit next_handle shared places handle piece left new outcome bytes (piece_meaning (map held_in places) handle p.reader piece)
fed_here limit next_handle shared left places handle piece bytes outcome p new e alive session reader same taken answer close =
    let t : IsTurned limit next_handle shared places handle p (parsed (held_and_taken p.reader piece))
    = sight_turned limit next_handle shared places handle p (parsed (held_and_taken p.reader piece)) e alive in
    let peers : map session_in (with_first handle_of handle new places)
    ≡ with_first (λ (s : Session). s.handle) handle (session_after p.session (parsed_served shared p.session (parsed (held_and_taken p.reader piece)))) (map session_in places)
    = map-with_first session_in (λ (s : Session). s.handle) handle new places
    ∙ ap (λ y. with_first (λ (s : Session). s.handle) handle y (map session_in places)) session in
    let peer : new.session.handle ≡ handle = ap (λ (s : Session). s.handle) session ∙ first_with-number handle_of handle p places e in
    let kept : held_in new ≡ record { peer = handle; bytes = cleared (parsed (held_and_taken p.reader piece)) (held_and_taken p.reader piece) }
    = ap (λ n. let h : Held = record { peer = n; bytes = new.reader } in h) peer
    ∙ ap (λ bs. let h : Held = record { peer = handle; bytes = bs } in h) reader in
    let held : map held_in (with_first handle_of handle new places)
    ≡ with_first (λ (h : Held). h.peer) handle (record { peer = handle; bytes = cleared (parsed (held_and_taken p.reader piece)) (held_and_taken p.reader piece) }) (map held_in places)
    = map-with_first held_in (λ (h : Held). h.peer) handle new places
    ∙ ap (λ y. with_first (λ (h : Held). h.peer) handle y (map held_in places)) kept in
    let state : state_in limit next_handle left (with_first handle_of handle new places)
    ≡ after (state_in limit next_handle shared places) (events_of_parsed handle (parsed (held_and_taken p.reader piece)))
    = ap (λ s. let r : State = record { places = limit; next_handle = next_handle; shared = s; peers = map session_in (with_first handle_of handle new places) } in r) same
    ∙ ap (λ ps. let r : State = record { places = limit; next_handle = next_handle; shared = shared_after p.session (parsed_served shared p.session (parsed (held_and_taken p.reader piece))); peers = ps } in r) peers
    ∙ sym t.state in
    record {
      adapter = ap (λ s. let r : AdapterState = record { state = s; held = map held_in (with_first handle_of handle new places) } in r) state
          ∙ ap (λ h. let r : AdapterState = record { state = after (state_in limit next_handle shared places) (events_of_parsed handle (parsed (held_and_taken p.reader piece))); held = h } in r) held;
      taken = taken;
      answer = ap (λ o. let r : Answer = record { output = sent o; close = outcome.1.close } in r) answer
          ∙ ap (λ b. let r : Answer = record { output = sent (parsed_served shared p.session (parsed (held_and_taken p.reader piece))).reaction.answer; close = b } in r) close
          ∙ sym t.answer;
    }

open_meaning : (limit next_handle : ℕ) (shared left : Shared) (places : List PeerSlot) (handle : ℕ) (piece bytes held : List ℕ) (outcome : ℕ × Reaction) (new : PeerSlot) (b : Bool) → b ≡ false
    → IsFedOpen limit next_handle shared places handle piece left new outcome bytes (piece_meaning (map held_in places) handle held piece)
    → bytes_held (map held_in places) handle ≡ held
    → IsFedOpen limit next_handle shared places handle piece left new outcome bytes
    (cond b (dropped_piece (map held_in places)) (piece_meaning (map held_in places) handle (bytes_held (map held_in places) handle) piece))
open_meaning limit next_handle shared left places handle piece bytes held outcome new true e fed same = cc
open_meaning limit next_handle shared left places handle piece bytes held outcome new false e fed same =
    subst (λ h. IsFedOpen limit next_handle shared places handle piece left new outcome bytes (piece_meaning (map held_in places) handle h piece)) (sym same) fed

pub open_found : (limit next_handle : ℕ) (shared left : Shared) (places : List PeerSlot) (handle i : ℕ) (piece bytes : List ℕ) (outcome : ℕ × Reaction) (p new : PeerSlot)
    → finds handle places ≡ Some i → first_with handle_of handle places ≡ Some p → p.session.closed ≡ false
    → new.session ≡ session_after p.session (parsed_served shared p.session (parsed (held_and_taken p.reader piece)))
    → new.reader ≡ cleared (parsed (held_and_taken p.reader piece)) (held_and_taken p.reader piece)
    → left ≡ shared_after p.session (parsed_served shared p.session (parsed (held_and_taken p.reader piece)))
    → outcome.0 ≡ bytes_taken p.reader piece
    → written outcome.1.reply bytes ≡ (parsed_served shared p.session (parsed (held_and_taken p.reader piece))).reaction.answer
    → outcome.1.close ≡ (parsed_served shared p.session (parsed (held_and_taken p.reader piece))).reaction.close
    → IsFed limit next_handle shared places (piece_at limit next_handle shared places handle piece) left (slice_set places i new) outcome bytes
open_found limit next_handle shared left places handle i piece bytes outcome p new at e alive session reader same taken answer close =
    let both : (i < length places) × IsFirstWith handle_of handle places i = first-Some handle_of handle places i at in
    let found : session_of (state_in limit next_handle shared places) handle ≡ Some p.session = session_found limit next_handle shared places handle (Some p) e in
    let here : IsFedOpen limit next_handle shared places handle piece left new outcome bytes (piece_meaning (map held_in places) handle p.reader piece)
    = fed_here limit next_handle shared left places handle piece bytes outcome p new e alive session reader same taken answer close in
    subst (λ kept. IsFed limit next_handle shared places (piece_at limit next_handle shared places handle piece) left kept outcome bytes) (both.1.set new)
    (subst (λ o. IsFedOpen limit next_handle shared places handle piece left new outcome bytes (piece_to (map held_in places) handle piece o)) (sym found)
    (open_meaning limit next_handle shared left places handle piece bytes p.reader outcome new p.session.closed alive here (bytes_at_place places handle p e)))

-- the default of an element that exists does not matter
pub alive_there : (places : List PeerSlot) (handle i : ℕ) (d e : PeerSlot) → finds handle places ≡ Some i
    → (get_or places i d).session.closed ≡ false → (get_or places i e).session.closed ≡ false
alive_there places handle i d e at alive =
    let same : ◌≡◌ {A = Option PeerSlot} (Some (get_or places i d)) (Some (get_or places i e))
    = sym (found_item places handle i d at) ∙ found_item places handle i e at in
    let one : get_or places i d ≡ get_or places i e = cc in
    ap (λ q. q.session.closed) (sym one) ∙ alive

-- What a call of feed does after the time was given.
pub record IsFeed (old : AdapterState) (now peer : ℕ) (piece : List ℕ) (last : AdapterState) (outcome : ℕ × Reaction) (bytes : List ℕ) : Type 0 where
  pub state : last ≡ after_call old (Feeds now peer piece)
  pub taken : outcome.0 ≡ (call_meaning old (Feeds now peer piece)).taken
  pub answer : ◌≡◌ {A = Answer} (record { output = sent (written outcome.1.reply bytes); close = outcome.1.close })
      (call_answer old (Feeds now peer piece))

feeds_now : (limit next_handle : ℕ) (shared left : Shared) (places kept : List PeerSlot) (now peer : ℕ) (piece bytes : List ℕ) (outcome : ℕ × Reaction)
    → IsFed limit next_handle (at_moment shared now) places (piece_at limit next_handle (at_moment shared now) places peer piece) left kept outcome bytes
    → IsFeed (adapter_in limit next_handle shared places) now peer piece (adapter_in limit next_handle left kept) outcome bytes
feeds_now limit next_handle shared left places kept now peer piece bytes outcome fed =
    record { state = fed.adapter; taken = fed.taken; answer = fed.answer }

-- a piece at the list of slots is one at the slots as a value
pub fed_at : (old : PeerSlotsState) (limit next_handle : ℕ) (shared left : Shared) (items seen kept stored : List PeerSlot) (handle : ℕ) (piece bytes : List ℕ) (outcome : ℕ × Reaction)
    → peer_slots_in limit items ≡ old → seen ≡ items → stored ≡ kept
    → IsFed limit next_handle shared seen (piece_at limit next_handle shared seen handle piece) left kept outcome bytes
    → IsFed old.limit next_handle shared old.taken (piece_at old.limit next_handle shared old.taken handle piece) left stored outcome bytes
fed_at old limit next_handle shared left items seen kept stored handle piece bytes outcome is same stores fed =
    subst (λ l. IsFed old.limit next_handle shared old.taken (piece_at old.limit next_handle shared old.taken handle piece) left l outcome bytes) (sym stores)
    (subst (λ p. IsFed p.limit next_handle shared p.taken (piece_at p.limit next_handle shared p.taken handle piece) left kept outcome bytes) is
    (subst (λ s. IsFed limit next_handle shared s (piece_at limit next_handle shared s handle piece) left kept outcome bytes) same fed))

pub feeds : (old new : PeerSlotsState) (next_handle : ℕ) (shared first left : Shared) (now handle peer : ℕ) (piece bytes : List ℕ) (outcome : ℕ × Reaction) (a : AdapterState)
    → adapter_in old.limit next_handle shared old.taken ≡ a → first ≡ at_moment shared now → handle ≡ peer → new.limit ≡ old.limit
    → IsFed old.limit next_handle first old.taken (piece_at old.limit next_handle first old.taken handle piece) left new.taken outcome bytes
    → IsFeed a now peer piece (adapter_in new.limit next_handle left new.taken) outcome bytes
feeds old new next_handle shared first left now handle peer piece bytes outcome a is moment who limit fed =
    subst (λ l. IsFeed a now peer piece (adapter_in l next_handle left new.taken) outcome bytes) (sym limit)
    (subst (λ o. IsFeed o now peer piece (adapter_in old.limit next_handle left new.taken) outcome bytes) is
    (feeds_now old.limit next_handle shared left old.taken new.taken now peer piece bytes outcome
    (subst (λ h. IsFed old.limit next_handle (at_moment shared now) old.taken (piece_at old.limit next_handle (at_moment shared now) old.taken h piece) left new.taken outcome bytes) who
    (subst (λ s. IsFed old.limit next_handle s old.taken (piece_at old.limit next_handle s old.taken handle piece) left new.taken outcome bytes) moment fed))))
