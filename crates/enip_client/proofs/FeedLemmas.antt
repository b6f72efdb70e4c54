-- A piece at a reader, and what the client holds afterwards.
use Rattle.std.proofs.Common.{◌≡◌, ◌≤◌, ℕ, ◌==◌, Bool, false, List, [], ◌∷◌, ◌++◌, length, take, ap, ◌∙◌, sym, subst}
use Rattle.std.proofs.Common.{refl, arith, Some, None}
use Rattle.std.proofs.lemmas.Bool.Decides.{nat_tests}
use Rattle.enip_wire.specs.Frames.{Frame, frame, IsTooLong}
use Rattle.enip_wire.specs.Stream.{Parsed, Shows, frame_of, parsed_frame, parsed, held_and_taken, bytes_taken, held_after_next, held_after_parse}
use Rattle.enip_wire.specs.Stream.{cleared}
use Rattle.enip_wire.specs.Stream.Parsed.{Incomplete, WholeFrame, TooLongHeader}
use Rattle.enip_wire.specs.declared.reader.FrameView.{FrameView}
use Rattle.enip_wire.specs.declared.reader.Held.{Held}
use Rattle.enip_wire.specs.declared.reader.Held.TheVariants.{Frame as Whole}
use Rattle.enip_wire.specs.Headers.{header_at}
use Rattle.enip_wire.specs.declared.header.Header.{Header}
use Rattle.enip_wire.proofs.ParseFrameLemmas.{parsed-long}
use Rattle.enip_client.specs.declared.fault.ClientFault.{ClientFault}
use Rattle.enip_client.specs.declared.client.PieceOutcome.{PieceOutcome}
use Rattle.enip_client.specs.declared.hearing.Found.{Found}
use Rattle.enip_client.specs.declared.state.State.{State}
use Rattle.enip_client.specs.Client.{ClientState, fed, client_in, IsPieceOutcome, IsWithin, frame_bytes, heard_event_at, IsListening}
use Rattle.enip_client.specs.Hears.{hears, hears_parsed}

left_some : (x : ℕ) (xs bytes : List ℕ) (s : Parsed) → held_after_parse (x ∷ xs) bytes s ≡ bytes
left_some x xs bytes Incomplete = refl
left_some x xs bytes (WholeFrame f) = refl
left_some x xs bytes (TooLongHeader h) = refl

-- the bytes of a frame are in the piece if none was held before it, and otherwise in the reader
framed : (held piece : List ℕ)
    → frame_bytes (length held == 0) (bytes_taken held piece) piece (held_after_next held piece) ≡ held_and_taken held piece
framed [] piece = refl
framed (x ∷ xs) piece =
    let held : (length (x ∷ xs) == 0) ≡ false = grind (arith, nat_tests) in
    ap (λ b. frame_bytes b (bytes_taken (x ∷ xs) piece) piece (held_after_next (x ∷ xs) piece)) held
    ∙ left_some x xs (held_and_taken (x ∷ xs) piece) (parsed (held_and_taken (x ∷ xs) piece))

pub frame_news : (s : State) (held piece left : List ℕ) (taken : ℕ) (in_place : Bool) (view : FrameView)
    (shown : Held) (found : Found)
    → shown ≡ Whole view → taken ≡ bytes_taken held piece → Shows (held ++ take taken piece) shown
    → parsed_frame shown ≡ parsed (held ++ take taken piece) → left ≡ held_after_next held piece → in_place ≡ (length held == 0)
    → heard_event_at (frame (frame_of view)) found ≡ (hears s (frame_of view)).heard_event
    → heard_event_at (frame_bytes in_place taken piece left) found ≡ (hears_parsed s (parsed (held_and_taken held piece))).heard_event
frame_news s held piece left taken in_place view shown found is number whole kind kept place told =
    let joined : held ++ take taken piece ≡ held_and_taken held piece = ap (λ n. held ++ take n piece) number in
    let spelled : held ++ take taken piece ≡ frame (frame_of view)
    = (subst (Shows (held ++ take taken piece)) is whole).1 in
    let seen : parsed (held_and_taken held piece) ≡ WholeFrame (frame_of view)
    = ap parsed (sym joined) ∙ sym kind ∙ ap parsed_frame is in
    let bytes : frame_bytes in_place taken piece left ≡ held_and_taken held piece
    = ap (λ b. frame_bytes b taken piece left) place ∙ ap (λ n. frame_bytes (length held == 0) n piece left) number
    ∙ ap (frame_bytes (length held == 0) (bytes_taken held piece) piece) kept ∙ framed held piece in
    ap (λ b. heard_event_at b found) (bytes ∙ sym joined ∙ spelled) ∙ told ∙ ap (λ x. (hears_parsed s x).heard_event) (sym seen)

-- the three cases differ
not_nothing : {h : Header} → Incomplete ≡ TooLongHeader h → ⊥
not_nothing is = grind arith

not_frame : {f : Frame} {h : Header} → WholeFrame f ≡ TooLongHeader h → ⊥
not_frame is = grind arith

not_none : {f : ClientFault} → Some f ≡ None → ⊥
not_none is = grind arith

-- what is held once a frame was heard, in place or gathered
cleared_left : (held bytes : List ℕ) (s : Parsed) → s ≡ parsed bytes
    → cleared (parsed (held_after_parse held bytes s)) (held_after_parse held bytes s) ≡ cleared s bytes
cleared_left held bytes Incomplete is = ap (λ x. cleared x bytes) (sym is)
cleared_left held bytes (TooLongHeader h) is = ap (λ x. cleared x bytes) (sym is)
cleared_left [] bytes (WholeFrame f) is = refl
cleared_left (x ∷ xs) bytes (WholeFrame f) is = ap (λ x. cleared x bytes) (sym is)

pub cleared_left_of : (held piece : List ℕ)
    → cleared (parsed (held_after_next held piece)) (held_after_next held piece)
    ≡ cleared (parsed (held_and_taken held piece)) (held_and_taken held piece)
cleared_left_of held piece = cleared_left held (held_and_taken held piece) (parsed (held_and_taken held piece)) refl

-- a header over the limit is parsed as that
long_seen : (bytes : List ℕ) → IsTooLong bytes → parsed bytes ≡ TooLongHeader (header_at bytes)
long_seen bytes long = parsed-long bytes long.header long.over

-- a header over the limit is a lasting fault
listening : (s : State) (held bytes : List ℕ) (seen : Parsed) → seen ≡ parsed bytes
    → IsListening (hears_parsed s seen).state (held_after_parse held bytes seen)
listening s held bytes Incomplete is = λ none long. absurd (not_nothing (is ∙ long_seen bytes long))
listening s held bytes (TooLongHeader h) is = λ none long. absurd (not_none none)
listening s [] bytes (WholeFrame f) is = λ none long. absurd (omega (arith, long.header))
listening s (x ∷ xs) bytes (WholeFrame f) is = λ none long. absurd (not_frame (is ∙ long_seen bytes long))

pub listening_after : (s : State) (held piece : List ℕ)
    → IsListening (hears_parsed s (parsed (held_and_taken held piece))).state (held_after_next held piece)
listening_after s held piece = listening s held (held_and_taken held piece) (parsed (held_and_taken held piece)) refl

abbrev client_of : State → List ℕ → ClientState
client_of s held = record { state = s; held = held }

-- a piece at a client of these bytes, with no lasting fault, is the one at its reader
told_of : (s left_state : State) (held piece left : List ℕ) (told : PieceOutcome) → s.fault ≡ None
    → left_state ≡ (hears_parsed s (parsed (held_and_taken held piece))).state → left ≡ held_after_next held piece
    → told.taken ≡ bytes_taken held piece
    → told.taken ≤ length piece
    → heard_event_at (frame_bytes told.in_place told.taken piece left) told.found
    ≡ (hears_parsed s (parsed (held_and_taken held piece))).heard_event
    → IsWithin (length (frame_bytes told.in_place told.taken piece left)) told.found
    → IsPieceOutcome left_state left told piece (fed (client_of s held) piece)
told_of s left_state held piece left told well state kept taken part heard_event within = rw well (record {
  client = ap (λ x. client_in x left) state
      ∙ ap (λ b. client_in (hears_parsed s (parsed (held_and_taken held piece))).state b) kept
      ∙ ap (client_of (hears_parsed s (parsed (held_and_taken held piece))).state) (cleared_left_of held piece);
  taken = taken;
  heard_event = heard_event;
  within = within;
  part = part;
  listening = rw (state, kept) (listening_after s held piece);
})

pub told_by : (s left_state : State) (bytes held piece left : List ℕ) (told : PieceOutcome) → s.fault ≡ None
    → held ≡ cleared (parsed bytes) bytes
    → left_state ≡ (hears_parsed s (parsed (held_and_taken held piece))).state → left ≡ held_after_next held piece
    → told.taken ≡ bytes_taken held piece
    → told.taken ≤ length piece
    → heard_event_at (frame_bytes told.in_place told.taken piece left) told.found
    ≡ (hears_parsed s (parsed (held_and_taken held piece))).heard_event
    → IsWithin (length (frame_bytes told.in_place told.taken piece left)) told.found
    → IsPieceOutcome left_state left told piece (fed (client_in s bytes) piece)
told_by s left_state bytes held piece left told well is state kept taken part heard_event within =
    subst (λ h. IsPieceOutcome left_state left told piece (fed (client_of s h) piece)) is
    (told_of s left_state held piece left told well state kept taken part heard_event within)
