-- The bytes of one frame at a client, in pieces: it hears nothing until the last of them, and then the frame.
use Rattle.std.proofs.Common.{◌≡◌, ℕ, ◌+◌, ◌≤◌, inl, inr, None, List, [], ◌∷◌, ◌++◌, length, take, drop, refl, sym, ap}
use Rattle.std.proofs.Common.{◌∙◌, arith, append-nil, append_assoc, length-append}
use Rattle.std.proofs.lemmas.Bool.{cases_lt}
use Rattle.std.proofs.lemmas.List.{take_all, take-append-drop}
use Rattle.cip_bytes.specs.Numbers.{number_at}
use Rattle.enip_wire.specs.Frames.{Frame, frame, IsFrame, end_after}
use Rattle.enip_wire.specs.Stream.{bytes_taken, held_and_taken, parsed, cleared, Parsed}
use Rattle.enip_wire.specs.Stream.Parsed.{Incomplete, WholeFrame}
use Rattle.enip_wire.proofs.FrameLemmas.{number_at-frame, number_at-append, length-frame, end_after-within}
use Rattle.enip_wire.proofs.PieceLemmas.{parsed-written}
use Rattle.enip_wire.proofs.RunningLemmas.{bytes_taken-short, bytes_taken-long, parsed-running}
use Rattle.enip_client.specs.Client.{ClientState, Fed, fed, fed_unless, fed_parsed}
use Rattle.enip_client.specs.Hears.{hears, hears_parsed}
use Rattle.enip_client.specs.Hears.HeardEvent.{Nothing}
use Rattle.enip_reconnect.proofs.Flights.{joined, left-over}

-- ---- the bytes

-- the length field of a frame, once it has arrived
length_field : (bytes rest : List ℕ) (f : Frame) → IsFrame f → bytes ++ rest ≡ frame f → 4 ≤ length bytes →
    number_at 2 2 bytes ≡ f.header.length
length_field bytes rest f ok parts long =
    sym (number_at-append bytes rest long)
    ∙ ap (λ text. number_at 2 2 text) (parts ∙ sym (append-nil (frame f))) ∙ number_at-frame f [] ok

-- how many bytes of a frame have arrived
arrived : (bytes rest : List ℕ) (f : Frame) → IsFrame f → bytes ++ rest ≡ frame f →
    length bytes + length rest ≡ 24 + f.header.length
arrived bytes rest f ok parts =
    sym (length-append bytes rest) ∙ ap length parts ∙ length-frame f ok

-- where a frame ends, once its header has arrived
frame_end : (bytes rest : List ℕ) (f : Frame) → IsFrame f → bytes ++ rest ≡ frame f → 24 ≤ length bytes →
    end_after (number_at 2 2 bytes) ≡ 24 + f.header.length
frame_end bytes rest f ok parts long =
    let within : f.header.length ≤ 65511 = ok.within in
    ap end_after (length_field bytes rest f ok parts (omega (arith, long))) ∙ end_after-within f.header.length within

module _ (held piece rest : List ℕ) (f : Frame) (ok : IsFrame f) (parts : (held ++ piece) ++ rest ≡ frame f) where
  sizes : length held + length piece + length rest ≡ 24 + f.header.length
  sizes = ap (λ n. n + length rest) (sym (length-append held piece)) ∙ arrived (held ++ piece) rest f ok parts

  -- all of a piece is taken that does not go past the frame
  pub all-taken : bytes_taken held piece ≡ length piece
  all-taken =
      elim (cases_lt (length held + length piece) 24) [
        | inl short ↦ bytes_taken-short held piece short
        | inr long ↦
            let end : end_after (number_at 2 2 (held ++ piece)) ≡ 24 + f.header.length
            = frame_end (held ++ piece) rest f ok parts (omega (arith, length-append held piece)) in
            omega (arith, bytes_taken-long held piece long, sizes)
      ]

  pub all-joined : held_and_taken held piece ≡ held ++ piece
  all-joined =
      ap (λ n. held ++ take n piece) all-taken
      ∙ ap (λ taken. held ++ taken) (take_all (length piece) piece (omega arith))

  -- no frame is whole before its last byte
  pub not-yet : 1 ≤ length rest → parsed (held ++ piece) ≡ Incomplete
  not-yet more = parsed-running (held ++ piece) (record {
    before = λ long.
        let end : end_after (number_at 2 2 (held ++ piece)) ≡ 24 + f.header.length
        = frame_end (held ++ piece) rest f ok parts long in
        omega (arith, sizes, length-append held piece);
  })

-- ---- the client

-- the client takes all of a piece, and hears nothing in it
abbrev pub keeps : ClientState → List ℕ → Fed
keeps c piece = record {
  client = record { state = c.state; held = c.held ++ piece };
  taken = length piece;
  heard_event = Nothing;
}

-- the client takes all of a piece, and hears this frame
abbrev pub hears_whole : ClientState → List ℕ → Frame → Fed
hears_whole c piece f = record {
  client = record { state = (hears c.state f).state; held = [] };
  taken = length piece;
  heard_event = (hears c.state f).heard_event;
}

-- a piece by all bytes of the next frame that have arrived
abbrev shown : ClientState → List ℕ → ℕ → Parsed → Fed
shown c bytes taken x = fed_parsed c.state (cleared x bytes) taken (hears_parsed c.state x)

fed-shown : (c : ClientState) (piece bytes : List ℕ) (taken : ℕ) (x : Parsed) → c.state.fault ≡ None →
    held_and_taken c.held piece ≡ bytes → bytes_taken c.held piece ≡ taken → parsed bytes ≡ x →
    fed c piece ≡ shown c bytes taken x
fed-shown c piece bytes taken x fine joined number seen =
    ap (fed_unless c piece) fine
    ∙ ap (λ text. shown c text (bytes_taken c.held piece) (parsed text)) joined
    ∙ ap (λ n. shown c bytes n (parsed bytes)) number ∙ ap (shown c bytes taken) seen

module _ (c : ClientState) (piece : List ℕ) (f : Frame) (fine : c.state.fault ≡ None) (ok : IsFrame f) where
  -- a piece that does not complete the frame
  pub fed-front : (rest : List ℕ) → c.held ++ (piece ++ rest) ≡ frame f → 1 ≤ length rest → fed c piece ≡ keeps c piece
  fed-front rest parts more =
      let joined : (c.held ++ piece) ++ rest ≡ frame f = append_assoc c.held piece rest ∙ parts in
      fed-shown c piece (c.held ++ piece) (length piece) Incomplete fine (all-joined c.held piece rest f ok joined)
      (all-taken c.held piece rest f ok joined) (not-yet c.held piece rest f ok joined more)

  -- a piece that completes it
  pub fed-whole : c.held ++ piece ≡ frame f → fed c piece ≡ hears_whole c piece f
  fed-whole parts =
      let ended : (c.held ++ piece) ++ [] ≡ frame f = append-nil (c.held ++ piece) ∙ parts in
      fed-shown c piece (c.held ++ piece) (length piece) (WholeFrame f) fine (all-joined c.held piece [] f ok ended)
      (all-taken c.held piece [] f ok ended) (ap parsed parts ∙ parsed-written f ok)

-- no bytes at a client that holds none
pub fed-nothing : (c : ClientState) → c.state.fault ≡ None → c.held ≡ [] → fed c [] ≡ keeps c []
fed-nothing c fine blank =
    fed-shown c [] [] 0 Incomplete fine (ap (λ held. held_and_taken held []) blank)
    (ap (λ held. bytes_taken held []) blank) refl
    ∙ ap (λ held. shown c (held ++ []) 0 Incomplete) (sym blank)

-- ---- bytes in flight

-- The first so many of the bytes in flight arrive at a client, which are the rest of this frame. All that arrive are
-- taken. Either some are still in flight, and the client hears nothing, or the client hears the frame.
pub data Delivery (c : ClientState) (text : List ℕ) (count : ℕ) (f : Frame) : Type 0 where
  Front : (fed_is : fed c (take count text) ≡ keeps c (take count text))
      (left : drop (length (take count text)) text ≡ drop count text)
      (parts : (c.held ++ take count text) ++ drop count text ≡ frame f) → Delivery c text count f
  Whole : (fed_is : fed c (take count text) ≡ hears_whole c (take count text) f)
      (left : drop (length (take count text)) text ≡ []) → Delivery c text count f

pub delivered : (c : ClientState) (text : List ℕ) (count : ℕ) (f : Frame) → c.state.fault ≡ None → IsFrame f →
    c.held ++ text ≡ frame f → Delivery c text count f
delivered c text count f fine ok parts = by_rest (drop count text) refl
  where
    parted : c.held ++ (take count text ++ drop count text) ≡ frame f
    parted = ap (λ bytes. c.held ++ bytes) (take-append-drop count text) ∙ parts

    whole : (c.held ++ take count text) ++ drop count text ≡ frame f
    whole = joined c.held count text ∙ parts

    by_rest : (rest : List ℕ) → drop count text ≡ rest → Delivery c text count f
    by_rest [] none =
        Whole (fed-whole c (take count text) f fine ok
        (sym (append-nil (c.held ++ take count text))
        ∙ ap (λ rest. (c.held ++ take count text) ++ rest) (sym none) ∙ whole))
        (left-over count text ∙ none)
    by_rest (byte ∷ rest) some =
        Front (fed-front c (take count text) f fine ok (drop count text) parted (omega (arith, ap length some)))
        (left-over count text) whole
