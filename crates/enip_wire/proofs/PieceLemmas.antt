-- A frame that was written is read again, every list of pieces is read, and every stream has a cut.
use Rattle.std.proofs.Common.{lit<, ◌≡◌, ℕ, zero, suc, ◌+◌, ◌-◌, ◌<◌, ◌≤◌, inl, inr, ◌⊎◌, min, List, [], ◌∷◌, ◌++◌, length, take, drop, refl, sym, ap, subst, ◌∙◌, arith, append-nil, length-append, length-drop}
use Rattle.std.proofs.lemmas.Bool.{cases_lt}
use Rattle.std.proofs.lemmas.Bool.Decides.{nat_tests}
use Rattle.std.proofs.lemmas.List.{take_all, drop_at}
use Rattle.std.specs.List.{AllByRecursion, concat}
use Rattle.cip_bytes.specs.Numbers.{number_at, AreBytes}
use Rattle.cip_bytes.proofs.Bytes.{AreBytes-drop, AreBytes-append}
use Rattle.enip_wire.specs.Headers.{header_spelling, header_at}
use Rattle.enip_wire.specs.Frames.{Frame, frame, IsFrame, IsComplete, end_after}
use Rattle.enip_wire.specs.Stream.{Cut, IsAtMostOneFrame, Takes, bytes_taken, parsed}
use Rattle.enip_wire.specs.Stream.Parsed.{WholeFrame}
use Rattle.enip_wire.specs.Pieces.{Reads}
use Rattle.enip_wire.specs.Pieces.Reads.{Ended, Waited, Showed, Stayed}
use Rattle.enip_wire.proofs.HeaderLemmas.{header_at-header_spelling, length-header_spelling}
use Rattle.enip_wire.proofs.FrameLemmas.{number_at-frame, length-frame, end_after-within, not_before, stops_at}
use Rattle.enip_wire.proofs.ParseFrameLemmas.{same_frame, parsed-frame}
use Rattle.enip_wire.proofs.TakeLemmas.{stops-header, front, Takes-short, Takes-count, IsAtMostOneFrame-end-append, IsAtMostOneFrame-after}
use Rattle.enip_wire.proofs.StreamLemmas.{any_pieces_lem, not_empty}

-- what a reader that holds nothing takes of bytes that begin with a whole header
bytes_taken-nothing : (text : List ℕ) → 24 ≤ length text
    → bytes_taken [] text ≡ min (end_after (number_at 2 2 text)) (length text)
bytes_taken-nothing text long = grind (arith, nat_tests)

pub bytes_taken-frame : (f : Frame) (more : List ℕ) → IsFrame f → bytes_taken [] (frame f ++ more) ≡ length (frame f)
bytes_taken-frame f more ok =
    let size : length (frame f) ≡ 24 + f.header.length = length-frame f ok in
    let whole : length (frame f ++ more) ≡ length (frame f) + length more = length-append (frame f) more in
    let end : end_after (number_at 2 2 (frame f ++ more)) ≡ 24 + f.header.length
    = ap end_after (number_at-frame f more ok) ∙ end_after-within f.header.length ok.within in
    bytes_taken-nothing (frame f ++ more) (omega arith)
    ∙ ap (λ e. min e (length (frame f ++ more))) end ∙ omega arith

pub parsed-written : (f : Frame) → IsFrame f → parsed (frame f) ≡ WholeFrame f
parsed-written f ok =
    let size : length (frame f) ≡ 24 + f.header.length = length-frame f ok in
    let says : number_at 2 2 (frame f) ≡ f.header.length
    = ap (λ h. h.length) (header_at-header_spelling f.header f.body ok.fields) in
    let within : f.header.length ≤ 65511 = ok.within in
    let same : header_at (frame f) ≡ f.header = header_at-header_spelling f.header f.body ok.fields in
    let rest : drop 24 (frame f) ≡ f.body
    = drop_at (header_spelling f.header) f.body 24 (length-header_spelling f.header ok.fields.context) in
    parsed-frame (frame f) (omega arith) (omega arith) (omega arith) ∙ ap WholeFrame (same_frame same rest)

-- the whole piece is taken, and more bytes are needed
record Awaits (held piece : List ℕ) : Type 0 where
  takes : Takes held piece (length piece)
  waits : IsComplete (held ++ piece) → ⊥

-- this many bytes of the piece complete a frame or a too long header
record Completes (held piece : List ℕ) : Type 0 where
  number : ℕ
  takes : Takes held piece number
  stops : IsComplete (held ++ take number piece)

-- a piece does one or the other
after_header : (held piece : List ℕ) (end : ℕ) → end ≡ end_after (number_at 2 2 (held ++ piece)) → AreBytes held
    → AreBytes piece → IsAtMostOneFrame held → 24 ≤ length held + length piece → Awaits held piece ⊎ Completes held piece
after_header held piece end is f g fresh header =
    let whole : length (held ++ piece) ≡ length held + length piece = length-append held piece in
    let begun : length held ≤ end_after (number_at 2 2 (held ++ piece)) = IsAtMostOneFrame-end-append held piece f fresh in
    elim (cases_lt (length (held ++ piece)) end) [
      | inl before ↦ inl (
          record {
            takes = Takes-count held piece (length piece) f g fresh header (omega arith);
            waits = λ stops.
                not_before (held ++ piece) (length (held ++ piece)) (omega arith) (omega arith)
                (subst IsComplete (sym (take_all (length (held ++ piece)) (held ++ piece) (omega arith))) stops);
          }
          )
      | inr reached ↦ inr (
          record {
            number = end - length held;
            takes = Takes-count held piece (end - length held) f g fresh header (omega arith);
            stops = subst IsComplete (sym (front held piece (end - length held)))
                (stops_at (held ++ piece) (length held + (end - length held)) (AreBytes-append held piece f g)
                (omega arith) (omega arith) (omega arith));
          }
          )
    ]

after_piece : (held piece : List ℕ) → AreBytes held → AreBytes piece → IsAtMostOneFrame held
    → Awaits held piece ⊎ Completes held piece
after_piece held piece f g fresh =
    elim (cases_lt (length held + length piece) 24) [
      | inl short ↦ inl (
          record {
            takes = Takes-short held piece short;
            waits = λ stops.
                let header : 24 ≤ length (held ++ piece) = stops-header (held ++ piece) stops in
                omega (arith, length-append held piece);
          }
          )
      | inr header ↦ after_header held piece _ refl f g fresh header
    ]

-- these pieces have a reading, for a reader that holds this
record HasReading (held : List ℕ) (pieces : List (List ℕ)) : Type 0 where
  frames : List Frame
  rest : List ℕ
  reads : Reads held pieces frames rest

-- what a reader that can continue holds
record IsRunning (held : List ℕ) : Type 0 where
  bytes : AreBytes held
  fresh : IsAtMostOneFrame held
  running : IsComplete held → ⊥

nothing_held : IsRunning []
nothing_held =
    record { bytes = λ i. lit< tt; fresh = record { running = λ k h. absurd (omega arith) }; running = not_empty }

-- at least one byte is taken to complete a frame or a too long header
some_taken : (n : ℕ) (held piece : List ℕ) → (IsComplete held → ⊥) → IsComplete (held ++ take n piece) → 0 < n
some_taken zero held piece running stops = absurd (running (subst IsComplete (append-nil held) stops))
some_taken (suc n) held piece running stops = omega arith

-- a piece that completes one, if each shorter piece has a reading
completed : (held piece : List ℕ) (pieces : List (List ℕ)) (n : ℕ) → IsRunning held → AreBytes piece
    → Takes held piece n → IsComplete (held ++ take n piece)
    → ((rest : List ℕ) → length rest < length piece → AreBytes rest → HasReading [] (rest ∷ pieces))
    → HasReading held (piece ∷ pieces)
completed held piece pieces n going fits takes (inl whole) shorter =
    let some : 0 < n = some_taken n held piece going.running (inl whole) in
    let within : n ≤ length piece = takes.within in
    let less : length (drop n piece) < length piece = omega (arith, length-drop n piece) in
    let later : HasReading [] (drop n piece ∷ pieces) = shorter (drop n piece) less (AreBytes-drop n piece fits) in
    record {
      frames = whole.of ∷ later.frames;
      rest = later.rest;
      reads = Showed takes whole.is_frame whole.spelled later.reads;
    }
completed held piece pieces n going fits takes (inr over) shorter =
    record { frames = []; rest = held ++ piece ++ concat pieces; reads = Stayed takes over }

-- a piece, if each shorter piece and the pieces after it have a reading
with_piece : (held piece : List ℕ) (pieces : List (List ℕ)) → IsRunning held → AreBytes piece
    → ((rest : List ℕ) → length rest < length piece → AreBytes rest → HasReading [] (rest ∷ pieces))
    → ((held : List ℕ) → IsRunning held → HasReading held pieces) → HasReading held (piece ∷ pieces)
with_piece held piece pieces going fits shorter after =
    elim (after_piece held piece going.bytes fits going.fresh) [
      | inl awaits ↦
          let whole : take (length piece) piece ≡ piece = take_all (length piece) piece (omega arith) in
          let fresh : IsAtMostOneFrame (held ++ piece)
          = subst (λ p. IsAtMostOneFrame (held ++ p)) whole (IsAtMostOneFrame-after held piece (length piece) going.fresh awaits.takes) in
          let later : HasReading (held ++ piece) pieces
          = after (held ++ piece)
          (record { bytes = AreBytes-append held piece going.bytes fits; fresh = fresh; running = awaits.waits }) in
          record { frames = later.frames; rest = later.rest; reads = Waited awaits.takes awaits.waits later.reads }
      | inr done ↦ completed held piece pieces done.number going fits done.takes done.stops shorter
    ]

-- a piece of at most this many bytes
with_at_most : (most : ℕ) (held piece : List ℕ) (pieces : List (List ℕ)) → length piece ≤ most → IsRunning held
    → AreBytes piece → ((held : List ℕ) → IsRunning held → HasReading held pieces) → HasReading held (piece ∷ pieces)
with_at_most zero held piece pieces bound going fits after =
    with_piece held piece pieces going fits (λ rest less bytes. absurd (omega arith)) after
with_at_most (suc most) held piece pieces bound going fits after =
    with_piece held piece pieces going fits
    (λ rest less bytes. with_at_most most [] rest pieces (omega arith) nothing_held bytes after) after

-- every list of pieces of bytes has a reading
reading : (pieces : List (List ℕ)) → AllByRecursion AreBytes pieces → (held : List ℕ) → IsRunning held
    → HasReading held pieces
reading [] each held going = record { frames = []; rest = held; reads = Ended }
reading (piece ∷ pieces) each held going =
    with_at_most (length piece) held piece pieces (omega arith) going each.0 (reading pieces each.1)

pub some_reading_lem : (pieces : List (List ℕ)) → AllByRecursion AreBytes pieces
    → (frames : List Frame) × ((rest : List ℕ) × Reads [] pieces frames rest)
some_reading_lem pieces each =
    let found : HasReading [] pieces = reading pieces each [] nothing_held in (found.frames, (found.rest, found.reads))

-- the reading of a stream in one piece gives its cut
pub some_cut_lem : (stream : List ℕ) → AreBytes stream
    → (frames : List Frame) × ((rest : List ℕ) × Cut stream frames rest)
some_cut_lem stream fits =
    let found : HasReading [] (stream ∷ []) = reading (stream ∷ []) (fits, tt) [] nothing_held in
    let cut : Cut (stream ++ []) found.frames found.rest
    = any_pieces_lem found.reads nothing_held.fresh nothing_held.running in
    (found.frames, (found.rest, subst (λ s. Cut s found.frames found.rest) (append-nil stream) cut))
