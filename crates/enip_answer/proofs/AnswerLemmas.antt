-- A piece that is fed to a peer, and what is printed of it.
use Rattle.std.proofs.Common.{◌≡◌, ℕ, ◌<◌, Bool, true, false, List, [], ◌∷◌, ◌++◌, length, drop, Option, Result, Ok, Err, OnOk, IfErr, IfOk, refl, sym, ap, subst, ◌∙◌, append_assoc, append-nil, arith}
use Rattle.std.proofs.KnownBytes.{Appends-nil, Appends-trans}
use Rattle.std.specs.Io.KnownBytes.{Appends}
use Rattle.enip_adapter.specs.Calls.{AdapterState, call_meaning, call_answer, after_call}
use Rattle.enip_adapter.specs.Calls.Call.{Feeds}
use Rattle.enip_answer.specs.Answering.{after_piece, piece_answer, piece_taken, IsFed, IsFedTo, IsRefusedPiece, Desk, desk_of, new_desk, with_peer, entry_after, IsAnswered, IsAnsweredBy}
use Rattle.enip_answer.specs.Answering.{output_line, closed_line}
use Rattle.enip_lines.specs.InputLines.{lines_of, AreRun, AreAllRun, IsLineRefused, StopsAtLine, IsTakenToEnd}
use Rattle.enip_answer.specs.Lines.{Says, IsRefusedLine}
use Rattle.enip_answer.specs.declared.lines.Line.{Line as InputLine}
use Rattle.enip_answer.specs.declared.lines.Line.TheVariants.{Nothing, Piece, End, Now}
use Rattle.enip_answer.proofs.LineLemmas.{piece_refused}
use Rattle.enip_answer.specs.declared.answering.Answerer.{Answerer}
use Rattle.enip_faults.specs.declared.fault.ProgramFault.{ProgramFault}
use Rattle.enip_faults.specs.declared.fault.ProgramFault.TheVariants.{Line, Device, Memory}
use Rattle.enip_lines.proofs.InputLemmas.{run_seen}
use Rattle.enip_answer.specs.Answering.IsFed.{Used_up, Closes, Goes_on}
use Rattle.enip_answer.specs.declared.peer_number.PeerNumber.{PeerNumber}

-- A front of a piece was fed, and this was printed: what feeding the rest does then, feeding the whole piece does.
pub record Feeding (number : PeerNumber) (now peer : ℕ) (old : AdapterState) (piece : List ℕ) (before : Option (List ℕ))
    (mid : AdapterState) (rest : List ℕ) (after : Option (List ℕ)) : Type 0 where
  pub printed : List ℕ
  pub written : Appends before after printed
  pub goes_on : (new : AdapterState) (more : List ℕ) (closed : Bool) → IsFed number now peer mid rest new more closed
      → IsFed number now peer old piece new (printed ++ more) closed

pub none_fed : (number : PeerNumber) (now peer : ℕ) (adapter : AdapterState) (piece : List ℕ) (out : Option (List ℕ))
    → Feeding number now peer adapter piece out adapter piece out
none_fed number now peer adapter piece out = record {
  printed = [];
  written = Appends-nil out;
  goes_on = λ new more closed fed. fed;
}

-- One more feed, which does not close.
pub more_fed : (number : PeerNumber) (now peer : ℕ) (old mid new : AdapterState) (piece rest behind : List ℕ) (before between after : Option (List ℕ))
    (taken : ℕ) → Feeding number now peer old piece before mid rest between → 0 < length rest → (piece_answer now peer mid rest).close ≡ false
    → new ≡ after_piece now peer mid rest → taken ≡ piece_taken now peer mid rest → behind ≡ drop taken rest
    → Appends between after (output_line number (piece_answer now peer mid rest).output)
    → Feeding number now peer old piece before new behind after
more_fed number now peer old mid new piece rest behind before between after taken f some open_still new_is taken_is behind_is written =
    rw (behind_is, taken_is, new_is) (record {
      printed = f.printed ++ output_line number (piece_answer now peer mid rest).output;
      written = Appends-trans before between after f.printed (output_line number (piece_answer now peer mid rest).output) f.written written;
      goes_on = λ last more closed fed.
          subst (λ (l : List ℕ). IsFed number now peer old piece last l closed)
          (sym (append_assoc f.printed (output_line number (piece_answer now peer mid rest).output) more))
          (f.goes_on last (output_line number (piece_answer now peer mid rest).output ++ more) closed
          (Goes_on mid rest last more closed some open_still fed));
    })

-- A feed that closes.
pub fed_to_close : (number : PeerNumber) (now peer : ℕ) (old mid new : AdapterState) (piece rest : List ℕ) (before between after last : Option (List ℕ))
    → Feeding number now peer old piece before mid rest between → 0 < length rest → (piece_answer now peer mid rest).close ≡ true
    → new ≡ after_piece now peer mid rest → Appends between after (output_line number (piece_answer now peer mid rest).output)
    → Appends after last (closed_line number)
    → (printed : List ℕ) × IsFed number now peer old piece new printed true × Appends before last printed
fed_to_close number now peer old mid new piece rest before between after last f some closes new_is written closed =
    let line = output_line number (piece_answer now peer mid rest).output in
    rw new_is (
      f.printed ++ (line ++ closed_line number),
      f.goes_on (after_piece now peer mid rest) (line ++ closed_line number) true (Closes mid rest some closes),
      Appends-trans before between last f.printed (line ++ closed_line number) f.written
          (Appends-trans between after last line (closed_line number) written closed),
    )

-- Nothing is left.
pub fed_whole : (number : PeerNumber) (now peer : ℕ) (old new : AdapterState) (piece rest : List ℕ) (before after : Option (List ℕ))
    → Feeding number now peer old piece before new rest after → length rest ≡ 0
    → (printed : List ℕ) × IsFed number now peer old piece new printed false × Appends before after printed
fed_whole number now peer old new piece [] before after f none =
    (f.printed, subst (λ (l : List ℕ). IsFed number now peer old piece new l false) (append-nil f.printed) (f.goes_on new [] false (Used_up new)), f.written)
fed_whole number now peer old new piece (byte ∷ rest) before after f none = absurd (omega (arith, none))

-- The peer's state after a piece.
pub fed_to : (peer : ℕ) (number : PeerNumber) (items piece : List ℕ) (old new : Desk) (adapter : AdapterState) (closed : Bool) (before after : Option (List ℕ))
    → piece ≡ items → ((printed : List ℕ) × IsFed number old.now peer old.adapter piece adapter printed closed × Appends before after printed)
    → new ≡ with_peer old adapter number (entry_after peer closed)
    → (printed : List ℕ) × IsFedTo peer number items old new printed × Appends before after printed
fed_to peer number items piece old new adapter closed before after same fed is = (
  fed.0,
  record {
    adapter = adapter;
    closed = closed;
    fed = subst (λ (l : List ℕ). IsFed number old.now peer old.adapter l adapter fed.0 closed) same fed.1;
    new_is = is;
  },
  fed.2,
)

-- ---- all lines

run_answered : (lines : List (List ℕ)) (adapter : AdapterState) (old new : Answerer) (before after : Option (List ℕ)) → desk_of old ≡ new_desk adapter
    → AreRun IsAnsweredBy lines old new before after → AreRun IsAnswered lines (new_desk adapter) (desk_of new) before after
run_answered lines adapter old new before after is run =
    subst (λ (d : Desk). AreRun IsAnswered lines d (desk_of new) before after) is (run_seen desk_of IsAnswered lines old new before after run)

pub answered_all : (input : Option (List ℕ)) (adapter : AdapterState) (old new : Answerer) (before after : Option (List ℕ)) (result : Result (Unit {0}) ProgramFault)
    → desk_of old ≡ new_desk adapter → IsTakenToEnd IsAnsweredBy (λ text. IsRefusedLine text) input old new before after result
    → OnOk result ((desk : Desk) × AreAllRun IsAnswered input (new_desk adapter) desk before after)
answered_all input adapter old new before after (Ok done) is all = (
  desk_of new,
  record { bytes = all.bytes; input_is = all.input_is; run = run_answered (lines_of all.bytes) adapter old new before after is all.run },
)
answered_all input adapter old new before after (Err fault) is all = tt

stops_answered : (input : Option (List ℕ)) (adapter : AdapterState) (old : Answerer) (before after : Option (List ℕ)) (number : ℕ) → desk_of old ≡ new_desk adapter
    → IsLineRefused IsAnsweredBy (λ text. IsRefusedLine text) input old before after number
    → IsLineRefused IsAnswered (λ text. IsRefusedLine text) input (new_desk adapter) before after number
stops_answered input adapter old before after number is r = record {
  bytes = r.bytes;
  input_is = r.input_is;
  earlier = r.earlier;
  line = r.line;
  later = r.later;
  lines_are = r.lines_are;
  number_is = r.number_is;
  new = desk_of r.new;
  run = run_answered r.earlier adapter old r.new before after is r.run;
  refused = r.refused;
}

pub answered_until : (input : Option (List ℕ)) (adapter : AdapterState) (old new : Answerer) (before after : Option (List ℕ)) (result : Result (Unit {0}) ProgramFault)
    → desk_of old ≡ new_desk adapter → IsTakenToEnd IsAnsweredBy (λ text. IsRefusedLine text) input old new before after result
    → IfErr result (StopsAtLine IsAnswered (λ text. IsRefusedLine text) input (new_desk adapter) before after)
answered_until input adapter old new before after (Ok done) is stops = tt
answered_until input adapter old new before after (Err (Line number why)) is stops = stops_answered input adapter old before after number is stops
answered_until input adapter old new before after (Err Device) is stops = tt
answered_until input adapter old new before after (Err Memory) is stops = tt

-- ---- a line

line_refused : (text : List ℕ) (line : InputLine) → Says text line → IsRefusedPiece line → IsRefusedLine text
line_refused text Nothing says so = absurd so
line_refused text (Now moment) says so = absurd so
line_refused text (End number) says so = absurd so
line_refused text (Piece number digits) says so = piece_refused text number digits.now says so

pub refused_if : (text : List ℕ) (line : InputLine) (K : Type 0) (result : Result Bool ProgramFault) → Says text line
    → IfOk result (λ runs. runs ≡ false → IsRefusedPiece line × K) → IfOk result (λ runs. runs ≡ false → IsRefusedLine text × K)
refused_if text line K (Ok runs) says so = λ never. (line_refused text line says (so never).0, (so never).1)
refused_if text line K (Err fault) says so = tt
