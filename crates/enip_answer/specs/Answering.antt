-- What `enip answer` does at each line, and what it prints.
use Rattle.std.specs.Prelude.{◌≡◌, ◌<◌, ◌+◌, ℕ, List, [], ◌∷◌, ◌++◌, length, drop, set, slice_index_or, codes}
use Rattle.std.specs.Prelude.{Bool, true, false, if◌then◌else◌, Option, Some, None}
use Rattle.std.specs.Fmt.{decimal}
use Rattle.std.specs.Io.KnownBytes.{Appends}
use Rattle.hex.specs.Hex.{encode_lower}
use Rattle.enip_adapter.specs.Adapter.{full_number}
use Rattle.enip_adapter.specs.declared.adapter.Full.{Full}
use Rattle.enip_adapter.specs.declared.peer.Rights.TheVariants.{Write}
use Rattle.enip_adapter.specs.Calls.{AdapterState, call_meaning, call_answer, after_call}
use Rattle.enip_adapter.specs.Calls.Call.{Begins_peer, Feeds, Ends_peer, Ticks}
use Rattle.enip_adapter.specs.Turn.{Answer, Output}
use Rattle.enip_adapter.specs.Turn.Output.{Sends, Begins, Refuses}
use Rattle.enip_adapter.specs.Withdrawing.{found_by_piece}
use Rattle.enip_lines.specs.Digits.{bytes_spelled}
use Rattle.enip_lines.specs.Lines.{with_newline}
use Rattle.enip_answer.specs.Lines.{index_of, digit, Says, spells_bytes}
use Rattle.enip_answer.specs.declared.peer_number.PeerNumber.{PeerNumber}
use Rattle.enip_answer.specs.declared.lines.Line.{Line}
use Rattle.enip_answer.specs.declared.lines.Line.TheVariants.{Nothing, Piece, End, Now}
use Rattle.enip_answer.specs.declared.answering.PeerEntry.{PeerEntry}
use Rattle.enip_answer.specs.declared.answering.PeerEntry.TheVariants.{Free, Taken, Closed}
use Rattle.enip_answer.specs.declared.answering.Answerer.{Answerer}

-- ---- the lines that are printed

abbrev pub answer_line : PeerNumber → List ℕ → List ℕ
answer_line number frame = with_newline (digit number ∷ codes " " ++ encode_lower frame)

abbrev pub closed_line : PeerNumber → List ℕ
closed_line number = with_newline (digit number ∷ codes " closed")

abbrev pub full_line : PeerNumber → Full → List ℕ
full_line number full = with_newline (digit number ∷ codes " full " ++ decimal (full_number full))

-- The line of an answer, if there is one.
abbrev pub output_line : PeerNumber → Output → List ℕ
output_line number (Sends frame) = answer_line number frame
output_line number other = []

-- ---- the state

-- The adapter, the time of the pieces that follow, and the nine peers.
pub record Desk : Type 0 where
  pub adapter : AdapterState
  pub now : ℕ
  pub peers : List PeerEntry

-- The state by the code's fields.
abbrev pub desk_of : Answerer → Desk
desk_of a = record { adapter = a.adapter; now = a.now; peers = a.peers }

-- At the beginning the time is 0, and no peer has begun.
abbrev pub new_desk : AdapterState → Desk
new_desk adapter = record {
  adapter = adapter;
  now = 0;
  peers = Free ∷ Free ∷ Free ∷ Free ∷ Free ∷ Free ∷ Free ∷ Free ∷ Free ∷ [];
}

abbrev pub peer_at : Desk → PeerNumber → PeerEntry
peer_at desk number = slice_index_or desk.peers (index_of number) Free

abbrev pub with_adapter : Desk → AdapterState → Desk
with_adapter desk adapter = record { adapter = adapter; now = desk.now; peers = desk.peers }

abbrev pub with_peer : Desk → AdapterState → PeerNumber → PeerEntry → Desk
with_peer desk adapter number entry =
    record { adapter = adapter; now = desk.now; peers = set desk.peers (index_of number) entry }

-- ---- a piece

-- The adapter to which a piece is fed: the time is set, and what the frame withdraws is withdrawn.
abbrev pub ready : ℕ → ℕ → AdapterState → List ℕ → AdapterState
ready now peer adapter piece = found_by_piece (after_call adapter (Ticks now)) peer piece

-- The answer to a piece, the adapter after it, and how many bytes of it are taken.
abbrev pub piece_answer : ℕ → ℕ → AdapterState → List ℕ → Answer
piece_answer now peer adapter piece = call_answer (ready now peer adapter piece) (Feeds now peer piece)

abbrev pub after_piece : ℕ → ℕ → AdapterState → List ℕ → AdapterState
after_piece now peer adapter piece = after_call (ready now peer adapter piece) (Feeds now peer piece)

abbrev pub piece_taken : ℕ → ℕ → AdapterState → List ℕ → ℕ
piece_taken now peer adapter piece = (call_meaning (ready now peer adapter piece) (Feeds now peer piece)).taken

-- A piece is fed to a peer at a time, and each answer is printed, until the piece is used up or a feed closes the peer:
-- the adapter before it, the piece, the adapter after it, what is printed, and whether the peer is closed.
pub data IsFed (number : PeerNumber) (now peer : ℕ) : AdapterState → List ℕ → AdapterState → List ℕ → Bool → Type 0 where
  Used_up : (adapter : AdapterState) → IsFed number now peer adapter [] adapter [] false
  Closes : (adapter : AdapterState) (piece : List ℕ) → 0 < length piece
      → (piece_answer now peer adapter piece).close ≡ true
      → IsFed number now peer adapter piece (after_piece now peer adapter piece)
      (output_line number (piece_answer now peer adapter piece).output ++ closed_line number) true
  Goes_on : (adapter : AdapterState) (piece : List ℕ) (new : AdapterState) (printed : List ℕ) (closed : Bool)
      → 0 < length piece → (piece_answer now peer adapter piece).close ≡ false
      → IsFed number now peer (after_piece now peer adapter piece)
      (drop (piece_taken now peer adapter piece) piece) new printed closed
      → IsFed number now peer adapter piece new
      (output_line number (piece_answer now peer adapter piece).output ++ printed) closed

abbrev pub entry_after : ℕ → Bool → PeerEntry
entry_after peer true = Closed peer
entry_after peer false = Taken peer

-- A piece is fed to a peer with this handle.
pub record IsFedTo (peer : ℕ) (number : PeerNumber) (piece : List ℕ) (old new : Desk) (printed : List ℕ) : Type 0 where
  pub adapter : AdapterState
  pub closed : Bool
  pub fed : IsFed number old.now peer old.adapter piece adapter printed closed
  pub new_is : new ≡ with_peer old adapter number (entry_after peer closed)

-- A piece of a peer that begins with it, unless the adapter refuses the peer.
abbrev pub IsBegunWith : Output → PeerNumber → List ℕ → Desk → Desk → List ℕ → Type 0
IsBegunWith (Begins peer) number piece old new printed =
    IsFedTo peer number piece (with_adapter old (after_call old.adapter (Begins_peer Write None))) new printed
IsBegunWith (Refuses full) number piece old new printed =
    (new ≡ with_adapter old (after_call old.adapter (Begins_peer Write None))) × (printed ≡ full_line number full)
IsBegunWith other number piece old new printed = ⊥

-- A piece of a peer with this entry. Nothing is fed or printed once the adapter has closed the peer.
abbrev pub IsPieceRun : PeerEntry → PeerNumber → List ℕ → Desk → Desk → List ℕ → Type 0
IsPieceRun Free number piece old new printed =
    IsBegunWith (call_answer old.adapter (Begins_peer Write None)).output number piece old new printed
IsPieceRun (Taken peer) number piece old new printed = IsFedTo peer number piece old new printed
IsPieceRun (Closed peer) number piece old new printed = (new ≡ old) × (printed ≡ [])

-- ---- a line

-- The adapter after a peer with this entry has ended.
abbrev pub ended_peer : AdapterState → PeerEntry → AdapterState
ended_peer adapter Free = adapter
ended_peer adapter (Taken peer) = after_call adapter (Ends_peer peer)
ended_peer adapter (Closed peer) = after_call adapter (Ends_peer peer)

abbrev pub ended : Desk → PeerNumber → Desk
ended desk number = with_peer desk (ended_peer desk.adapter (peer_at desk number)) number Free

-- What a line does, and what it prints.
abbrev pub IsLineRun : Line → Desk → Desk → List ℕ → Type 0
IsLineRun Nothing old new printed = (new ≡ old) × (printed ≡ [])
IsLineRun (Now moment) old new printed =
    (new ≡ record { adapter = old.adapter; now = moment; peers = old.peers }) × (printed ≡ [])
IsLineRun (End number) old new printed = (new ≡ ended old number) × (printed ≡ [])
IsLineRun (Piece number digits) old new printed =
    (piece : List ℕ) × (bytes_spelled digits.now ≡ Some piece) × (0 < length piece)
    × IsPieceRun (peer_at old number) number piece old new printed

-- The same, and the output holds what was printed.
abbrev pub IsLinePrinted : Line → Desk → Desk → Option (List ℕ) → Option (List ℕ) → Type 0
IsLinePrinted line old new before after =
    (printed : List ℕ) × IsLineRun line old new printed × Appends before after printed

-- A line with this text was run.
abbrev pub IsAnswered : List ℕ → Desk → Desk → Option (List ℕ) → Option (List ℕ) → Type 0
IsAnswered text old new before after = (line : Line) × Says text line × IsLinePrinted line old new before after

-- The same for the state by the code's fields.
abbrev pub IsAnsweredBy : List ℕ → Answerer → Answerer → Option (List ℕ) → Option (List ℕ) → Type 0
IsAnsweredBy text old new before after = IsAnswered text (desk_of old) (desk_of new) before after

-- A piece that spells no byte.
abbrev pub IsRefusedPiece : Line → Type 0
IsRefusedPiece (Piece number digits) = spells_bytes digits.now ≡ false
IsRefusedPiece line = ⊥
