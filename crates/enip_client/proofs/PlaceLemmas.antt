-- Where the data of a packet are, and where in the frame.
use Rattle.std.proofs.Common.{◌≡◌, ℕ, ◌+◌, ◌-◌, List, ◌∷◌, ◌++◌, length, take, drop, ap, ◌∙◌, sym, subst, arith}
use Rattle.std.specs.List.{flat_map}
use Rattle.std.proofs.Math.Seq.{take-append_seam, drop-append_seam, drop-append-add}
use Rattle.std.proofs.lemmas.List.{length-append}
use Rattle.cip_bytes.specs.Numbers.{le}
use Rattle.enip_wire.specs.Frames.{Frame, frame}
use Rattle.enip_wire.specs.Headers.{header_spelling}
use Rattle.enip_wire.specs.Items.{item}
use Rattle.enip_wire.specs.Bodies.{IsRrBody, IsUnitBody, null_address, unconnected_data, connected_address}
use Rattle.enip_wire.specs.Bodies.{connected_data}
use Rattle.enip_wire.proofs.HeaderLemmas.{length-header_spelling}
use Rattle.enip_client.specs.Client.{LiesAt}

-- these bytes follow those
behind : (front bytes rest : List ℕ) → LiesAt (length front) bytes (front ++ (bytes ++ rest))
behind front bytes rest = (
  omega (arith, length-append front (bytes ++ rest), length-append bytes rest),
  ap (λ n. take n (drop (length front) (front ++ (bytes ++ rest)))) (omega arith)
      ∙ ap (take (length bytes)) (drop-append_seam front (bytes ++ rest)) ∙ take-append_seam bytes rest,
)

-- bytes at an index of a list are at a greater index if others precede the list
further : (place : ℕ) (front bytes text : List ℕ) → LiesAt place bytes text
    → LiesAt (length front + place) bytes (front ++ text)
further place front bytes text at = (
  omega (arith, at.0, length-append front text),
  ap (λ n. take n (drop (length front + place) (front ++ text))) (omega arith)
      ∙ ap (take ((place + length bytes) - place)) (drop-append-add front text place) ∙ at.1,
)

pub rr_place : (text bytes : List ℕ) → IsRrBody text bytes → LiesAt 16 bytes text
rr_place text bytes b =
    subst (LiesAt 16 bytes) (sym b.body.begins_body.spelled)
    (behind (le 4 0 ++ le 2 b.body.begins_body.timeout ++ le 2
    (length (null_address ∷ unconnected_data bytes ∷ b.further)) ++ le 2 0 ++ le 2 0
    ++ le 2 0xb2 ++ le 2 (length bytes))
    bytes (flat_map item b.further))

pub unit_place : (text bytes : List ℕ) (id : ℕ) → IsUnitBody text id bytes → LiesAt 20 bytes text
unit_place text bytes id b =
    subst (LiesAt 20 bytes) (sym b.body.begins_body.spelled)
    (behind (le 4 0 ++ le 2 b.body.begins_body.timeout ++ le 2
    (length (connected_address id ∷ connected_data bytes ∷ b.further))
    ++ le 2 0xa1 ++ le 2 4 ++ le 4 id ++ le 2 0xb1 ++ le 2 (length bytes))
    bytes (flat_map item b.further))

pub frame_place : (f : Frame) (place : ℕ) (bytes : List ℕ) → length f.header.context ≡ 8 → LiesAt place bytes f.body
    → LiesAt (24 + place) bytes (frame f)
frame_place f place bytes eight at =
    subst (λ n. LiesAt (n + place) bytes (frame f)) (length-header_spelling f.header eight)
    (further place (header_spelling f.header) bytes f.body at)
