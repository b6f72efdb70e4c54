-- Reading a path from left to right. `Path` defines what is read, without an order of steps.
use Rattle.std.specs.Prelude.{ℕ, ◌*◌, ◌/◌, ◌%◌, ◌&&◌, Bool, true, false, List, [], ◌∷◌, length, drop, slice_index}
use Rattle.std.specs.Prelude.{Option, Some, None, Result, Ok, Err, nat_lt, ◌==◌, if◌then◌else◌}
use Rattle.cip_bytes.specs.Numbers.{number_at}
use Rattle.cip_bytes.specs.Reading.{◌>>=◌}
use Rattle.cip_message.specs.declared.path.Segment.{Segment}
use Rattle.cip_message.specs.declared.path.Segment.TheVariants.{Class, Instance, Member, Attribute}
use Rattle.cip_message.specs.declared.path.Kind.{Kind}
use Rattle.cip_message.specs.declared.path.Kind.TheVariants as kinds
use Rattle.cip_message.specs.declared.path.Path.{Path}
use Rattle.cip_message.specs.declared.path.PathFault.{PathFault}
use Rattle.cip_message.specs.declared.path.PathFault.TheVariants as fault

-- Reads a value of 8, 16 or 32 bits after the first byte, and returns it with the rest.
abbrev pub value8_of : List ℕ → Result (ℕ × List ℕ) PathFault
value8_of b = if nat_lt (length b) 2 then Err fault.Cut else Ok (slice_index b 1, drop 2 b)

abbrev pub value16_of : List ℕ → Result (ℕ × List ℕ) PathFault
value16_of b = if nat_lt (length b) 4 then Err fault.Cut else Ok (number_at 2 2 b, drop 4 b)

abbrev pub value32_of : List ℕ → Result (ℕ × List ℕ) PathFault
value32_of b = if nat_lt (length b) 6 then Err fault.Cut else Ok (number_at 2 4 b, drop 6 b)

-- The segment of this type with the value that was read, and the rest.
abbrev pub with_kind : (ℕ → Segment) → Result (ℕ × List ℕ) PathFault → Result (Segment × List ℕ) PathFault
with_kind kind read = read >>= λ x. Ok (kind x.0, x.1)

-- The type of a logical segment, by its first byte without the two lowest bits (Volume 1, logical segment: type).
abbrev pub kind_of : ℕ → Option Kind
kind_of base =
    if base == 0x20 then Some kinds.Class else
    if base == 0x24 then Some kinds.Instance else
    if base == 0x28 then Some kinds.Member else
    if base == 0x30 then Some kinds.Attribute else
    None

-- The segment of this type with this value.
abbrev pub segment_of_kind : Kind → ℕ → Segment
segment_of_kind kinds.Class v = Class v
segment_of_kind kinds.Instance v = Instance v
segment_of_kind kinds.Member v = Member v
segment_of_kind kinds.Attribute v = Attribute v

-- Only an instance may have a 32-bit value.
abbrev pub has_32_bits : Kind → Bool
has_32_bits kinds.Instance = true
has_32_bits _ = false

-- The format of the value, by the two lowest bits (Volume 1, logical segment: format).
abbrev pub in_format : ℕ → Kind → List ℕ → Result (Segment × List ℕ) PathFault
in_format format kind b =
    if format == 0 then with_kind (segment_of_kind kind) (value8_of b) else
    if format == 1 then with_kind (segment_of_kind kind) (value16_of b) else
    if has_32_bits kind && (format == 2) then with_kind (segment_of_kind kind) (value32_of b) else
    Err fault.Segment

abbrev pub of_kind : Option Kind → ℕ → List ℕ → Result (Segment × List ℕ) PathFault
of_kind None format b = Err fault.Segment
of_kind (Some kind) format b = in_format format kind b

-- Reads the segment whose first byte is x: bits 7 to 2 are its type, bits 1 and 0 the format of its value.
abbrev pub segment_at : ℕ → List ℕ → Result (Segment × List ℕ) PathFault
segment_at x b = of_kind (kind_of (x / 4 * 4)) (x % 4) b

-- Reads the segment at the front, where one is required.
unfoldable pub segment_of : List ℕ → Result (Segment × List ℕ) PathFault
segment_of [] = Err fault.Order
segment_of (x ∷ xs) = segment_at x (x ∷ xs)

abbrev pub as_class : Segment → List ℕ → Result (ℕ × List ℕ) PathFault
as_class (Class v) rest = Ok (v, rest)
as_class _ rest = Err fault.Order

abbrev pub as_instance : Segment → List ℕ → Result (ℕ × List ℕ) PathFault
as_instance (Instance v) rest = Ok (v, rest)
as_instance _ rest = Err fault.Order

-- An attribute or a member is optional: any other segment is left for the next reader.
abbrev pub as_attribute : Segment → List ℕ → List ℕ → Result (Option ℕ × List ℕ) PathFault
as_attribute (Attribute v) rest b = Ok (Some v, rest)
as_attribute _ rest b = Ok (None, b)

abbrev pub as_member : Segment → List ℕ → List ℕ → Result (Option ℕ × List ℕ) PathFault
as_member (Member v) rest b = Ok (Some v, rest)
as_member _ rest b = Ok (None, b)

unfoldable pub class_of : List ℕ → Result (ℕ × List ℕ) PathFault
class_of b = do
  g ← segment_of b
  as_class g.0 g.1

unfoldable pub instance_of : List ℕ → Result (ℕ × List ℕ) PathFault
instance_of b = do
  g ← segment_of b
  as_instance g.0 g.1

unfoldable pub attribute_of : List ℕ → Result (Option ℕ × List ℕ) PathFault
attribute_of [] = Ok (None, [])
attribute_of (x ∷ xs) = do
  g ← segment_of (x ∷ xs)
  as_attribute g.0 g.1 (x ∷ xs)

unfoldable pub member_of : List ℕ → Result (Option ℕ × List ℕ) PathFault
member_of [] = Ok (None, [])
member_of (x ∷ xs) = do
  g ← segment_of (x ∷ xs)
  as_member g.0 g.1 (x ∷ xs)

-- The path p, if nothing is left.
unfoldable pub whole_of : Path → List ℕ → Result Path PathFault
whole_of p [] = Ok p
whole_of p (x ∷ xs) = do
  g ← segment_of (x ∷ xs)
  Err fault.Order

unfoldable pub path_of : List ℕ → Result Path PathFault
path_of b = do
  class ← class_of b
  instance ← instance_of class.1
  attribute ← attribute_of instance.1
  member ← member_of attribute.1
  whole_of (record { class = class.0; instance = instance.0; attribute = attribute.0; member = member.0 }) member.1
