-- The values that an attribute can have, by its kind (Volume 1, elementary data types).
use Rattle.std.specs.Prelude.{ℕ, ◌+◌, ◌==◌, Bool, true, ◌&&◌, nat_le, if◌then◌else◌, List, ◌++◌, take, drop, length}
use Rattle.std.specs.Prelude.{slice_index, Option, Some, None, Result, is_ok}
use Rattle.cip_bytes.specs.Reading.{◌>>◌}
use Rattle.cip_application.specs.declared.attribute.SetFault.{SetFault}
use Rattle.cip_application.specs.declared.attribute.SetFault.TheVariants.{InvalidAttributeValue}
use Rattle.cip_application.specs.declared.kind.AttributeKind.{AttributeKind}
use Rattle.cip_application.specs.declared.kind.AttributeKind.TheVariants.{Fixed, ShortString}
use Rattle.cip_application.specs.declared.number.NumberRange.{NumberRange}
use Rattle.cip_application.specs.Numbers.{are_within}
use Rattle.cip_application.specs.Check.{demand, check_size}

-- The most bytes of a value. A SHORT_STRING is a byte with its length, then the text.
abbrev pub capacity : AttributeKind → ℕ
capacity (Fixed size range) = size
capacity (ShortString room) = room + 1

-- The bytes of a value that begins with these. The first byte of a SHORT_STRING decides, and is 0 if there is none.
abbrev pub size_for : AttributeKind → List ℕ → ℕ
size_for (Fixed size range) value = size
size_for (ShortString room) value = slice_index value 0 + 1

abbrev pub lies_in : Option NumberRange → List ℕ → Bool
lies_in None value = true
lies_in (Some range) value = are_within range value

-- A value of the right size is one that the attribute may have: each number is within the range, and a text is not
-- longer than its room.
abbrev pub is_allowed : AttributeKind → List ℕ → Bool
is_allowed (Fixed size range) value = lies_in range value
is_allowed (ShortString room) value = nat_le (slice_index value 0) room

-- The checks of a value: its size, then what it says.
abbrev pub check_value : AttributeKind → List ℕ → Result (Unit {0}) SetFault
check_value kind value = do
  check_size (size_for kind value) value
  demand (is_allowed kind value) InvalidAttributeValue

-- The bytes are a value of this kind. The range binds peers alone, and a text is not longer than its room.
abbrev pub is_whole : AttributeKind → List ℕ → Bool
is_whole (Fixed size range) bytes = length bytes == size
is_whole (ShortString room) bytes = is_ok (check_value (ShortString room) bytes)

-- The list `old`, with these bytes in it from an offset on.
abbrev pub with_bytes_at : List ℕ → ℕ → List ℕ → List ℕ
with_bytes_at old offset bytes = take offset old ++ (bytes ++ drop (offset + length bytes) old)

-- The value after the device itself wrote these bytes from an offset on. They must end within the value. A
-- SHORT_STRING is written as a whole, so that its first byte stays its length. The range binds peers alone.
abbrev pub written_value : AttributeKind → List ℕ → ℕ → List ℕ → Option (List ℕ)
written_value (Fixed size range) old offset bytes =
    if nat_le (offset + length bytes) (length old) then Some (with_bytes_at old offset bytes) else None
written_value (ShortString room) old offset bytes =
    if (offset == 0) && is_ok (check_value (ShortString room) bytes) then Some bytes else None

-- How the device itself writes a value: by its kind and the value before. None if the value cannot hold what is
-- written.
abbrev pub Writing : Type 0
Writing = AttributeKind → List ℕ → Option (List ℕ)

-- These bytes are written from an offset on.
abbrev pub from_offset : ℕ → List ℕ → Writing
from_offset offset bytes kind old = written_value kind old offset bytes

-- These bytes are put in place of the value.
abbrev pub as_whole : List ℕ → Writing
as_whole bytes kind old = if is_whole kind bytes then Some bytes else None
