-- The bytes of an attribute's value (Volume 1, elementary data types).
use Rattle.std.specs.Prelude.{ℕ, ◌≤◌, List, [], ◌∷◌, length}
use Rattle.byteorder.specs.Endian.{little_bytes}
use Rattle.cip_objects.specs.Limits.{LONGEST_DATA}
use Rattle.cip_objects.specs.declared.value.AttributeValue.{AttributeValue}
use Rattle.cip_objects.specs.declared.value.AttributeValue.TheVariants.{Usint, Pair, Uint, Udint, Text, Bytes}

abbrev pub value_bytes : AttributeValue → List ℕ
value_bytes (Usint v) = v ∷ []
value_bytes (Pair a b) = a ∷ b ∷ []
value_bytes (Uint v) = little_bytes 2 v
value_bytes (Udint v) = little_bytes 4 v
value_bytes (Text size t) = size ∷ t.now
value_bytes (Bytes t) = t.now

-- The value is not longer than an assembly's data can be.
abbrev pub IsShort : AttributeValue → Type 0
IsShort v = length (value_bytes v) ≤ LONGEST_DATA
