-- The elementary number types, and the order of their values (Volume 1, elementary data types). A value is given by
-- its bits: the number that its bytes spell, least first.
use Rattle.std.specs.Prelude.{ℕ, zero, suc, ◌+◌, ◌-◌, ◌/◌, Bool, false, ◌&&◌, nat_lt, nat_le, if◌then◌else◌, List, []}
use Rattle.std.specs.Prelude.{◌∷◌, length, drop, Option, Some, None}
use Rattle.std.specs.List.{list_all}
use Rattle.byteorder.specs.Endian.{little_number}
use Rattle.cip_application.specs.declared.number.NumberType.{NumberType}
use Rattle.cip_application.specs.declared.number.NumberType.TheVariants.{Usint, Uint, Udint, Ulint, Sint, Int, Dint}
use Rattle.cip_application.specs.declared.number.NumberType.TheVariants.{Lint, Real, Lreal}
use Rattle.cip_application.specs.declared.number.NumberRange.{NumberRange}

-- The bytes of a value.
abbrev pub width_of : NumberType → ℕ
width_of Usint = 1
width_of Uint = 2
width_of Udint = 4
width_of Ulint = 8
width_of Sint = 1
width_of Int = 2
width_of Dint = 4
width_of Lint = 8
width_of Real = 4
width_of Lreal = 8

-- Two's complement: bits from `half` on are the negative values, so they rank below the others.
abbrev pub signed_rank : ℕ → ℕ → ℕ
signed_rank half bits = if nat_lt bits half then half + bits else bits - half

-- Sign and magnitude: bits from `half` on are the negative values, which fall as the magnitude rises. So -0.0 ranks
-- as 0.0. A magnitude over that of infinity is NaN, which has no rank.
abbrev pub float_rank : ℕ → ℕ → ℕ → Option ℕ
float_rank half infinity bits =
    if nat_lt bits half then (if nat_lt infinity bits then None else Some (half + bits))
    else (if nat_lt infinity (bits - half) then None else Some (half - (bits - half)))

-- The rank of a value: one value is less than another exactly if its rank is.
abbrev pub rank : NumberType → ℕ → Option ℕ
rank Usint bits = Some bits
rank Uint bits = Some bits
rank Udint bits = Some bits
rank Ulint bits = Some bits
rank Sint bits = Some (signed_rank 0x80 bits)
rank Int bits = Some (signed_rank 0x8000 bits)
rank Dint bits = Some (signed_rank 0x8000_0000 bits)
rank Lint bits = Some (signed_rank 0x8000_0000_0000_0000 bits)
rank Real bits = float_rank 0x8000_0000 0x7f80_0000 bits
rank Lreal bits = float_rank 0x8000_0000_0000_0000 0x7ff0_0000_0000_0000 bits

abbrev pub ranks_rise : Option ℕ → Option ℕ → Bool
ranks_rise None b = false
ranks_rise (Some a) None = false
ranks_rise (Some a) (Some b) = nat_le a b

-- One value is at most another. NaN compares with nothing.
unfoldable pub is_at_most : NumberType → ℕ → ℕ → Bool
is_at_most number a b = ranks_rise (rank number a) (rank number b)

-- The value lies within the range, its bounds included.
abbrev pub is_within : NumberRange → ℕ → Bool
is_within range bits =
    is_at_most range.number range.least bits && is_at_most range.number bits range.greatest

-- The first `count` numbers of `width` bytes each.
abbrev pub first_numbers : ℕ → ℕ → List ℕ → List ℕ
first_numbers width zero bytes = []
first_numbers width (suc count) bytes =
    little_number width bytes ∷ first_numbers width count (drop width bytes)

-- The numbers of these bytes, of `width` bytes each.
unfoldable pub numbers_of : ℕ → List ℕ → List ℕ
numbers_of width bytes = first_numbers width (length bytes / width) bytes

-- Every number of the value lies within the range: one, or each element of an array.
abbrev pub are_within : NumberRange → List ℕ → Bool
are_within range bytes = list_all (is_within range) (numbers_of (width_of range.number) bytes)
