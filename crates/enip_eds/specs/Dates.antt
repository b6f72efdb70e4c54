-- Dates as text.
use Rattle.std.specs.Prelude.{ℕ, ◌+◌, ◌-◌, ◌*◌, ◌==◌, ◌&&◌, nat_le, Bool, if◌then◌else◌, List, length, slice_index, Option, Some, None}
use Rattle.cip_values.specs.Calendar.{month_length}
use Rattle.cip_values.specs.declared.calendar.Date.{Date}

abbrev pub is_decimal : ℕ → Bool
is_decimal byte = nat_le 48 byte && nat_le byte 57

-- The number that two decimal digits give.
abbrev pub two_digits : ℕ → ℕ → Option ℕ
two_digits high low = if is_decimal high && is_decimal low then Some (10 * (high - 48) + (low - 48)) else None

-- A month of a year has this day.
abbrev pub is_date : ℕ → ℕ → ℕ → Bool
is_date year month day = nat_le 1 month && nat_le month 12 && nat_le 1 day && nat_le day (month_length year month)

-- The year of a century and its last two digits.
abbrev pub year_from : Option ℕ → Option ℕ → Option ℕ
year_from (Some century) (Some rest) = Some (100 * century + rest)
year_from century rest = None

-- The date with this month, day and year, if there is one.
abbrev pub date_from : Option ℕ → Option ℕ → Option ℕ → Option Date
date_from (Some month) (Some day) (Some year) =
    if is_date year month day then Some (record { year = year; month = month; day = day }) else None
date_from month day year = None

-- The two digits at an index of a text.
abbrev pub digits_in : List ℕ → ℕ → Option ℕ
digits_in text index = two_digits (slice_index text index) (slice_index text (index + 1))

-- The date that a text gives: two digits for the month, a hyphen, two for the day, a hyphen, and four for the year.
abbrev pub date_in : List ℕ → Option Date
date_in text =
    if (length text == 10) && (slice_index text 2 == 45) && (slice_index text 5 == 45)
    then date_from (digits_in text 0) (digits_in text 3) (year_from (digits_in text 6) (digits_in text 8)) else None
