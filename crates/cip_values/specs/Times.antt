-- Parsing dates and times of day.
use Rattle.std.specs.Prelude.{◌≡◌, ◌<◌, ◌≤◌, ◌⊎◌, ◌==◌, ◌+◌, ◌*◌, ◌&&◌, nat_lt, ℕ, List, length, slice_index, Option, None, Some, if◌then◌else◌}
use Rattle.std.specs.Char.{is_digit, digit_value}
use Rattle.cip_values.specs.Calendar.{IsDate, IsDayNumber}
use Rattle.cip_values.specs.Values.{Value, Instant}
use Rattle.cip_values.specs.declared.calendar.Date.{Date}
use Rattle.cip_values.specs.declared.parsing.ParseFault.{ParseFault}
use Rattle.cip_values.specs.declared.parsing.ParseFault.TheVariants as faults

-- The number with these two decimal digits.
abbrev pub two_digits : ℕ → ℕ → Option ℕ
two_digits tens ones =
    if is_digit tens 10 && is_digit ones 10 then Some (10 * digit_value tens + digit_value ones) else None

-- The two digits at a place.
abbrev pub digits_at : ℕ → List ℕ → Option ℕ
digits_at place text = two_digits (slice_index text place) (slice_index text (place + 1))

abbrev pub date_from : Option ℕ → Option ℕ → Option ℕ → Option ℕ → Option Date
date_from (Some century) (Some year) (Some month) (Some day) =
    Some (record { year = 100 * century + year; month = month; day = day })
date_from century year month day = None

-- The date that a text spells as `YYYY-MM-DD`, whether it exists or not.
abbrev pub written_date : List ℕ → Option Date
written_date text =
    if length text == 10 && slice_index text 4 == 45 && slice_index text 7 == 45
    then date_from (digits_at 0 text) (digits_at 2 text) (digits_at 5 text) (digits_at 8 text) else None

-- The milliseconds since midnight at this time, if its minute and its second are below 60.
abbrev pub milliseconds : ℕ → ℕ → ℕ → ℕ → Option ℕ
milliseconds hour minute second rest =
    if nat_lt minute 60 && nat_lt second 60 then Some (((hour * 60 + minute) * 60 + second) * 1000 + rest) else None

abbrev pub clock_from : Option ℕ → Option ℕ → Option ℕ → Option ℕ → Option ℕ → Option ℕ
clock_from (Some hour) (Some minute) (Some second) (Some tens) (Some ones) =
    milliseconds hour minute second (tens * 10 + ones)
clock_from hour minute second tens ones = None

-- The milliseconds since midnight that a text spells as `hh:mm:ss.mmm`, with minutes and seconds below 60.
abbrev pub written_clock : List ℕ → Option ℕ
written_clock text =
    if length text == 12 && slice_index text 2 == 58 && slice_index text 5 == 58 && slice_index text 8 == 46
    then clock_from (digits_at 0 text) (digits_at 3 text) (digits_at 6 text) (digits_at 9 text)
    (two_digits 48 (slice_index text 11))
    else None

-- The text spells this date, which exists.
abbrev pub SpellsDate : List ℕ → Date → Type 0
SpellsDate text date = (written_date text ≡ Some date) × IsDate date

-- The text spells this date, and a DATE can be it.
abbrev pub IsParsedDate : List ℕ → Date → Type 0
IsParsedDate text date = (written_date text ≡ Some date) × IsDayNumber date

-- The text spells this time of day.
abbrev pub IsParsedClock : List ℕ → ℕ → Type 0
IsParsedClock text clock = (written_clock text ≡ Some clock) × (clock < 86400000)

-- Why a text is not a DATE: it spells no date that exists, or one before 1972-01-01 or after 2151-06-06.
abbrev pub IsDateFault : List ℕ → ParseFault → Type 0
IsDateFault text faults.Form = (date : Date) → SpellsDate text date → ⊥
IsDateFault text faults.Range = (date : Date) × (SpellsDate text date × (IsDayNumber date → ⊥))

-- Why a text is not a TIME_OF_DAY: it spells none, or has more than 23 hours.
abbrev pub IsClockFault : List ℕ → ParseFault → Type 0
IsClockFault text faults.Form = written_clock text ≡ None
IsClockFault text faults.Range = (clock : ℕ) × ((written_clock text ≡ Some clock) × (86400000 ≤ clock))

-- The texts of a date and of a time of day.
abbrev pub IsParsedInstant : List ℕ → List ℕ → Value → Type 0
IsParsedInstant first second (Instant date clock) = IsParsedDate first date × IsParsedClock second clock
IsParsedInstant first second value = ⊥

-- Why two texts are not a date and a time of day. Neither is out of range if one has not its form.
abbrev pub IsInstantFault : List ℕ → List ℕ → ParseFault → Type 0
IsInstantFault first second faults.Form = IsDateFault first faults.Form ⊎ IsClockFault second faults.Form
IsInstantFault first second faults.Range = IsDateFault first faults.Range ⊎ IsClockFault second faults.Range
