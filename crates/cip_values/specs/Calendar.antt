-- Dates of the Gregorian calendar, and times of day.
use Rattle.std.specs.Prelude.{◌<◌, ◌≤◌, ◌==◌, ◌+◌, ◌-◌, ◌%◌, ◌^◌, ◌&&◌, ◌||◌, not, ℕ, zero, suc, Bool, if◌then◌else◌}
use Rattle.cip_values.specs.declared.calendar.Date.{Date}

abbrev pub is_leap : ℕ → Bool
is_leap year = (year % 4 == 0) && (not (year % 100 == 0) || (year % 400 == 0))

-- The days of a year.
abbrev pub year_length : ℕ → ℕ
year_length year = if is_leap year then 366 else 365

-- The days of a month, from 1 for January to 12 for December.
abbrev pub month_length : ℕ → ℕ → ℕ
month_length year month =
    if month == 2 then (if is_leap year then 29 else 28)
    else (if month == 4 || month == 6 || month == 9 || month == 11 then 30 else 31)

-- The sum of f over the numbers below n.
abbrev pub sum_below : (ℕ → ℕ) → ℕ → ℕ
sum_below f zero = 0
sum_below f (suc n) = sum_below f n + f n

-- The days from 1972-01-01 to the first of January.
abbrev pub days_before_year : ℕ → ℕ
days_before_year year = sum_below (λ k. year_length (1972 + k)) (year - 1972)

-- The days of the year before a month.
abbrev pub days_before_month : ℕ → ℕ → ℕ
days_before_month year month = sum_below (λ k. month_length year (1 + k)) (month - 1)

-- The days since 1972-01-01.
abbrev pub days_of : Date → ℕ
days_of date = days_before_year date.year + days_before_month date.year date.month + (date.day - 1)

-- The month and the day exist.
pub record IsDate (date : Date) : Type 0 where
  pub first_month : 1 ≤ date.month
  pub last_month : date.month ≤ 12
  pub first_day : 1 ≤ date.day
  pub last_day : date.day ≤ month_length date.year date.month

-- The date exists, and its day number is one of 16 bits: 1972-01-01 to 2151-06-06.
pub record IsDayNumber (date : Date) : Type 0 where
  pub exists : IsDate date
  pub first : 1972 ≤ date.year
  pub last : days_of date < 2 ^ 16
