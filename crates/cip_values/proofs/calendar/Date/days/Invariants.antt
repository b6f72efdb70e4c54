use Rattle.std.proofs.Common.{◌≡◌, ℕ, ◌+◌, ◌-◌, ◌*◌, ◌≤◌}
use Rattle.cip_values.specs.Calendar.{days_before_year, days_before_month}
use Rattle.cip_values.proofs.calendar.Date.days.Given as goal

pub record YearSum (year day days : ℕ) : Type 0 where
  pub since : 1972 ≤ year
  pub sum : days ≡ days_before_year year + (day - 1)
  pub few : days ≤ 366 * (year - 1972) + day

pub record MonthSum (year month day days : ℕ) : Type 0 where
  pub low : 1 ≤ month
  pub sum : days ≡ days_before_year year + days_before_month year month + (day - 1)
  pub few : days ≤ 366 * (year - 1972) + day + 255 * month

abbrev pub invariant-loop-year : goal.invariant-loop-year
invariant-loop-year l = YearSum l.year l.fn.self.day l.days

abbrev pub invariant-loop-month : goal.invariant-loop-month
invariant-loop-month l = MonthSum l.fn.self.year l.month l.fn.self.day l.days
