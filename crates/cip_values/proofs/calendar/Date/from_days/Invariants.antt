use Rattle.std.proofs.Common.{◌≡◌, ℕ, ◌+◌, ◌-◌, ◌*◌, ◌≤◌}
use Rattle.cip_values.specs.Calendar.{days_before_year}
use Rattle.cip_values.proofs.CalendarLemmas.{InMonth}
use Rattle.cip_values.proofs.calendar.Date.from_days.Given as goal

pub record InYear (year rest days : ℕ) : Type 0 where
  pub since : 1972 ≤ year
  pub sum : days_before_year year + rest ≡ days
  pub few : 365 * (year - 1972) + rest ≤ days

abbrev pub invariant-years : goal.invariant-years
invariant-years l = InYear l.year l.rest l.fn.days

abbrev pub decreases-years : goal.decreases-years
decreases-years l = l.rest

abbrev pub invariant-months : goal.invariant-months
invariant-months l = InMonth l.year l.month l.rest l.fn.days

abbrev pub decreases-months : goal.decreases-months
decreases-months l = l.rest
