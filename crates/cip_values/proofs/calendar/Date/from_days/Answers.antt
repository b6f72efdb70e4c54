use Rattle.std.proofs.Common.{rules}
use Rattle.cip_values.proofs.CalendarLemmas.{month_more}
use Rattle.cip_values.proofs.calendar.Date.from_days.Goals as goal

pub months-preserved : goal.months-preserved
months-preserved c =
    month_more c.years.year c.months.month c.months.rest c.args.days c.from-rest.result c.months.invariant (search rules) (search rules)
