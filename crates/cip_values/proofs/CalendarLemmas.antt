-- Day numbers and dates.
use Rattle.std.proofs.Common.{◌≡◌, ℕ, zero, suc, ◌+◌, ◌-◌, ◌<◌, ◌≤◌, Bool, true, false, refl, sym, ap, subst, ◌∙◌, arith, inl, inr, if◌then◌else◌}
use Rattle.std.proofs.lemmas.Bool.{cases_lt}
use Rattle.cip_values.specs.Calendar.{is_leap, year_length, month_length, sum_below, days_before_year, days_before_month, days_of, IsDate, IsDayNumber}
use Rattle.cip_values.specs.declared.calendar.Date.{Date}

-- one more year, and one more month
pub year_step : (year : ℕ) → 1972 ≤ year → days_before_year (year + 1) ≡ days_before_year year + year_length year
year_step year h =
    let n : year + 1 - 1972 ≡ suc (year - 1972) = omega arith in
    let back : 1972 + (year - 1972) ≡ year = omega arith in
    ap (sum_below (λ (k : ℕ). year_length (1972 + k))) n
    ∙ ap (λ (y : ℕ). sum_below (λ (k : ℕ). year_length (1972 + k)) (year - 1972) + year_length y) back

pub month_step : (year month : ℕ) → 1 ≤ month → days_before_month year (month + 1) ≡ days_before_month year month + month_length year month
month_step year month h =
    let n : month + 1 - 1 ≡ suc (month - 1) = omega arith in
    let back : 1 + (month - 1) ≡ month = omega arith in
    ap (sum_below (λ (k : ℕ). month_length year (1 + k))) n
    ∙ ap (λ (m : ℕ). sum_below (λ (k : ℕ). month_length year (1 + k)) (month - 1) + month_length year m) back

year_at_least : (b : Bool) → 365 ≤ (if b then 366 else 365)
year_at_least true = omega arith
year_at_least false = omega arith

year_at_most : (b : Bool) → (if b then 366 else 365) ≤ 366
year_at_most true = omega arith
year_at_most false = omega arith

pub year_bounds : (year : ℕ) → (365 ≤ year_length year) × (year_length year ≤ 366)
year_bounds year = (year_at_least (is_leap year), year_at_most (is_leap year))

-- the twelve months are the year
all_months : (b : Bool) → (31 + (if b then 29 else 28)) + 306 ≡ (if b then 366 else 365)
all_months true = refl
all_months false = refl

pub months_of_year : (year : ℕ) → days_before_month year 13 ≡ year_length year
months_of_year year = let e = all_months (is_leap year) in omega (arith, e)

-- a month of a year, and the days that are left from its first one on
pub record InMonth (year month rest days : ℕ) : Type 0 where
  pub since : 1972 ≤ year
  pub low : 1 ≤ month
  pub high : month ≤ 12
  pub sum : days_before_year year + (days_before_month year month + rest) ≡ days
  pub few : days_before_month year month + rest < year_length year

-- the next month, if the days go beyond this one
pub month_more : (year month rest days length : ℕ) → InMonth year month rest days → length ≡ month_length year month → length ≤ rest
    → InMonth year (month + 1) (rest - length) days
month_more year month rest days length h is past =
    let step = month_step year month h.low in
    let high : month + 1 ≤ 12 = elim (cases_lt month 12) [
      | inl lt ↦ omega arith
      | inr ge ↦
          let last : month ≡ 12 = omega arith in
          let whole : days_before_month year (month + 1) ≡ year_length year =
          ap (λ (m : ℕ). days_before_month year (m + 1)) last ∙ months_of_year year in
          let few = h.few in
          absurd (omega (arith, step, whole, few, is))
    ] in
    record {
      since = h.since;
      low = omega arith;
      high = high;
      sum = let e = h.sum in omega (arith, step, e, is);
      few = let e = h.few in omega (arith, step, e, is);
    }

-- ---- a day number is that of one date

-- a sum with more terms
sum_more : (f : ℕ → ℕ) (m n : ℕ) → m < n → sum_below f m + f m ≤ sum_below f n
sum_more f m zero h = absurd (omega arith)
sum_more f m (suc n) h = elim (cases_lt m n) [
  | inl lt ↦ let before = sum_more f m n lt in omega arith
  | inr ge ↦
      let same : n ≡ m = omega arith in
      subst (λ (k : ℕ). sum_below f m + f m ≤ sum_below f k + f k) (sym same) (omega arith)
]

-- a later year begins after the end of an earlier one, and a later month after the end of an earlier one
years_apart : (y z : ℕ) → 1972 ≤ y → y < z → days_before_year y + year_length y ≤ days_before_year z
years_apart y z since h =
    let more = sum_more (λ (k : ℕ). year_length (1972 + k)) (y - 1972) (z - 1972) (omega arith) in
    let back : 1972 + (y - 1972) ≡ y = omega arith in
    subst (λ (k : ℕ). days_before_year y + year_length k ≤ days_before_year z) back more

months_apart : (year m n : ℕ) → 1 ≤ m → m < n → days_before_month year m + month_length year m ≤ days_before_month year n
months_apart year m n low h =
    let more = sum_more (λ (k : ℕ). month_length year (1 + k)) (m - 1) (n - 1) (omega arith) in
    let back : 1 + (m - 1) ≡ m = omega arith in
    subst (λ (k : ℕ). days_before_month year m + month_length year k ≤ days_before_month year n) back more

-- a date is within its year, and within its month
within_year : (d : Date) → IsDate d → days_before_month d.year d.month + (d.day - 1) < year_length d.year
within_year d h =
    let high = h.last_month in
    let months = months_apart d.year d.month 13 h.first_month (omega arith) in
    let whole = months_of_year d.year in
    let first = h.first_day in
    let last = h.last_day in
    omega (arith, months, whole, first, last)

earlier_year : (d e : Date) → IsDayNumber d → IsDate e → d.year < e.year → days_of d < days_of e
earlier_year d e hd he lt =
    let apart = years_apart d.year e.year hd.first lt in
    let within = within_year d hd.exists in
    omega (arith, apart, within)

earlier_month : (year m n i j : ℕ) → 1 ≤ m → 1 ≤ i → i ≤ month_length year m → m < n
    → days_before_month year m + (i - 1) < days_before_month year n + (j - 1)
earlier_month year m n i j low first last lt =
    let apart = months_apart year m n low lt in
    omega (arith, apart, first, last)

same_month : (year m n i j : ℕ) → 1 ≤ m → 1 ≤ n → 1 ≤ i → 1 ≤ j → i ≤ month_length year m → j ≤ month_length year n
    → days_before_month year m + (i - 1) ≡ days_before_month year n + (j - 1) → (m ≡ n) × (i ≡ j)
same_month year m n i j lm ln li lj hi hj e = elim (cases_lt m n) [
  | inl lt ↦ let less = earlier_month year m n i j lm li hi lt in absurd (omega (arith, less, e))
  | inr ge ↦ elim (cases_lt n m) [
    | inl gt ↦ let less = earlier_month year n m j i ln lj hj gt in absurd (omega (arith, less, e))
    | inr le ↦
        let same : m ≡ n = omega arith in
        let days : days_before_month year n + (i - 1) ≡ days_before_month year n + (j - 1) =
        subst (λ (k : ℕ). days_before_month year k + (i - 1) ≡ days_before_month year n + (j - 1)) same e in
        (same, omega (arith, days, li, lj))
  ]
]

date_with : (y m d : ℕ) → Date
date_with y m d = record { year = y; month = m; day = d }

same_parts : (a b c x y z : ℕ) → a ≡ x → b ≡ y → c ≡ z → date_with a b c ≡ date_with x y z
same_parts a b c x y z e f g = cc

pub same_date : (d e : Date) → IsDayNumber d → IsDayNumber e → days_of d ≡ days_of e → d ≡ e
unfolding date_with
same_date d e hd he same = elim (cases_lt d.year e.year) [
  | inl lt ↦ let less = earlier_year d e hd he.exists lt in absurd (omega (arith, less, same))
  | inr ge ↦ elim (cases_lt e.year d.year) [
    | inl gt ↦ let less = earlier_year e d he hd.exists gt in absurd (omega (arith, less, same))
    | inr le ↦
        let year : e.year ≡ d.year = omega arith in
        let long : e.day ≤ month_length d.year e.month =
        subst (λ (y : ℕ). e.day ≤ month_length y e.month) year he.exists.last_day in
        let days : days_before_year d.year + days_before_month d.year d.month + (d.day - 1)
        ≡ days_before_year d.year + days_before_month d.year e.month + (e.day - 1) =
        same ∙ ap (λ (y : ℕ). days_before_year y + days_before_month y e.month + (e.day - 1)) year in
        let rest = same_month d.year d.month e.month d.day e.day hd.exists.first_month he.exists.first_month
        hd.exists.first_day he.exists.first_day hd.exists.last_day long (omega (arith, days)) in
        same_parts d.year d.month d.day e.year e.month e.day (sym year) rest.0 rest.1
  ]
]
