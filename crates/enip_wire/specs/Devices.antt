use Rattle.std.specs.Prelude.{ℕ, Result, Ok, Err}

-- How many failures a call adds.
abbrev pub failures_in : {A E : Type 0} → Result A E → ℕ
failures_in (Ok x) = 0
failures_in (Err e) = 1

-- How many bytes a call moved. A failed call moves none.
abbrev pub moved : {E : Type 0} → Result ℕ E → ℕ
moved (Ok n) = n
moved (Err e) = 0
