-- What was written if it fits.
use Rattle.std.proofs.Common.{◌≡◌, true, false, Result, Ok, Err}
use Rattle.std.specs.Prelude.{IsOk, OnOk}

-- a clause on success holds in case of success
pub where_ok : {A E P : Type 0} (r : Result A E) → IsOk r → OnOk r P → P
where_ok (Ok x) is p = p
where_ok (Err e) is p = let no : false ≡ true = is in cc
