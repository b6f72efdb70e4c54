-- The rows of entries can be stored.
use Rattle.std.proofs.Common.{◌≡◌, ◌≤◌, ◌<◌, ◌+◌, ◌^◌, ℕ, ℤ, pos, negsuc, List, [], ◌∷◌, length, refl, sym, subst, arith}
use Rattle.std.proofs.lemmas.Nat.Bits.{bit_at-zero}
use Rattle.std.proofs.lemmas.List.Elements.{All-from_recursion}
use Rattle.std.specs.Float.{NotNan}
use lib.Ieee.{is_nan}
use Rattle.sqlite_value.specs.declared.value.Value.{Value}
use Rattle.sqlite_value.specs.declared.value.Value.TheVariants.{Null, Int, Blob}
use Rattle.sqlite_value.specs.Order.{number}
use Rattle.sqlite_trees.specs.View.{IsStorableRow}
use Rattle.enip_keep_sqlite.specs.Pairs.{row_of}

pub storable : (p : ℕ × List ℕ) → length p.1 < 2 ^ 16 → IsStorableRow 0 (row_of p)
unfolding is_nan
storable p short =
    let P : Value → Type 0 = λ x. NotNan (number x) in (
      record {
        typed = λ c set. absurd (omega (arith, bit_at-zero c, set));
        columns = (omega arith, omega arith);
        numbers = All-from_recursion P (row_of p) (tt, (tt, (tt, tt)));
        short = omega (arith, short);
      },
      omega arith,
    )

-- in a table without a column of the type REAL
pub storable_in : (reals : ℕ) (p : ℕ × List ℕ) → reals ≡ 0 → length p.1 < 2 ^ 16 → IsStorableRow reals (row_of p)
storable_in reals p none short = subst (λ r. IsStorableRow r (row_of p)) (sym none) (storable p short)
