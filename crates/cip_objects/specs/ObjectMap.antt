-- The object map: the value of each attribute of each instance of each class, as bytes (Volume 1, object model: a
-- class, an instance and an attribute ID name one value).
use Rattle.std.specs.Prelude.{ℕ, List}
use Rattle.std.specs.declared.cmp.Ordering.{Ordering}
use Rattle.std.specs.Ordering.{nat_cmp, ordering_then}
use Rattle.std.specs.FinMap.{FinMap}

pub record Key : Type 0 where
  pub class : ℕ
  pub instance : ℕ
  pub attribute : ℕ

abbrev pub key : ℕ → ℕ → ℕ → Key
key class instance attribute = record { class = class; instance = instance; attribute = attribute }

-- Keys are ordered by class, then instance, then attribute.
abbrev pub key_cmp : Key → Key → Ordering
key_cmp a b =
    ordering_then (nat_cmp a.class b.class)
    (ordering_then (nat_cmp a.instance b.instance) (nat_cmp a.attribute b.attribute))

abbrev pub ObjectMap : Type 0
ObjectMap = FinMap key_cmp (List ℕ)
