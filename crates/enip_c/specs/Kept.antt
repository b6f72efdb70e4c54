-- What C keeps of an object of the library.
use Rattle.std.specs.Prelude.{Option, Some, None, ⊤}
use base.Fml.{Fml, ftrue}
use denote.RattleType.{RattleType}
use denote.RawPtr.{Ptr}
use Rattle.libc.specs.Heap.{chunk}
use Rattle.std_alloc.specs.Box.Ownership.{box_owns}

-- There is an object: it was made and has not been freed.
abbrev pub IsLive : {A : Type 0} → Option A → Type 0
IsLive None = ⊥
IsLive (Some x) = ⊤

-- Owns the object at the pointer, in a block of the heap; owns nothing if there is none.
abbrev pub kept_owns : (R : RattleType) → Ptr → Option R.Denot → Fml
kept_owns R p None = ftrue
kept_owns R p (Some x) = box_owns chunk R p x
