-- The IDs of an index rise.
use Rattle.std.proofs.Common.{ℕ, zero, suc, ◌<◌, List, [], ◌∷◌, ◌++◌, length, arith}
use Rattle.std.specs.Prelude.{slice_index}
use Rattle.std.specs.List.{AllByRecursion, remove}
use Rattle.cip_manager.specs.declared.index.Entry.{Entry}
use Rattle.cip_manager.specs.Index.{ids, Rises}

each-push : (P : ℕ → Type 0) (entries : List Entry) (last : Entry) → AllByRecursion P (ids entries) → P last.id → AllByRecursion P (ids (entries ++ last ∷ []))
each-push P [] last all p = (p, tt)
each-push P (entry ∷ entries) last all p = (all.0, each-push P entries last all.1 p)

each-remove : (P : ℕ → Type 0) (entries : List Entry) (i : ℕ) → AllByRecursion P (ids entries) → AllByRecursion P (ids (remove entries i))
each-remove P [] zero all = tt
each-remove P [] (suc i) all = tt
each-remove P (entry ∷ entries) zero all = all.1
each-remove P (entry ∷ entries) (suc i) all = (all.0, each-remove P entries i all.1)

pub each-at : (P : ℕ → Type 0) (ns : List ℕ) (i : ℕ) → AllByRecursion P ns → i < length ns → P (slice_index ns i)
each-at P [] i all h = absurd (omega arith)
each-at P (n ∷ ns) zero all h = all.0
each-at P (n ∷ ns) (suc i) all h = each-at P ns i all.1 (omega arith)

-- an ID above the others goes to the end
pub Rises-push : (entries : List Entry) (last : Entry) → Rises (ids entries) → AllByRecursion (λ other. other < last.id) (ids entries) → Rises (ids (entries ++ last ∷ []))
Rises-push [] last rises below = (tt, tt)
Rises-push (entry ∷ entries) last rises below =
    (each-push (λ later. entry.id < later) entries last rises.0 below.0, Rises-push entries last rises.1 below.1)

-- entries after a removed one move up
pub Rises-remove : (entries : List Entry) (i : ℕ) → Rises (ids entries) → Rises (ids (remove entries i))
Rises-remove [] zero rises = tt
Rises-remove [] (suc i) rises = tt
Rises-remove (entry ∷ entries) zero rises = rises.1
Rises-remove (entry ∷ entries) (suc i) rises =
    (each-remove (λ later. entry.id < later) entries i rises.0, Rises-remove entries i rises.1)

-- of two positions the later one has the greater number
pub Rises-at : (ns : List ℕ) (i j : ℕ) → Rises ns → i < j → j < length ns → slice_index ns i < slice_index ns j
Rises-at [] i j rises h k = absurd (omega arith)
Rises-at (n ∷ ns) zero zero rises h k = absurd (omega arith)
Rises-at (n ∷ ns) zero (suc j) rises h k = each-at (λ later. n < later) ns j rises.0 (omega arith)
Rises-at (n ∷ ns) (suc i) zero rises h k = absurd (omega arith)
Rises-at (n ∷ ns) (suc i) (suc j) rises h k = Rises-at ns i j rises.1 (omega arith) (omega arith)
