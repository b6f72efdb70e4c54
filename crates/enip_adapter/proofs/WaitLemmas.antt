-- Between calls, the reader of an open peer holds neither a whole frame nor a header whose length is over the limit.
use Rattle.std.proofs.Common.{ℕ, zero, suc, ◌<◌, List, [], ◌∷◌, ◌++◌, length, take, drop, All, inl, inr, append-nil, subst, arith}
use Rattle.std.specs.Prelude.{remove}
use Rattle.std.proofs.lemmas.List.Elements.{All-nil, All-cons, All-append, All-take, All-drop}
use Rattle.enip_wire.specs.Frames.{IsComplete}
use Rattle.enip_wire.specs.Stream.{Takes}

-- a piece that is not empty is taken in part at least
pub some_taken : (held piece : List ℕ) (n : ℕ) → (IsComplete held → ⊥) → Takes held piece n → 0 < length piece → 0 < n
some_taken held piece (suc n) running takes some = omega arith
some_taken held piece zero running takes some =
    elim takes.ends [
      | inl stops ↦ absurd (running (subst IsComplete (append-nil held) stops))
      | inr whole ↦ omega (arith, whole, some)
    ]

pub All-remove : {X : Type 0} → (P : X → Type 0) (xs : List X) (i : ℕ) → All P xs → All P (remove xs i)
All-remove P xs i all = All-append P (take i xs) (drop (suc i) xs) (All-take P i xs all) (All-drop P (suc i) xs all)

pub All-one_more : {X : Type 0} → (P : X → Type 0) (xs : List X) (x : X) → All P xs → P x → All P (xs ++ x ∷ [])
All-one_more P xs x all one = All-append P xs (x ∷ []) all (All-cons P x [] one (All-nil P))
