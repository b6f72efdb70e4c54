-- Two lists of entries, compared one by one.
use Rattle.std.proofs.Common.{◌≡◌, ℕ, zero, suc, ◌+◌, ◌==◌, ◌&&◌, Bool, true, false, List, [], ◌∷◌, drop, Option, Some, None, refl, sym, ap, ap₂, ◌∙◌, arith}
use Rattle.std.specs.Prelude.{slice_get, bytes_eq, ◌↔◌, is_some, not}
use Rattle.std.proofs.lemmas.Bool.{eqb-true, eq-eqb, and_parts}
use Rattle.std.proofs.lemmas.Slice.Eq.{bytes_eq-Decides}
use Rattle.enip_keep.specs.Kept.{Kept}
use Rattle.saved_state.specs.States.{Entry}
use Rattle.saved_adapter.specs.Entries.{entry_of, entry_in, entries_of, kept_in, are_same}

-- ---- one entry more

abbrev same_at : Entry → Entry → List Entry → List Entry → Bool
same_at e f es fs = (e.key == f.key) && (bytes_eq e.bytes f.bytes && are_same es fs)

and_false : (b : Bool) → b && false ≡ false
and_false true = refl
and_false false = refl

pub same_more : (es : List Entry) (i next key : ℕ) (bytes : List ℕ) (f : Entry) (fs : List Entry) → next ≡ i + 1
    → entry_in (Some key) bytes ≡ slice_get es i → (key == f.key) ≡ true → bytes_eq bytes f.bytes ≡ true
    → are_same (drop next es) fs ≡ are_same (drop i es) (f ∷ fs)
same_more [] i next key bytes f fs n e k b = absurd (cc)
same_more (x ∷ es) zero next key bytes f fs n e k b =
    let same : entry_of (key, bytes) ≡ x = cc in
    let one : next ≡ suc zero = omega (arith, n) in
    ap (λ m. are_same (drop m (x ∷ es)) fs) one
    ∙ sym (ap (λ y. same_at y f es fs) (sym same) ∙ ap (λ t. t && (bytes_eq bytes f.bytes && are_same es fs)) k
    ∙ ap (λ t. t && are_same es fs) b)
same_more (x ∷ es) (suc i) next key bytes f fs n e k b =
    let more : next ≡ suc (i + 1) = omega (arith, n) in
    ap (λ m. are_same (drop m (x ∷ es)) fs) more ∙ same_more es i (i + 1) key bytes f fs refl e k b

pub other_none : (es : List Entry) (i : ℕ) (bytes : List ℕ) (f : Entry) (fs : List Entry)
    → entry_in None bytes ≡ slice_get es i → are_same (drop i es) (f ∷ fs) ≡ false
other_none [] zero bytes f fs e = refl
other_none [] (suc i) bytes f fs e = refl
other_none (x ∷ es) zero bytes f fs e = absurd (cc)
other_none (x ∷ es) (suc i) bytes f fs e = other_none es i bytes f fs e

pub other_key : (es : List Entry) (i key : ℕ) (bytes : List ℕ) (f : Entry) (fs : List Entry)
    → entry_in (Some key) bytes ≡ slice_get es i → (key == f.key) ≡ false → are_same (drop i es) (f ∷ fs) ≡ false
other_key [] i key bytes f fs e k = absurd (cc)
other_key (x ∷ es) zero key bytes f fs e k =
    let same : entry_of (key, bytes) ≡ x = cc in
    ap (λ y. same_at y f es fs) (sym same) ∙ ap (λ t. t && (bytes_eq bytes f.bytes && are_same es fs)) k
other_key (x ∷ es) (suc i) key bytes f fs e k = other_key es i key bytes f fs e k

pub other_bytes : (es : List Entry) (i key : ℕ) (bytes : List ℕ) (f : Entry) (fs : List Entry)
    → entry_in (Some key) bytes ≡ slice_get es i → bytes_eq bytes f.bytes ≡ false
    → are_same (drop i es) (f ∷ fs) ≡ false
other_bytes [] i key bytes f fs e b = absurd (cc)
other_bytes (x ∷ es) zero key bytes f fs e b =
    let same : entry_of (key, bytes) ≡ x = cc in
    ap (λ y. same_at y f es fs) (sym same) ∙ ap (λ t. (key == f.key) && (t && are_same es fs)) b
    ∙ and_false (key == f.key)
other_bytes (x ∷ es) (suc i) key bytes f fs e b = other_bytes es i key bytes f fs e b

pub same_end : (es : List Entry) (i : ℕ) (r : Option ℕ) (bytes : List ℕ) (result : Bool)
    → entry_in r bytes ≡ slice_get es i → is_some r ≡ not result → result ≡ are_same (drop i es) []
same_end [] zero None bytes true e is = refl
same_end [] (suc i) None bytes true e is = refl
same_end es i None bytes false e is = absurd (cc)
same_end [] i (Some key) bytes result e is = absurd (cc)
same_end (x ∷ es) zero None bytes true e is = absurd (cc)
same_end (x ∷ es) zero (Some key) bytes false e is = refl
same_end es i (Some key) bytes true e is = absurd (cc)
same_end (x ∷ es) (suc i) r bytes result e is = same_end es i r bytes result e is

-- ---- the same entries

equal : (e f : Entry) → e.key ≡ f.key → e.bytes ≡ f.bytes → e ≡ f
equal e f k b = ap₂ (λ key bytes. entry_of (key, bytes)) k b

same_to : (es fs : List Entry) → are_same es fs ≡ true → es ≡ fs
same_to [] [] is = refl
same_to [] (f ∷ fs) is = absurd (cc)
same_to (e ∷ es) [] is = absurd (cc)
same_to (e ∷ es) (f ∷ fs) is =
    let key = and_parts (e.key == f.key) (bytes_eq e.bytes f.bytes && are_same es fs) is in
    let rest = and_parts (bytes_eq e.bytes f.bytes) (are_same es fs) key.1 in
    ap₂ (λ x xs. x ∷ xs)
    (equal e f (eqb-true e.key f.key key.0) ((bytes_eq-Decides e.bytes f.bytes).0 rest.0)) (same_to es fs rest.1)

same_itself : (es : List Entry) → are_same es es ≡ true
same_itself [] = refl
same_itself (e ∷ es) =
    ap (λ t. t && (bytes_eq e.bytes e.bytes && are_same es es)) (eq-eqb e.key e.key refl)
    ∙ ap (λ t. t && are_same es es) ((bytes_eq-Decides e.bytes e.bytes).1 refl) ∙ same_itself es

pub same_exactly : (es fs : List Entry) → (are_same es fs ≡ true) ↔ (es ≡ fs)
same_exactly es fs = (same_to es fs, λ is. ap (are_same es) (sym is) ∙ same_itself es)

pub given_back : (kept : Kept) → kept_in (entries_of kept) ≡ kept
given_back [] = refl
given_back (p ∷ kept) = ap (λ ps. p ∷ ps) (given_back kept)
