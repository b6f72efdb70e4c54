-- The key and the path of an open request: one is read if and only if the bytes spell it.
use Rattle.std.proofs.Common.{◌≡◌, ◌↔◌, ℕ, Bool, true, false, cond, eqb, ltb, length, arith, List, [], ◌∷◌, ◌++◌, slice_index, take, drop, Option, Some, None, Result, Ok, Err, refl, sym, ap, subst, ◌∙◌, inl, inr}
use Rattle.std.specs.Prelude.{IfSome}
use Rattle.std.proofs.lemmas.Bool.{eqb-true, le-ltb}
use Rattle.std.proofs.lemmas.List.{take-append-drop}
use Rattle.cip_message.specs.declared.path.Path.{Path}
use Rattle.cip_message.specs.declared.path.PathFault.{PathFault}
use Rattle.cip_message.specs.declared.key.Key.{Key}
use Rattle.cip_message.specs.declared.open_path.OpenPath.{OpenPath}
use Rattle.cip_message.specs.Path.{IsPath}
use Rattle.cip_message.specs.PathReading.{segment_of, class_of, path_of}
use Rattle.cip_message.specs.Key.{IsKey, key, key_of}
use Rattle.cip_message.specs.OpenPath.{key_text, IsOpenPath, with_key, path_after_key, open_path_of}
use Rattle.cip_bytes.specs.Numbers.{AreBytes}
use Rattle.cip_bytes.proofs.Bytes.{AreBytes-take, AreBytes-drop}
use Rattle.cip_bytes.proofs.Steps.{chosen}
use Rattle.cip_message.proofs.Paths.{path_spelled, path_again}
use Rattle.cip_message.proofs.Keys.{key_taken, key_again}

abbrev made : Option Key → Path → OpenPath
made k p = record { key = k; path = p }

with_key_some : (k : Option Key) (r : Result Path PathFault) (o : OpenPath) → with_key k r ≡ Some o → (p : Path) × (r ≡ Ok p) × (made k p ≡ o)
with_key_some k (Ok p) o e = (p, refl, cc)
with_key_some k (Err f) o e = absurd cc

behind_key_some : (k : Option Key) (b : List ℕ) (o : OpenPath) → path_after_key k b ≡ Some o → (j : Key) × (k ≡ Some j) × (with_key (Some j) (path_of b) ≡ Some o)
behind_key_some None b o e = absurd cc
behind_key_some (Some j) b o e = (j, refl, e)

long : (t : Bool) (r : Option OpenPath) (o : OpenPath) → cond t None r ≡ Some o → r ≡ Some o
long true r o e = absurd cc
long false r o e = e

taken : (b : List ℕ) (o : OpenPath) → AreBytes b → open_path_of b ≡ Some o → IsOpenPath o b
unfolding open_path_of
taken b o fits e =
    elim (chosen (eqb (slice_index b 0) 0x34) (cond (ltb (length b) 10) None (path_after_key (key_of (take 10 b)) (drop 10 b))) (with_key None (path_of b)) (Some o) e) [
      | inl h ↦
          let k = behind_key_some (key_of (take 10 b)) (drop 10 b) o (long (ltb (length b) 10) (path_after_key (key_of (take 10 b)) (drop 10 b)) o h.1) in
          let p = with_key_some (Some k.0) (path_of (drop 10 b)) o k.2 in
          let key_is = key_taken (take 10 b) k.0 (AreBytes-take 10 b fits) k.1 in
          subst (λ (x : OpenPath). IsOpenPath x b) p.2
          (record {
            key = key_is.0;
            rest = drop 10 b;
            path = path_spelled (drop 10 b) p.0 (AreBytes-drop 10 b fits) p.1;
            spelled = sym (take-append-drop 10 b) ∙ ap (λ (t : List ℕ). t ++ drop 10 b) key_is.1;
          })
      | inr h ↦
          let p = with_key_some None (path_of b) o h.1 in
          subst (λ (x : OpenPath). IsOpenPath x b) p.2 (record { key = tt; rest = b; path = path_spelled b p.0 fits p.1; spelled = refl })
    ]

-- the first byte of a key begins no path
key_byte_refused : (c : List ℕ) (p : Path) → slice_index c 0 ≡ 0x34 → path_of c ≡ Ok p → ⊥
unfolding path_of class_of segment_of
key_byte_refused [] p q f = cc
key_byte_refused (x ∷ xs) p q f = (let g : path_of (0x34 ∷ xs) ≡ Ok p = ap (λ (y : ℕ). path_of (y ∷ xs)) (sym q) ∙ f in cc)

no_path_test : (b : List ℕ) (p : Path) (t : Bool) → path_of b ≡ Ok p → eqb (slice_index b 0) 0x34 ≡ t → t ≡ false
no_path_test b p true e q = absurd (key_byte_refused b p (eqb-true (slice_index b 0) 0x34 q) e)
no_path_test b p false e q = refl

no_path : (b : List ℕ) (p : Path) → path_of b ≡ Ok p → eqb (slice_index b 0) 0x34 ≡ false
no_path b p e = no_path_test b p (eqb (slice_index b 0) 0x34) e refl

read_again : (k : Option Key) (p : Path) (rest : List ℕ) → IfSome k IsKey → IsPath p rest → open_path_of (key_text k ++ rest) ≡ Some (made k p)
unfolding open_path_of
read_again None p rest tt_ h =
    let read = path_again rest p h in
    rw (no_path rest p read, read) refl
read_again (Some k) p rest is h =
    let ten : ltb (length (key k ++ rest)) 10 ≡ false = le-ltb _ _ (omega arith) in
    rw (ten, key_again k is, path_again rest p h) refl

pub open_path_iff : (b : List ℕ) (r : Option OpenPath) → AreBytes b → r ≡ open_path_of b → (o : OpenPath) → (r ≡ Some o) ↔ IsOpenPath o b
open_path_iff b r fits e o = ((λ q. taken b o fits (sym e ∙ q)), (λ h. e ∙ ap open_path_of h.spelled ∙ read_again o.key o.path h.rest h.key h.path))
