-- Reading and writing the object map, entry by entry.
use Rattle.std.proofs.Common.{◌≡◌, ℕ, eqb, Bool, true, false, cond, ◌&&◌, List, [], ◌∷◌, ◌++◌, Option, Some, None, refl, sym, ap, ◌∙◌}
use Rattle.std.specs.Option.{option_or}
use Rattle.std.specs.declared.cmp.Ordering.{Ordering}
use Rattle.std.specs.declared.cmp.Ordering.TheVariants.{Less, Equal, Greater}
use Rattle.std.specs.Ordering.{nat_cmp, ordering_then, is_eq, eq_by_cmp}
use Rattle.std.specs.Cmp.{IsTotalOrder, nat_cmp_total, then_total, on_total, unsigned_tied}
use Rattle.std.proofs.lemmas.Bool.{eqb-true}
use Rattle.std.specs.FinMap.{find, insert, from_entries, get-insert, get-from_entries, same_map, IsAntisymmetric}
use Rattle.cip_objects.specs.ObjectMap.{Key, key, key_cmp}
use Rattle.cip_objects.specs.Entries.{Entries, Attributes, entries_at, attribute_in}

pub key_total : IsTotalOrder key_cmp
key_total =
    then_total (on_total (λ k. k.class) nat_cmp_total) (then_total (on_total (λ k. k.instance) nat_cmp_total) (on_total (λ k. k.attribute) nat_cmp_total))

is_eq-then : (a b : Ordering) → is_eq (ordering_then a b) ≡ is_eq a && is_eq b
is_eq-then Less b = refl
is_eq-then Equal b = refl
is_eq-then Greater b = refl

-- two keys compare equal if all three numbers are equal
pub tied : (q k : Key) → eq_by_cmp key_cmp q k ≡ eqb q.class k.class && (eqb q.instance k.instance && eqb q.attribute k.attribute)
tied q k =
    is_eq-then (nat_cmp q.class k.class) (ordering_then (nat_cmp q.instance k.instance) (nat_cmp q.attribute k.attribute))
    ∙ ap (λ b. is_eq (nat_cmp q.class k.class) && b) (is_eq-then (nat_cmp q.instance k.instance) (nat_cmp q.attribute k.attribute))
    ∙ ap (λ b. b && (is_eq (nat_cmp q.instance k.instance) && is_eq (nat_cmp q.attribute k.attribute))) (unsigned_tied q.class k.class)
    ∙ ap (λ b. eqb q.class k.class && (b && is_eq (nat_cmp q.attribute k.attribute))) (unsigned_tied q.instance k.instance)
    ∙ ap (λ b. eqb q.class k.class && (eqb q.instance k.instance && b)) (unsigned_tied q.attribute k.attribute)

both_true : (a b : Bool) → a && b ≡ true → (a ≡ true) × (b ≡ true)
both_true true b h = (refl, h)
both_true false b h = absurd (cc)

-- keys that compare equal are equal in each number
pub tied_parts : (q k : Key) → eq_by_cmp key_cmp q k ≡ true → (q.class ≡ k.class) × (q.instance ≡ k.instance) × (q.attribute ≡ k.attribute)
tied_parts q k e =
    let a = both_true (eqb q.class k.class) _ (sym (tied q k) ∙ e) in
    let b = both_true (eqb q.instance k.instance) _ a.1 in
    (eqb-true q.class k.class a.0, eqb-true q.instance k.instance b.0, eqb-true q.attribute k.attribute b.1)

same_key : (q k : Key) → q.class ≡ k.class → q.instance ≡ k.instance → q.attribute ≡ k.attribute → q ≡ k
same_key q k a b c = λ i. record { class = a i; instance = b i; attribute = c i }

pub key_antisymmetric : IsAntisymmetric key_cmp
key_antisymmetric x y e = let p = tied_parts x y (ap is_eq e) in same_key x y p.0 p.1 p.2

or_after : {A : Type 0} (b : Bool) (x : A) (y z : Option A) → cond b (Some x) (option_or y z) ≡ option_or (cond b (Some x) y) z
or_after true x y z = refl
or_after false x y z = refl

-- the first list is read first
pub find_append : (q : Key) (xs ys : Entries) → find key_cmp q (xs ++ ys) ≡ option_or (find key_cmp q xs) (find key_cmp q ys)
find_append q [] ys = refl
find_append q (x ∷ xs) ys =
    ap (cond (eq_by_cmp key_cmp q x.0) (Some x.1)) (find_append q xs ys)
    ∙ or_after (eq_by_cmp key_cmp q x.0) x.1 (find key_cmp q xs) (find key_cmp q ys)

one_test : {A : Type 0} (b c : Bool) (x : Option A) (y : Option A) → cond (b && c) x (cond b y None) ≡ cond b (cond c x y) None
one_test true c x y = refl
one_test false c x y = refl

three : (a b c : Bool) → a && (b && c) ≡ (a && b) && c
three true b c = refl
three false b c = refl

none_either : {A : Type 0} (b : Bool) → ◌≡◌ {A = Option A} None (cond b None None)
none_either true = refl
none_either false = refl

-- the entries of one instance
pub find_at : (q : Key) (class instance : ℕ) (attributes : Attributes) → find key_cmp q (entries_at class instance attributes) ≡ cond (eqb q.class class && eqb q.instance instance) (attribute_in q.attribute attributes) None
find_at q class instance [] = none_either (eqb q.class class && eqb q.instance instance)
find_at q class instance (a ∷ attributes) =
    let here = eqb q.class class && eqb q.instance instance in
    ap (λ t. cond t (Some a.1) (find key_cmp q (entries_at class instance attributes))) (tied q (key class instance a.0) ∙ three (eqb q.class class) (eqb q.instance instance) (eqb q.attribute a.0))
    ∙ ap (λ r. cond (here && eqb q.attribute a.0) (Some a.1) r) (find_at q class instance attributes)
    ∙ one_test here (eqb q.attribute a.0) (Some a.1) (attribute_in q.attribute attributes)

-- new is old with the value at the key
pub record Updates (k : Key) (v : List ℕ) (old new : Entries) : Type 0 where
  pub finds : (q : Key) → find key_cmp q new ≡ cond (eq_by_cmp key_cmp q k) (Some v) (find key_cmp q old)

-- the key is in none of the entries
pub record Absent (k : Key) (es : Entries) : Type 0 where
  pub misses : (q : Key) → eq_by_cmp key_cmp q k ≡ true → find key_cmp q es ≡ None

pub insert_updates : (k : Key) (v : List ℕ) (old new : Entries) → Updates k v old new → insert (from_entries {R = key_cmp} old) k v ≡ from_entries new
insert_updates k v old new u =
    same_map key_total key_antisymmetric _ _ (λ q. get-insert key_total (from_entries old) k v q
    ∙ ap (cond (eq_by_cmp key_cmp q k) (Some v)) (get-from_entries key_total old q)
    ∙ sym (u.finds q) ∙ sym (get-from_entries key_total new q))

pub updates_front : (k : Key) (v : List ℕ) (old new rest : Entries) → Updates k v old new → Updates k v (old ++ rest) (new ++ rest)
updates_front k v old new rest u = record {
  finds = λ q. find_append q new rest ∙ ap (λ o. option_or o (find key_cmp q rest)) (u.finds q)
      ∙ sym (or_after (eq_by_cmp key_cmp q k) v (find key_cmp q old) (find key_cmp q rest))
      ∙ ap (cond (eq_by_cmp key_cmp q k) (Some v)) (sym (find_append q old rest));
}

or_behind : {A : Type 0} (b : Bool) (x : A) (y z : Option A) → (b ≡ true → y ≡ None) → option_or y (cond b (Some x) z) ≡ cond b (Some x) (option_or y z)
or_behind true x y z h = ap (λ o. option_or o (Some x)) (h refl)
or_behind false x y z h = refl

pub updates_back : (k : Key) (v : List ℕ) (front old new : Entries) → Absent k front → Updates k v old new → Updates k v (front ++ old) (front ++ new)
updates_back k v front old new absent u = record {
  finds = λ q. find_append q front new ∙ ap (option_or (find key_cmp q front)) (u.finds q)
      ∙ or_behind (eq_by_cmp key_cmp q k) v (find key_cmp q front) (find key_cmp q old) (absent.misses q)
      ∙ ap (cond (eq_by_cmp key_cmp q k) (Some v)) (sym (find_append q front old));
}

pub absent_at : (k : Key) (class instance : ℕ) (attributes : Attributes) → eqb k.class class && eqb k.instance instance ≡ false → Absent k (entries_at class instance attributes)
absent_at k class instance attributes h = record {
  misses = λ q e. let p = tied_parts q k e in
      find_at q class instance attributes
      ∙ ap (λ t. cond t (attribute_in q.attribute attributes) None) (ap (λ n. eqb n class && eqb q.instance instance) p.0 ∙ ap (λ n. eqb k.class class && eqb n instance) p.1 ∙ h);
}

at_tests : {A : Type 0} (b c : Bool) (x : A) (y : Option A) → cond b (cond c (Some x) y) None ≡ cond (b && c) (Some x) (cond b y None)
at_tests true c x y = refl
at_tests false c x y = refl

pub updates_at : (class instance attribute : ℕ) (v : List ℕ) (old new : Attributes) → ((a : ℕ) → attribute_in a new ≡ cond (eqb a attribute) (Some v) (attribute_in a old)) → Updates (key class instance attribute) v (entries_at class instance old) (entries_at class instance new)
updates_at class instance attribute v old new h = record {
  finds = λ q. let here = eqb q.class class && eqb q.instance instance in
      find_at q class instance new
      ∙ ap (λ r. cond here r None) (h q.attribute)
      ∙ at_tests here (eqb q.attribute attribute) v (attribute_in q.attribute old)
      ∙ ap (λ t. cond t (Some v) (cond here (attribute_in q.attribute old) None)) (sym (tied q (key class instance attribute) ∙ three (eqb q.class class) (eqb q.instance instance) (eqb q.attribute attribute)))
      ∙ ap (cond (eq_by_cmp key_cmp q (key class instance attribute)) (Some v)) (sym (find_at q class instance old));
}
