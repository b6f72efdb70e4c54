-- Counting a change of one assembly.
use Rattle.std.proofs.Common.{◌≡◌, ℕ, zero, suc, eqb, Bool, true, false, cond, ◌&&◌, List, [], ◌∷◌, ◌++◌, length, get_or, set, map, Some, None, flat_map, max, refl, sym, ap, ◌∙◌, arith, subst}
use Rattle.std.specs.FinMap.{from_entries}
use Rattle.cip_application.specs.Configuration.{is_taken_class}
use Rattle.cip_application.specs.Objects.{ObjectValues}
use Rattle.cip_bytes.specs.declared.protocol.TheConstants.{ASSEMBLY, COUNTER}
use Rattle.cip_objects.specs.Changes.{Tally, is_key, data_key, changes_at, one_more, counted_in}
use Rattle.cip_objects.specs.Contents.{Contents, with_value, with_change, counted}
use Rattle.cip_objects.specs.ObjectMap.{Key, key}
use Rattle.cip_objects.specs.FirstOf.{IsFirst}
use Rattle.cip_objects.specs.Entries.{IdentityValues, AssemblyValues, CounterValues, entries_at, assembly_attributes, greatest_of, entries_of, contents_of, shape_of, tally_of, object_shape_of, object_tallies, device_of, NoneIsClass, AreApart}
use Rattle.cip_objects.proofs.Blocks.{eqb-same, eqb-other}
use Rattle.cip_objects.proofs.Lookup.{blocks_of, taken_none}
use Rattle.cip_objects.proofs.Shapes.{object_changes, object_changes-contents}
use Rattle.cip_objects.proofs.Writes.{assembled, rest_of}

-- the assemblies with one more change at one index
abbrev pub with_count : List AssemblyValues → ℕ → List AssemblyValues
with_count [] k = []
with_count (b ∷ bs) zero = record b { changes = one_more b.changes } ∷ bs
with_count (b ∷ bs) (suc k) = b ∷ with_count bs k

set-count : (bs : List AssemblyValues) (k : ℕ) (d : AssemblyValues) → set bs k (record (get_or bs k d) { changes = one_more (get_or bs k d).changes }) ≡ with_count bs k
set-count [] k d = refl
set-count (b ∷ bs) zero d = refl
set-count (b ∷ bs) (suc k) d = ap (λ l. b ∷ l) (set-count bs k d)

length-count : (bs : List AssemblyValues) (k : ℕ) → length (with_count bs k) ≡ length bs
length-count [] k = refl
length-count (b ∷ bs) zero = refl
length-count (b ∷ bs) (suc k) = ap suc (length-count bs k)

greatest-count : (bs : List AssemblyValues) (k : ℕ) → greatest_of (with_count bs k) ≡ greatest_of bs
greatest-count [] k = refl
greatest-count (b ∷ bs) zero = refl
greatest-count (b ∷ bs) (suc k) = ap (max b.instance) (greatest-count bs k)

shapes-count : (bs : List AssemblyValues) (k : ℕ) → map shape_of (with_count bs k) ≡ map shape_of bs
shapes-count [] k = refl
shapes-count (b ∷ bs) zero = refl
shapes-count (b ∷ bs) (suc k) = ap (λ l. shape_of b ∷ l) (shapes-count bs k)

entries-count : (bs : List AssemblyValues) (k : ℕ) → blocks_of (with_count bs k) ≡ blocks_of bs
entries-count [] k = refl
entries-count (b ∷ bs) zero = refl
entries-count (b ∷ bs) (suc k) = ap (λ l. entries_at ASSEMBLY b.instance (assembly_attributes b) ++ l) (entries-count bs k)

numbered-count : (bs : List AssemblyValues) (k : ℕ) → NoneIsClass bs → NoneIsClass (with_count bs k)
numbered-count [] k h = tt
numbered-count (b ∷ bs) zero h = h
numbered-count (b ∷ bs) (suc k) h = (h.0, numbered-count bs k h.1)

and_true : (t : Bool) → t && true ≡ t
and_true true = refl
and_true false = refl

-- the counts of the assemblies come before the others
tallies-count : (bs : List AssemblyValues) (rest : List Tally) (i k : ℕ) (d : AssemblyValues) → IsFirst (λ b. b.instance) bs i k → map tally_of (with_count bs k) ++ rest ≡ counted_in (data_key i) (map tally_of bs ++ rest)
tallies-count [] rest i k d f = absurd (omega (arith, f.within))
tallies-count (b ∷ bs) rest i zero d f =
    sym (ap (λ t. cond t (record { of_key = data_key b.instance; changes = one_more b.changes } ∷ (map tally_of bs ++ rest)) (tally_of b ∷ counted_in (data_key i) (map tally_of bs ++ rest))) (and_true (eqb b.instance i) ∙ eqb-same b.instance i (f.here d)))
tallies-count (b ∷ bs) rest i (suc k) d f =
    ap (λ l. tally_of b ∷ l) (tallies-count bs rest i k d (record { within = omega (arith, f.within); here = f.here; before = λ j e lt. f.before (suc j) e (omega arith) }))
    ∙ sym (ap (λ t. cond t (record { of_key = data_key b.instance; changes = one_more b.changes } ∷ (map tally_of bs ++ rest)) (tally_of b ∷ counted_in (data_key i) (map tally_of bs ++ rest))) (and_true (eqb b.instance i) ∙ eqb-other b.instance i (f.before 0 d (omega arith))))

-- the contents with one more change of one assembly
count_written : (d : IdentityValues) (bs : List AssemblyValues) (c : CounterValues) (os : List ObjectValues) (i k : ℕ) (e : AssemblyValues) → IsFirst (λ b. b.instance) bs i k → contents_of d (with_count bs k) c os ≡ counted (contents_of d bs c os) ASSEMBLY i 3
unfolding contents_of entries_of
count_written d bs c os i k e f =
    let counts = tallies-count bs (flat_map object_tallies os) i k e f in λ j. record {
      values = from_entries (assembled d (greatest-count bs k j) (length-count bs k j) (entries-count bs k j) (rest_of c os));
      shapes = record { assemblies = shapes-count bs k j; has_counter = c.enabled; objects = map object_shape_of os };
      device = device_of d;
      changes = counts j;
    }

-- the contents after a change of the first assembly with a number was counted
pub count_set : (d : IdentityValues) (bs : List AssemblyValues) (c : CounterValues) (os : List ObjectValues) (m : Contents) (i k : ℕ) (b new : AssemblyValues) → contents_of d bs c os ≡ m → IsFirst (λ b. b.instance) bs i k → b ≡ get_or bs k b → new ≡ record b { changes = one_more b.changes } → contents_of d (set bs k new) c os ≡ counted m ASSEMBLY i 3
count_set d bs c os m i k b new is f here e =
    ap (λ x. contents_of d (set bs k x) c os) (e ∙ ap (λ (x : AssemblyValues). record x { changes = one_more x.changes }) here)
    ∙ ap (λ l. contents_of d l c os) (set-count bs k b)
    ∙ count_written d bs c os i k b f
    ∙ ap (λ x. counted x ASSEMBLY i 3) is

pub numbered_counted : (bs : List AssemblyValues) (k : ℕ) (b new : AssemblyValues) → NoneIsClass bs → b ≡ get_or bs k b → new ≡ record b { changes = one_more b.changes } → NoneIsClass (set bs k new)
numbered_counted bs k b new h here e =
    subst NoneIsClass (sym (ap (λ x. set bs k x) (e ∙ ap (λ (x : AssemblyValues). record x { changes = one_more x.changes }) here) ∙ set-count bs k b)) (numbered-count bs k h)

-- a count that is not kept
absent_by : (t : Bool) (q : Key) (x : Tally) (xs : List Tally) → cond t (Some x.changes) (changes_at q xs) ≡ None → (changes_at q xs ≡ None → counted_in q xs ≡ xs) → cond t (record { of_key = x.of_key; changes = one_more x.changes } ∷ xs) (x ∷ counted_in q xs) ≡ x ∷ xs
absent_by true q x xs e later = absurd (cc)
absent_by false q x xs e later = ap (λ l. x ∷ l) (later e)

counted_absent : (q : Key) (xs : List Tally) → changes_at q xs ≡ None → counted_in q xs ≡ xs
counted_absent q [] e = refl
counted_absent q (x ∷ xs) e = absent_by (is_key x.of_key q) q x xs e (λ f. counted_absent q xs f)

-- the changes of the counter are not counted
pub uncounted : (d : IdentityValues) (bs : List AssemblyValues) (c : CounterValues) (os : List ObjectValues) (a : ℕ) (v : List ℕ) → c.enabled ≡ true → AreApart c.enabled (map object_shape_of os)
    → with_value (contents_of d bs c os) COUNTER 1 a v ≡ with_change (contents_of d bs c os) COUNTER 1 a v
uncounted d bs c os a v there h =
    let m = contents_of d bs c os in
    let none : changes_at (key COUNTER 1 a) m.changes ≡ None = object_changes-contents d bs c os m COUNTER 1 a refl h refl
    ∙ ap (object_changes a) ((taken_none c.enabled COUNTER os h (ap (λ t. is_taken_class t COUNTER) there)).of_number 1) in
    ap (λ l. record (with_value m COUNTER 1 a v) { changes = l }) (sym (counted_absent (key COUNTER 1 a) m.changes none))
