-- Writing at one key of the object map.
use Rattle.std.proofs.Common.{◌≡◌, ℕ, zero, suc, ◌<◌, eqb, Bool, true, false, cond, ◌&&◌, List, [], ◌∷◌, ◌++◌, length, get_or, map, flat_map, max, Some, None, refl, sym, ap, ◌∙◌, arith, set, sum, subst, unwrap_or}
use Rattle.std.proofs.lemmas.Bool.Decides.{nat_tests}
use Rattle.std.specs.Option.{option_or}
use Rattle.std.specs.FinMap.{find, insert, from_entries}
use Rattle.byteorder.specs.Endian.{little_bytes}
use Rattle.cip_objects.specs.ObjectMap.{Key, key, key_cmp}
use Rattle.cip_application.specs.Objects.{ObjectValues}
use Rattle.cip_objects.specs.Tables.{Shapes}
use Rattle.cip_objects.specs.Changes.{Tally}
use Rattle.cip_bytes.specs.declared.protocol.TheConstants.{IDENTITY, ASSEMBLY, COUNTER}
use Rattle.cip_objects.specs.Contents.{Contents, with_value, bytes_at}
use Rattle.cip_objects.specs.FirstOf.{IsFirst}
use Rattle.cip_objects.specs.Entries.{IdentityValues, AssemblyValues, CounterValues, Entries, AreApart, entries_at, counter_entries, class_entries, object_entries, object_shape_of, object_tallies, shapes_of, attribute_in, class_attributes, identity_attributes, assembly_attributes, counter_attributes, assembly_at, greatest_of, entries_of, contents_of, shape_of, tally_of, device_of, NoneIsClass}
use Rattle.cip_objects.proofs.Blocks.{eqb-other, first_at}
use Rattle.cip_objects.proofs.Lookup.{block_value}
use Rattle.cip_objects.specs.ChangeServices.{with_bytes_at}
use Rattle.cip_objects.proofs.Lookup.{blocks_of, value_at-contents_of}
use Rattle.cip_objects.proofs.Map.{find_append, Updates, Absent, insert_updates, updates_front, updates_back, absent_at, updates_at}

-- the assemblies with these data at one index
abbrev pub with_content : List AssemblyValues → ℕ → List ℕ → List AssemblyValues
with_content [] k v = []
with_content (b ∷ bs) zero v = record b { content = v } ∷ bs
with_content (b ∷ bs) (suc k) v = b ∷ with_content bs k v

pub set-content : (bs : List AssemblyValues) (k : ℕ) (v : List ℕ) (d : AssemblyValues) → set bs k (record (get_or bs k d) { content = v }) ≡ with_content bs k v
set-content [] k v d = refl
set-content (b ∷ bs) zero v d = refl
set-content (b ∷ bs) (suc k) v d = ap (λ l. b ∷ l) (set-content bs k v d)

pub length-content : (bs : List AssemblyValues) (k : ℕ) (v : List ℕ) → length (with_content bs k v) ≡ length bs
length-content [] k v = refl
length-content (b ∷ bs) zero v = refl
length-content (b ∷ bs) (suc k) v = ap suc (length-content bs k v)

pub greatest-content : (bs : List AssemblyValues) (k : ℕ) (v : List ℕ) → greatest_of (with_content bs k v) ≡ greatest_of bs
greatest-content [] k v = refl
greatest-content (b ∷ bs) zero v = refl
greatest-content (b ∷ bs) (suc k) v = ap (max b.instance) (greatest-content bs k v)

pub shapes-content : (bs : List AssemblyValues) (k : ℕ) (v : List ℕ) → map shape_of (with_content bs k v) ≡ map shape_of bs
shapes-content [] k v = refl
shapes-content (b ∷ bs) zero v = refl
shapes-content (b ∷ bs) (suc k) v = ap (λ l. shape_of b ∷ l) (shapes-content bs k v)

pub tallies-content : (bs : List AssemblyValues) (k : ℕ) (v : List ℕ) → map tally_of (with_content bs k v) ≡ map tally_of bs
tallies-content [] k v = refl
tallies-content (b ∷ bs) zero v = refl
tallies-content (b ∷ bs) (suc k) v = ap (λ l. tally_of b ∷ l) (tallies-content bs k v)

pub numbered-content : (bs : List AssemblyValues) (k : ℕ) (v : List ℕ) → NoneIsClass bs → NoneIsClass (with_content bs k v)
numbered-content [] k v h = tt
numbered-content (b ∷ bs) zero v h = h
numbered-content (b ∷ bs) (suc k) v h = (h.0, numbered-content bs k v h.1)

set_data : (p q r : Bool) (x y v z : List ℕ) → (q ≡ true → p ≡ false) → cond p (Some x) (cond q (Some v) (cond r (Some z) None)) ≡ cond q (Some v) (cond p (Some x) (cond q (Some y) (cond r (Some z) None)))
set_data true true r x y v z h = absurd (let e = h refl in cc)
set_data true false r x y v z h = refl
set_data false true r x y v z h = refl
set_data false false r x y v z h = refl

apart : (n a b : ℕ) → (a ≡ b → ⊥) → eqb n a ≡ true → eqb n b ≡ false
apart n a b h e = grind (arith, nat_tests)

-- one assembly with other data
block_updates : (b : AssemblyValues) (v : List ℕ) → Updates (key ASSEMBLY b.instance 3) v (entries_at ASSEMBLY b.instance (assembly_attributes b)) (entries_at ASSEMBLY b.instance (assembly_attributes (record b { content = v })))
block_updates b v =
    updates_at ASSEMBLY b.instance 3 v (assembly_attributes b) (assembly_attributes (record b { content = v }))
    (λ a. set_data (eqb a 1) (eqb a 3) (eqb a 4) (little_bytes 2 (length b.members)) b.content v (little_bytes 2 (sum b.members)) (apart a 3 1 (λ e. omega arith)))

updates_key : (i j : ℕ) (v : List ℕ) (old new : Entries) → i ≡ j → Updates (key ASSEMBLY i 3) v old new → Updates (key ASSEMBLY j 3) v old new
updates_key i j v old new e u = subst (λ n. Updates (key ASSEMBLY n 3) v old new) e u

other_instance : (i j : ℕ) → (j ≡ i → ⊥) → eqb ASSEMBLY ASSEMBLY && eqb i j ≡ false
other_instance i j h = eqb-other i j (λ e. h (sym e))

pub blocks_update : (bs : List AssemblyValues) (i k : ℕ) (v : List ℕ) (d : AssemblyValues) → IsFirst (λ b. b.instance) bs i k → Updates (key ASSEMBLY i 3) v (blocks_of bs) (blocks_of (with_content bs k v))
blocks_update [] i k v d f = absurd (omega (arith, f.within))
blocks_update (b ∷ bs) i zero v d f =
    updates_front (key ASSEMBLY i 3) v (entries_at ASSEMBLY b.instance (assembly_attributes b)) (entries_at ASSEMBLY b.instance (assembly_attributes (record b { content = v }))) (blocks_of bs)
    (updates_key b.instance i v _ _ (f.here d) (block_updates b v))
blocks_update (b ∷ bs) i (suc k) v d f =
    updates_back (key ASSEMBLY i 3) v (entries_at ASSEMBLY b.instance (assembly_attributes b)) (blocks_of bs) (blocks_of (with_content bs k v))
    (absent_at (key ASSEMBLY i 3) ASSEMBLY b.instance (assembly_attributes b) (other_instance i b.instance (f.before 0 d (omega arith))))
    (blocks_update bs i k v d (record { within = omega (arith, f.within); here = f.here; before = λ j e lt. f.before (suc j) e (omega arith) }))

-- the first with that number is not a class itself
pub first_above : (bs : List AssemblyValues) (i k : ℕ) (d : AssemblyValues) → NoneIsClass bs → IsFirst (λ b. b.instance) bs i k → 0 < i
first_above [] i k d h f = absurd (omega (arith, f.within))
first_above (b ∷ bs) i zero d h f = let e = f.here d in omega (arith, h.0, e)
first_above (b ∷ bs) i (suc k) d h f =
    first_above bs i k d h.1 (record { within = omega (arith, f.within); here = f.here; before = λ j e lt. f.before (suc j) e (omega arith) })

-- all entries, with these numbers for the Assembly class, these entries of the assemblies, and these after them
abbrev pub assembled : IdentityValues → ℕ → ℕ → Entries → Entries → Entries
assembled d greatest number blocks rest =
    entries_at IDENTITY 0 (class_attributes 1 1 1)
    ++ (entries_at IDENTITY 1 (identity_attributes d)
    ++ (entries_at ASSEMBLY 0 (class_attributes 2 greatest number)
    ++ (blocks ++ rest)))

-- the entries of the counter and of the application objects
abbrev pub rest_of : CounterValues → List ObjectValues → Entries
rest_of c os = counter_entries c ++ (class_entries (map object_shape_of os) (map object_shape_of os) ++ object_entries os)

assembled_block : (d : IdentityValues) (g n i : ℕ) (v : List ℕ) (old new rest : Entries) → 0 < i → Updates (key ASSEMBLY i 3) v old new → Updates (key ASSEMBLY i 3) v (assembled d g n old rest) (assembled d g n new rest)
assembled_block d g n i v old new rest h u =
    let q = key ASSEMBLY i 3 in
    updates_back q v (entries_at IDENTITY 0 (class_attributes 1 1 1)) _ _ (absent_at q IDENTITY 0 (class_attributes 1 1 1) refl)
    (updates_back q v (entries_at IDENTITY 1 (identity_attributes d)) _ _ (absent_at q IDENTITY 1 (identity_attributes d) refl)
    (updates_back q v (entries_at ASSEMBLY 0 (class_attributes 2 g n)) _ _ (absent_at q ASSEMBLY 0 (class_attributes 2 g n) (eqb-other i 0 (λ z. omega arith)))
    (updates_front q v old new rest u)))

pub absent_front : (k : Key) (front rest : Entries) → Absent k front → Absent k rest → Absent k (front ++ rest)
absent_front k front rest a b = record {
  misses = λ q e. find_append q front rest ∙ ap (λ o. option_or o (find key_cmp q rest)) (a.misses q e) ∙ b.misses q e;
}

-- no assembly has an attribute of another class
absent_blocks : (class i a : ℕ) (bs : List AssemblyValues) → eqb class ASSEMBLY ≡ false → Absent (key class i a) (blocks_of bs)
absent_blocks class i a [] h = record { misses = λ q e. refl }
absent_blocks class i a (b ∷ bs) h =
    absent_front (key class i a) (entries_at ASSEMBLY b.instance (assembly_attributes b)) (blocks_of bs)
    (absent_at (key class i a) ASSEMBLY b.instance (assembly_attributes b) (ap (λ t. t && eqb i b.instance) h)) (absent_blocks class i a bs h)

-- what comes after the assemblies is of another class than theirs and the Identity object's
pub assembled_rest : (d : IdentityValues) (g n class i a : ℕ) (v : List ℕ) (bs : List AssemblyValues) (old new : Entries) → eqb class IDENTITY ≡ false → eqb class ASSEMBLY ≡ false → Updates (key class i a) v old new → Updates (key class i a) v (assembled d g n (blocks_of bs) old) (assembled d g n (blocks_of bs) new)
assembled_rest d g n class i a v bs old new one four u =
    let q = key class i a in
    updates_back q v (entries_at IDENTITY 0 (class_attributes 1 1 1)) _ _ (absent_at q IDENTITY 0 (class_attributes 1 1 1) (ap (λ t. t && eqb i 0) one))
    (updates_back q v (entries_at IDENTITY 1 (identity_attributes d)) _ _ (absent_at q IDENTITY 1 (identity_attributes d) (ap (λ t. t && eqb i 1) one))
    (updates_back q v (entries_at ASSEMBLY 0 (class_attributes 2 g n)) _ _ (absent_at q ASSEMBLY 0 (class_attributes 2 g n) (ap (λ t. t && eqb i 0) four))
    (updates_back q v (blocks_of bs) _ _ (absent_blocks class i a bs four) u)))

pub written : (old new : Entries) (m : Contents) (q : Key) (v : List ℕ) (shapes : Shapes) (changes : List Tally) → Updates q v old new → m.values ≡ from_entries old → shapes ≡ m.shapes → changes ≡ m.changes → ◌≡◌ {A = Contents} (record { values = from_entries new; shapes = shapes; device = m.device; changes = changes }) (record m { values = insert m.values q v })
written old new m q v shapes changes u e f g = λ i. record {
  values = (sym (insert_updates q v old new u) ∙ ap (λ x. insert x q v) (sym e)) i;
  shapes = f i;
  device = m.device;
  changes = g i;
}

-- the contents with other data in one assembly
pub content_written : (d : IdentityValues) (bs : List AssemblyValues) (c : CounterValues) (os : List ObjectValues) (i k : ℕ) (v : List ℕ) (e : AssemblyValues) → NoneIsClass bs → IsFirst (λ b. b.instance) bs i k → contents_of d (with_content bs k v) c os ≡ with_value (contents_of d bs c os) ASSEMBLY i 3 v
unfolding contents_of entries_of
content_written d bs c os i k v e h f =
    let rest = rest_of c os in
    let new = with_content bs k v in
    ap (λ g. record { values = from_entries (assembled d g (length new) (blocks_of new) rest); shapes = shapes_of new c os; device = device_of d; changes = map tally_of new ++ flat_map object_tallies os }) (greatest-content bs k v)
    ∙ ap (λ n. record { values = from_entries (assembled d (greatest_of bs) n (blocks_of new) rest); shapes = shapes_of new c os; device = device_of d; changes = map tally_of new ++ flat_map object_tallies os }) (length-content bs k v)
    ∙ written (assembled d (greatest_of bs) (length bs) (blocks_of bs) rest) (assembled d (greatest_of bs) (length bs) (blocks_of new) rest) (contents_of d bs c os) (key ASSEMBLY i 3) v (shapes_of new c os) (map tally_of new ++ flat_map object_tallies os)
    (assembled_block d (greatest_of bs) (length bs) i v (blocks_of bs) (blocks_of new) rest (first_above bs i k e h f) (blocks_update bs i k v e f))
    refl (ap (λ s. record { assemblies = s; has_counter = c.enabled; objects = map object_shape_of os }) (shapes-content bs k v))
    (ap (λ t. t ++ flat_map object_tallies os) (tallies-content bs k v))

-- the contents with another number of the counter
counter_updates : (t : Bool) (c n : CounterValues) (os : List ObjectValues) (a : ℕ) (v : List ℕ) → t ≡ true → ((x : ℕ) → attribute_in x (counter_attributes n) ≡ cond (eqb x a) (Some v) (attribute_in x (counter_attributes c)))
    → Updates (key COUNTER 1 a) v (cond t (entries_at COUNTER 0 (class_attributes 1 1 1) ++ entries_at COUNTER 1 (counter_attributes c)) []) (cond t (entries_at COUNTER 0 (class_attributes 1 1 1) ++ entries_at COUNTER 1 (counter_attributes n)) [])
counter_updates true c n os a v e h =
    let q = key COUNTER 1 a in
    updates_back q v (entries_at COUNTER 0 (class_attributes 1 1 1)) _ _ (absent_at q COUNTER 0 (class_attributes 1 1 1) refl)
    (updates_at COUNTER 1 a v (counter_attributes c) (counter_attributes n) h)
counter_updates false c n os a v e h = absurd (cc)

counter_written : (d : IdentityValues) (bs : List AssemblyValues) (c n : CounterValues) (os : List ObjectValues) (a : ℕ) (v : List ℕ) → c.enabled ≡ true → n.enabled ≡ c.enabled → ((x : ℕ) → attribute_in x (counter_attributes n) ≡ cond (eqb x a) (Some v) (attribute_in x (counter_attributes c))) → contents_of d bs n os ≡ with_value (contents_of d bs c os) COUNTER 1 a v
unfolding contents_of entries_of
counter_written d bs c n os a v there same h =
    let own = class_entries (map object_shape_of os) (map object_shape_of os) ++ object_entries os in
    let numbers = λ (t : Bool). cond t (entries_at COUNTER 0 (class_attributes 1 1 1) ++ entries_at COUNTER 1 (counter_attributes n)) [] in
    let old = assembled d (greatest_of bs) (length bs) (blocks_of bs) (rest_of c os) in
    let new = assembled d (greatest_of bs) (length bs) (blocks_of bs) (numbers c.enabled ++ own) in
    ap (λ t. record { values = from_entries (assembled d (greatest_of bs) (length bs) (blocks_of bs) (numbers t ++ own)); shapes = record { assemblies = map shape_of bs; has_counter = t; objects = map object_shape_of os }; device = device_of d; changes = map tally_of bs ++ flat_map object_tallies os }) same
    ∙ written old new (contents_of d bs c os) (key COUNTER 1 a) v (shapes_of bs c os) (map tally_of bs ++ flat_map object_tallies os)
    (assembled_rest d (greatest_of bs) (length bs) COUNTER 1 a v bs (rest_of c os) (numbers c.enabled ++ own) refl refl
    (updates_front (key COUNTER 1 a) v (counter_entries c) (numbers c.enabled) own (counter_updates c.enabled c n os a v there h)))
    refl refl refl

first_set : (p q r : Bool) (x y z v : List ℕ) → cond p (Some v) (cond q (Some y) (cond r (Some z) None)) ≡ cond p (Some v) (cond p (Some x) (cond q (Some y) (cond r (Some z) None)))
first_set true q r x y z v = refl
first_set false q r x y z v = refl

second_set : (p q r : Bool) (x y z v : List ℕ) → (q ≡ true → p ≡ false) → cond p (Some x) (cond q (Some v) (cond r (Some z) None)) ≡ cond q (Some v) (cond p (Some x) (cond q (Some y) (cond r (Some z) None)))
second_set true true r x y z v h = absurd (let e = h refl in cc)
second_set true false r x y z v h = refl
second_set false true r x y z v h = refl
second_set false false r x y z v h = refl

third_set : (p q r : Bool) (x y z v : List ℕ) → (r ≡ true → p ≡ false) → (r ≡ true → q ≡ false) → cond p (Some x) (cond q (Some y) (cond r (Some v) None)) ≡ cond r (Some v) (cond p (Some x) (cond q (Some y) (cond r (Some z) None)))
third_set true q true x y z v h k = absurd (let e = h refl in cc)
third_set true q false x y z v h k = refl
third_set false true true x y z v h k = absurd (let e = k refl in cc)
third_set false true false x y z v h k = refl
third_set false false true x y z v h k = refl
third_set false false false x y z v h k = refl

pub value_written : (d : IdentityValues) (bs : List AssemblyValues) (c : CounterValues) (os : List ObjectValues) (v : ℕ) → c.enabled ≡ true → contents_of d bs (record c { value = v }) os ≡ with_value (contents_of d bs c os) COUNTER 1 1 (little_bytes 4 v)
value_written d bs c os v there =
    counter_written d bs c (record c { value = v }) os 1 (little_bytes 4 v) there refl
    (λ x. first_set (eqb x 1) (eqb x 2) (eqb x 3) (little_bytes 4 c.value) (little_bytes 4 c.limit) (little_bytes 4 c.additions) (little_bytes 4 v))

pub limit_written : (d : IdentityValues) (bs : List AssemblyValues) (c : CounterValues) (os : List ObjectValues) (v : ℕ) → c.enabled ≡ true → contents_of d bs (record c { limit = v }) os ≡ with_value (contents_of d bs c os) COUNTER 1 2 (little_bytes 4 v)
limit_written d bs c os v there =
    counter_written d bs c (record c { limit = v }) os 2 (little_bytes 4 v) there refl
    (λ x. second_set (eqb x 1) (eqb x 2) (eqb x 3) (little_bytes 4 c.value) (little_bytes 4 c.limit) (little_bytes 4 c.additions) (little_bytes 4 v) (apart x 2 1 (λ e. omega arith)))

pub additions_written : (d : IdentityValues) (bs : List AssemblyValues) (c : CounterValues) (os : List ObjectValues) (v : ℕ) → c.enabled ≡ true → contents_of d bs (record c { additions = v }) os ≡ with_value (contents_of d bs c os) COUNTER 1 3 (little_bytes 4 v)
additions_written d bs c os v there =
    counter_written d bs c (record c { additions = v }) os 3 (little_bytes 4 v) there refl
    (λ x. third_set (eqb x 1) (eqb x 2) (eqb x 3) (little_bytes 4 c.value) (little_bytes 4 c.limit) (little_bytes 4 c.additions) (little_bytes 4 v) (apart x 3 1 (λ e. omega arith)) (apart x 3 2 (λ e. omega arith)))

-- the data of an assembly are the value of its attribute 3
pub content_read : (d : IdentityValues) (bs : List AssemblyValues) (c : CounterValues) (os : List ObjectValues) (m : Contents) (i k : ℕ) (e : AssemblyValues) → contents_of d bs c os ≡ m → NoneIsClass bs → AreApart c.enabled (map object_shape_of os) → IsFirst (λ b. b.instance) bs i k → bytes_at m ASSEMBLY i 3 ≡ (get_or bs k e).content
content_read d bs c os m i k e is h own f =
    ap (λ x. bytes_at x ASSEMBLY i 3) (sym is)
    ∙ ap (λ o. unwrap_or o []) (value_at-contents_of d bs c os h own ASSEMBLY i 3)
    ∙ ap (λ t. unwrap_or (cond t (attribute_in 3 (class_attributes 2 (greatest_of bs) (length bs))) (block_value 3 (assembly_at i bs))) []) (eqb-other i 0 (let above = first_above bs i k e h f in λ z. omega arith))
    ∙ ap (λ o. unwrap_or (block_value 3 o) []) (first_at bs i k e f)

-- the contents after the first assembly with a number got other data
pub content_set : (d : IdentityValues) (bs : List AssemblyValues) (c : CounterValues) (os : List ObjectValues) (m : Contents) (i k : ℕ) (b : AssemblyValues) (new : AssemblyValues) (offset : ℕ) (bytes : List ℕ) → contents_of d bs c os ≡ m → NoneIsClass bs → AreApart c.enabled (map object_shape_of os) → IsFirst (λ b. b.instance) bs i k → b ≡ get_or bs k b → new ≡ record b { content = with_bytes_at b.content offset bytes } → contents_of d (set bs k new) c os ≡ with_value m ASSEMBLY i 3 (with_bytes_at (bytes_at m ASSEMBLY i 3) offset bytes)
content_set d bs c os m i k b new offset bytes is h own f here e =
    ap (λ x. contents_of d (set bs k x) c os) (e ∙ ap (λ (x : AssemblyValues). record x { content = with_bytes_at b.content offset bytes }) here)
    ∙ ap (λ l. contents_of d l c os) (set-content bs k (with_bytes_at b.content offset bytes) b)
    ∙ content_written d bs c os i k (with_bytes_at b.content offset bytes) b h f
    ∙ ap (λ x. with_value x ASSEMBLY i 3 (with_bytes_at b.content offset bytes)) is
    ∙ ap (λ x. with_value m ASSEMBLY i 3 (with_bytes_at x offset bytes)) (ap (λ x. x.content) here ∙ sym (content_read d bs c os m i k b is h own f))

pub numbered_set : (bs : List AssemblyValues) (k : ℕ) (b new : AssemblyValues) (v : List ℕ) → NoneIsClass bs → b ≡ get_or bs k b → new ≡ record b { content = v } → NoneIsClass (set bs k new)
numbered_set bs k b new v h here e =
    subst NoneIsClass (sym (ap (λ x. set bs k x) (e ∙ ap (λ (x : AssemblyValues). record x { content = v }) here) ∙ set-content bs k v b)) (numbered-content bs k v h)
