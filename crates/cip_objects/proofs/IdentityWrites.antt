-- Writing the values of the Identity object.
use Rattle.std.proofs.Common.{◌≡◌, ℕ, eqb, Bool, true, false, cond, List, [], ◌∷◌, ◌++◌, length, map, flat_map, Option, Some, None, refl, ap, ◌∙◌, arith}
use Rattle.std.proofs.lemmas.Bool.Decides.{nat_tests}
use Rattle.std.specs.FinMap.{from_entries}
use Rattle.cip_application.specs.Objects.{ObjectValues}
use Rattle.byteorder.specs.Endian.{little_bytes}
use Rattle.cip_bytes.specs.declared.protocol.TheConstants.{IDENTITY}
use Rattle.cip_objects.specs.ObjectMap.{key}
use Rattle.cip_objects.specs.Contents.{with_value}
use Rattle.cip_objects.specs.DeviceWrites.{with_device_status}
use Rattle.cip_objects.specs.Entries.{IdentityValues, AssemblyValues, CounterValues, Attributes, entries_at, attribute_in, class_attributes, identity_attributes, greatest_of, entries_of, contents_of, shapes_of, tally_of, object_tallies, device_of}
use Rattle.cip_objects.proofs.Lookup.{blocks_of}
use Rattle.cip_objects.proofs.Map.{updates_front, updates_back, absent_at, updates_at}
use Rattle.cip_objects.proofs.Writes.{assembled, rest_of, written}

none_front : (t : Bool) (x : List ℕ) (r : Option (List ℕ)) → cond t (Some x) r ≡ None → (t ≡ false) × (r ≡ None)
none_front true x r e = absurd (cc)
none_front false x r e = (refl, e)

pub twice : (t : Bool) (v old : List ℕ) (r : Option (List ℕ)) → cond t (Some v) r ≡ cond t (Some v) (cond t (Some old) r)
twice true v old r = refl
twice false v old r = refl

pub behind : (p q : Bool) (x v : Option (List ℕ)) (new old : Option (List ℕ)) → (p ≡ true → q ≡ false) → new ≡ cond q v old → cond p x new ≡ cond q v (cond p x old)
behind true true x v new old h e = absurd (let f = h refl in cc)
behind true false x v new old h e = refl
behind false q x v new old h e = e

pub apart : (x a b : ℕ) → eqb a b ≡ false → eqb x b ≡ true → eqb x a ≡ false
apart x a b h e = grind (arith, nat_tests)

-- attributes with another value at one number
replaced : (before after : Attributes) (a : ℕ) (v old : List ℕ) → attribute_in a before ≡ None → (x : ℕ) → attribute_in x (before ++ (a, v) ∷ after) ≡ cond (eqb x a) (Some v) (attribute_in x (before ++ (a, old) ∷ after))
replaced [] after a v old h x = twice (eqb x a) v old (attribute_in x after)
replaced (b ∷ before) after a v old h x =
    let n = none_front (eqb a b.0) b.1 (attribute_in a before) h in
    behind (eqb x b.0) (eqb x a) (Some b.1) (Some v) _ _ (apart x a b.0 n.0) (replaced before after a v old n.1 x)

-- the contents with another value of the Identity object
identity_written : (d e : IdentityValues) (bs : List AssemblyValues) (c : CounterValues) (os : List ObjectValues) (a : ℕ) (v : List ℕ) → ((x : ℕ) → attribute_in x (identity_attributes e) ≡ cond (eqb x a) (Some v) (attribute_in x (identity_attributes d))) → device_of e ≡ device_of d → contents_of e bs c os ≡ with_value (contents_of d bs c os) IDENTITY 1 a v
unfolding contents_of entries_of
identity_written d e bs c os a v h same =
    let q = key IDENTITY 1 a in
    let old = assembled d (greatest_of bs) (length bs) (blocks_of bs) (rest_of c os) in
    let new = assembled e (greatest_of bs) (length bs) (blocks_of bs) (rest_of c os) in
    let changes = map tally_of bs ++ flat_map object_tallies os in
    ap (λ k. record { values = from_entries new; shapes = shapes_of bs c os; device = k; changes = changes }) same
    ∙ written old new (contents_of d bs c os) q v (shapes_of bs c os) changes
    (updates_back q v (entries_at IDENTITY 0 (class_attributes 1 1 1)) _ _ (absent_at q IDENTITY 0 (class_attributes 1 1 1) refl)
    (updates_front q v (entries_at IDENTITY 1 (identity_attributes d)) (entries_at IDENTITY 1 (identity_attributes e)) _
    (updates_at IDENTITY 1 a v (identity_attributes d) (identity_attributes e) h)))
    refl refl refl

-- vendor, device type, product code and revision come before the status
abbrev before_status : IdentityValues → Attributes
before_status d =
    (1, little_bytes 2 d.vendor)
    ∷ (2, little_bytes 2 d.device_type)
    ∷ (3, little_bytes 2 d.product_code)
    ∷ (4, d.major ∷ d.minor ∷ [])
    ∷ []

abbrev after_status : IdentityValues → Attributes
after_status d = (6, little_bytes 4 d.serial) ∷ (7, length d.name ∷ d.name) ∷ (8, d.state ∷ []) ∷ []

abbrev before_state : IdentityValues → Attributes
before_state d =
    (1, little_bytes 2 d.vendor)
    ∷ (2, little_bytes 2 d.device_type)
    ∷ (3, little_bytes 2 d.product_code)
    ∷ (4, d.major ∷ d.minor ∷ [])
    ∷ (5, little_bytes 2 d.status)
    ∷ (6, little_bytes 4 d.serial)
    ∷ (7, length d.name ∷ d.name)
    ∷ []

pub status_written : (d : IdentityValues) (bs : List AssemblyValues) (c : CounterValues) (os : List ObjectValues) (v : ℕ) → contents_of (record d { status = v }) bs c os ≡ with_device_status (contents_of d bs c os) v
status_written d bs c os v =
    identity_written d (record d { status = v }) bs c os 5 (little_bytes 2 v)
    (replaced (before_status d) (after_status d) 5 (little_bytes 2 v) (little_bytes 2 d.status) refl) refl

pub state_written : (d : IdentityValues) (bs : List AssemblyValues) (c : CounterValues) (os : List ObjectValues) (v : ℕ) → contents_of (record d { state = v }) bs c os ≡ with_value (contents_of d bs c os) IDENTITY 1 8 (v ∷ [])
state_written d bs c os v =
    identity_written d (record d { state = v }) bs c os 8 (v ∷ [])
    (replaced (before_state d) [] 8 (v ∷ []) (d.state ∷ []) refl) refl
