-- Numbers and their bytes.
use Rattle.std.proofs.Common.{◌≡◌, ℕ, ◌%◌, ◌^◌, ◌<◌, ◌≤◌, true, cond, List, [], map, refl, sym, ap, ◌∙◌, arith, unwrap_or, Some}
use Rattle.std.proofs.Math.Nat.{div-one, mod-eq_of_lt}
use Rattle.cip_application.specs.Objects.{ObjectValues}
use Rattle.byteorder.specs.Endian.{little_bytes, little_number}
use Rattle.byteorder.specs.Numbers.{little_from-bytes}
use Rattle.cip_bytes.specs.declared.protocol.TheConstants.{COUNTER}
use Rattle.cip_objects.specs.Contents.{Contents, bytes_at, udint_at}
use Rattle.cip_objects.specs.Entries.{IdentityValues, AssemblyValues, CounterValues, contents_of, NoneIsClass, AreApart, object_shape_of, attribute_in, counter_attributes}
use Rattle.cip_objects.specs.Run.{IsCounter}
use Rattle.cip_objects.proofs.Lookup.{own_value, value_at-contents_of}
use Rattle.cip_objects.proofs.Shapes.{shapes-contents}

-- the four bytes of a number read as that number
pub number-bytes : (v : ℕ) → v < 2 ^ 32 → little_number 4 (little_bytes 4 v) ≡ v
number-bytes v h = little_from-bytes 4 0 v [] ∙ ap (λ x. x % 256 ^ 4) (div-one v) ∙ mod-eq_of_lt (omega arith)

-- the numbers of the counter, in the contents
pub counter_read : (d : IdentityValues) (bs : List AssemblyValues) (c : CounterValues) (os : List ObjectValues) (m : Contents) (a v : ℕ) → contents_of d bs c os ≡ m → NoneIsClass bs → AreApart c.enabled (map object_shape_of os) → c.enabled ≡ true → v < 2 ^ 32 → attribute_in a (counter_attributes c) ≡ Some (little_bytes 4 v) → v ≡ udint_at m COUNTER 1 a
unfolding udint_at
counter_read d bs c os m a v is h own there small e =
    let value = attribute_in a (counter_attributes c) in
    let read = value_at-contents_of d bs c os h own COUNTER 1 a
    ∙ ap (λ t. cond t value (own_value COUNTER 1 a os)) there ∙ e in
    sym (number-bytes v small)
    ∙ ap (little_number 4) (sym (ap (λ o. unwrap_or o []) read))
    ∙ ap (λ x. (little_number 4) (bytes_at x COUNTER 1 a)) is

-- a counter with no addition yet satisfies the invariant
pub new_counts : (d : IdentityValues) (bs : List AssemblyValues) (c : CounterValues) (os : List ObjectValues) → NoneIsClass bs → AreApart c.enabled (map object_shape_of os) → c.enabled ≡ true → c.value ≤ c.limit → c.limit < 2 ^ 32 → c.additions ≡ 0 → IsCounter (contents_of d bs c os)
new_counts d bs c os h own there within small none =
    let m = contents_of d bs c os in
    let v = counter_read d bs c os m 1 c.value refl h own there (omega arith) refl in
    let l = counter_read d bs c os m 2 c.limit refl h own there small refl in
    let a = counter_read d bs c os m 3 c.additions refl h own there (omega arith) refl in
    record {
      there = ap (λ s. s.has_counter) (shapes-contents d bs c os m refl) ∙ there;
      within = rw (← v, ← l) within;
      limit = rw (← l) small;
      additions = rw (← a) (omega arith);
    }

-- the device has the counter
pub enabled : (d : IdentityValues) (bs : List AssemblyValues) (c : CounterValues) (os : List ObjectValues) (m : Contents) → contents_of d bs c os ≡ m → m.shapes.has_counter ≡ true → c.enabled ≡ true
enabled d bs c os m is h = sym (ap (λ s. s.has_counter) (shapes-contents d bs c os m is)) ∙ h
