-- A value that is put back, by its kind.
use Rattle.std.proofs.Common.{◌≡◌, ℕ, zero, suc, ◌+◌, Bool, true, false, cond, List, [], ◌∷◌, ◌++◌, length, drop, Option, Some, None, option_map, unwrap_or, is_some, refl, sym, ap, ◌∙◌, arith}
use Rattle.std.specs.Option.{option_and_then}
use Rattle.std.proofs.lemmas.List.{append-nil}
use Rattle.cip_application.specs.declared.kind.AttributeKind.{AttributeKind}
use Rattle.cip_application.specs.Attributes.{AttributeValues, attribute_at as attribute_in_values}
use Rattle.cip_application.specs.Kept.{is_kept as is_value_kept, is_found_kept, is_kept_in, is_kept_at}
use Rattle.cip_application.specs.Objects.{ObjectValues, object_in, position_of}
use Rattle.cip_application.specs.Values.{is_whole, as_whole}
use Rattle.cip_objects.specs.ChangeServices.{with_bytes_at}
use Rattle.cip_objects.specs.Contents.{Contents, with_value}
use Rattle.cip_objects.specs.DeviceWrites.{object_by, with_attribute_by}
use Rattle.cip_objects.specs.Entries.{IdentityValues, AssemblyValues, CounterValues, contents_of, attribute_shape_of, object_shape_of}
use Rattle.cip_objects.specs.Kept.{with_kept, kept_object_kind, kind_if_kept, is_kept}
use Rattle.cip_objects.specs.Tables.{AttributeShape, object_at, attribute_at}
use Rattle.cip_objects.proofs.Lookup.{object_at-map}
use Rattle.cip_objects.proofs.ObjectLemmas.{find_position, at_position, attribute_at-map}
use Rattle.cip_objects.proofs.Shapes.{shapes-contents}

by_test : (m : Contents) (c i a : ℕ) (b : List ℕ) (t : Bool) → option_map (with_value m c i a) (cond t (Some b) None) ≡ cond t (Some (with_value m c i a b)) None
by_test m c i a b true = refl
by_test m c i a b false = refl

by_kind : (m : Contents) (c i a : ℕ) (b : List ℕ) (s : AttributeShape) (kept : Bool) → is_some (cond kept (Some s.kind) None) ≡ true
    → with_attribute_by (as_whole b) m c i a (Some s) ≡ with_kept m c i a b (cond kept (Some s.kind) None)
by_kind m c i a b s true e = by_test m c i a b (is_whole s.kind b)
by_kind m c i a b s false e = absurd (cc)

by_attribute : (m : Contents) (c i a : ℕ) (b : List ℕ) (found : Option AttributeShape) → is_some (kind_if_kept c found) ≡ true
    → with_attribute_by (as_whole b) m c i a found ≡ with_kept m c i a b (kind_if_kept c found)
by_attribute m c i a b None e = absurd (cc)
by_attribute m c i a b (Some s) e = by_kind m c i a b s (is_kept c s) e

-- an attribute of an application object that is kept
pub object_kept : (m : Contents) (c i a : ℕ) (b : List ℕ) → is_some (kept_object_kind m.shapes c i a) ≡ true → object_by (as_whole b) m c i a ≡ with_kept m c i a b (kept_object_kind m.shapes c i a)
object_kept m c i a b e = by_attribute m c i a b (option_and_then (λ o. attribute_at a o.attributes) (object_at c i m.shapes.objects)) e

-- one that is not
pub not_kept : (m : Contents) (c i a : ℕ) (b : List ℕ) (kind : Option AttributeKind) → is_some kind ≡ false → with_kept m c i a b kind ≡ None
not_kept m c i a b None e = refl
not_kept m c i a b (Some kind) e = absurd (cc)

-- it is kept in the shapes as in the values
same_test : (t : Bool) (kind : AttributeKind) → t ≡ is_some (cond t (Some kind) None)
same_test true kind = refl
same_test false kind = refl

same_found : (c : ℕ) (found : Option AttributeValues) → is_found_kept c found ≡ is_some (kind_if_kept c (option_map attribute_shape_of found))
same_found c None = refl
same_found c (Some a) = same_test (is_value_kept c a) a.kind

same_in : (c i a : ℕ) (os : List ObjectValues) (k : Option ℕ) → position_of c i os ≡ k → unwrap_or (option_map (λ x. is_kept_in (object_in os x) a) k) false
    ≡ is_some (kind_if_kept c (option_and_then (λ o. attribute_at a o.attributes) (option_map object_shape_of (option_map (object_in os) k))))
same_in c i a os None e = refl
same_in c i a os (Some k) e =
    let found = attribute_in_values a (object_in os k).attributes in
    same_found (object_in os k).class found
    ∙ ap (λ n. is_some (kind_if_kept n (option_map attribute_shape_of found))) (at_position c i k os e).of_class
    ∙ ap (λ x. is_some (kind_if_kept c x)) (sym (attribute_at-map a (object_in os k).attributes))

pub same_kept : (d : IdentityValues) (bs : List AssemblyValues) (n : CounterValues) (os : List ObjectValues) (m : Contents) (c i a : ℕ) → contents_of d bs n os ≡ m
    → is_kept_at os c i a ≡ is_some (kept_object_kind m.shapes c i a)
same_kept d bs n os m c i a is =
    same_in c i a os (position_of c i os) refl
    ∙ ap (λ x. is_some (kind_if_kept c (option_and_then (λ o. attribute_at a o.attributes) x)))
    (ap (option_map object_shape_of) (sym (find_position c i os)) ∙ sym (object_at-map c i os))
    ∙ ap (λ s. is_some (kept_object_kind s c i a)) (sym (shapes-contents d bs n os m is))

-- bytes as long as the data take their place
drop_whole : (old : List ℕ) (n : ℕ) → n ≡ length old → drop n old ≡ []
drop_whole [] zero e = refl
drop_whole [] (suc n) e = absurd (omega arith)
drop_whole (x ∷ old) zero e = absurd (omega arith)
drop_whole (x ∷ old) (suc n) e = drop_whole old n (omega arith)

pub in_place : (old bytes : List ℕ) → length bytes ≡ length old → with_bytes_at old 0 bytes ≡ bytes
in_place old bytes e =
    let n : 0 + length bytes ≡ length old = omega (arith, e) in
    ap (λ rest. bytes ++ rest) (drop_whole old (0 + length bytes) n) ∙ append-nil bytes
