-- What the device itself writes does not change which requests ask the owner.
use Rattle.std.proofs.Common.{◌≡◌, ℕ, ◌⊎◌, inl, inr, eqb, leb, ◌+◌, ◌&&◌, ◌||◌, Bool, true, false, cond, List, [], ◌∷◌, length, Option, Some, None, option_map, is_some, unwrap_or, Result, Ok, Err, refl, sym, ap, ◌∙◌}
use Rattle.std.proofs.lemmas.Bool.{eqb-true}
use Rattle.std.specs.Option.{option_and_then}
use Rattle.cip_application.specs.Configuration.{is_taken_class}
use Rattle.cip_application.specs.Values.{written_value}
use Rattle.cip_bytes.specs.Numbers.{le}
use Rattle.cip_bytes.specs.declared.protocol.TheConstants.{ASSEMBLY, IDENTITY}
use Rattle.cip_message.specs.declared.path.Path.{Path}
use Rattle.cip_message.specs.declared.path.PathFault.{PathFault}
use Rattle.cip_message.specs.declared.request.RequestFault.{RequestFault}
use Rattle.cip_message.specs.PathReading.{path_of}
use Rattle.cip_message.specs.Request.{Request, request_of}
use Rattle.cip_objects.specs.ChangeServices.{with_bytes_at}
use Rattle.cip_objects.specs.Contents.{Contents, value_at, bytes_at, with_value}
use Rattle.cip_objects.specs.DeviceWrites.{device_write, object_write, with_data_of, with_attribute_of}
use Rattle.cip_objects.specs.OwnRequests.{own_object, own_service, if_checked, checked_attribute, ask_set, ask_service, asked_by_path, asked_by_request, own_request}
use Rattle.cip_objects.specs.Tables.{Shape, AttributeShape, shape_at, object_at, attribute_at}
use Rattle.cip_objects.proofs.ReadAfterSet.{value_at-with_value}
use Rattle.cip_owner.specs.Owned.{OwnedState}
use Rattle.enip_adapter.specs.OwnWrites.{OwnWrite, WritesData, WritesAttribute, SetsStatus, SetsState, Prepares, Settles, Finishes, Marks, Withdraws, objects_written}
use Rattle.enip_adapter.specs.OwnerLaws.{HadValue}

-- ---- one value

-- A value at this key neither adds nor removes an attribute of an application object: its class is the adapter's own, or
-- it had a value before.
abbrev IsThere : Contents → ℕ → ℕ → ℕ → Type 0
IsThere m c i a = (is_taken_class m.shapes.has_counter c ≡ true) ⊎ (is_some (value_at m c i a) ≡ true)

module _ (m : Contents) (c i a : ℕ) (v : List ℕ) (there : IsThere m c i a) where
  same-key : (d j b : ℕ) → is_taken_class m.shapes.has_counter d ≡ false → d ≡ c → j ≡ i → b ≡ a
      → true ≡ is_some (value_at m d j b)
  same-key d j b free x y z = by there
    where
      by : IsThere m c i a → true ≡ is_some (value_at m d j b)
      by (inl taken) = absurd (let e = sym free ∙ (ap (is_taken_class m.shapes.has_counter) x ∙ taken) in cc)
      by (inr some) =
          sym (ap (λ n. is_some (value_at m n j b)) x ∙ (ap (λ n. is_some (value_at m c n b)) y
          ∙ (ap (λ n. is_some (value_at m c i n)) z ∙ some)))

  by-key : (d j b : ℕ) → is_taken_class m.shapes.has_counter d ≡ false → (t u w : Bool) → eqb d c ≡ t → eqb j i ≡ u
      → eqb b a ≡ w → is_some (cond (t && (u && w)) (Some v) (value_at m d j b)) ≡ is_some (value_at m d j b)
  by-key d j b free true true true x y z = same-key d j b free (eqb-true d c x) (eqb-true j i y) (eqb-true b a z)
  by-key d j b free true true false x y z = refl
  by-key d j b free true false w x y z = refl
  by-key d j b free false u w x y z = refl

  value-alike : (d j b : ℕ) → is_taken_class m.shapes.has_counter d ≡ false
      → is_some (value_at (with_value m c i a v) d j b) ≡ is_some (value_at m d j b)
  value-alike d j b free =
      ap is_some (value_at-with_value m c i a v d j b)
      ∙ by-key d j b free (eqb d c) (eqb j i) (eqb b a) refl refl refl

  neither : (x y : Bool) → ◌≡◌ {A = Option AttributeShape} (cond x None None) (cond y None None)
  neither true true = refl
  neither true false = refl
  neither false true = refl
  neither false false = refl

  checked-alike : (d j b : ℕ) → checked_attribute (with_value m c i a v) d j b ≡ checked_attribute m d j b
  unfolding checked_attribute
  checked-alike d j b = by (is_taken_class m.shapes.has_counter d) refl
    where
      by : (taken : Bool) → is_taken_class m.shapes.has_counter d ≡ taken
          → cond (is_some (value_at (with_value m c i a v) d j b)) (if_checked
          (option_and_then (λ o. attribute_at b o.attributes) (own_object m.shapes d j))) None
          ≡ cond (is_some (value_at m d j b)) (if_checked
          (option_and_then (λ o. attribute_at b o.attributes) (own_object m.shapes d j))) None
      by true e =
          ap (λ t. cond (is_some (value_at (with_value m c i a v) d j b)) (if_checked
          (option_and_then (λ o. attribute_at b o.attributes)
          (cond (t || eqb j 0) None (object_at d j m.shapes.objects)))) None) e
          ∙ (neither (is_some (value_at (with_value m c i a v) d j b)) (is_some (value_at m d j b))
          ∙ sym (ap (λ t. cond (is_some (value_at m d j b)) (if_checked
          (option_and_then (λ o. attribute_at b o.attributes)
          (cond (t || eqb j 0) None (object_at d j m.shapes.objects)))) None) e))
      by false e =
          ap (λ t. cond t (if_checked (option_and_then (λ o. attribute_at b o.attributes) (own_object m.shapes d j))) None)
          (value-alike d j b e)

  sets-alike : (p : Path) (o : Option ℕ)
      → option_and_then (checked_attribute (with_value m c i a v) p.class p.instance) o
      ≡ option_and_then (checked_attribute m p.class p.instance) o
  sets-alike p None = refl
  sets-alike p (Some n) = checked-alike p.class p.instance n

  path-alike : (q : Request) (r : Result Path PathFault)
      → asked_by_path (with_value m c i a v) q r ≡ asked_by_path m q r
  path-alike q (Err fault) = refl
  path-alike q (Ok p) =
      ap (λ x. cond (eqb q.service 0x10) (option_map (ask_set q p) x)
      (option_map (ask_service q p) (own_service m.shapes p.class p.instance q.service))) (sets-alike p p.attribute)

  request-alike : (r : Result Request RequestFault)
      → asked_by_request (with_value m c i a v) r ≡ asked_by_request m r
  request-alike (Err fault) = refl
  request-alike (Ok q) = path-alike q (path_of q.path)

  with_value-alike : (text : List ℕ) → own_request (with_value m c i a v) text ≡ own_request m text
  unfolding own_request
  with_value-alike text = request-alike (request_of text)

-- ---- the writes

-- A write leaves the contents, or changes one value.
record IsOneValue (m k : Contents) (c i a : ℕ) : Type 0 where
  value : List ℕ
  changed : k ≡ with_value m c i a value

abbrev WritesOne : Contents → Option Contents → ℕ → ℕ → ℕ → Type 0
WritesOne m o c i a = (o ≡ None) ⊎ ((k : Contents) × ((o ≡ Some k) × IsOneValue m k c i a))

data-within : (m : Contents) (instance : ℕ) (v : List ℕ) (t : Bool)
    → WritesOne m (cond t (Some (with_value m ASSEMBLY instance 3 v)) None) ASSEMBLY instance 3
data-within m instance v true = inr (with_value m ASSEMBLY instance 3 v, (refl, record { value = v; changed = refl }))
data-within m instance v false = inl refl

data-of : (m : Contents) (instance offset : ℕ) (bytes : List ℕ) (o : Option Shape)
    → WritesOne m (with_data_of m instance offset bytes o) ASSEMBLY instance 3
data-of m instance offset bytes None = inl refl
data-of m instance offset bytes (Some s) =
    data-within m instance (with_bytes_at (bytes_at m ASSEMBLY instance 3) offset bytes)
    (leb (offset + length bytes) (length (bytes_at m ASSEMBLY instance 3)))

data-writes : (m : Contents) (instance offset : ℕ) (bytes : List ℕ)
    → WritesOne m (device_write m instance offset bytes) ASSEMBLY instance 3
unfolding device_write
data-writes m instance offset bytes = data-of m instance offset bytes (shape_at instance m.shapes.assemblies)

value-of : (m : Contents) (c i a : ℕ) (o : Option (List ℕ)) → WritesOne m (option_map (with_value m c i a) o) c i a
value-of m c i a None = inl refl
value-of m c i a (Some v) = inr (with_value m c i a v, (refl, record { value = v; changed = refl }))

attribute-of : (m : Contents) (c i a offset : ℕ) (bytes : List ℕ) (o : Option AttributeShape)
    → WritesOne m (with_attribute_of m c i a offset bytes o) c i a
attribute-of m c i a offset bytes None = inl refl
attribute-of m c i a offset bytes (Some s) = value-of m c i a (written_value s.kind (bytes_at m c i a) offset bytes)

object-writes : (m : Contents) (c i a offset : ℕ) (bytes : List ℕ)
    → WritesOne m (object_write m c i a offset bytes) c i a
unfolding object_write
object-writes m c i a offset bytes =
    attribute-of m c i a offset bytes
    (option_and_then (λ o. attribute_at a o.attributes) (object_at c i m.shapes.objects))

one-alike : (m : Contents) (o : Option Contents) (c i a : ℕ) → WritesOne m o c i a
    → (is_some o ≡ true → IsThere m c i a) → (text : List ℕ) → own_request (unwrap_or o m) text ≡ own_request m text
one-alike m o c i a (inl none) there text = ap (λ x. own_request (unwrap_or x m) text) none
one-alike m o c i a (inr (k, (some, one))) there text =
    ap (λ x. own_request (unwrap_or x m) text) some
    ∙ (ap (λ x. own_request x text) one.changed
    ∙ with_value-alike m c i a one.value (there (ap is_some some)) text)

data-alike : (m : Contents) (instance offset : ℕ) (bytes text : List ℕ)
    → own_request (unwrap_or (device_write m instance offset bytes) m) text ≡ own_request m text
data-alike m instance offset bytes text =
    one-alike m (device_write m instance offset bytes) ASSEMBLY instance 3 (data-writes m instance offset bytes)
    (λ some. inl refl) text

attribute-alike : (m : Contents) (c i a offset : ℕ) (bytes text : List ℕ) (data_of_assembly : Bool)
    → (is_some (cond data_of_assembly (device_write m i offset bytes) (object_write m c i a offset bytes)) ≡ true
    → is_some (value_at m c i a) ≡ true)
    → own_request (unwrap_or
    (cond data_of_assembly (device_write m i offset bytes) (object_write m c i a offset bytes)) m) text
    ≡ own_request m text
attribute-alike m c i a offset bytes text true had = data-alike m i offset bytes text
attribute-alike m c i a offset bytes text false had =
    one-alike m (object_write m c i a offset bytes) c i a (object-writes m c i a offset bytes) (λ some. inr (had some)) text

pub own-alike : (write : OwnWrite) (owned : OwnedState) (text : List ℕ) → HadValue owned.objects write
    → own_request (objects_written write owned).objects text ≡ own_request owned.objects text
own-alike (WritesData instance offset bytes) owned text had = data-alike owned.objects instance offset bytes text
own-alike (WritesAttribute class instance attribute offset bytes) owned text had =
    attribute-alike owned.objects class instance attribute offset bytes text
    (eqb class ASSEMBLY && eqb attribute 3) had
own-alike (SetsStatus status) owned text had =
    with_value-alike owned.objects IDENTITY 1 5 (le 2 status) (inl refl) text
own-alike (SetsState state) owned text had = with_value-alike owned.objects IDENTITY 1 8 (state ∷ []) (inl refl) text
own-alike (Prepares reply) owned text had = refl
own-alike (Settles originator number reply) owned text had = refl
own-alike (Finishes ticket reply) owned text had = refl
own-alike (Marks ticket) owned text had = refl
own-alike (Withdraws request) owned text had = refl
