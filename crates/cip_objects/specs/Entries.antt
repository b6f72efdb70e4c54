-- The entries of the object map, instance by instance (Volume 1: Identity and Assembly objects; the counter
-- and the application objects are vendor-specific).
use Rattle.std.specs.Prelude.{ℕ, ◌<◌, Bool, List, [], ◌∷◌, ◌++◌, Option, Some, None, ◌==◌, ◌||◌, if◌then◌else◌, length, sum}
use Rattle.std.specs.Prelude.{◌≡◌, false, map, max}
use Rattle.std.specs.List.{flat_map, list_any}
use Rattle.std.specs.FinMap.{from_entries}
use Rattle.byteorder.specs.Endian.{little_bytes}
use Rattle.cip_application.specs.Attributes.{AttributeValues}
use Rattle.cip_application.specs.Configuration.{is_taken_class}
use Rattle.cip_application.specs.Objects.{ObjectValues}
use Rattle.cip_message.specs.declared.key.Device.{Device}
use Rattle.cip_objects.specs.ObjectMap.{Key, key}
use Rattle.cip_objects.specs.Tables.{Shape, AttributeShape, ObjectShape, Shapes, numbers_in, greatest_number}
use Rattle.cip_objects.specs.Tables.{object_at}
use Rattle.cip_objects.specs.Changes.{Tally, data_key}
use Rattle.cip_bytes.specs.declared.protocol.TheConstants.{IDENTITY, ASSEMBLY, COUNTER}
use Rattle.cip_objects.specs.Contents.{Contents}

abbrev pub Entries : Type 0
Entries = List (Key × List ℕ)

-- The values of the Identity object.
pub record IdentityValues : Type 0 where
  pub vendor : ℕ
  pub device_type : ℕ
  pub product_code : ℕ
  pub major : ℕ
  pub minor : ℕ
  pub status : ℕ
  pub serial : ℕ
  pub name : List ℕ
  pub state : ℕ

-- An assembly: its shape, its data, and how often peers wrote them.
pub record AssemblyValues : Type 0 where
  pub instance : ℕ
  pub settable : Bool
  pub members : List ℕ
  pub lists : Bool
  pub content : List ℕ
  pub changes : ℕ

-- The three numbers of the counter, and whether the device has it.
pub record CounterValues : Type 0 where
  pub enabled : Bool
  pub value : ℕ
  pub limit : ℕ
  pub additions : ℕ

-- The attributes of one instance: each a number and a value.
abbrev pub Attributes : Type 0
Attributes = List (ℕ × List ℕ)

-- The value of the attribute with this number.
abbrev pub attribute_in : ℕ → Attributes → Option (List ℕ)
attribute_in attribute [] = None
attribute_in attribute (a ∷ attributes) = if attribute == a.0 then Some a.1 else attribute_in attribute attributes

-- The entries of an instance of a class.
abbrev pub entries_at : ℕ → ℕ → Attributes → Entries
entries_at class instance [] = []
entries_at class instance (a ∷ attributes) = (key class instance a.0, a.1) ∷ entries_at class instance attributes

-- A class: revision, greatest instance, number of instances.
abbrev pub class_attributes : ℕ → ℕ → ℕ → Attributes
class_attributes revision greatest number =
    (1, little_bytes 2 revision) ∷ (2, little_bytes 2 greatest) ∷ (3, little_bytes 2 number) ∷ []

-- Vendor, device type, product code, revision, status, serial number, product name, state.
abbrev pub identity_attributes : IdentityValues → Attributes
identity_attributes d =
    (1, little_bytes 2 d.vendor)
    ∷ (2, little_bytes 2 d.device_type)
    ∷ (3, little_bytes 2 d.product_code)
    ∷ (4, d.major ∷ d.minor ∷ [])
    ∷ (5, little_bytes 2 d.status)
    ∷ (6, little_bytes 4 d.serial)
    ∷ (7, length d.name ∷ d.name)
    ∷ (8, d.state ∷ [])
    ∷ []

-- Number of members, data, size.
abbrev pub assembly_attributes : AssemblyValues → Attributes
assembly_attributes b = (1, little_bytes 2 (length b.members)) ∷ (3, b.content) ∷ (4, little_bytes 2 (sum b.members)) ∷ []

-- Value, limit, additions.
abbrev pub counter_attributes : CounterValues → Attributes
counter_attributes c = (1, little_bytes 4 c.value) ∷ (2, little_bytes 4 c.limit) ∷ (3, little_bytes 4 c.additions) ∷ []

-- The entries of the counter, if the device has it.
abbrev pub counter_entries : CounterValues → Entries
counter_entries c =
    if c.enabled then entries_at COUNTER 0 (class_attributes 1 1 1) ++ entries_at COUNTER 1 (counter_attributes c)
    else []

-- The attributes of an application object.
abbrev pub object_attributes : ObjectValues → Attributes
object_attributes o = map (λ a. (a.number, a.value)) o.attributes

abbrev pub object_entries : List ObjectValues → Entries
object_entries os = flat_map (λ o. entries_at o.class o.instance (object_attributes o)) os

-- The revision of a class of application objects. That of the TCP/IP Interface and of the Ethernet Link is 4.
abbrev pub class_revision : ℕ → ℕ
class_revision class = if (class == 0xf5) || (class == 0xf6) then 4 else 1

-- The attributes of a class of application objects.
abbrev pub attributes_of_class : ℕ → List ObjectShape → Attributes
attributes_of_class class objects =
    class_attributes (class_revision class) (greatest_number (numbers_in class objects))
    (length (numbers_in class objects))

-- The entries of the classes of these, which are among all application objects.
abbrev pub class_entries : List ObjectShape → List ObjectShape → Entries
class_entries objects os = flat_map (λ o. entries_at o.class 0 (attributes_of_class o.class objects)) os

-- The greatest instance number, or 0 if there is no assembly.
abbrev pub greatest_of : List AssemblyValues → ℕ
greatest_of [] = 0
greatest_of (b ∷ bs) = max b.instance (greatest_of bs)

abbrev pub shape_of : AssemblyValues → Shape
shape_of b = record { instance = b.instance; settable = b.settable; members = b.members; lists = b.lists }

abbrev pub tally_of : AssemblyValues → Tally
tally_of b = record { of_key = data_key b.instance; changes = b.changes }

abbrev pub attribute_shape_of : AttributeValues → AttributeShape
attribute_shape_of a = record { number = a.number; kind = a.kind; settable = a.settable; checked = a.checked }

abbrev pub object_shape_of : ObjectValues → ObjectShape
object_shape_of o = record {
  class = o.class;
  instance = o.instance;
  attributes = map attribute_shape_of o.attributes;
  services = o.services;
  lists = o.lists;
}

abbrev pub object_tallies : ObjectValues → List Tally
object_tallies o = map (λ a. record { of_key = key o.class o.instance a.number; changes = a.changes }) o.attributes

-- All entries of the map, instance by instance.
unfoldable pub entries_of : IdentityValues → List AssemblyValues → CounterValues → List ObjectValues → Entries
entries_of d bs c os =
    entries_at IDENTITY 0 (class_attributes 1 1 1)
    ++ (entries_at IDENTITY 1 (identity_attributes d)
    ++ (entries_at ASSEMBLY 0 (class_attributes 2 (greatest_of bs) (length bs))
    ++ (flat_map (λ b. entries_at ASSEMBLY b.instance (assembly_attributes b)) bs
    ++ (counter_entries c
    ++ (class_entries (map object_shape_of os) (map object_shape_of os)
    ++ object_entries os)))))

abbrev pub device_of : IdentityValues → Device
device_of d = record {
  vendor = d.vendor;
  device_type = d.device_type;
  product_code = d.product_code;
  major = d.major;
  minor = d.minor;
}

abbrev pub shapes_of : List AssemblyValues → CounterValues → List ObjectValues → Shapes
shapes_of bs c os =
    record { assemblies = map shape_of bs; has_counter = c.enabled; objects = map object_shape_of os }

-- The contents with these values.
unfoldable pub contents_of : IdentityValues → List AssemblyValues → CounterValues → List ObjectValues → Contents
contents_of d bs c os =
    record {
      values = from_entries (entries_of d bs c os);
      shapes = shapes_of bs c os;
      device = device_of d;
      changes = map tally_of bs ++ flat_map object_tallies os;
    }

-- The assembly with this instance number: the first, if there are two.
abbrev pub assembly_at : ℕ → List AssemblyValues → Option AssemblyValues
assembly_at instance [] = None
assembly_at instance (b ∷ bs) = if b.instance == instance then Some b else assembly_at instance bs

-- No assembly has instance number 0, which is the class itself.
abbrev pub NoneIsClass : List AssemblyValues → Type 0
NoneIsClass [] = Unit {0}
NoneIsClass (b ∷ bs) = (0 < b.instance) × NoneIsClass bs

-- No number occurs twice.
abbrev pub AreDistinct : List ℕ → Type 0
AreDistinct [] = Unit {0}
AreDistinct (n ∷ ns) = (list_any (λ k. k == n) ns ≡ false) × AreDistinct ns

-- Each application object has a class that the device does not have itself, an instance number other than 0, no class
-- and instance number of a later one, and attributes with different numbers.
abbrev pub AreApart : Bool → List ObjectShape → Type 0
AreApart counter [] = Unit {0}
AreApart counter (o ∷ objects) =
    (is_taken_class counter o.class ≡ false) × (0 < o.instance) × (object_at o.class o.instance objects ≡ None)
    × AreDistinct (map (λ a. a.number) o.attributes) × AreApart counter objects
