-- The application objects, and what is read and written of them by class, instance and attribute (Volume 1, object
-- model). The first object of a class and an instance number serves, and the first attribute of a number.
use Rattle.std.specs.Prelude.{◌≡◌, ◌<◌, ℕ, ◌+◌, Bool, false, ◌==◌, ◌&&◌, if◌then◌else◌, List, [], ◌∷◌, length, max}
use Rattle.std.specs.Prelude.{slice_index_or, slice_set, Option, Some, None, option_map, option_and_then, ok_or}
use Rattle.std.specs.Prelude.{Result, Ok, Err}
use Rattle.cip_bytes.specs.Reading.{◌>>=◌, map_ok}
use Rattle.cip_application.specs.declared.application.ClassSummary.{ClassSummary}
use Rattle.cip_application.specs.declared.attribute.SetFault.{SetFault}
use Rattle.cip_application.specs.declared.attribute.SetFault.TheVariants.{AttributeNotSupported}
use Rattle.cip_application.specs.declared.config.ServiceConfig.{ServiceConfig}
use Rattle.cip_application.specs.Attributes.{AttributeValues, attribute_at, with_attribute, attribute_set}
use Rattle.cip_application.specs.Attributes.{attribute_by, needs_approval, AreAllowed}
use Rattle.cip_application.specs.Values.{Writing, from_offset, as_whole}

pub record ObjectValues : Type 0 where
  pub class : ℕ
  pub instance : ℕ
  pub attributes : List AttributeValues
  pub services : List ServiceConfig
  pub lists : Bool

-- The value of the attribute of an object with this number.
abbrev pub value_in : ObjectValues → ℕ → Option (List ℕ)
value_in o number = option_map (λ a. a.value) (attribute_at number o.attributes)

-- The object's own service with this number.
abbrev pub service_in : ℕ → List ServiceConfig → Option ServiceConfig
service_in number [] = None
service_in number (s ∷ services) = if s.number == number then Some s else service_in number services

-- The object with another attribute in place of the one with its number.
abbrev pub object_with : ObjectValues → AttributeValues → ObjectValues
object_with o a = record o { attributes = with_attribute a o.attributes }

-- Set_Attribute_Single: the object after a peer set an attribute to these data. The attribute must exist and be
-- settable, the data must have its size, and it may have that value.
abbrev pub object_set : ObjectValues → ℕ → List ℕ → Result ObjectValues SetFault
object_set o number content = do
  a ← ok_or (attribute_at number o.attributes) AttributeNotSupported
  after ← attribute_set a content
  Ok (object_with o after)

-- The object after the device itself wrote an attribute in this way.
abbrev pub object_by : Writing → ObjectValues → ℕ → Option ObjectValues
object_by w o number =
    option_map (object_with o) (option_and_then (attribute_by w) (attribute_at number o.attributes))

-- The object after the device itself wrote these bytes into an attribute, from an offset on.
abbrev pub object_write : ObjectValues → ℕ → ℕ → List ℕ → Option ObjectValues
object_write o number offset bytes = object_by (from_offset offset bytes) o number

-- The object after the device itself put these bytes in place of an attribute's value.
abbrev pub object_restore : ObjectValues → ℕ → List ℕ → Option ObjectValues
object_restore o number bytes = object_by (as_whole bytes) o number

abbrev pub is_object : ℕ → ℕ → ObjectValues → Bool
is_object class instance o = (o.class == class) && (o.instance == instance)

-- The index of the first object of this class with this instance number.
abbrev pub position_of : ℕ → ℕ → List ObjectValues → Option ℕ
position_of class instance [] = None
position_of class instance (o ∷ objects) =
    if is_object class instance o then Some 0 else option_map (λ k. k + 1) (position_of class instance objects)

-- The object at an index. Past the end there is one of class 0, which no configuration has.
abbrev pub object_in : List ObjectValues → ℕ → ObjectValues
object_in objects position =
    slice_index_or objects position
    (record { class = 0; instance = 0; attributes = []; services = []; lists = false })

-- The value of an attribute, or None if there is no such attribute.
abbrev pub value_of : List ObjectValues → ℕ → ℕ → ℕ → Option (List ℕ)
value_of objects class instance number =
    option_and_then (λ k. value_in (object_in objects k) number) (position_of class instance objects)

-- How often peers set it, modulo 2^32.
abbrev pub changes_of : List ObjectValues → ℕ → ℕ → ℕ → Option ℕ
changes_of objects class instance number =
    option_and_then (λ k. option_map (λ a. a.changes) (attribute_at number (object_in objects k).attributes))
    (position_of class instance objects)

-- The objects after a peer set an attribute of the object at an index to these data. No other object changes.
unfoldable pub objects_set : List ObjectValues → ℕ → ℕ → List ℕ → Result (List ObjectValues) SetFault
objects_set objects position number content =
    map_ok (slice_set objects position) (object_set (object_in objects position) number content)

-- The objects after a set that may be refused. A refused set changes nothing.
abbrev pub after_result : List ObjectValues → Result (List ObjectValues) SetFault → List ObjectValues
after_result objects (Ok after) = after
after_result objects (Err fault) = objects

-- The objects after the owner of the device approved a set. Only an attribute whose sets need that is set so, and only
-- to a value that it may have.
unfoldable pub objects_approved : List ObjectValues → ℕ → ℕ → List ℕ → List ObjectValues
objects_approved objects position number content =
    if needs_approval (attribute_at number (object_in objects position).attributes) then
    after_result objects (objects_set objects position number content)
    else objects

-- The objects after the device itself wrote an attribute in this way. None if there is no such attribute, or if its
-- value cannot hold what is written.
abbrev pub objects_by : Writing → List ObjectValues → ℕ → ℕ → ℕ → Option (List ObjectValues)
objects_by w objects class instance number =
    option_and_then (λ k. option_map (slice_set objects k) (object_by w (object_in objects k) number))
    (position_of class instance objects)

-- The objects after the device itself wrote these bytes into an attribute, from an offset on.
unfoldable pub objects_write : List ObjectValues → ℕ → ℕ → ℕ → ℕ → List ℕ → Option (List ObjectValues)
objects_write objects class instance number offset bytes =
    objects_by (from_offset offset bytes) objects class instance number

-- The objects after the device itself put these bytes in place of an attribute's value.
unfoldable pub objects_restore : List ObjectValues → ℕ → ℕ → ℕ → List ℕ → Option (List ObjectValues)
objects_restore objects class instance number bytes = objects_by (as_whole bytes) objects class instance number

-- Each value of each object is one that its attribute may have.
abbrev pub AllAllowed : List ObjectValues → Type 0
AllAllowed [] = Unit {0}
AllAllowed (o ∷ objects) = AreAllowed o.attributes × AllAllowed objects

-- The instance numbers of a class.
abbrev pub instances_of : ℕ → List ObjectValues → List ℕ
instances_of class [] = []
instances_of class (o ∷ objects) =
    if o.class == class then o.instance ∷ instances_of class objects else instances_of class objects

abbrev pub greatest_of : List ℕ → ℕ
greatest_of [] = 0
greatest_of (n ∷ ns) = max n (greatest_of ns)

abbrev pub summary_of : List ℕ → Option ClassSummary
summary_of ns =
    if length ns == 0 then None else Some (record { greatest = greatest_of ns; instances = length ns })

-- The class, if it has an instance: its greatest instance number, and how many it has.
abbrev pub class_of : ℕ → List ObjectValues → Option ClassSummary
class_of class objects = summary_of (instances_of class objects)

-- The first attribute with this number is at this index: it is the one that is read, and the one that is replaced.
pub record IsAttributeAt (attributes : List AttributeValues) (number index : ℕ) : Type 0 where
  pub within : index < length attributes
  pub numbered : (d : AttributeValues) → (slice_index_or attributes index d).number ≡ number
  pub here : (d : AttributeValues) → attribute_at number attributes ≡ Some (slice_index_or attributes index d)
  pub replaced : (a : AttributeValues) → a.number ≡ number
      → with_attribute a attributes ≡ slice_set attributes index a
