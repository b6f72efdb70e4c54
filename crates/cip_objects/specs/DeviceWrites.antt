-- What the device itself writes, in addition to the requests of its peers (Volume 1: Assembly and Identity
-- objects).
use Rattle.std.specs.Prelude.{ℕ, ◌+◌, nat_le, if◌then◌else◌, List, [], ◌∷◌, length, Option, Some, None, option_map}
use Rattle.std.specs.Option.{option_and_then}
use Rattle.cip_application.specs.Values.{Writing, from_offset}
use Rattle.cip_bytes.specs.Numbers.{le}
use Rattle.cip_bytes.specs.declared.protocol.TheConstants.{IDENTITY, ASSEMBLY}
use Rattle.cip_objects.specs.ChangeServices.{with_bytes_at}
use Rattle.cip_objects.specs.Contents.{Contents, bytes_at, with_value}
use Rattle.cip_objects.specs.Tables.{Shape, AttributeShape, shape_at, object_at, attribute_at}

-- The contents with these bytes in this assembly's data, from an offset on, if they end within the data.
abbrev pub with_data : Contents → ℕ → ℕ → List ℕ → Option Contents
with_data m instance offset bytes =
    if nat_le (offset + length bytes) (length (bytes_at m ASSEMBLY instance 3)) then
    Some (with_value m ASSEMBLY instance 3 (with_bytes_at (bytes_at m ASSEMBLY instance 3) offset bytes))
    else None

-- The same, if there is such an assembly.
abbrev pub with_data_of : Contents → ℕ → ℕ → List ℕ → Option Shape → Option Contents
with_data_of m instance offset bytes None = None
with_data_of m instance offset bytes (Some s) = with_data m instance offset bytes

-- The contents after the device wrote bytes into an assembly's data, from an offset on, settable or not. None if
-- there is no such assembly, or if the bytes go past the end of its data.
unfoldable pub device_write : Contents → ℕ → ℕ → List ℕ → Option Contents
device_write m instance offset bytes = with_data_of m instance offset bytes (shape_at instance m.shapes.assemblies)

-- The contents after an attribute of an application object was written in this way, if its value can hold what is
-- written.
abbrev pub with_attribute_by : Writing → Contents → ℕ → ℕ → ℕ → Option AttributeShape → Option Contents
with_attribute_by how m class instance attribute None = None
with_attribute_by how m class instance attribute (Some a) =
    option_map (with_value m class instance attribute) (how a.kind (bytes_at m class instance attribute))

-- The same, if there is such an attribute.
abbrev pub object_by : Writing → Contents → ℕ → ℕ → ℕ → Option Contents
object_by how m class instance attribute =
    with_attribute_by how m class instance attribute
    (option_and_then (λ o. attribute_at attribute o.attributes) (object_at class instance m.shapes.objects))

-- The contents with these bytes in this attribute of an application object, from an offset on.
abbrev pub with_attribute_of : Contents → ℕ → ℕ → ℕ → ℕ → List ℕ → Option AttributeShape → Option Contents
with_attribute_of m class instance attribute offset bytes found =
    with_attribute_by (from_offset offset bytes) m class instance attribute found

-- The contents after the device wrote bytes into an attribute of an application object, from an offset on, settable or
-- not. None if there is no such attribute, or if its value cannot hold them.
unfoldable pub object_write : Contents → ℕ → ℕ → ℕ → ℕ → List ℕ → Option Contents
object_write m class instance attribute offset bytes =
    object_by (from_offset offset bytes) m class instance attribute

-- The device's status and state are attributes 5 and 8 of the Identity object.
abbrev pub with_device_status : Contents → ℕ → Contents
with_device_status m status = with_value m IDENTITY 1 5 (le 2 status)

abbrev pub with_device_state : Contents → ℕ → Contents
with_device_state m state = with_value m IDENTITY 1 8 (state ∷ [])
