-- Data of requests and replies as values of elementary types.
use Rattle.std.specs.Prelude.{◌≡◌, ◌≢◌, ℕ, List, map, Some}
use Rattle.cip_message.specs.PathWriting.{short}
use Rattle.cip_message.specs.Request.{request}
use Rattle.cip_layouts.specs.Fields.{AreFieldsWritten, IsReadFault as IsFieldsReadFault}
use Rattle.cip_layouts.specs.Layouts.{fields_of}
use Rattle.cip_layouts.specs.declared.fault.FieldsFault.TheVariants as field_faults
use Rattle.cip_layouts.specs.declared.field.Field.{Field}
use Rattle.cip_layouts.specs.declared.layout.Layout.{Layout}
use Rattle.cip_layouts.specs.declared.layout.ValueShape.TheVariants as shapes
use Rattle.cip_values.specs.Values.{IsReadFault}
use Rattle.cip_values.specs.Parsing.{AreWritten}
use Rattle.cip_values.specs.declared.element.ValueType.{ValueType}
use Rattle.cip_values.specs.declared.fault.ValueFault.TheVariants as faults
use Rattle.enip_faults.specs.Statuses.{IsOfDevices}
use Rattle.enip_commands.specs.declared.request_failure.RequestFailure.{RequestFailure}
use Rattle.enip_commands.specs.declared.request_failure.RequestFailure.TheVariants.{Hex, Session, Client}
use Rattle.enip_commands.specs.declared.request_failure.RequestFailure.TheVariants.{Shape, Fields, Program}
use Rattle.enip_commands.specs.declared.style.Style.{Style}
use Rattle.enip_commands.specs.declared.typed.LayoutRequest.{LayoutRequest}
use Rattle.enip_commands.specs.declared.typed.TypedRequest.{TypedRequest}

-- The bytes of this request: service, shortest path, and the bytes of the values.
abbrev pub IsTypedRequest : TypedRequest → List ℕ → Type 0
IsTypedRequest q bytes = (given : List ℕ)
    × AreWritten q.value_type (map (λ word. word.now) q.words.now) given
    × (bytes ≡ request (record { service = q.service; path = short q.path; «data» = given }))

-- The bytes of this request: service, shortest path, and the bytes of the fields.
abbrev pub IsLayoutRequest : LayoutRequest → List ℕ → Type 0
IsLayoutRequest q bytes = (given : List ℕ)
    × AreFieldsWritten (fields_of q.layout) (map (λ word. word.now) q.words.now) given
    × (bytes ≡ request (record { service = q.service; path = short q.path; «data» = given }))

-- These data are not values of the type, or a device or memory failed.
abbrev pub IsOfValues : ValueType → List ℕ → RequestFailure → Type 0
IsOfValues value_type bytes Hex = ⊥
IsOfValues value_type bytes (Session status) = ⊥
IsOfValues value_type bytes (Client fault) = ⊥
IsOfValues value_type bytes (Shape rendered fault) =
    (rendered ≡ value_type) × (fault ≢ faults.Memory) × IsReadFault value_type bytes fault
IsOfValues value_type bytes (Fields fault) = ⊥
IsOfValues value_type bytes (Program fault) = IsOfDevices fault

-- These data are not the values of these fields, or a device or memory failed.
abbrev pub IsOfFields : List Field → List ℕ → RequestFailure → Type 0
IsOfFields fields bytes Hex = ⊥
IsOfFields fields bytes (Session status) = ⊥
IsOfFields fields bytes (Client fault) = ⊥
IsOfFields fields bytes (Shape value_type fault) = ⊥
IsOfFields fields bytes (Fields fault) = (fault ≢ field_faults.Memory) × IsFieldsReadFault fields bytes fault
IsOfFields fields bytes (Program fault) = IsOfDevices fault

-- The style has a type or a layout and these data are not values of it, or a device or memory failed.
abbrev pub IsUnprinted : Style → List ℕ → RequestFailure → Type 0
IsUnprinted style bytes Hex = ⊥
IsUnprinted style bytes (Session status) = ⊥
IsUnprinted style bytes (Client fault) = ⊥
IsUnprinted style bytes (Shape rendered fault) =
    (style.shape ≡ Some (shapes.Type rendered)) × IsOfValues rendered bytes (Shape rendered fault)
IsUnprinted style bytes (Fields fault) =
    (layout : Layout) × ((style.shape ≡ Some (shapes.Layout layout)) × IsOfFields (fields_of layout) bytes (Fields fault))
IsUnprinted style bytes (Program fault) = IsOfDevices fault
