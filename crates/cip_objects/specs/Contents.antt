-- The objects as contracts see them: the object map and the constant tables.
use Rattle.std.specs.Prelude.{ℕ, Bool, List, [], Option, unwrap_or, refl}
use Rattle.std.specs.FinMap.{get, insert, code}
use Rattle.std.specs.Coded.{Coded, code_by, coded×, coded_ℕ, coded_bool, coded_list}
use Rattle.cip_application.specs.declared.config.ServiceConfig.{ServiceConfig}
use Rattle.cip_application.specs.declared.config.ServiceKind.{ServiceKind}
use Rattle.cip_application.specs.declared.kind.AttributeKind.{AttributeKind}
use Rattle.byteorder.specs.Endian.{little_number}
use Rattle.cip_message.specs.declared.key.Device.{Device}
use Rattle.cip_objects.specs.Kinds.{kind_code, service_kind_code}
use Rattle.cip_objects.specs.ObjectMap.{Key, key, ObjectMap}
use Rattle.cip_objects.specs.Tables.{Shape, AttributeShape, ObjectShape, Shapes}
use Rattle.cip_objects.specs.Changes.{Tally, counted_in}

-- The object map, what the configuration decides of the tables (the shapes of the objects and the five numbers that an
-- electronic key is compared with), and how often peers set each attribute whose changes are counted.
pub record Contents : Type 0 where
  pub values : ObjectMap
  pub shapes : Shapes
  pub device : Device
  pub changes : List Tally

-- The value of an attribute, or None if there is no such attribute.
abbrev pub value_at : Contents → ℕ → ℕ → ℕ → Option (List ℕ)
value_at m class instance attribute = get m.values (key class instance attribute)

-- Its bytes, or no byte if there is no such attribute.
abbrev pub bytes_at : Contents → ℕ → ℕ → ℕ → List ℕ
bytes_at m class instance attribute = unwrap_or (value_at m class instance attribute) []

-- Its number, if it has four bytes.
unfoldable pub udint_at : Contents → ℕ → ℕ → ℕ → ℕ
udint_at m class instance attribute = little_number 4 (bytes_at m class instance attribute)

-- The contents with this value at this key. Nothing else changes.
abbrev pub with_value : Contents → ℕ → ℕ → ℕ → List ℕ → Contents
with_value m class instance attribute value = record m { values = insert m.values (key class instance attribute) value }

-- The contents after a change of this attribute was counted.
abbrev pub counted : Contents → ℕ → ℕ → ℕ → Contents
counted m class instance attribute = record m { changes = counted_in (key class instance attribute) m.changes }

-- The contents after a peer set this value at this key, which is counted.
abbrev pub with_change : Contents → ℕ → ℕ → ℕ → List ℕ → Contents
with_change m class instance attribute value =
    counted (with_value m class instance attribute value) class instance attribute

-- How contents are stored.
abbrev pub key_code : Coded Key
key_code =
    code_by (ℕ × (ℕ × ℕ)) (coded× coded_ℕ (coded× coded_ℕ coded_ℕ)) (λ k. (k.class, (k.instance, k.attribute)))
    (λ p. key p.0 p.1.0 p.1.1) (λ _. refl)

abbrev pub shape_code : Coded Shape
shape_code =
    code_by (ℕ × (Bool × (List ℕ × Bool)))
    (coded× coded_ℕ (coded× coded_bool (coded× (coded_list coded_ℕ) coded_bool)))
    (λ s. (s.instance, (s.settable, (s.members, s.lists))))
    (λ p. record { instance = p.0; settable = p.1.0; members = p.1.1.0; lists = p.1.1.1 })
    (λ _. refl)

abbrev pub device_code : Coded Device
device_code =
    code_by (ℕ × (ℕ × (ℕ × (ℕ × ℕ)))) (coded× coded_ℕ (coded× coded_ℕ (coded× coded_ℕ (coded× coded_ℕ coded_ℕ))))
    (λ d. (d.vendor, (d.device_type, (d.product_code, (d.major, d.minor)))))
    (λ p. record {
      vendor = p.0;
      device_type = p.1.0;
      product_code = p.1.1.0;
      major = p.1.1.1.0;
      minor = p.1.1.1.1;
    })
    (λ _. refl)

abbrev pub service_code : Coded ServiceConfig
service_code =
    code_by (ℕ × (ℕ × (ℕ × (ℕ × ServiceKind))))
    (coded× coded_ℕ (coded× coded_ℕ (coded× coded_ℕ (coded× coded_ℕ service_kind_code))))
    (λ s. (s.number, (s.least, (s.most, (s.reply, s.kind)))))
    (λ p. record { number = p.0; least = p.1.0; most = p.1.1.0; reply = p.1.1.1.0; kind = p.1.1.1.1 })
    (λ _. refl)

abbrev pub attribute_code : Coded AttributeShape
attribute_code =
    code_by (ℕ × (AttributeKind × (Bool × Bool))) (coded× coded_ℕ (coded× kind_code (coded× coded_bool coded_bool)))
    (λ a. (a.number, (a.kind, (a.settable, a.checked))))
    (λ p. record { number = p.0; kind = p.1.0; settable = p.1.1.0; checked = p.1.1.1 })
    (λ _. refl)

abbrev pub object_code : Coded ObjectShape
object_code =
    code_by (ℕ × (ℕ × (List AttributeShape × (List ServiceConfig × Bool))))
    (coded× coded_ℕ (coded× coded_ℕ (coded× (coded_list attribute_code) (coded× (coded_list service_code) coded_bool))))
    (λ o. (o.class, (o.instance, (o.attributes, (o.services, o.lists)))))
    (λ p. record { class = p.0; instance = p.1.0; attributes = p.1.1.0; services = p.1.1.1.0; lists = p.1.1.1.1 })
    (λ _. refl)

abbrev pub shapes_code : Coded Shapes
shapes_code =
    code_by (List Shape × (Bool × List ObjectShape))
    (coded× (coded_list shape_code) (coded× coded_bool (coded_list object_code)))
    (λ s. (s.assemblies, (s.has_counter, s.objects)))
    (λ p. record { assemblies = p.0; has_counter = p.1.0; objects = p.1.1 })
    (λ _. refl)

abbrev pub tally_code : Coded Tally
tally_code =
    code_by (Key × ℕ) (coded× key_code coded_ℕ) (λ t. (t.of_key, t.changes))
    (λ p. record { of_key = p.0; changes = p.1 })
    (λ _. refl)

abbrev pub contents_code : Coded Contents
contents_code =
    code_by (ObjectMap × (Shapes × (Device × List Tally)))
    (coded× (code key_code (coded_list coded_ℕ))
    (coded× shapes_code (coded× device_code (coded_list tally_code))))
    (λ m. (m.values, (m.shapes, (m.device, m.changes))))
    (λ p. record { values = p.0; shapes = p.1.0; device = p.1.1.0; changes = p.1.1.1 })
    (λ _. refl)
