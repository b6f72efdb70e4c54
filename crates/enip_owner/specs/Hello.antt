-- The first line of the device.
use Rattle.std.specs.Prelude.{ℕ, nat_le, decimal, if◌then◌else◌, Bool, List, [], ◌∷◌, ◌++◌, length, map, codes, Option, Some, None}
use Rattle.std.specs.Borrow.{Bor}
use Rattle.std.specs.List.{flat_map}
use Rattle.json.specs.Json as json
use Rattle.json.specs.Json.{Json, Members, member, no_members, object, array}
use Rattle.json.specs.Print.{print}
use Rattle.json.specs.Token.{Token, key, string, number, begin_object, begin_array, end_array}
use Rattle.json.specs.Tree.{json_tokens}
use Rattle.json.specs.Value.{items_of}
use Rattle.enip_owner.specs.declared.line_buffer.TheConstants.{LINE_LIMIT}
use Rattle.enip_owner.specs.declared.hello.Detail.{Detail}
use Rattle.enip_owner.specs.declared.hello.Detail.TheVariants as details
use Rattle.enip_owner.specs.declared.hello.DescribedAttribute.{DescribedAttribute}
use Rattle.enip_owner.specs.declared.hello.DescribedObject.{DescribedObject}
use Rattle.enip_owner.specs.declared.hello.HelloEvent.{HelloEvent}
use Rattle.enip_owner.specs.Events.{named, count, hexadecimal}

abbrev pub with_name : Option (Bor (List ℕ)) → Members → Members
with_name None members = members
with_name (Some name) members = member (codes "name") (json.string name.now) members

-- The life of the device's command ledger, if it has one.
abbrev pub with_life : Option ℕ → Members → Members
with_life None members = members
with_life (Some life) members = member (codes "life") (count life) members

abbrev pub with_data : Detail → List ℕ → Members → Members
with_data details.Values bytes members = member (codes "data") (hexadecimal bytes) members
with_data details.Types bytes members = members
with_data details.Objects bytes members = members

-- An attribute: its number, name and type, and the bytes of its value.
abbrev pub attribute_json : Detail → DescribedAttribute → Json
attribute_json detail a =
    object (member (codes "attribute") (count a.attribute)
    (with_name a.name
    (member (codes "type") (json.string a.type_name.now) (with_data detail a.«data».now no_members))))

abbrev pub with_attributes : Detail → List DescribedAttribute → Members → Members
with_attributes details.Values attributes members =
    member (codes "attributes") (array (items_of (map (attribute_json details.Values) attributes))) members
with_attributes details.Types attributes members =
    member (codes "attributes") (array (items_of (map (attribute_json details.Types) attributes))) members
with_attributes details.Objects attributes members = members

-- An object: its class, instance number and name, and its attributes.
abbrev pub object_json : Detail → DescribedObject → Json
object_json detail o =
    object (member (codes "class") (count o.class)
    (member (codes "instance") (count o.instance)
    (with_name o.name (with_attributes detail o.attributes.now no_members))))

-- The device and its objects, with this much of the attributes.
abbrev pub hello_json : Detail → HelloEvent → Json
hello_json detail h =
    named (codes "hello")
    (member (codes "vendor") (count h.vendor)
    (member (codes "product_code") (count h.product_code)
    (member (codes "serial") (count h.serial)
    (member (codes "name") (json.string h.name.now)
    (with_life h.life
    (member (codes "ahead") (count h.ahead)
    (member (codes "objects") (array (items_of (map (object_json detail) h.objects.now))) no_members)))))))

-- Whether a line has at most 64 KiB.
abbrev pub fits : Json → Bool
fits j = nat_le (length (print (json_tokens j))) LINE_LIMIT

-- Without data, or, if that is too long, without attributes.
unfoldable pub shorter_detail : HelloEvent → Detail
shorter_detail h = if fits (hello_json details.Types h) then details.Types else details.Objects

-- How much of the attributes the first line has: as much as fits.
unfoldable pub hello_detail : HelloEvent → Detail
hello_detail h = if fits (hello_json details.Values h) then details.Values else shorter_detail h

-- ---- for private clauses: the tokens of parts of the line

abbrev pub listed_tokens : Detail → List DescribedAttribute → List Token
listed_tokens detail attributes =
    key (codes "attributes") ∷ begin_array ∷ (flat_map (λ a. json_tokens (attribute_json detail a)) attributes ++ end_array ∷ [])

abbrev pub attribute_list : Detail → List DescribedAttribute → List Token
attribute_list details.Values attributes = listed_tokens details.Values attributes
attribute_list details.Types attributes = listed_tokens details.Types attributes
attribute_list details.Objects attributes = []

-- The numbers of an object.
abbrev pub object_head : DescribedObject → List Token
object_head o =
    begin_object ∷ key (codes "class") ∷ number (decimal o.class) ∷ key (codes "instance") ∷ number (decimal o.instance) ∷ []

-- A name, or nothing.
abbrev pub name_tokens : Option (Bor (List ℕ)) → List Token
name_tokens None = []
name_tokens (Some name) = key (codes "name") ∷ string name.now ∷ []

-- A life, or nothing.
abbrev pub life_tokens : Option ℕ → List Token
life_tokens None = []
life_tokens (Some life) = key (codes "life") ∷ number (decimal life) ∷ []

-- The device, up to its life.
abbrev pub device_tokens : HelloEvent → List Token
device_tokens h =
    begin_object ∷ key (codes "hello") ∷ begin_object ∷ key (codes "vendor") ∷ number (decimal h.vendor) ∷ key (codes "product_code")
    ∷ number (decimal h.product_code) ∷ key (codes "serial") ∷ number (decimal h.serial) ∷ key (codes "name") ∷ string h.name.now ∷ []

-- The device, up to its objects.
abbrev pub hello_head : HelloEvent → List Token
hello_head h =
    device_tokens h ++ (life_tokens h.life ++ key (codes "ahead") ∷ number (decimal h.ahead) ∷ key (codes "objects") ∷ begin_array ∷ [])
