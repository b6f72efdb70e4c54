-- An attribute of an application object: what the configuration fixed, its value, and how often peers set it.
use Rattle.std.specs.Prelude.{◌≡◌, ℕ, ◌+◌, ◌%◌, ◌^◌, Bool, false, not, ◌&&◌, ◌==◌, nat_lt, if◌then◌else◌, List, []}
use Rattle.std.specs.Prelude.{◌∷◌, Option, Some, None, option_map, Result, Ok}
use Rattle.cip_bytes.specs.Reading.{◌>>◌}
use Rattle.cip_application.specs.declared.attribute.SetFault.{SetFault}
use Rattle.cip_application.specs.declared.attribute.SetFault.TheVariants.{AttributeNotSettable}
use Rattle.cip_application.specs.declared.kind.AttributeKind.{AttributeKind}
use Rattle.cip_application.specs.Check.{demand}
use Rattle.cip_application.specs.Values.{check_value, Writing, from_offset, as_whole}

pub record AttributeValues : Type 0 where
  pub number : ℕ
  pub kind : AttributeKind
  pub settable : Bool
  pub checked : Bool
  pub value : List ℕ
  pub changes : ℕ

-- The attribute with this number: the first, if there are two.
abbrev pub attribute_at : ℕ → List AttributeValues → Option AttributeValues
attribute_at number [] = None
attribute_at number (a ∷ attributes) =
    if a.number == number then Some a else attribute_at number attributes

-- Whether peers can set the attribute without a question to the owner of the device.
abbrev pub can_be_set : Option AttributeValues → Bool
can_be_set None = false
can_be_set (Some a) = a.settable && not a.checked

-- Whether peers can set the attribute only if the owner of the device approves.
abbrev pub needs_approval : Option AttributeValues → Bool
needs_approval None = false
needs_approval (Some a) = a.settable && a.checked

-- The checks of such a set before the owner is asked. None if the attribute is not set in this way.
abbrev pub check_before_asking : Option AttributeValues → List ℕ → Option (Result (Unit {0}) SetFault)
check_before_asking None content = None
check_before_asking (Some a) content = if a.settable && a.checked then Some (check_value a.kind content) else None

-- The attributes with this one in place of the first with its number.
abbrev pub with_attribute : AttributeValues → List AttributeValues → List AttributeValues
with_attribute a [] = []
with_attribute a (b ∷ attributes) =
    if b.number == a.number then a ∷ attributes else b ∷ with_attribute a attributes

-- Each value is one that its attribute may have.
abbrev pub AreAllowed : List AttributeValues → Type 0
AreAllowed [] = Unit {0}
AreAllowed (a ∷ attributes) = (check_value a.kind a.value ≡ Ok tt) × AreAllowed attributes

-- The count after one more change.
abbrev pub one_more : ℕ → ℕ
one_more changes = (changes + 1) % 2 ^ 32

-- The attribute after a peer set it to these data, which is counted. The first check that fails refuses it.
abbrev pub attribute_set : AttributeValues → List ℕ → Result AttributeValues SetFault
attribute_set a content = do
  demand a.settable AttributeNotSettable
  check_value a.kind content
  Ok (record a { value = content; changes = one_more a.changes })

-- The attribute after the device itself wrote it in this way, settable or not. It is not counted.
abbrev pub attribute_by : Writing → AttributeValues → Option AttributeValues
attribute_by w a = option_map (λ value. record a { value = value }) (w a.kind a.value)

-- The attribute after the device itself wrote these bytes from an offset on.
abbrev pub attribute_write : AttributeValues → ℕ → List ℕ → Option AttributeValues
attribute_write a offset bytes = attribute_by (from_offset offset bytes) a

-- The attribute after the device itself put these bytes in place of its value.
abbrev pub attribute_restore : AttributeValues → List ℕ → Option AttributeValues
attribute_restore a bytes = attribute_by (as_whole bytes) a

-- The attributes, with one more put before the first of a greater number.
abbrev pub with_placed : AttributeValues → List AttributeValues → List AttributeValues
with_placed a [] = a ∷ []
with_placed a (b ∷ attributes) =
    if nat_lt a.number b.number then a ∷ b ∷ attributes else b ∷ with_placed a attributes

-- The attributes in the order of their numbers.
abbrev pub in_order : List AttributeValues → List AttributeValues
in_order [] = []
in_order (a ∷ attributes) = with_placed a (in_order attributes)
