-- Values that are written to a line.
use Rattle.std.specs.Prelude.{◌≡◌, ℕ, decimal, List, [], ◌∷◌, ◌++◌, codes, Option, Some, None, Result, OnOk}
use Rattle.json.specs.Json.{Json}
use Rattle.json.specs.Token.{Token, key, string, number, begin_object, begin_array}
use Rattle.json.specs.Tree.{json_tokens, items_tokens}
use Rattle.json.specs.Value.{items_of}
use Rattle.json.specs.Written.{Written}
use Rattle.hex.specs.Hex.{encode_lower}
use Rattle.enip_owner.specs.declared.attribute_ref.AttributeRef.{AttributeRef}
use Rattle.enip_owner.specs.declared.event.AskedEvent.{AskedEvent}
use Rattle.cip_values.specs.Values.{Value}
use Rattle.cip_values.specs.declared.element.ValueType.{ValueType}
use Rattle.enip_owner.specs.Events.{EachShownAs, AreShownAs}
use Rattle.enip_owner.specs.Parts.{number_member, text_member}

-- One of these JSON values is written after the others, unless memory is refused.
pub record AddsOne {E : Type 0} (r : Result (Unit {0}) E) (old new : Written) (Is : Json → Type 0) : Type 0 where
  pub ok : OnOk r ((j : Json) × (Is j × (new.tokens ≡ old.tokens ++ json_tokens j)))
  pub before : new.before ≡ old.before

-- A list of values, as the value of `values`.
abbrev pub list_tokens : List Json → List Token
list_tokens js = key (codes "values") ∷ begin_array ∷ items_tokens (items_of js)

-- The values are written as a list.
pub record AddsValues {E : Type 0} (r : Result (Unit {0}) E) (old new : Written) (values : List Value) : Type 0 where
  pub ok : OnOk r ((js : List Json) × (EachShownAs values js × (new.tokens ≡ old.tokens ++ list_tokens js)))
  pub before : new.before ≡ old.before

abbrev pub shown_tokens : Option (List Json) → List Token
shown_tokens None = []
shown_tokens (Some js) = list_tokens js

-- The values of bytes are written, if they are values.
pub record AddsShown {E : Type 0} (r : Result (Unit {0}) E) (old new : Written) (value_type : Option ValueType) (bytes : List ℕ) : Type 0 where
  pub ok : OnOk r ((shown : Option (List Json)) × (AreShownAs value_type bytes shown × (new.tokens ≡ old.tokens ++ shown_tokens shown)))
  pub before : new.before ≡ old.before

-- The beginning of a line about an attribute, up to `data`.
abbrev pub attribute_head : List ℕ → AttributeRef → List ℕ → List Token
attribute_head name a bytes =
    begin_object ∷ key name ∷ begin_object ∷ key (codes "class") ∷ number (decimal a.class) ∷ key (codes "instance")
    ∷ number (decimal a.instance) ∷ key (codes "attribute") ∷ number (decimal a.attribute) ∷ key (codes "data")
    ∷ string (encode_lower bytes) ∷ []

-- The number of an attribute, if there is one.
abbrev pub number_of_attribute : Option ℕ → List Token
number_of_attribute None = []
number_of_attribute (Some n) = number_member (codes "attribute") n

-- The beginning of the line of a request, up to `data`.
abbrev pub asked_front : AskedEvent → List Token
asked_front e =
    begin_object ∷ key (codes "asked") ∷ begin_object ∷ key (codes "question") ∷ number (decimal e.question)
    ∷ key (codes "class") ∷ number (decimal e.class) ∷ key (codes "instance") ∷ number (decimal e.instance)
    ∷ key (codes "service") ∷ number (decimal e.service) ∷ []

abbrev pub asked_head : AskedEvent → List Token
asked_head e = asked_front e ++ (number_of_attribute e.attribute ++ text_member (codes "data") (encode_lower e.«data».now))
