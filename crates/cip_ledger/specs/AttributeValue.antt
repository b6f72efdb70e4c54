-- The bytes of an attribute's value (Volume 1, elementary data types), and how a list of attributes is written.
use Rattle.std.specs.Prelude.{◌≡◌, ℕ, ◌<◌, ◌≤◌, Bool, true, false, Option, Some, None, List, length}
use Rattle.cip_bytes.specs.Numbers.{le}
use Rattle.cip_objects.specs.Entries as entries
use Rattle.cip_objects.specs.ReadServices.{list_entry_of}
use Rattle.cip_ledger.specs.Services.{values_of}
use Rattle.cip_ledger.specs.declared.attributes.AttributeValue.{AttributeValue}
use Rattle.cip_ledger.specs.declared.attributes.AttributeValue.TheVariants.{Uint, Ulint}
use Rattle.cip_ledger.specs.declared.attributes.Attributes.{Attributes}

abbrev pub value_bytes : AttributeValue → List ℕ
value_bytes (Uint value) = le 2 value
value_bytes (Ulint value) = le 8 value

-- the attributes, each a number and a value
abbrev pub values_in : Attributes → entries.Attributes
values_in attributes = values_of attributes.slots attributes.taken attributes.life

abbrev pub listed : ℕ → Option (List ℕ) → List ℕ
listed attribute value = list_entry_of attribute value

-- the text is what was written, if it fits
abbrev pub Appends : ℕ → List ℕ → Bool → List ℕ → Type 0
Appends max_size text true new = (length text ≤ max_size) × (new ≡ text)
Appends max_size text false new = max_size < length text

-- the same with an answer whether all attributes are there
abbrev pub AppendsList : ℕ → List ℕ → Bool → Option Bool → List ℕ → Type 0
AppendsList max_size text all (Some is) new = (length text ≤ max_size) × (new ≡ text) × (is ≡ all)
AppendsList max_size text all None new = max_size < length text
