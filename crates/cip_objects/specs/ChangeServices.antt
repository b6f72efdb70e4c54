-- The services that change objects. In each, the first check that fails decides (Volume 1, common services; Add and
-- Clear are the counter's own).
use Rattle.std.specs.Prelude.{ℕ, ◌+◌, ◌%◌, ◌^◌, Bool, nat_le, if◌then◌else◌, List, [], ◌++◌, take, drop, length}
use Rattle.std.specs.Prelude.{Result, Ok, Err}
use Rattle.std.specs.Option.{ok_or}
use Rattle.cip_application.specs.declared.kind.AttributeKind.{AttributeKind}
use Rattle.cip_application.specs.Values.{size_for, is_allowed as is_allowed_value}
use Rattle.byteorder.specs.Endian.{little_number}
use Rattle.cip_message.specs.declared.path.Path.{Path}
use Rattle.cip_bytes.specs.Numbers.{le}
use Rattle.cip_objects.specs.declared.status.Refusal.{Refusal}
use Rattle.cip_objects.specs.declared.status.Refusal.TheVariants.{AttributeNotSupported, AttributeNotSettable}
use Rattle.cip_objects.specs.declared.status.Refusal.TheVariants.{InvalidAttributeValue, InvalidParameter}
use Rattle.cip_bytes.specs.Reading.{◌>>=◌, ◌>>◌}
use Rattle.cip_objects.specs.Check.{demand, check_size}
use Rattle.cip_objects.specs.Contents.{Contents, value_at, bytes_at, udint_at, with_value, with_change}
use Rattle.cip_objects.specs.ReadServices.{named_member}
use Rattle.cip_objects.specs.Tables.{is_counter_class, settable_kind}
use Rattle.cip_bytes.specs.declared.protocol.TheConstants.{ASSEMBLY, COUNTER}

-- The contents after a service that changes, and the data of its reply.
pub record Change : Type 0 where
  pub after : Contents
  pub content : List ℕ

abbrev pub change : Contents → List ℕ → Result Change Refusal
change after content = Ok (record { after = after; content = content })

-- The result of a call of the code: its return value as reply data, with the contents afterwards.
abbrev pub change_result : {A : Type 0} → (A → List ℕ) → Contents → Result A Refusal → Result Change Refusal
change_result bytes after (Ok x) = change after (bytes x)
change_result bytes after (Err s) = Err s

-- The counter's limit is never set below its value.
abbrev pub is_allowed_limit : Contents → List ℕ → Bool
is_allowed_limit m content = nat_le (udint_at m COUNTER 1 1) (little_number 4 content)

-- An attribute of this class and kind may be set to these data, which have its size.
abbrev pub is_allowed : Contents → ℕ → AttributeKind → List ℕ → Bool
is_allowed m class kind content =
    if is_counter_class m.shapes class then is_allowed_limit m content else is_allowed_value kind content

-- Sets the counter's limit, if that is allowed.
abbrev pub limit_change : Contents → List ℕ → Result Change Refusal
limit_change m content = do
  demand (is_allowed_limit m content) InvalidAttributeValue
  change (with_change m COUNTER 1 2 content) []

-- Set_Attribute_Single: sets the attribute to these data.
unfoldable pub set_attribute_single : Contents → Path → List ℕ → Result Change Refusal
set_attribute_single m path content = do
  attribute ← ok_or path.attribute AttributeNotSupported
  value ← ok_or (value_at m path.class path.instance attribute) AttributeNotSupported
  kind ← ok_or (settable_kind m.shapes path.class path.instance attribute) AttributeNotSettable
  check_size (size_for kind content) content
  demand (is_allowed m path.class kind content) InvalidAttributeValue
  change (with_change m path.class path.instance attribute content) []

-- The list `old`, with these bytes in it from an offset on.
abbrev pub with_bytes_at : List ℕ → ℕ → List ℕ → List ℕ
with_bytes_at old offset bytes = take offset old ++ (bytes ++ drop (offset + length bytes) old)

-- Set_Member: sets the member to these data.
unfoldable pub set_member : Contents → Path → List ℕ → Result Change Refusal
set_member m path content = do
  span ← named_member m.shapes path
  kind ← ok_or (settable_kind m.shapes ASSEMBLY path.instance 3) AttributeNotSettable
  check_size span.size content
  change (with_change m ASSEMBLY path.instance 3
      (with_bytes_at (bytes_at m ASSEMBLY path.instance 3) span.offset content)) []

-- The contents after an addition with this sum.
abbrev pub after_add : Contents → ℕ → Contents
after_add m total =
    with_value (with_value m COUNTER 1 1 (le 4 total)) COUNTER 1 3 (le 4 ((udint_at m COUNTER 1 3 + 1) % 2 ^ 32))

-- Add: adds the number in the data to the value, unless the sum is over the limit.
unfoldable pub add : Contents → List ℕ → Result Change Refusal
add m content = do
  check_size 4 content
  demand (nat_le (udint_at m COUNTER 1 1 + little_number 4 content) (udint_at m COUNTER 1 2)) InvalidParameter
  change (after_add m (udint_at m COUNTER 1 1 + little_number 4 content))
      (le 4 (udint_at m COUNTER 1 1 + little_number 4 content))

-- Clear: sets the value to 0 and answers the old value.
unfoldable pub clear : Contents → List ℕ → Result Change Refusal
clear m content = do
  check_size 0 content
  change (with_value m COUNTER 1 1 (le 4 0)) (le 4 (udint_at m COUNTER 1 1))
