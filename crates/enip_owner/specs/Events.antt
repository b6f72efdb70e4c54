-- The lines of the device.
use Rattle.std.specs.Prelude.{◌≡◌, ◌≢◌, ◌⊎◌, ◌<◌, ◌≤◌, ℕ, Bool, true, false, List, [], ◌∷◌, ◌++◌, length, codes, decimal, ⊤}
use Rattle.std.specs.Prelude.{Option, Some, None, Result, Ok, Err, Vec}
use Rattle.std.specs.Fmt.{signed_decimal}
use Rattle.std.specs.Float.{Float, binary64, float_is_finite}
use Rattle.std.specs.Net.Text.{ip_text}
use Rattle.std.specs.declared.alloc.Global.{Global}
use Rattle.std.specs.declared.net.ip_addr.IpAddr.{IpAddr}
use Rattle.std.specs.Float.Parse.{parse_float}
use Rattle.hex.specs.Hex.{encode_lower}
use Rattle.json.specs.Json as json
use Rattle.json.specs.Json.{Json, Members, member, no_members, object, array, document}
use Rattle.json.specs.Print.{print}
use Rattle.json.specs.Tree.{json_tokens}
use Rattle.json.specs.Value.{items_of}
use Rattle.serde_json.specs.Data as scalar
use Rattle.serde_json.specs.Data.{Data, Num}
use Rattle.cip_values.specs.Values.{Value, AreBytesOf, IsReadFault}
use Rattle.cip_values.specs.declared.element.ValueType.{ValueType}
use Rattle.cip_values.specs.declared.fault.ValueFault.{ValueFault}
use Rattle.cip_values.specs.declared.fault.ValueFault.TheVariants as value_faults
use Rattle.enip_lines.specs.InputLines.{has_newline}
use Rattle.enip_lines.specs.JsonValues.{IsJsonOf}
use Rattle.enip_owner.specs.declared.attribute_ref.AttributeRef.{AttributeRef}
use Rattle.enip_owner.specs.declared.line_buffer.TheConstants.{LINE_LIMIT}
use Rattle.enip_owner.specs.declared.event_fault.EventFault.{EventFault}
use Rattle.enip_owner.specs.declared.event_fault.EventFault.TheVariants as faults
use Rattle.enip_owner.specs.declared.event.CommandEvent.{CommandEvent}
use Rattle.enip_owner.specs.declared.event.AskedEvent.{AskedEvent}
use Rattle.enip_owner.specs.declared.event.ChangedEvent.{ChangedEvent}
use Rattle.enip_owner.specs.declared.event.ValueEvent.{ValueEvent}
use Rattle.enip_owner.specs.declared.event.EndedEvent.{EndedEvent}
use Rattle.enip_owner.specs.declared.event.ResetEvent.{ResetEvent}

-- ---- lines

-- A line has the text of a JSON value with nothing between its tokens, of at most 64 KiB and without a newline, and a
-- newline. The text reads as that value.
pub record IsLineOf (j : Json) (line : List ℕ) : Type 0 where
  pub text : line ≡ print (json_tokens j) ++ codes "\n"
  pub short : length (print (json_tokens j)) ≤ LINE_LIMIT
  pub one_line : has_newline (print (json_tokens j)) ≡ false
  pub reads_back : document (print (json_tokens j)) ≡ Some j

abbrev pub IsUnwritten : Json → EventFault → Type 0
IsUnwritten j faults.TooLong = LINE_LIMIT < length (print (json_tokens j))
IsUnwritten j faults.Memory = Unit {0}

-- The line of a JSON value, or why there is none.
abbrev pub IsWritten : Json → Result (Vec ℕ Global) EventFault → Type 0
IsWritten j (Ok line) = IsLineOf j line.items
IsWritten j (Err fault) = IsUnwritten j fault

-- ---- parts of objects

-- An object with one member, which is an object.
abbrev pub named : List ℕ → Members → Json
named name members = object (member name (object members) no_members)

abbrev pub count : ℕ → Json
count n = json.number (decimal n)

abbrev pub hexadecimal : List ℕ → Json
hexadecimal bytes = json.string (encode_lower bytes)

abbrev pub attribute_members : AttributeRef → Members → Members
attribute_members attribute members =
    member (codes "class") (count attribute.class)
    (member (codes "instance") (count attribute.instance)
    (member (codes "attribute") (count attribute.attribute) members))

-- Who it was, if that is known.
abbrev pub with_address : Option IpAddr → Members → Members
with_address None members = members
with_address (Some address) members = member (codes "by") (json.string (ip_text address)) members

-- ---- values

-- A number of `enip get --json` in a line.
abbrev pub IsNumberJson : Num → Json → Type 0
IsNumberJson (scalar.unsigned n) j = j ≡ count n
IsNumberJson (scalar.negative z) j = j ≡ json.number (signed_decimal z)
IsNumberJson (scalar.float x) j =
    ((text : List ℕ) × ((j ≡ json.number text) × (parse_float binary64 text ≡ Some x))) ⊎ ((j ≡ json.null) × (float_is_finite x ≡ false))

-- A value of `enip get --json` in a line. Values do not nest.
abbrev pub IsScalarJson : Data → Json → Type 0
IsScalarJson scalar.null j = j ≡ json.null
IsScalarJson (scalar.boolean truth) j = j ≡ json.boolean truth
IsScalarJson (scalar.number n) j = IsNumberJson n j
IsScalarJson (scalar.string text) j = j ≡ json.string text
IsScalarJson (scalar.array all) j = j ≡ json.null
IsScalarJson (scalar.object all) j = j ≡ json.null

-- A value of an elementary type in a line: the JSON that `enip get --json` prints for it.
abbrev pub IsShownAs : Value → Json → Type 0
IsShownAs value j = (d : Data) × (IsJsonOf value d × IsScalarJson d j)

abbrev pub EachShownAs : List Value → List Json → Type 0
EachShownAs [] [] = ⊤
EachShownAs (value ∷ values) (j ∷ js) = IsShownAs value j × EachShownAs values js
EachShownAs values js = ⊥

-- The values of bytes, if their type is known and they are values of it.
abbrev pub AreShownAs : Option ValueType → List ℕ → Option (List Json) → Type 0
AreShownAs None bytes None = ⊤
AreShownAs None bytes (Some js) = ⊥
AreShownAs (Some value_type) bytes None =
    (fault : ValueFault) × (IsReadFault value_type bytes fault × (fault ≢ value_faults.Memory))
AreShownAs (Some value_type) bytes (Some js) =
    (values : List Value) × (AreBytesOf value_type bytes values × EachShownAs values js)

abbrev pub with_values : Option (List Json) → Members → Members
with_values None members = members
with_values (Some js) members = member (codes "values") (array (items_of js)) members

-- ---- the lines

abbrev pub command_json : CommandEvent → Json
command_json e =
    named (codes "command")
    (member (codes "ticket") (count e.ticket)
    (member (codes "class") (count e.class)
    (member (codes "instance") (count e.instance)
    (member (codes "service") (count e.service)
    (member (codes "data") (hexadecimal e.«data».now)
    (with_address e.by
    (member (codes "again") (json.boolean e.again) no_members)))))))

-- The attribute, if the request names one.
abbrev pub with_attribute : Option ℕ → Members → Members
with_attribute None members = members
with_attribute (Some number) members = member (codes "attribute") (count number) members

-- A request that the owner is asked, with these values.
abbrev pub asked_json : AskedEvent → Option (List Json) → Json
asked_json e values =
    named (codes "asked")
    (member (codes "question") (count e.question)
    (member (codes "class") (count e.class)
    (member (codes "instance") (count e.instance)
    (member (codes "service") (count e.service)
    (with_attribute e.attribute
    (member (codes "data") (hexadecimal e.«data».now) (with_values values (with_address (Some e.by) no_members))))))))

-- With these values.
abbrev pub changed_json : ChangedEvent → Option (List Json) → Json
changed_json e values =
    named (codes "changed")
    (attribute_members e.attribute
    (member (codes "data") (hexadecimal e.«data».now) (with_values values (with_address (Some e.by) no_members))))

abbrev pub value_json : ValueEvent → Option (List Json) → Json
value_json e values =
    named (codes "value")
    (attribute_members e.attribute (member (codes "data") (hexadecimal e.«data».now) (with_values values no_members)))

abbrev pub ended_json : EndedEvent → Json
ended_json e =
    named (codes "ended")
    (member (codes "connection") (count e.connection) (member (codes "reason") (json.string e.reason.now) no_members))

abbrev pub reset_json : ResetEvent → Json
reset_json e =
    named (codes "reset") (member (codes "type") (count e.reset_type) (with_address (Some e.by) no_members))

abbrev pub ok_json : ℕ → Json
ok_json line = object (member (codes "ok") (count line) no_members)

abbrev pub error_json : ℕ → List ℕ → Json
error_json line text =
    object (member (codes "error") (count line) (member (codes "text") (json.string text) no_members))

abbrev pub IsUnwrittenOne : (Json → Type 0) → EventFault → Type 0
IsUnwrittenOne Is faults.TooLong = (j : Json) × (Is j × IsUnwritten j faults.TooLong)
IsUnwrittenOne Is faults.Memory = Unit {0}

-- The line of one of these JSON values, or why there is none.
abbrev pub IsWrittenOne : (Json → Type 0) → Result (Vec ℕ Global) EventFault → Type 0
IsWrittenOne Is (Ok line) = (j : Json) × (Is j × IsLineOf j line.items)
IsWrittenOne Is (Err fault) = IsUnwrittenOne Is fault

-- A request that the owner is asked, with its values.
abbrev pub IsAsked : AskedEvent → Json → Type 0
IsAsked e j =
    (values : Option (List Json)) × (AreShownAs e.value_type e.«data».now values × (j ≡ asked_json e values))

-- A set, with its values.
abbrev pub IsChanged : ChangedEvent → Json → Type 0
IsChanged e j =
    (values : Option (List Json)) × (AreShownAs e.value_type e.«data».now values × (j ≡ changed_json e values))

-- A value, as bytes and as values.
abbrev pub IsValue : ValueEvent → Json → Type 0
IsValue e j =
    (values : Option (List Json)) × (AreShownAs e.value_type e.«data».now values × (j ≡ value_json e values))
