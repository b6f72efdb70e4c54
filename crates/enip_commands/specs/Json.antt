-- The JSON that is printed. Members are sorted by name.
use Rattle.std.specs.Prelude.{◌≡◌, ◌==◌, nat_lt, if◌then◌else◌, ℕ, Bool, List, ◌++◌, codes, length, slice_index, Some}
use Rattle.std.specs.List.{position_or_len, before_first, after_first}
use Rattle.std.specs.Fmt.{decimal}
use Rattle.hex.specs.Hex.{encode_lower}
use Rattle.cip_values.specs.Values.{Value}
use Rattle.cip_values.specs.Types.{type_name_of}
use Rattle.cip_values.specs.declared.element.ValueType.{ValueType}
use Rattle.enip_client.specs.Identity.{Identity}
use Rattle.enip_client.specs.Service.{Service}
use Rattle.enip_lines.specs.JsonValues.{count, latin, AreJsonOf}
use Rattle.json.specs.Lex.{tokens}
use Rattle.json.specs.Print.{print}
use Rattle.serde_json.specs.Read.{read}
use Rattle.serde_json.specs.Data.{Data, string, object, Members, member, no_members}

-- An address in dotted decimal, without a port.
abbrev pub host_text : List ℕ → List ℕ
host_text address =
    decimal (slice_index address 0) ++ codes "." ++ decimal (slice_index address 1) ++ codes "."
    ++ decimal (slice_index address 2) ++ codes "." ++ decimal (slice_index address 3)

-- An identity.
abbrev pub identity_members : Identity → Members
identity_members i =
    member (codes "address") (string (host_text i.address))
    (member (codes "device_type") (count i.device_type)
    (member (codes "major") (count i.major)
    (member (codes "minor") (count i.minor)
    (member (codes "name") (string (latin i.name))
    (member (codes "port") (count i.port)
    (member (codes "product_code") (count i.product_code)
    (member (codes "serial") (count i.serial)
    (member (codes "state") (count i.state)
    (member (codes "status") (count i.status)
    (member (codes "vendor") (count i.vendor) no_members))))))))))

abbrev pub identity_data : Identity → Data
identity_data i = object (identity_members i)

-- A service of ListServices.
abbrev pub service_data : Service → Data
service_data s =
    object (member (codes "capability_flags") (count s.flags)
    (member (codes "name") (string (latin s.name))
    (member (codes "version") (count s.version) no_members)))

-- A reply, with its data in hexadecimal.
abbrev pub data_told : List ℕ → Data
data_told bytes = object (member (codes "data") (string (encode_lower bytes)) (member (codes "status") (count 0) no_members))

-- A refusal: the general status, and the first additional word or 0.
abbrev pub refusal_json : ℕ → ℕ → Data
refusal_json status extended =
    object (member (codes "extended") (count extended) (member (codes "status") (count status) no_members))

-- A reply, with its data in hexadecimal, their type and their values.
abbrev pub values_json : List ℕ → ValueType → Data → Data
values_json bytes value_type list =
    object (member (codes "data") (string (encode_lower bytes))
    (member (codes "status") (count 0)
    (member (codes "type") (string (type_name_of value_type))
    (member (codes "values") list no_members))))

abbrev pub AreValuesJson : List ℕ → ValueType → List Value → Data → Type 0
AreValuesJson bytes value_type values d = (list : Data) × AreJsonOf values list × (d ≡ values_json bytes value_type list)

-- The line parses to that object, and has nothing between its tokens.
abbrev pub IsValuesLine : List ℕ → ValueType → List Value → List ℕ → Type 0
IsValuesLine bytes value_type values line =
    (d : Data) × (AreValuesJson bytes value_type values d × (read line ≡ Some d) × (line ≡ print (tokens line)))

abbrev pub is_comma : ℕ → Bool
is_comma byte = byte == 44

-- An object in which a command's number, and that an earlier run has sent it, follow the first member.
abbrev pub resumed_text : ℕ → List ℕ → List ℕ
resumed_text number text =
    if nat_lt (position_or_len is_comma text) (length text)
    then before_first is_comma text ++ codes ",\"number\":" ++ decimal number ++ codes ",\"resumed\":true,"
    ++ after_first is_comma text
    else text
