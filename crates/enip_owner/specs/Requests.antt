-- What a line of an owner says.
use Rattle.std.specs.Prelude.{◌≡◌, ◌⊎◌, ℕ, ◌^◌, ◌&&◌, nat_lt, if◌then◌else◌, Bool, true, false, List, [], ◌∷◌, length, codes, map}
use Rattle.std.specs.Prelude.{Option, Some, None, Result, Ok, Err, IsUtf8}
use Rattle.std.specs.Char.{is_digit}
use Rattle.std.specs.List.{list_all, list_any}
use Rattle.std.specs.Str.{bytes_eq}
use Rattle.std.specs.Str.Parse.{digits_value}
use Rattle.hex.specs.Hex.{decode_of}
use Rattle.hex.specs.declared.error.FromHexError.{FromHexError}
use Rattle.json.specs.Json as json
use Rattle.json.specs.Json.{Json, Items, Members, document}
use Rattle.json.specs.Find.{get}
use Rattle.json.specs.Strict.{HasUniqueKeys}
use Rattle.cip_owner.specs.Replies.{Reply}
use Rattle.enip_owner.specs.declared.attribute_ref.AttributeRef.{AttributeRef}
use Rattle.enip_owner.specs.declared.owner_fault.RequestKey.{RequestKey}
use Rattle.enip_owner.specs.declared.owner_fault.RequestKey.TheVariants as keys
use Rattle.enip_owner.specs.declared.owner_fault.OwnerFault.{OwnerFault}
use Rattle.enip_owner.specs.declared.owner_fault.OwnerFault.TheVariants as faults
use Rattle.enip_owner.specs.declared.request.GivenValue.{GivenValue}
use Rattle.enip_owner.specs.declared.request.GivenValue.TheVariants as given
use Rattle.enip_owner.specs.declared.request.OwnerRequest.{OwnerRequest}
use Rattle.enip_owner.specs.declared.request.OwnerRequest.TheVariants as requests

-- A value in a line.
pub data Given : Type 0 where
  Truth : (truth : Bool) → Given
  Number : (text : List ℕ) → Given
  Text : (text : List ℕ) → Given

-- What a line says.
pub data Request : Type 0 where
  Done : (ticket : ℕ) (reply : Reply) → Request
  Answer : (question : ℕ) (reply : Reply) → Request
  WriteData : (attribute : AttributeRef) (bytes : List ℕ) → Request
  WriteValues : (attribute : AttributeRef) (values : List Given) → Request
  Read : (attribute : AttributeRef) → Request
  Status : (status : ℕ) → Request
  State : (state : ℕ) → Request

-- A value of the code.
abbrev pub given_in : GivenValue → Given
given_in (given.Truth truth) = Truth truth
given_in (given.Number text) = Number text.now
given_in (given.Text text) = Text text.now

-- A request of the code.
abbrev pub request_in : OwnerRequest → Request
request_in (requests.Done ticket reply) = Done ticket reply
request_in (requests.Answer question reply) = Answer question reply
request_in (requests.WriteData attribute bytes) = WriteData attribute bytes.items
request_in (requests.WriteValues attribute values) = WriteValues attribute (map given_in values.items)
request_in (requests.Read attribute) = Read attribute
request_in (requests.Status status) = Status status
request_in (requests.State state) = State state

abbrev pub key_name : RequestKey → List ℕ
key_name keys.Done = codes "done"
key_name keys.Answer = codes "answer"
key_name keys.Write = codes "write"
key_name keys.Read = codes "read"
key_name keys.Status = codes "status"
key_name keys.State = codes "state"
key_name keys.Ticket = codes "ticket"
key_name keys.Question = codes "question"
key_name keys.Data = codes "data"
key_name keys.Values = codes "values"
key_name keys.Class = codes "class"
key_name keys.Instance = codes "instance"
key_name keys.Attribute = codes "attribute"

-- The next step, if the one before it was not refused.
infixl 10 ◌>>=◌
abbrev pub ◌>>=◌ : {A B : Type 0} → Result A OwnerFault → (A → Result B OwnerFault) → Result B OwnerFault
(Ok x) >>= f = f x
(Err fault) >>= f = Err fault

-- ---- numbers

-- One decimal digit or more, and nothing else.
abbrev pub is_numeral : List ℕ → Bool
is_numeral text = nat_lt 0 (length text) && list_all (λ byte. is_digit byte 10) text

-- The number that a text spells, if it is less than `limit`.
abbrev pub number_spelled : ℕ → RequestKey → List ℕ → Result ℕ OwnerFault
number_spelled limit key text =
    if is_numeral text && nat_lt (digits_value 10 text) limit then Ok (digits_value 10 text) else Err (faults.OutOfRange key)

-- The number that is the value of a key.
abbrev pub number_in : ℕ → RequestKey → Json → Result ℕ OwnerFault
number_in limit key (json.number text) = number_spelled limit key text
number_in limit key other = Err (faults.NotNumber key)

abbrev pub number_found : ℕ → RequestKey → Option Json → Result ℕ OwnerFault
number_found limit key None = Err (faults.Missing key)
number_found limit key (Some j) = number_in limit key j

-- The number that an object has at a key.
unfoldable pub number_at : ℕ → RequestKey → Json → Result ℕ OwnerFault
number_at limit key j = number_found limit key (get (key_name key) j)

-- ---- bytes

abbrev pub bytes_spelled : ℕ → Result (List ℕ) FromHexError → Result (List ℕ) OwnerFault
bytes_spelled most (Ok bytes) = if nat_lt most (length bytes) then Err faults.TooManyBytes else Ok bytes
bytes_spelled most (Err why) = Err faults.NotHexadecimal

-- At most so many bytes, in hexadecimal.
unfoldable pub bytes_in : ℕ → Json → Result (List ℕ) OwnerFault
bytes_in most (json.string text) = bytes_spelled most (decode_of text)
bytes_in most other = Err faults.NotHexadecimal

-- Without the key there are no bytes.
abbrev pub bytes_found : ℕ → Option Json → Result (List ℕ) OwnerFault
bytes_found most None = Ok []
bytes_found most (Some j) = bytes_in most j

-- ---- values

abbrev pub value_given : Json → Result Given OwnerFault
value_given (json.boolean truth) = Ok (Truth truth)
value_given (json.number text) = Ok (Number text)
value_given (json.string text) = Ok (Text text)
value_given other = Err faults.NotValues

unfoldable pub items_given : Items → Result (List Given) OwnerFault
items_given json.no_items = Ok []
items_given (json.item j rest) = do
  value ← value_given j
  values ← items_given rest
  Ok (value ∷ values)

unfoldable pub values_given : Json → Result (List Given) OwnerFault
values_given (json.array all) = items_given all
values_given other = Err faults.NotValues

-- ---- objects

abbrev pub is_known : List RequestKey → List ℕ → Bool
is_known known name = list_any (λ key. bytes_eq (key_name key) name) known

abbrev pub are_known : List RequestKey → Members → Bool
are_known known json.no_members = true
are_known known (json.member name j rest) = is_known known name && are_known known rest

-- An object with no keys but these.
unfoldable pub checked : RequestKey → List RequestKey → Json → Result (Unit {0}) OwnerFault
checked request known (json.object all) = if are_known known all then Ok tt else Err (faults.UnknownKey request)
checked request known other = Err (faults.NotObject request)

abbrev pub done_keys : List RequestKey
done_keys = keys.Ticket ∷ keys.Status ∷ keys.Data ∷ []

abbrev pub answer_keys : List RequestKey
answer_keys = keys.Question ∷ keys.Status ∷ keys.Data ∷ []

abbrev pub read_keys : List RequestKey
read_keys = keys.Class ∷ keys.Instance ∷ keys.Attribute ∷ []

abbrev pub write_keys : List RequestKey
write_keys = keys.Class ∷ keys.Instance ∷ keys.Attribute ∷ keys.Data ∷ keys.Values ∷ []

-- The attribute that an object names.
unfoldable pub attribute_in : Json → Result AttributeRef OwnerFault
attribute_in j = do
  class ← number_at (2 ^ 16) keys.Class j
  instance ← number_at (2 ^ 32) keys.Instance j
  attribute ← number_at (2 ^ 16) keys.Attribute j
  Ok (record { class = class; instance = instance; attribute = attribute })

-- ---- requests

-- The most bytes of a reply's data.
abbrev pub most_replied : ℕ
most_replied = 480

-- The most bytes of an attribute's value.
abbrev pub most_written : ℕ
most_written = 500

unfoldable pub done_in : Json → Result Request OwnerFault
done_in j = do
  known ← checked keys.Done done_keys j
  ticket ← number_at (2 ^ 32) keys.Ticket j
  status ← number_at 256 keys.Status j
  content ← bytes_found most_replied (get (key_name keys.Data) j)
  Ok (Done ticket (record { status = status; content = content }))

unfoldable pub answer_in : Json → Result Request OwnerFault
answer_in j = do
  known ← checked keys.Answer answer_keys j
  question ← number_at (2 ^ 32) keys.Question j
  status ← number_at 256 keys.Status j
  content ← bytes_found most_replied (get (key_name keys.Data) j)
  Ok (Answer question (record { status = status; content = content }))

unfoldable pub content_in : AttributeRef → Option Json → Option Json → Result Request OwnerFault
content_in attribute None None = Err (faults.Missing keys.Data)
content_in attribute (Some content) None = do
  bytes ← bytes_in most_written content
  Ok (WriteData attribute bytes)
content_in attribute None (Some content) = do
  values ← values_given content
  Ok (WriteValues attribute values)
content_in attribute (Some content) (Some other) = Err faults.TwoContents

unfoldable pub write_in : Json → Result Request OwnerFault
write_in j = do
  known ← checked keys.Write write_keys j
  attribute ← attribute_in j
  content_in attribute (get (key_name keys.Data) j) (get (key_name keys.Values) j)

unfoldable pub read_in : Json → Result Request OwnerFault
read_in j = do
  known ← checked keys.Read read_keys j
  attribute ← attribute_in j
  Ok (Read attribute)

unfoldable pub status_in : Json → Result Request OwnerFault
status_in j = do
  status ← number_in (2 ^ 16) keys.Status j
  Ok (Status status)

unfoldable pub state_in : Json → Result Request OwnerFault
state_in j = do
  state ← number_in 256 keys.State j
  Ok (State state)

-- What an object with this one member says.
unfoldable pub member_in : List ℕ → Json → Result Request OwnerFault
member_in name j =
    if bytes_eq name (codes "done") then done_in j
    else if bytes_eq name (codes "answer") then answer_in j
    else if bytes_eq name (codes "write") then write_in j
    else if bytes_eq name (codes "read") then read_in j
    else if bytes_eq name (codes "status") then status_in j
    else if bytes_eq name (codes "state") then state_in j
    else Err faults.NotRequest

abbrev pub only_member : Members → Result Request OwnerFault
only_member json.no_members = Err faults.NotRequest
only_member (json.member name j json.no_members) = member_in name j
only_member (json.member name j (json.member other k rest)) = Err faults.NotRequest

-- What a value says.
unfoldable pub request_of : Json → Result Request OwnerFault
request_of (json.object all) = only_member all
request_of other = Err faults.NotRequest

-- ---- lines

-- The text is not JSON in UTF-8.
abbrev pub IsNotJson : List ℕ → Type 0
IsNotJson text = (IsUtf8 text → ⊥) ⊎ (document text ≡ None)

-- The text is this value, in UTF-8.
abbrev pub IsJsonText : List ℕ → Json → Type 0
IsJsonText text j = IsUtf8 text × (document text ≡ Some j)

-- What a line says, or why it is refused: it is not JSON, it has a key twice in an object, or what its value says.
abbrev pub Says : List ℕ → Result Request OwnerFault → Type 0
Says text said =
    (IsNotJson text × (said ≡ Err faults.NotJson))
    ⊎ (((j : Json) × (IsJsonText text j × (HasUniqueKeys j → ⊥) × (said ≡ Err faults.DoubledKey)))
    ⊎ ((j : Json) × (IsJsonText text j × HasUniqueKeys j × (said ≡ request_of j))))

-- The line is refused for this reason, or memory was.
abbrev pub IsRefusal : List ℕ → OwnerFault → Type 0
IsRefusal text faults.Memory = Unit {0}
IsRefusal text fault = Says text (Err fault)

-- ---- what a reader returns

-- A refusal by the code is one by the definition, unless memory was refused.
abbrev pub Fails : {Y : Type 0} → OwnerFault → Result Y OwnerFault → Type 0
Fails faults.Memory said = Unit {0}
Fails fault said = said ≡ Err fault

-- What the code returns, seen by `view`, is what the definition says.
abbrev pub Gives : {X Y : Type 0} → (X → Y) → Result X OwnerFault → Result Y OwnerFault → Type 0
Gives view (Ok x) said = said ≡ Ok (view x)
Gives view (Err fault) said = Fails fault said
