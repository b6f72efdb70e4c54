-- The changes of an attribute over a list of requests: how often they set it.
use Rattle.std.specs.Prelude.{◌≡◌, ℕ, ◌+◌, ◌%◌, ◌^◌, ◌<◌, Bool, false, ◌&&◌, ◌||◌, ◌==◌, if◌then◌else◌, List, [], ◌∷◌}
use Rattle.std.specs.Prelude.{Option, Some, None, Result, Ok, Err, drop}
use Rattle.byteorder.specs.Endian.{little_number}
use Rattle.cip_bytes.specs.Numbers.{words_of}
use Rattle.cip_message.specs.declared.path.Path.{Path}
use Rattle.cip_message.specs.declared.path.PathFault.{PathFault}
use Rattle.cip_message.specs.declared.request.RequestFault.{RequestFault}
use Rattle.cip_message.specs.PathReading.{path_of}
use Rattle.cip_message.specs.Request.{Request, request_of}
use Rattle.cip_objects.specs.Changes.{changes_at}
use Rattle.cip_objects.specs.Contents.{Contents}
use Rattle.cip_objects.specs.Execution.{run}
use Rattle.cip_objects.specs.ObjectMap.{Key}
use Rattle.cip_message.specs.Router.{general_status}
use Rattle.cip_objects.specs.SetLists.{Setting, settings_of, settings_or_none}
use Rattle.cip_objects.specs.Tables.{Shapes}

abbrev pub is_attribute : ℕ → Option ℕ → Bool
is_attribute number None = false
is_attribute number (Some attribute) = attribute == number

-- The path names the attribute at this key.
abbrev pub leads_to : Key → Result Path PathFault → Bool
leads_to k (Ok p) = (p.class == k.class) && ((p.instance == k.instance) && is_attribute k.attribute p.attribute)
leads_to k (Err f) = false

-- The request is to set this attribute or a member of it: a Set_Attribute_Single or a Set_Member.
abbrev pub sets_attribute : Key → Result Request RequestFault → Bool
sets_attribute k (Ok q) = ((q.service == 0x10) || (q.service == 0x19)) && leads_to k (path_of q.path)
sets_attribute k (Err f) = false

-- It set it: its reply says success.
abbrev pub is_write : Key → List ℕ → List ℕ → Bool
is_write k request reply = (general_status reply == 0) && sets_attribute k (request_of request)

-- The path names the object of this attribute.
abbrev pub leads_to_object : Key → Result Path PathFault → Bool
leads_to_object k (Ok p) = (p.class == k.class) && (p.instance == k.instance)
leads_to_object k (Err f) = false

-- What a Set_Attribute_List with these data is to set, or nothing if it is malformed.
abbrev pub settings_in : Shapes → Result Path PathFault → List ℕ → List Setting
settings_in shapes (Ok p) content =
    settings_or_none (settings_of shapes p.class p.instance (little_number 2 content) (drop 2 content))
settings_in shapes (Err f) content = []

-- How many of them set the attribute with this number. The words are those of the entries of the reply: a number and a
-- status each.
abbrev pub sets_in : ℕ → List Setting → List ℕ → ℕ
sets_in attribute [] words = 0
sets_in attribute (s ∷ settings) [] = 0
sets_in attribute (s ∷ settings) (n ∷ []) = 0
sets_in attribute (s ∷ settings) (n ∷ status ∷ words) =
    (if (s.attribute == attribute) && (status == 0) then 1 else 0) + sets_in attribute settings words

-- How often a Set_Attribute_List set the attribute. The entries of its reply begin after the head and the count.
abbrev pub list_writes : Shapes → Key → Result Request RequestFault → List ℕ → ℕ
list_writes shapes k (Ok q) reply =
    if (q.service == 0x04) && leads_to_object k (path_of q.path) then
    sets_in k.attribute (settings_in shapes (path_of q.path) q.data) (words_of (drop 6 reply))
    else 0
list_writes shapes k (Err f) reply = 0

-- How often the request set the attribute.
abbrev pub writes_of : Shapes → Key → List ℕ → List ℕ → ℕ
writes_of shapes k request reply =
    (if is_write k request reply then 1 else 0) + list_writes shapes k (request_of request) reply

-- How often these requests set it.
abbrev pub number_of_writes : Shapes → Key → List (ℕ × List ℕ) → List (List ℕ) → ℕ
number_of_writes shapes k [] replies = 0
number_of_writes shapes k (r ∷ requests) [] = 0
number_of_writes shapes k (r ∷ requests) (reply ∷ replies) =
    writes_of shapes k r.1 reply + number_of_writes shapes k requests replies

-- For every list of requests, the changes of an attribute that is counted are exactly those that set it, modulo 2^32.
abbrev pub changes_law : Type 0
changes_law =
    (m : Contents) (requests : List (ℕ × List ℕ)) (k : Key) (count : ℕ) → changes_at k m.changes ≡ Some count
    → count < 2 ^ 32
    → changes_at k (run m requests).after.changes
    ≡ Some ((count + number_of_writes m.shapes k requests (run m requests).answers) % 2 ^ 32)
