-- What holds of executions, in terms of objects, attributes and requests.
use Rattle.std.specs.Prelude.{◌≡◌, ℕ, ◌+◌, ◌≤◌, ◌==◌, ◌&&◌, ◌||◌, Bool, false, List, [], ◌∷◌, length, Some, None, is_some}
use Rattle.std.specs.Prelude.{Ok, slice_index}
use Rattle.std.specs.List.{AllByRecursion}
use Rattle.cip_message.specs.declared.path.Path.{Path}
use Rattle.cip_message.specs.PathReading.{path_of}
use Rattle.cip_message.specs.Request.{request_of}
use Rattle.cip_objects.specs.declared.service.Service.{Service}
use Rattle.cip_objects.specs.declared.service.Service.TheVariants.{GetAttributesAll, GetAttributeList, SetAttributeList}
use Rattle.cip_objects.specs.declared.service.Service.TheVariants.{GetAttributeSingle, SetAttributeSingle, GetMember}
use Rattle.cip_objects.specs.declared.service.Service.TheVariants.{SetMember, Add, Clear}
use Rattle.cip_bytes.specs.declared.protocol.GeneralStatus.TheVariants.{Success}
use Rattle.cip_objects.specs.Contents.{Contents, value_at}
use Rattle.cip_objects.specs.Execution.{Outcome, perform, reply_to, exec, run}
use Rattle.cip_message.specs.Router.{general_status, REPLY_TOO_LARGE}
use Rattle.cip_objects.specs.Run.{to_counter}
use Rattle.cip_objects.specs.Status.{completion_status}
use Rattle.cip_objects.specs.Tables.{settable_kind}
use Rattle.cip_bytes.specs.declared.protocol.TheConstants.{COUNTER}

-- The bytes are a request with this service, path and data.
abbrev pub IsRequestWith : List ℕ → ℕ → List ℕ → List ℕ → Type 0
IsRequestWith text service path content = request_of text ≡ Ok (record { service = service; path = path; «data» = content })

-- If a reply is too large, the contents are unchanged.
abbrev pub too_large_law : Type 0
too_large_law =
    (m : Contents) (max_size : ℕ) (text : List ℕ) → general_status (exec m max_size text).answer ≡ REPLY_TOO_LARGE
    → (exec m max_size text).after ≡ m

-- The services that change the object map, but for the one that sets a list. The longer the list, the longer its reply.
abbrev pub ChangesOne : Service → Type 0
ChangesOne SetAttributeSingle = Unit {0}
ChangesOne SetMember = Unit {0}
ChangesOne Add = Unit {0}
ChangesOne Clear = Unit {0}
ChangesOne SetAttributeList = ⊥
ChangesOne GetAttributesAll = ⊥
ChangesOne GetAttributeList = ⊥
ChangesOne GetAttributeSingle = ⊥
ChangesOne GetMember = ⊥

-- If `max_size` is 8 or more, the reply of each of these services fits.
abbrev pub changes_fit_law : Type 0
changes_fit_law =
    (m : Contents) (service : Service) (path : Path) (content text : List ℕ) (o : Outcome) (max_size : ℕ)
    → ChangesOne service → perform m service path content ≡ Ok o → 8 ≤ max_size
    → length (reply_to text (completion_status o.status) o.content) ≤ max_size

-- After a Set_Attribute_Single that succeeded, Get_Attribute_Single answers the value that was set.
abbrev pub get_after_set_law : Type 0
get_after_set_law =
    (m : Contents) (max_size later : ℕ) (set get path value : List ℕ) → IsRequestWith set 0x10 path value → IsRequestWith get 0x0e path []
    → general_status (exec m max_size set).answer ≡ 0 → 4 + length value ≤ later
    → (run m ((max_size, set) ∷ (later, get) ∷ [])).answers ≡ (exec m max_size set).answer ∷ reply_to get Success value ∷ []

-- A Set_Attribute_Single at one key does not change any other.
abbrev pub set_leaves_others_law : Type 0
set_leaves_others_law =
    (m : Contents) (max_size : ℕ) (set path value : List ℕ) (p : Path) → IsRequestWith set 0x10 path value → path_of path ≡ Ok p
    → (class instance attribute : ℕ)
    → ((class ≡ p.class) × (instance ≡ p.instance) × (Some attribute ≡ p.attribute) → ⊥)
    → value_at (exec m max_size set).after class instance attribute ≡ value_at m class instance attribute

-- A reply with any general status but success and attribute list error has no data, and the contents are unchanged.
abbrev pub refused_law : Type 0
refused_law =
    (m : Contents) (max_size : ℕ) (text : List ℕ) → (general_status (exec m max_size text).answer ≡ 0x00 → ⊥)
    → (general_status (exec m max_size text).answer ≡ 0x0a → ⊥)
    → (length (exec m max_size text).answer ≡ 4) × ((exec m max_size text).after ≡ m)

-- The reply fits.
abbrev pub Fits : Contents → ℕ → List ℕ → Type 0
Fits m max_size text = general_status (exec m max_size text).answer ≡ REPLY_TOO_LARGE → ⊥

-- If `max_size` is 8 or more, the contents after a request do not depend on it. Those after a Set_Attribute_List depend
-- on whether its reply fits.
abbrev pub any_max_size_law : Type 0
any_max_size_law = (m : Contents) (max_size other : ℕ) (text : List ℕ) → 8 ≤ max_size → 8 ≤ other
    → (slice_index text 0 ≡ 0x04 → Fits m max_size text × Fits m other text)
    → (exec m max_size text).after ≡ (exec m other text).after

-- An Add, and a Clear, of the counter.
abbrev pub is_add : List ℕ → Bool
is_add text = is_some (to_counter 0x32 (request_of text))

abbrev pub is_clear : List ℕ → Bool
is_clear text = is_some (to_counter 0x33 (request_of text))

-- The request may change an attribute that is not settable: an Add the counter's value and its additions, a Clear its
-- value.
abbrev pub changes_unsettable : ℕ → ℕ → ℕ → List ℕ → Bool
changes_unsettable class instance attribute text =
    (class == COUNTER) && (instance == 1)
    && (((attribute == 1) && (is_add text || is_clear text)) || ((attribute == 3) && is_add text))

-- Whatever requests are executed, an attribute that is not settable does not change, unless one of them is such an Add
-- or Clear.
abbrev pub unsettable_law : Type 0
unsettable_law =
    (m : Contents) (requests : List (ℕ × List ℕ)) (class instance attribute : ℕ)
    → settable_kind m.shapes class instance attribute ≡ None
    → AllByRecursion (λ (request : ℕ × List ℕ). changes_unsettable class instance attribute request.1 ≡ false) requests
    → value_at (run m requests).after class instance attribute ≡ value_at m class instance attribute
