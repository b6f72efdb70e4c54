-- Set_Attribute_List is Set_Attribute_Single of each attribute, one after another.
use Rattle.std.specs.Prelude.{◌≡◌, ℕ, ◌≤◌, List, [], ◌∷◌, ◌++◌, ◌⊎◌, length, map, drop, Option, Some, Ok}
use Rattle.std.specs.List.{list_all}
use Rattle.byteorder.specs.Endian.{little_number}
use Rattle.cip_message.specs.declared.path.Path.{Path}
use Rattle.cip_message.specs.PathReading.{path_of}
use Rattle.cip_bytes.specs.Numbers.{le}
use Rattle.cip_objects.specs.Contents.{Contents}
use Rattle.cip_objects.specs.Execution.{reply_to, exec, run, Ran}
use Rattle.cip_objects.specs.Laws.{IsRequestWith}
use Rattle.cip_objects.specs.Lists.{is_success}
use Rattle.cip_objects.specs.ReadServices.{list_completion}
use Rattle.cip_message.specs.Router.{general_status}
use Rattle.cip_objects.specs.SetLists.{Setting, settings_of}
use Rattle.cip_objects.specs.Status.{completion_status}

-- The bytes are a Set_Attribute_Single of this attribute to this value, of the instance that the path names.
pub record IsSet (p : Path) (s : Setting) (text : List ℕ) : Type 0 where
  pub path : List ℕ
  pub member : Option ℕ
  pub sets : IsRequestWith text 0x10 path s.value
  pub names :
      path_of path ≡ Ok (record { class = p.class; instance = p.instance; attribute = Some s.attribute; member = member })

-- These are such requests of these settings, one each.
abbrev pub AreSets : Path → List Setting → List (List ℕ) → Type 0
AreSets p [] [] = Unit {0}
AreSets p [] (set ∷ sets) = ⊥
AreSets p (s ∷ settings) [] = ⊥
AreSets p (s ∷ settings) (set ∷ sets) = IsSet p s set × AreSets p settings sets

-- The number of each attribute, then the status of its own reply.
abbrev pub statuses_of : List Setting → List (List ℕ) → List ℕ
statuses_of [] replies = []
statuses_of (s ∷ settings) [] = []
statuses_of (s ∷ settings) (reply ∷ replies) =
    (le 2 s.attribute ++ le 2 (general_status reply)) ++ statuses_of settings replies

-- A Set_Attribute_List that was executed left the contents of the single sets.
pub record IsRunOf (list : List ℕ) (settings : List Setting) (sets : List (List ℕ)) (ran : Ran) (after : Contents) (answer : List ℕ)
    : Type 0 where
  pub state : after ≡ ran.after
  pub reply : answer ≡ reply_to list (completion_status (list_completion (list_all is_success ran.answers)))
      (le 2 (length sets) ++ statuses_of settings ran.answers)

-- After a Set_Attribute_List the contents are those after a Set_Attribute_Single of each attribute, one after another. The
-- reply has the count and, for each attribute, the status of the reply to that request. It is a success if each of these
-- is. A Set_Attribute_Single that is refused does not stop the rest.
abbrev pub set_list_law : Type 0
set_list_law =
    (m : Contents) (max_size later : ℕ) (list path content : List ℕ) (p : Path) (settings : List Setting)
    (sets : List (List ℕ))
    → IsRequestWith list 0x04 path content → path_of path ≡ Ok p
    → settings_of m.shapes p.class p.instance (little_number 2 content) (drop 2 content) ≡ Ok settings
    → AreSets p settings sets
    → 8 ≤ later
    → (general_status (exec m max_size list).answer ≡ 0x00) ⊎ (general_status (exec m max_size list).answer ≡ 0x0a)
    → IsRunOf list settings sets (run m (map (λ set. (later, set)) sets)) (exec m max_size list).after
    (exec m max_size list).answer
