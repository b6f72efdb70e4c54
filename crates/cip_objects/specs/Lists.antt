-- Get_Attribute_List is Get_Attribute_Single of each attribute, joined.
use Rattle.std.specs.Prelude.{◌≡◌, ℕ, Bool, List, [], ◌∷◌, ◌++◌, ◌⊎◌, ◌==◌, length, map, drop, Option, Some, Ok}
use Rattle.std.specs.List.{list_all}
use Rattle.cip_message.specs.declared.path.Path.{Path}
use Rattle.cip_bytes.specs.Numbers.{le, words_of}
use Rattle.cip_message.specs.PathReading.{path_of}
use Rattle.cip_objects.specs.Contents.{Contents}
use Rattle.cip_objects.specs.Execution.{reply_to, exec}
use Rattle.cip_objects.specs.Laws.{IsRequestWith}
use Rattle.cip_objects.specs.ReadServices.{list_completion}
use Rattle.cip_message.specs.Router.{general_status}
use Rattle.cip_objects.specs.Status.{completion_status}

-- The bytes are a Get_Attribute_Single of this attribute, of the instance that the path names.
pub record IsGet (p : Path) (attribute : ℕ) (text : List ℕ) : Type 0 where
  pub path : List ℕ
  pub member : Option ℕ
  pub reads : IsRequestWith text 0x0e path []
  pub names :
      path_of path ≡ Ok (record { class = p.class; instance = p.instance; attribute = Some attribute; member = member })

-- These are the Get_Attribute_Single requests of these attributes, one each.
abbrev pub AreGets : Path → List ℕ → List (List ℕ) → Type 0
AreGets p [] [] = Unit {0}
AreGets p [] (get ∷ gets) = ⊥
AreGets p (a ∷ attributes) [] = ⊥
AreGets p (a ∷ attributes) (get ∷ gets) = IsGet p a get × AreGets p attributes gets

-- The number of each attribute, then the status and the data of its own reply.
abbrev pub entries_of_replies : List ℕ → List (List ℕ) → List ℕ
entries_of_replies [] replies = []
entries_of_replies (a ∷ attributes) [] = []
entries_of_replies (a ∷ attributes) (reply ∷ replies) =
    le 2 a ++ (le 2 (general_status reply) ++ (drop 4 reply ++ entries_of_replies attributes replies))

abbrev pub is_success : List ℕ → Bool
is_success reply = general_status reply == 0x00

-- The reply to a Get_Attribute_List has the count and, for each attribute, the status and the data that
-- Get_Attribute_Single answers for it. It is a success if each of these is.
abbrev pub list_law : Type 0
list_law =
    (m : Contents) (max_size : ℕ) (list path content : List ℕ) (p : Path) (gets : List (List ℕ))
    → IsRequestWith list 0x03 path content → path_of path ≡ Ok p → AreGets p (words_of (drop 2 content)) gets
    → (general_status (exec m max_size list).answer ≡ 0x00) ⊎ (general_status (exec m max_size list).answer ≡ 0x0a)
    → let replies = map (λ get. (exec m max_size get).answer) gets in
    (exec m max_size list).answer ≡ reply_to list (completion_status (list_completion (list_all is_success replies)))
    (le 2 (length gets) ++ entries_of_replies (words_of (drop 2 content)) replies)
