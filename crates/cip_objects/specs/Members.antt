-- Members of an assembly: what is read of them after one was set.
use Rattle.std.specs.Prelude.{◌≡◌, ℕ, ◌+◌, ◌≤◌, List, [], ◌∷◌, length, sum, Some, Ok}
use Rattle.cip_message.specs.declared.path.Path.{Path}
use Rattle.cip_message.specs.PathReading.{path_of}
use Rattle.cip_bytes.specs.declared.protocol.GeneralStatus.TheVariants.{Success}
use Rattle.cip_objects.specs.Contents.{Contents, bytes_at}
use Rattle.cip_objects.specs.Execution.{reply_to, exec, run}
use Rattle.cip_objects.specs.Laws.{IsRequestWith}
use Rattle.cip_message.specs.Router.{general_status}
use Rattle.cip_objects.specs.Tables.{Shape, shape_at}
use Rattle.cip_bytes.specs.declared.protocol.TheConstants.{ASSEMBLY}

-- The size of each assembly's data is the sum of its member sizes.
abbrev pub AreWhole : Contents → Type 0
AreWhole m = (instance : ℕ) (s : Shape) → shape_at instance m.shapes.assemblies ≡ Some s
    → length (bytes_at m ASSEMBLY instance 3) ≡ sum s.members

-- No list of requests changes that.
abbrev pub whole_law : Type 0
whole_law = (m : Contents) (requests : List (ℕ × List ℕ)) → AreWhole m → AreWhole (run m requests).after

-- After a Set_Member that succeeded, Get_Member of the same member answers the value that was set.
abbrev pub member_after_set_law : Type 0
member_after_set_law =
    (m : Contents) (max_size later : ℕ) (set get path value : List ℕ) → AreWhole m → IsRequestWith set 0x19 path value
    → IsRequestWith get 0x18 path [] → general_status (exec m max_size set).answer ≡ 0 → 4 + length value ≤ later
    → (run m ((max_size, set) ∷ (later, get) ∷ [])).answers ≡ (exec m max_size set).answer ∷ reply_to get Success value ∷ []

-- After a Set_Member, Get_Member of another member, or of a member of another assembly, answers as before.
abbrev pub set_member_leaves_others_law : Type 0
set_member_leaves_others_law =
    (m : Contents) (max_size later : ℕ) (set path value get other : List ℕ) (p q : Path) → AreWhole m
    → IsRequestWith set 0x19 path value → path_of path ≡ Ok p → IsRequestWith get 0x18 other [] → path_of other ≡ Ok q
    → ((q.instance ≡ p.instance) × (q.member ≡ p.member) → ⊥)
    → (exec (exec m max_size set).after later get).answer ≡ (exec m later get).answer
