-- What holds of every set, in terms of objects, attributes and values.
use Rattle.std.specs.Prelude.{◌≡◌, ◌<◌, ℕ, List, [], ◌∷◌, length, Some, Ok}
use Rattle.cip_application.specs.Objects.{ObjectValues, AllAllowed, value_in, object_in, objects_set, after_result}

-- After a set that is executed, the attribute has the value that was set.
abbrev pub get_after_set_law : Type 0
get_after_set_law =
    (objects after : List ObjectValues) (position number : ℕ) (content : List ℕ) → position < length objects
    → objects_set objects position number content ≡ Ok after
    → value_in (object_in after position) number ≡ Some content

-- Every other attribute, of this object or of another, has the value that it had.
abbrev pub set_leaves_others_law : Type 0
set_leaves_others_law =
    (objects after : List ObjectValues) (position number other_position other : ℕ) (content : List ℕ)
    → position < length objects → objects_set objects position number content ≡ Ok after
    → ((other_position ≡ position) × (other ≡ number) → ⊥)
    → value_in (object_in after other_position) other ≡ value_in (object_in objects other_position) other

-- What a peer sets: an attribute of the object at an index, to these data.
pub record Setting : Type 0 where
  pub position : ℕ
  pub number : ℕ
  pub content : List ℕ

-- The objects after these sets, one after another. A refused set changes nothing.
abbrev pub after_sets : List ObjectValues → List Setting → List ObjectValues
after_sets objects [] = objects
after_sets objects (s ∷ sets) =
    after_sets (after_result objects (objects_set objects s.position s.number s.content)) sets

-- No list of sets brings a value out of its range, its size or its room.
abbrev pub values_allowed_law : Type 0
values_allowed_law =
    (objects : List ObjectValues) (sets : List Setting) → AllAllowed objects → AllAllowed (after_sets objects sets)
