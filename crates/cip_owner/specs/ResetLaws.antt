-- What a Reset leaves, and what peers and the owner may rely on.
use Rattle.std.specs.Prelude.{◌≡◌, ℕ, Bool, true, false, List, [], ◌∷◌, Option, Some, None, slice_index, unwrap_or}
use Rattle.std.specs.Prelude.{refl, cond}
use Rattle.std.proofs.Common.{◌∙◌}
use Rattle.cip_application.specs.declared.kind.AttributeKind.{AttributeKind}
use Rattle.cip_application.specs.declared.object.AttributeName.{AttributeName}
use Rattle.cip_application.specs.Values.{is_whole}
use Rattle.cip_objects.specs.Contents.{Contents, bytes_at, with_value}
use Rattle.cip_objects.specs.Kept.{restored, with_kept, kept_kind}
use Rattle.cip_objects.specs.OwnRequests.{own_request}
use Rattle.cip_owner.specs.declared.reset.ResetType.{ResetType}
use Rattle.cip_owner.specs.declared.reset.ResetType.TheVariants.{PowerCycle, FirstValues}
use Rattle.cip_owner.specs.Owned.{OwnedState, exec_owned, by_owner, is_reset, refused_with, answered}
use Rattle.cip_owner.specs.Owned.{answer_with, INVALID_PARAMETER}
use Rattle.cip_owner.specs.Reset.{ResetState, reset_data, reset_type, with_first_value, with_first_values, after_one}
use Rattle.cip_owner.specs.Reset.{objects_after_reset}

-- ---- the tables stay

-- The tables, the device's numbers and the counts of changes are the same.
pub record KeepsTables (old new : Contents) : Type 0 where
  pub shapes : new.shapes ≡ old.shapes
  pub device : new.device ≡ old.device
  pub changes : new.changes ≡ old.changes

pub same_tables : (m : Contents) → KeepsTables m m
same_tables m = record { shapes = refl; device = refl; changes = refl }

whole_keeps : (m : Contents) (class instance attribute : ℕ) (content : List ℕ) (whole : Bool)
    → KeepsTables m (unwrap_or
    (cond {A = Option Contents} whole (Some (with_value m class instance attribute content)) None) m)
whole_keeps m class instance attribute content true = record { shapes = refl; device = refl; changes = refl }
whole_keeps m class instance attribute content false = same_tables m

kept_keeps : (m : Contents) (class instance attribute : ℕ) (content : List ℕ) (kind : Option AttributeKind)
    → KeepsTables m (unwrap_or (with_kept m class instance attribute content kind) m)
kept_keeps m class instance attribute content None = same_tables m
kept_keeps m class instance attribute content (Some kind) =
    whole_keeps m class instance attribute content (is_whole kind content)

pub first_value_keeps : (first : Contents) (name : AttributeName) (m : Contents)
    → KeepsTables m (with_first_value first name m)
unfolding restored
first_value_keeps first name m =
    kept_keeps m name.class name.instance name.attribute (bytes_at first name.class name.instance name.attribute)
    (kept_kind m.shapes name.class name.instance name.attribute)

then_keeps : (old mid new : Contents) → KeepsTables old mid → KeepsTables mid new → KeepsTables old new
then_keeps old mid new one other = record {
  shapes = other.shapes ∙ one.shapes;
  device = other.device ∙ one.device;
  changes = other.changes ∙ one.changes;
}

pub first_values_keep : (first : Contents) (names : List AttributeName) (m : Contents)
    → KeepsTables m (with_first_values first names m)
first_values_keep first [] m = same_tables m
first_values_keep first (name ∷ names) m =
    then_keeps m (with_first_value first name m) (with_first_values first names (with_first_value first name m))
    (first_value_keeps first name m) (first_values_keep first names (with_first_value first name m))

pub reset_keeps : (type : ResetType) (r : ResetState) (m : Contents) → KeepsTables m (objects_after_reset type r m)
reset_keeps PowerCycle r m = same_tables m
reset_keeps FirstValues r m = first_values_keep r.first r.names m

-- ---- the laws

-- A device that cannot be reset executes a Reset like any other request: the objects refuse it.
abbrev pub unopted_law : Type 0
unopted_law =
    (w : OwnedState) (max_size : ℕ) (text : List ℕ) → w.reset ≡ None
    → exec_owned w max_size text ≡ by_owner w max_size text (own_request w.objects text)

-- No Reset is a request to the owner, so the owner is asked nothing by one.
abbrev pub unowned_law : Type 0
unowned_law =
    (w : OwnedState) (text : List ℕ) → is_reset w text ≡ true → own_request w.objects text ≡ None

-- A Reset of a type counts, and is answered with success and no data. One with other data is refused, and changes nothing.
abbrev pub IsResetBy : OwnedState → ℕ → List ℕ → ResetState → Option ResetType → Type 0
IsResetBy w max_size text r None =
    exec_owned w max_size text ≡ refused_with w (slice_index text 0) INVALID_PARAMETER
IsResetBy w max_size text r (Some type) =
    exec_owned w max_size text
    ≡ answered (record w { objects = objects_after_reset type r w.objects; reset = Some (after_one type r) })
    (answer_with (slice_index text 0) 0 [])

abbrev pub answered_law : Type 0
answered_law =
    (w : OwnedState) (max_size : ℕ) (text content : List ℕ) (r : ResetState) → w.reset ≡ Some r
    → reset_data text ≡ Some content → IsResetBy w max_size text r (reset_type content)

-- What is prepared and the queue stay, and so do the tables and the counts of changes.
pub record IsLeft (w after : OwnedState) : Type 0 where
  pub prepared : after.prepared ≡ w.prepared
  pub queue : after.queue ≡ w.queue
  pub tables : KeepsTables w.objects after.objects

abbrev pub left_law : Type 0
left_law =
    (w : OwnedState) (max_size : ℕ) (text : List ℕ) → is_reset w text ≡ true
    → IsLeft w (exec_owned w max_size text).after

-- No other request counts as a Reset.
abbrev pub uncounted_law : Type 0
uncounted_law =
    (w : OwnedState) (max_size : ℕ) (text : List ℕ) → is_reset w text ≡ false
    → (exec_owned w max_size text).after.reset ≡ w.reset
