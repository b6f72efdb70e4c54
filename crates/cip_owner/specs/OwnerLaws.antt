-- What the owner of a device may rely on.
use Rattle.std.specs.Prelude.{◌≡◌, ℕ, true, List, slice_index, Option, Some, None}
use Rattle.cip_objects.specs.OwnRequests.{Asked}
use Rattle.cip_owner.specs.Replies.{Reply}
use Rattle.cip_owner.specs.Owned.{OwnedState, asks, is_fit, exec_owned, answered, after_reply, answer_with, refused_with}
use Rattle.cip_owner.specs.Owned.{NOT_PREPARED}

-- The state with this reply prepared, or none.
abbrev pub with_prepared : OwnedState → Option Reply → OwnedState
with_prepared w prepared = record w { prepared = prepared }

-- A request that asks the owner gets the prepared reply.
abbrev pub given_law : Type 0
given_law =
    (w : OwnedState) (max_size : ℕ) (text : List ℕ) (asked : Asked) (reply : Reply)
    → asks w.objects max_size text ≡ Some asked → is_fit asked reply ≡ true
    → exec_owned (with_prepared w (Some reply)) max_size text
    ≡ answered (record w { objects = after_reply w.objects asked reply.status; prepared = None })
    (answer_with (slice_index text 0) reply.status reply.content)

-- Any other request leaves what is prepared.
abbrev pub unasked_law : Type 0
unasked_law =
    (w : OwnedState) (max_size : ℕ) (text : List ℕ) → asks w.objects max_size text ≡ None
    → (exec_owned w max_size text).after.prepared ≡ w.prepared

-- Without a prepared reply the request is refused.
abbrev pub unprepared_law : Type 0
unprepared_law =
    (w : OwnedState) (max_size : ℕ) (text : List ℕ) (asked : Asked) → asks w.objects max_size text ≡ Some asked
    → w.prepared ≡ None → exec_owned w max_size text ≡ refused_with w (slice_index text 0) NOT_PREPARED

-- What is asked does not depend on what is prepared.
abbrev pub asked_alike_law : Type 0
asked_alike_law =
    (w : OwnedState) (prepared : Option Reply) (max_size : ℕ) (text : List ℕ)
    → asks (with_prepared w prepared).objects max_size text ≡ asks w.objects max_size text
