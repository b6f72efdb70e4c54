-- The laws of a Reset.
use Rattle.std.proofs.Common.{◌≡◌, ℕ, ◌+◌, Bool, true, false, cond, ◌&&◌, nat_lt, Option, Some, None, Result, Ok, Err, List, slice_index, ap, ap₂, refl, ◌∙◌}
use Rattle.std.specs.Prelude.{is_some}
use Rattle.cip_application.specs.declared.config.ServiceKind.{ServiceKind}
use Rattle.cip_application.specs.declared.config.ServiceKind.TheVariants as kinds
use Rattle.cip_bytes.specs.Numbers.{le}
use Rattle.cip_objects.specs.declared.status.Refusal.{Refusal}
use Rattle.cip_objects.specs.OwnRequests.{Asked, own_request}
use Rattle.cip_message.specs.Router.{REPLY_TOO_LARGE}
use Rattle.cip_owner.specs.declared.reset.ResetType.{ResetType}
use Rattle.cip_owner.specs.Owned.{OwnedState, Executed, exec_owned, by_owner, by_reset, reset_by, is_fit, given, queued, of_kind, answered, answer_with, refused_with, after_reply, NOT_PREPARED, RESOURCE_UNAVAILABLE}
use Rattle.cip_owner.specs.OwnedLaws.{exec_owned_unreset, reset_is_not_own}
use Rattle.cip_owner.specs.Queue.{QueueState, takes, pushed}
use Rattle.cip_owner.specs.Replies.{Reply}
use Rattle.cip_owner.specs.Reset.{ResetState, reset_data, reset_type}
use Rattle.cip_owner.specs.ResetLaws.{reset_keeps, same_tables, unopted_law, unowned_law, answered_law, IsResetBy, IsLeft, left_law, uncounted_law}

no_state : (found : Bool) → (found && false) ≡ false
no_state true = refl
no_state false = refl

pub unopted : unopted_law
unopted w max_size text e =
    exec_owned_unreset w max_size text
    (ap (λ (r : Option ResetState). is_some (reset_data text) && is_some r) e ∙ no_state (is_some (reset_data text)))

first_true : (a b : Bool) → (a && b) ≡ true → a ≡ true
first_true true b e = refl
first_true false b e = absurd (cc)

pub unowned : unowned_law
unowned w text e = reset_is_not_own w.objects text (first_true (is_some (reset_data text)) (is_some w.reset) e)

reset_executed : (w : OwnedState) (max_size : ℕ) (text content : List ℕ) (r : ResetState) → w.reset ≡ Some r
    → reset_data text ≡ Some content
    → exec_owned w max_size text ≡ reset_by w (slice_index text 0) r (reset_type content)
unfolding exec_owned
reset_executed w max_size text content r er ec = ap₂ (λ x y. by_reset w max_size text x y) er ec

answered_by : (w : OwnedState) (max_size : ℕ) (text : List ℕ) (r : ResetState) (type : Option ResetType)
    → exec_owned w max_size text ≡ reset_by w (slice_index text 0) r type → IsResetBy w max_size text r type
answered_by w max_size text r None e = e
answered_by w max_size text r (Some type) e = e

pub answers : answered_law
answers w max_size text content r er ec =
    answered_by w max_size text r (reset_type content) (reset_executed w max_size text content r er ec)

left_type : (w : OwnedState) (service : ℕ) (r : ResetState) (type : Option ResetType)
    → IsLeft w (reset_by w service r type).after
left_type w service r None = record { prepared = refl; queue = refl; tables = same_tables w.objects }
left_type w service r (Some type) =
    record { prepared = refl; queue = refl; tables = reset_keeps type r w.objects }

left_by : (w : OwnedState) (max_size : ℕ) (text : List ℕ) (reset : Option ResetState) (content : Option (List ℕ))
    → (is_some content && is_some reset) ≡ true → IsLeft w (by_reset w max_size text reset content).after
left_by w max_size text None None e = absurd (cc)
left_by w max_size text None (Some content) e = absurd (cc)
left_by w max_size text (Some r) None e = absurd (cc)
left_by w max_size text (Some r) (Some content) e = left_type w (slice_index text 0) r (reset_type content)

pub leaves : left_law
unfolding exec_owned
leaves w max_size text e = left_by w max_size text w.reset (reset_data text) e

-- what the owner and the objects do does not count

uncounted_given : (w : OwnedState) (service : ℕ) (asked : Asked) (prepared : Option Reply)
    → (given w service asked prepared).after.reset ≡ w.reset
uncounted_given w service asked None = refl
uncounted_given w service asked (Some reply) = by_fit (is_fit asked reply)
  where
    by_fit : (fit : Bool) → (cond {A = Executed} fit
        (answered (record w { objects = after_reply w.objects asked reply.status; prepared = None })
        (answer_with service reply.status reply.content))
        (refused_with (record w { prepared = None }) service NOT_PREPARED)).after.reset ≡ w.reset
    by_fit true = refl
    by_fit false = refl

uncounted_queued : (w : OwnedState) (service : ℕ) (asked : Asked) (queue : Option QueueState)
    → (queued w service asked queue).after.reset ≡ w.reset
uncounted_queued w service asked None = refl
uncounted_queued w service asked (Some q) = by_room (takes q asked)
  where
    by_room : (taken : Bool) → (cond {A = Executed} taken
        (answered (record w { queue = Some (pushed q asked) }) (answer_with service 0 (le 4 q.next)))
        (refused_with w service RESOURCE_UNAVAILABLE)).after.reset ≡ w.reset
    by_room true = refl
    by_room false = refl

uncounted_asked : (w : OwnedState) (service : ℕ) (asked : Asked) (short : Bool)
    → (cond {A = Executed} short (refused_with w service REPLY_TOO_LARGE)
    (given w service asked w.prepared)).after.reset ≡ w.reset
uncounted_asked w service asked true = refl
uncounted_asked w service asked false = uncounted_given w service asked w.prepared

uncounted_kind : (kind : ServiceKind) (w : OwnedState) (max_size service : ℕ) (asked : Asked)
    → (of_kind kind w max_size service asked).after.reset ≡ w.reset
uncounted_kind kinds.Asked w max_size service asked =
    uncounted_asked w service asked (nat_lt max_size (4 + asked.reply_limit))
uncounted_kind kinds.Queued w max_size service asked = uncounted_queued w service asked w.queue
uncounted_kind kinds.Result w max_size service asked = refl

uncounted_by : (w : OwnedState) (max_size : ℕ) (text : List ℕ) (own : Option (Result Asked Refusal))
    → (by_owner w max_size text own).after.reset ≡ w.reset
uncounted_by w max_size text None = refl
uncounted_by w max_size text (Some (Err refusal)) = refl
uncounted_by w max_size text (Some (Ok asked)) = uncounted_kind asked.kind w max_size (slice_index text 0) asked

pub uncounted : uncounted_law
uncounted w max_size text e =
    ap (λ x. x.after.reset) (exec_owned_unreset w max_size text e)
    ∙ uncounted_by w max_size text (own_request w.objects text)
