-- The laws of the owner's replies.
use Rattle.std.proofs.Common.{◌≡◌, ℕ, ◌+◌, Bool, true, false, cond, not, ◌||◌, nat_lt, Option, Some, None, Result, Ok, Err, List, slice_index, ap, refl, ◌∙◌}
use Rattle.cip_application.specs.declared.config.ServiceKind.{ServiceKind}
use Rattle.cip_application.specs.declared.config.ServiceKind.TheVariants as kinds
use Rattle.cip_bytes.specs.Numbers.{le}
use Rattle.cip_objects.specs.declared.status.Refusal.{Refusal}
use Rattle.cip_objects.specs.OwnRequests.{Asked, own_request}
use Rattle.cip_message.specs.Router.{RepliesWellFormed, REPLY_TOO_LARGE}
use Rattle.cip_owner.specs.Owned.{OwnedState, Executed, answered, answer_with, exec_owned, is_asked, asks, asked_within, given as given_to, queued, of_kind, by_owner, refused_with, reset_by, by_reset, RESOURCE_UNAVAILABLE}
use Rattle.cip_owner.specs.Queue.{QueueState, takes, pushed}
use Rattle.cip_owner.specs.OwnedLaws.{exec_owned_begins, exec_owned_within, exec_owned_unreset, own_is_not_reset, asks_own}
use Rattle.cip_owner.specs.declared.reset.ResetType.{ResetType}
use Rattle.cip_owner.specs.Reset.{ResetState, reset_data, reset_type}
use Rattle.cip_owner.specs.OwnerLaws.{with_prepared, given_law, unasked_law, unprepared_law, asked_alike_law}
use Rattle.cip_owner.proofs.OwnedLemmas.{given_fit}

pub well_formed : RepliesWellFormed (λ (w : OwnedState) max_size text. (exec_owned w max_size text).answer)
well_formed = record {
  begins = λ w max_size text least enough. exec_owned_begins w max_size text;
  within = λ w max_size text least enough. exec_owned_within w max_size text least;
}

-- A request that asks, by what it is and whether there is room.
by_room : (w : OwnedState) (max_size service : ℕ) (q asked : Asked) (short : Bool)
    → cond {A = Option Asked} short None (Some q) ≡ Some asked
    → cond {A = Executed} short (refused_with w service REPLY_TOO_LARGE) (given_to w service q w.prepared)
    ≡ given_to w service asked w.prepared
by_room w max_size service q asked true e = absurd (cc)
by_room w max_size service q asked false e = ap (λ x. given_to w service x w.prepared) (same q asked e)
  where
    same : (x y : Asked) → ◌≡◌ {A = Option Asked} (Some x) (Some y) → x ≡ y
    same x y is = cc

by_kind : (w : OwnedState) (max_size service : ℕ) (q asked : Asked) (kind : ServiceKind)
    → cond {A = Option Asked} (not (is_asked kind) || nat_lt max_size (4 + q.reply_limit)) None (Some q) ≡ Some asked
    → of_kind kind w max_size service q ≡ given_to w service asked w.prepared
by_kind w max_size service q asked kinds.Asked e =
    by_room w max_size service q asked (nat_lt max_size (4 + q.reply_limit)) e
by_kind w max_size service q asked kinds.Queued e = absurd (cc)
by_kind w max_size service q asked kinds.Result e = absurd (cc)

by_own : (w : OwnedState) (max_size : ℕ) (text : List ℕ) (asked : Asked) (own : Option (Result Asked Refusal))
    → asked_within max_size own ≡ Some asked
    → by_owner w max_size text own ≡ given_to w (slice_index text 0) asked w.prepared
by_own w max_size text asked None e = absurd (cc)
by_own w max_size text asked (Some (Err refusal)) e = absurd (cc)
by_own w max_size text asked (Some (Ok q)) e = by_kind w max_size (slice_index text 0) q asked q.kind e

-- A request that asks takes what is prepared.
pub asking : (w : OwnedState) (max_size : ℕ) (text : List ℕ) (asked : Asked) → asks w.objects max_size text ≡ Some asked
    → exec_owned w max_size text ≡ given_to w (slice_index text 0) asked w.prepared
unfolding asks
asking w max_size text asked e =
    exec_owned_unreset w max_size text (own_is_not_reset w text (Ok asked) (asks_own w.objects max_size text asked e).0)
    ∙ by_own w max_size text asked (own_request w.objects text) e

pub given : given_law
given w max_size text asked reply e fit =
    asking (with_prepared w (Some reply)) max_size text asked e
    ∙ given_fit (with_prepared w (Some reply)) (slice_index text 0) asked reply refl fit

pub unprepared : unprepared_law
unprepared w max_size text asked e none =
    asking w max_size text asked e ∙ ap (given_to w (slice_index text 0) asked) none

unasked_room : (w : OwnedState) (service : ℕ) (q : Asked) (short : Bool) → cond {A = Option Asked} short None (Some q) ≡ None
    → (cond {A = Executed} short (refused_with w service REPLY_TOO_LARGE)
    (given_to w service q w.prepared)).after.prepared ≡ w.prepared
unasked_room w service q true e = refl
unasked_room w service q false e = absurd (cc)

unasked_taken : (w : OwnedState) (service : ℕ) (asked : Asked) (q : QueueState) (taken : Bool)
    → (cond {A = Executed} taken
    (answered (record w { queue = Some (pushed q asked) }) (answer_with service 0 (le 4 q.next)))
    (refused_with w service RESOURCE_UNAVAILABLE)).after.prepared ≡ w.prepared
unasked_taken w service asked q true = refl
unasked_taken w service asked q false = refl

unasked_queued : (w : OwnedState) (service : ℕ) (asked : Asked) (queue : Option QueueState)
    → (queued w service asked queue).after.prepared ≡ w.prepared
unasked_queued w service asked None = refl
unasked_queued w service asked (Some q) = unasked_taken w service asked q (takes q asked)

unasked_kind : (w : OwnedState) (max_size service : ℕ) (q : Asked) (kind : ServiceKind)
    → cond {A = Option Asked} (not (is_asked kind) || nat_lt max_size (4 + q.reply_limit)) None (Some q) ≡ None
    → (of_kind kind w max_size service q).after.prepared ≡ w.prepared
unasked_kind w max_size service q kinds.Asked e = unasked_room w service q (nat_lt max_size (4 + q.reply_limit)) e
unasked_kind w max_size service q kinds.Queued e = unasked_queued w service q w.queue
unasked_kind w max_size service q kinds.Result e = refl

unasked_by : (w : OwnedState) (max_size : ℕ) (text : List ℕ) (own : Option (Result Asked Refusal))
    → asked_within max_size own ≡ None → (by_owner w max_size text own).after.prepared ≡ w.prepared
unasked_by w max_size text None e = refl
unasked_by w max_size text (Some (Err refusal)) e = refl
unasked_by w max_size text (Some (Ok q)) e = unasked_kind w max_size (slice_index text 0) q q.kind e

unasked_type : (w : OwnedState) (service : ℕ) (r : ResetState) (type : Option ResetType)
    → (reset_by w service r type).after.prepared ≡ w.prepared
unasked_type w service r None = refl
unasked_type w service r (Some type) = refl

unasked_reset : (w : OwnedState) (max_size : ℕ) (text : List ℕ) (reset : Option ResetState) (content : Option (List ℕ))
    → asked_within max_size (own_request w.objects text) ≡ None
    → (by_reset w max_size text reset content).after.prepared ≡ w.prepared
unasked_reset w max_size text None content e = unasked_by w max_size text (own_request w.objects text) e
unasked_reset w max_size text (Some r) None e = unasked_by w max_size text (own_request w.objects text) e
unasked_reset w max_size text (Some r) (Some content) e =
    unasked_type w (slice_index text 0) r (reset_type content)

pub unasked : unasked_law
unfolding asks exec_owned
unasked w max_size text e = unasked_reset w max_size text w.reset (reset_data text) e

pub alike : asked_alike_law
alike w prepared max_size text = refl
