-- What the objects do with a request before the owner's reply is given.
use Rattle.std.proofs.Common.{◌≡◌, ℕ, ◌+◌, Bool, true, false, if◌then◌else◌, nat_lt, Option, Some, None, option_map, Result, Ok, Err, List, [], slice_index, ◌&&◌, ap, ap₂, sym, subst, refl, ◌∙◌, inl, inr, ◌⊎◌, arith}
use Rattle.std.proofs.lemmas.Bool.Decides.{nat_tests}
use Rattle.std.specs.Prelude.{is_some}
use Rattle.cip_application.specs.declared.config.ServiceKind.{ServiceKind}
use Rattle.cip_application.specs.declared.config.ServiceKind.TheVariants as kinds
use Rattle.cip_bytes.specs.Numbers.{le}
use Rattle.cip_objects.specs.declared.status.Refusal.{Refusal}
use Rattle.cip_objects.specs.Contents.{Contents}
use Rattle.cip_objects.specs.Packets.{exec_routed}
use Rattle.cip_objects.specs.OwnRequests.{Asked, own_request}
use Rattle.cip_message.specs.Router.{general_status, REPLY_TOO_LARGE}
use Rattle.cip_objects.proofs.Packets.{own_routed, refused_routed}
use Rattle.cip_owner.specs.Replies.{Reply}
use Rattle.cip_owner.specs.Owned.{OwnedState, exec_owned, by_owner, own_executed, is_left, IsDone, IsTaken, is_fit, given}
use Rattle.cip_owner.specs.Owned.{answered, after_reply, answer_with, refused_with, NOT_PREPARED, RESOURCE_UNAVAILABLE}
use Rattle.cip_owner.specs.Owned.{queued, of_kind, is_reset, IsReset, reset_by, by_reset}
use Rattle.cip_owner.specs.OwnedLaws.{exec_owned_plain, exec_owned_unreset, own_is_not_reset, reset_is_not_own}
use Rattle.cip_owner.specs.declared.reset.ResetType.{ResetType}
use Rattle.cip_owner.specs.Reset.{ResetState, reset_data, reset_type}
use Rattle.cip_owner.specs.Queue.{QueueState, takes, pushed, after_push}
use Rattle.cip_owner.specs.QueueLaws.{queue_law}
use Rattle.cip_owner.specs.QueueRuns.{after_steps, steps_of_kind, steps_of_own}

-- A request to the owner is executed by its own definition.
pub exec_owned_own : (w : OwnedState) (max_size : ℕ) (text : List ℕ) (own : Result Asked Refusal)
    → own_request w.objects text ≡ Some own
    → exec_owned w max_size text ≡ own_executed w max_size (slice_index text 0) own
exec_owned_own w max_size text own e =
    exec_owned_unreset w max_size text (own_is_not_reset w text own e) ∙ ap (by_owner w max_size text) e

left_not_success : (status : ℕ) → is_left status ≡ true → status ≡ 0x00 → ⊥
left_not_success status e f = grind (arith, nat_tests)

left_not_partial : (status : ℕ) → is_left status ≡ true → status ≡ 0x0a → ⊥
left_not_partial status e f = grind (arith, nat_tests)

left_not_embedded : (status : ℕ) → is_left status ≡ true → status ≡ 0x1e → ⊥
left_not_embedded status e f = grind (arith, nat_tests)

not_left : (status : ℕ) → is_left status ≡ false → (status ≡ 0x08) ⊎ (status ≡ 0x0e) → ⊥
not_left status e (inl x) = grind (arith, nat_tests)
not_left status e (inr x) = grind (arith, nat_tests)

-- What a refusal with one of the two statuses leaves.
pub unchanged : (m : Contents) (max_size : ℕ) (text : List ℕ)
    → is_left (general_status (exec_routed m max_size text).answer) ≡ true → (exec_routed m max_size text).after ≡ m
unchanged m max_size text e =
    let status = general_status (exec_routed m max_size text).answer in
    refused_routed m max_size text (left_not_success status e, left_not_partial status e, left_not_embedded status e)

-- A reply with another status is to no request to the owner.
pub plain : (m : Contents) (max_size : ℕ) (text : List ℕ)
    → is_left (general_status (exec_routed m max_size text).answer) ≡ false → own_request m text ≡ None
plain m max_size text e = by_own (own_request m text) refl
  where
    by_own : (own : Option (Result Asked Refusal)) → own_request m text ≡ own → own_request m text ≡ None
    by_own None is = is
    by_own (Some own) is =
        absurd (not_left (general_status (exec_routed m max_size text).answer) e (own_routed m max_size text (λ none. absurd (cc))).0)

-- The state and the reply after an execution.
pub record AreExecuted (w : OwnedState) (max_size : ℕ) (text : List ℕ) (after : OwnedState) (new : List ℕ) : Type 0 where
  pub state : after ≡ (exec_owned w max_size text).after
  pub reply : new ≡ (exec_owned w max_size text).answer

pub executed_plain : (w : OwnedState) (max_size : ℕ) (text : List ℕ) → is_reset w text ≡ false
    → own_request w.objects text ≡ None → AreExecuted w max_size text (record w { objects = (exec_routed w.objects max_size text).after }) (exec_routed w.objects max_size text).answer
executed_plain w max_size text unreset e = record {
  state = sym (ap (λ x. x.after) (exec_owned_plain w max_size text unreset e));
  reply = sym (ap (λ x. x.answer) (exec_owned_plain w max_size text unreset e));
}

by_own_request : (w : OwnedState) (max_size : ℕ) (text : List ℕ) (own : Option (Result Asked Refusal))
    (after : OwnedState) (new : List ℕ) → is_reset w text ≡ false → own_request w.objects text ≡ own
    → (exec_routed w.objects max_size text).after ≡ w.objects
    → IsDone (record w { objects = (exec_routed w.objects max_size text).after }) max_size text (exec_routed w.objects max_size text).answer own after new
    → AreExecuted w max_size text after new
by_own_request w max_size text None after new unreset e same done =
    let p = executed_plain w max_size text unreset e in
    record { state = done.0 ∙ p.state; reply = done.1 ∙ p.reply }
by_own_request w max_size text (Some own) after new unreset e same done =
    let is : (record w { objects = (exec_routed w.objects max_size text).after }) ≡ w = ap (λ m. record w { objects = m }) same in
    record {
      state = done.0 ∙ (ap (λ v. (own_executed v max_size (slice_index text 0) own).after) is ∙ sym (ap (λ x. x.after) (exec_owned_own w max_size text own e)));
      reply = done.1 ∙ (ap (λ v. (own_executed v max_size (slice_index text 0) own).answer) is ∙ sym (ap (λ x. x.answer) (exec_owned_own w max_size text own e)));
    }

-- A request to the owner that is executed first, or is none.
pub taken : (w : OwnedState) (max_size : ℕ) (text : List ℕ) (old : List ℕ) (own : Option (Result Asked Refusal)) (did : Bool)
    (after : OwnedState) (new : List ℕ) → own_request w.objects text ≡ own → did ≡ is_some own
    → IsDone w max_size text old own after new → IsTaken w max_size text did after new
taken w max_size text old None did after new e is done =
    subst (λ b. IsTaken w max_size text b after new) (sym is) done.0
taken w max_size text old (Some own) did after new e is done =
    subst (λ b. IsTaken w max_size text b after new) (sym is) (
      done.0 ∙ sym (ap (λ x. x.after) (exec_owned_own w max_size text own e)),
      done.1 ∙ sym (ap (λ x. x.answer) (exec_owned_own w max_size text own e)),
    )

-- The same as what is executed, by what the call returned.
pub taken_executed : (w : OwnedState) (max_size : ℕ) (text : List ℕ) (did : Bool) (after : OwnedState) (new : List ℕ)
    → IsTaken w max_size text did after new → did ≡ true → AreExecuted w max_size text after new
taken_executed w max_size text true after new is e = record { state = is.0; reply = is.1 }
taken_executed w max_size text false after new is e = absurd (cc)

pub not_taken : (w : OwnedState) (max_size : ℕ) (text : List ℕ) (did : Bool) (after : OwnedState) (new : List ℕ)
    → IsTaken w max_size text did after new → did ≡ false → after ≡ w
not_taken w max_size text true after new is e = absurd (cc)
not_taken w max_size text false after new is e = is

-- A request that may be to the owner.
pub executed_own : (w : OwnedState) (max_size : ℕ) (text : List ℕ) (after : OwnedState) (new : List ℕ)
    → is_reset w text ≡ false → is_left (general_status (exec_routed w.objects max_size text).answer) ≡ true
    → IsDone (record w { objects = (exec_routed w.objects max_size text).after }) max_size text (exec_routed w.objects max_size text).answer
    (own_request (exec_routed w.objects max_size text).after text) after new
    → AreExecuted w max_size text after new
executed_own w max_size text after new unreset e done =
    let same = unchanged w.objects max_size text e in
    by_own_request w max_size text (own_request w.objects text) after new unreset refl same
    (subst (λ own. IsDone (record w { objects = (exec_routed w.objects max_size text).after }) max_size text (exec_routed w.objects max_size text).answer own after new)
    (ap (λ m. own_request m text) same) done)

-- The same, for contents and a reply that a call of the objects left.
pub left_executed : (w : OwnedState) (max_size : ℕ) (text : List ℕ) (m : Contents) (first : List ℕ) (after : OwnedState)
    (new : List ℕ) → is_reset w text ≡ false → m ≡ (exec_routed w.objects max_size text).after
    → first ≡ (exec_routed w.objects max_size text).answer → is_left (general_status first) ≡ true
    → IsDone (record w { objects = m }) max_size text first (own_request m text) after new
    → AreExecuted w max_size text after new
left_executed w max_size text m first after new unreset em ef e done =
    executed_own w max_size text after new unreset (subst (λ f. is_left (general_status f) ≡ true) ef e)
    (subst (λ f. IsDone (record w { objects = (exec_routed w.objects max_size text).after }) max_size text f (own_request (exec_routed w.objects max_size text).after text) after new) ef
    (subst (λ n. IsDone (record w { objects = n }) max_size text first (own_request n text) after new) em done))

pub other_executed : (w : OwnedState) (max_size : ℕ) (text : List ℕ) (m : Contents) (first : List ℕ)
    → is_reset w text ≡ false → m ≡ (exec_routed w.objects max_size text).after → first ≡ (exec_routed w.objects max_size text).answer
    → is_left (general_status first) ≡ false → AreExecuted w max_size text (record w { objects = m }) first
other_executed w max_size text m first unreset em ef e =
    let p = executed_plain w max_size text unreset (plain w.objects max_size text (subst (λ f. is_left (general_status f) ≡ false) ef e)) in
    record { state = ap (λ n. record w { objects = n }) em ∙ p.state; reply = ef ∙ p.reply }

-- What becomes of a prepared reply: it is given if it can be.
by_fit : (w : OwnedState) (service : ℕ) (asked : Asked) (p : Reply) (fit : Bool) → is_fit asked p ≡ fit
    → given w service asked (Some p)
    ≡ (if fit then answered (record w { objects = after_reply w.objects asked p.status; prepared = None }) (answer_with service p.status p.content)
    else refused_with (record w { prepared = None }) service NOT_PREPARED)
by_fit w service asked p fit e =
    ap (λ b. if b then answered (record w { objects = after_reply w.objects asked p.status; prepared = None }) (answer_with service p.status p.content)
    else refused_with (record w { prepared = None }) service NOT_PREPARED) e

pub given_fit : (w : OwnedState) (service : ℕ) (asked : Asked) (p : Reply) → w.prepared ≡ Some p → is_fit asked p ≡ true
    → given w service asked w.prepared
    ≡ answered (record w { objects = after_reply w.objects asked p.status; prepared = None }) (answer_with service p.status p.content)
given_fit w service asked p e f = ap (given w service asked) e ∙ by_fit w service asked p true f

pub given_unfit : (w : OwnedState) (service : ℕ) (asked : Asked) (p : Reply) → w.prepared ≡ Some p → is_fit asked p ≡ false
    → given w service asked w.prepared ≡ refused_with (record w { prepared = None }) service NOT_PREPARED
given_unfit w service asked p e f = ap (given w service asked) e ∙ by_fit w service asked p false f

-- A request that is put into the queue, if the queue takes it.
queue_taken : (w : OwnedState) (service : ℕ) (asked : Asked) (q : QueueState) (taken : Bool) → w.queue ≡ Some q
    → (if taken then answered (record w { queue = Some (pushed q asked) }) (answer_with service 0 (le 4 q.next))
    else refused_with w service RESOURCE_UNAVAILABLE).after.queue
    ≡ Some (if taken then pushed q asked else q)
queue_taken w service asked q true e = refl
queue_taken w service asked q false e = e

queue_queued : (w : OwnedState) (service : ℕ) (asked : Asked) (queue : Option QueueState) → w.queue ≡ queue
    → (queued w service asked queue).after.queue ≡ option_map (λ q. after_push q asked) queue
queue_queued w service asked None e = e
queue_queued w service asked (Some q) e = queue_taken w service asked q (takes q asked) e

queue_given : (w : OwnedState) (service : ℕ) (asked : Asked) (prepared : Option Reply) → (given w service asked prepared).after.queue ≡ w.queue
queue_given w service asked None = refl
queue_given w service asked (Some p) = by (is_fit asked p)
  where
    by : (fit : Bool) → (if fit then answered (record w { objects = after_reply w.objects asked p.status; prepared = None }) (answer_with service p.status p.content)
        else refused_with (record w { prepared = None }) service NOT_PREPARED).after.queue ≡ w.queue
    by true = refl
    by false = refl

queue_asked : (w : OwnedState) (service : ℕ) (asked : Asked) (short : Bool)
    → (if short then refused_with w service REPLY_TOO_LARGE else given w service asked w.prepared).after.queue ≡ w.queue
queue_asked w service asked true = refl
queue_asked w service asked false = queue_given w service asked w.prepared

unchanged_queue : (queue : Option QueueState) → queue ≡ option_map (λ q. after_steps q []) queue
unchanged_queue None = refl
unchanged_queue (Some q) = refl

queue_kind : (kind : ServiceKind) (w : OwnedState) (max_size service : ℕ) (asked : Asked)
    → (of_kind kind w max_size service asked).after.queue ≡ option_map (λ q. after_steps q (steps_of_kind kind asked)) w.queue
queue_kind kinds.Asked w max_size service asked =
    queue_asked w service asked (nat_lt max_size (4 + asked.reply_limit)) ∙ unchanged_queue w.queue
queue_kind kinds.Queued w max_size service asked = queue_queued w service asked w.queue refl
queue_kind kinds.Result w max_size service asked = unchanged_queue w.queue

queue_own : (w : OwnedState) (max_size : ℕ) (text : List ℕ) (own : Option (Result Asked Refusal))
    → (by_owner w max_size text own).after.queue ≡ option_map (λ q. after_steps q (steps_of_own own)) w.queue
queue_own w max_size text None = unchanged_queue w.queue
queue_own w max_size text (Some (Err refusal)) = unchanged_queue w.queue
queue_own w max_size text (Some (Ok asked)) = queue_kind asked.kind w max_size (slice_index text 0) asked

-- A Reset leaves the queue.
queue_type : (w : OwnedState) (service : ℕ) (r : ResetState) (type : Option ResetType)
    → (reset_by w service r type).after.queue ≡ w.queue
queue_type w service r None = refl
queue_type w service r (Some type) = refl

queue_reset : (w : OwnedState) (max_size : ℕ) (text : List ℕ) (reset : Option ResetState) (content : Option (List ℕ)) → reset_data text ≡ content
    → (by_reset w max_size text reset content).after.queue ≡ option_map (λ q. after_steps q (steps_of_own (own_request w.objects text))) w.queue
queue_reset w max_size text None content e = queue_own w max_size text (own_request w.objects text)
queue_reset w max_size text (Some r) None e = queue_own w max_size text (own_request w.objects text)
queue_reset w max_size text (Some r) (Some content) e =
    queue_type w (slice_index text 0) r (reset_type content) ∙ unchanged_queue w.queue
    ∙ ap (λ own. option_map (λ q. after_steps q (steps_of_own own)) w.queue) (sym (reset_is_not_own w.objects text (ap (λ c. is_some c) e)))

pub queue : queue_law
unfolding exec_owned
queue w max_size text = queue_reset w max_size text w.reset (reset_data text) refl

-- ---- a Reset

-- A Reset that a call executed, or a request that is none.
pub reset_taken : (w : OwnedState) (max_size : ℕ) (text : List ℕ) (reset : Option ResetState) (content : Option (List ℕ)) (did : Bool)
    (after : OwnedState) (new : List ℕ) → w.reset ≡ reset → reset_data text ≡ content
    → IsReset w text reset content did after new → did ≡ true → AreExecuted w max_size text after new
unfolding exec_owned
reset_taken w max_size text None content did after new er ec is e = absurd (cc)
reset_taken w max_size text (Some r) None did after new er ec is e = absurd (cc)
reset_taken w max_size text (Some r) (Some content) did after new er ec is e = record {
  state = is.1.0 ∙ sym (ap₂ (λ x y. (by_reset w max_size text x y).after) er ec);
  reply = is.1.1 ∙ sym (ap₂ (λ x y. (by_reset w max_size text x y).answer) er ec);
}

-- The state after a call that executed no Reset, and that the request is none.
pub reset_not_taken : (w : OwnedState) (text : List ℕ) (reset : Option ResetState) (content : Option (List ℕ)) (did : Bool)
    (after : OwnedState) (new : List ℕ) → w.reset ≡ reset → reset_data text ≡ content
    → IsReset w text reset content did after new → did ≡ false → (after ≡ w) × (is_reset w text ≡ false)
reset_not_taken w text None content did after new er ec is e = (is.1, ap₂ (λ x y. is_some y && is_some x) er ec ∙ no_reset content)
  where
    no_reset : (content : Option (List ℕ)) → (is_some content && false) ≡ false
    no_reset None = refl
    no_reset (Some content) = refl
reset_not_taken w text (Some r) None did after new er ec is e = (is.1, ap₂ (λ x y. is_some y && is_some x) er ec)
reset_not_taken w text (Some r) (Some content) did after new er ec is e = absurd (cc)

-- The state after a call that executed no Reset and one that gave no prepared reply.
pub neither_taken : (w : OwnedState) (max_size : ℕ) (text : List ℕ) (did_reset did : Bool) (between after : OwnedState) (first new : List ℕ)
    → IsReset w text w.reset (reset_data text) did_reset between first → did_reset ≡ false
    → IsTaken between max_size text did after new → did ≡ false → (after ≡ w) × (is_reset w text ≡ false)
neither_taken w max_size text did_reset did between after first new reset e taken f =
    let unreset = reset_not_taken w text w.reset (reset_data text) did_reset between first refl refl reset e in
    (not_taken between max_size text did after new taken f ∙ unreset.0, unreset.1)
