-- An originator under calls in any order.
use Rattle.std.proofs.Common.{◌≡◌, ℕ, zero, suc, ◌+◌, ◌%◌, ◌<◌, ◌≤◌, ◌^◌, nat_lt, Bool, true, false, if◌then◌else◌, Option, Some, None, List, [], ◌∷◌, length, refl, sym, ap, ◌∙◌, slice_index, arith}
use Rattle.std.proofs.lemmas.Bool.{and_parts, eqb-true, ltb-true}
use Rattle.cip_class3.specs.Item.{sequence_count_of, NeighboursDiffer}
use Rattle.cip_class3.specs.OriginatorRule.{OriginatorState, Phase, Idle, Waiting, GivenUp, originator_at_opening, MOST_UNACCEPTED, form_refusal, first_refusal, submit_refusal, with_next_request, answers, is_reply, idle_again, is_waiting}
use Rattle.cip_class3.specs.Calls.{OriginatorCall, Submit, Resend, Receive, GiveUp, Event, Submitted, Accepted, after_submit, events_of_submit, events_of, counts_taken, taken_since_accepted, AcceptedOnce}
use Rattle.cip_class3.specs.declared.originator.Refused.{Refused}
use Rattle.cip_class3.specs.declared.originator.Refused.TheVariants as refusals

-- each count is the one before it plus one, from this one on
abbrev AreInOrder : ℕ → List ℕ → Type 0
AreInOrder next counts = (n : ℕ) → n < length counts → slice_index counts n ≡ (next + n) % 65536

one_more : (next : ℕ) (counts : List ℕ) → next < 2 ^ 16 → AreInOrder ((next + 1) % 65536) counts →
    AreInOrder next (next ∷ counts)
one_more next counts fits later zero below = omega arith
one_more next counts fits later (suc n) below = later n (omega arith) ∙ omega arith

-- what is claimed of the counts that are used from a state on
abbrev InOrder : List OriginatorCall → Type 0
InOrder calls = (originator : OriginatorState) → originator.next < 2 ^ 16 →
    AreInOrder originator.next (counts_taken (events_of originator calls))

at_submit : (why : Option Refused) (originator : OriginatorState) (request : List ℕ) (calls : List OriginatorCall) →
    originator.next < 2 ^ 16 → InOrder calls →
    AreInOrder originator.next
    (counts_taken (events_of_submit why originator.next (events_of (after_submit why originator request) calls)))
at_submit None originator request calls fits later =
    one_more originator.next (counts_taken (events_of (with_next_request originator request) calls)) fits
    (later (with_next_request originator request) (omega arith))
at_submit (Some why) originator request calls fits later = later originator fits

at_receive : (is : Bool) (originator : OriginatorState) (bytes : List ℕ) (calls : List OriginatorCall) →
    originator.next < 2 ^ 16 → InOrder calls →
    AreInOrder originator.next (counts_taken
    (let later = events_of (if is then idle_again originator else originator) calls in if is then Accepted (sequence_count_of bytes) ∷ later else later))
at_receive true originator bytes calls fits later = later (idle_again originator) fits
at_receive false originator bytes calls fits later = later originator fits

at_give_up : (is : Bool) (originator : OriginatorState) (calls : List OriginatorCall) → originator.next < 2 ^ 16 → InOrder calls →
    AreInOrder originator.next
    (counts_taken (events_of (if is then record originator { phase = GivenUp } else originator) calls))
at_give_up true originator calls fits later = later (record originator { phase = GivenUp }) fits
at_give_up false originator calls fits later = later originator fits

in_order : (calls : List OriginatorCall) → InOrder calls
in_order [] originator fits = λ n below. absurd (omega arith)
in_order (Submit request ∷ calls) originator fits =
    at_submit (submit_refusal originator request) originator request calls fits (in_order calls)
in_order (Resend ∷ calls) originator fits = in_order calls originator fits
in_order (Receive bytes ∷ calls) originator fits =
    at_receive (is_reply originator.t_to_o_size originator.phase bytes) originator bytes calls fits (in_order calls)
in_order (GiveUp ∷ calls) originator fits =
    at_give_up (is_waiting originator.phase) originator calls fits (in_order calls)

-- the count of the n-th request that is submitted, from 0 on
pub counts_taken-at : (first o_to_t_size t_to_o_size n : ℕ) (calls : List OriginatorCall) → first < 2 ^ 16 →
    n < length (counts_taken (events_of (originator_at_opening first o_to_t_size t_to_o_size) calls)) →
    slice_index (counts_taken (events_of (originator_at_opening first o_to_t_size t_to_o_size) calls)) n ≡ (first + n) % 65536
counts_taken-at first o_to_t_size t_to_o_size n calls fits below = in_order calls (originator_at_opening first o_to_t_size t_to_o_size) fits n below

neighbours_differ : (next : ℕ) (counts : List ℕ) → AreInOrder next counts → NeighboursDiffer counts
neighbours_differ next [] order = tt
neighbours_differ next (sequence_count ∷ []) order = tt
neighbours_differ next (sequence_count ∷ after ∷ counts) order = (
  (λ (e : sequence_count ≡ after). omega (arith, order 0 (omega arith), order 1 (omega arith))),
  neighbours_differ (next + 1) (after ∷ counts)
      (λ n below. order (suc n) (omega arith) ∙ ap (λ place. place % 65536) (omega arith)),
)

-- no two requests that are submitted one after the other have the same count
pub counts_taken-differ : (first o_to_t_size t_to_o_size : ℕ) (calls : List OriginatorCall) → first < 2 ^ 16 →
    NeighboursDiffer (counts_taken (events_of (originator_at_opening first o_to_t_size t_to_o_size) calls))
counts_taken-differ first o_to_t_size t_to_o_size calls fits =
    neighbours_differ first (counts_taken (events_of (originator_at_opening first o_to_t_size t_to_o_size) calls))
    (λ n below. counts_taken-at first o_to_t_size t_to_o_size n calls fits below)

-- what is claimed of the events from a state on
abbrev Sound : Phase → List Event → Type 0
Sound Idle events = AcceptedOnce events
Sound (Waiting sequence_count request) events = AcceptedOnce (Submitted sequence_count ∷ events)
Sound GivenUp events = AcceptedOnce events

abbrev state : ℕ → ℕ → ℕ → ℕ → Phase → OriginatorState
state o_to_t_size t_to_o_size next unaccepted phase = record { o_to_t_size = o_to_t_size; t_to_o_size = t_to_o_size; next = next; phase = phase; unaccepted = unaccepted }

abbrev AllSound : List OriginatorCall → Type 0
AllSound calls = (o_to_t_size t_to_o_size next unaccepted : ℕ) (phase : Phase) → Sound phase (events_of (state o_to_t_size t_to_o_size next unaccepted phase) calls)

took_before : (sequence_count : ℕ) (events : List Event) → AcceptedOnce events → AcceptedOnce (Submitted sequence_count ∷ events)
took_before sequence_count [] once = tt
took_before sequence_count (Submitted next ∷ events) once = once
took_before sequence_count (Accepted same ∷ events) once = absurd once

submit_sound : (why : Option Refused) (o_to_t_size t_to_o_size next unaccepted : ℕ) (phase : Phase) (request : List ℕ) (calls : List OriginatorCall) →
    AllSound calls → AcceptedOnce (events_of (state o_to_t_size t_to_o_size next unaccepted phase) calls) →
    let originator = state o_to_t_size t_to_o_size next unaccepted phase in
    AcceptedOnce (events_of_submit why next (events_of (after_submit why originator request) calls))
submit_sound None o_to_t_size t_to_o_size next unaccepted phase request calls later once = later o_to_t_size t_to_o_size ((next + 1) % 2 ^ 16) (unaccepted + 1) (Waiting next request)
submit_sound (Some why) o_to_t_size t_to_o_size next unaccepted phase request calls later once = once

-- while a request is waiting, none is accepted
waiting_sound : (room : Bool) (o_to_t_size t_to_o_size next unaccepted sequence_count : ℕ) (waiting request : List ℕ) (calls : List OriginatorCall) → AllSound calls →
    let originator = state o_to_t_size t_to_o_size next unaccepted (Waiting sequence_count waiting) in
    let why : Option Refused = if room then Some refusals.Busy else Some refusals.TooManyAbandoned in
    AcceptedOnce (Submitted sequence_count ∷ events_of_submit why next (events_of (after_submit why originator request) calls))
waiting_sound true o_to_t_size t_to_o_size next unaccepted sequence_count waiting request calls later = later o_to_t_size t_to_o_size next unaccepted (Waiting sequence_count waiting)
waiting_sound false o_to_t_size t_to_o_size next unaccepted sequence_count waiting request calls later = later o_to_t_size t_to_o_size next unaccepted (Waiting sequence_count waiting)

receive_sound : (is : Bool) (o_to_t_size t_to_o_size next unaccepted sequence_count : ℕ) (request bytes : List ℕ) (calls : List OriginatorCall) →
    answers t_to_o_size sequence_count (slice_index request 0) bytes ≡ is → AllSound calls →
    let originator = state o_to_t_size t_to_o_size next unaccepted (Waiting sequence_count request) in
    AcceptedOnce (Submitted sequence_count ∷ (let later = events_of (if is then idle_again originator else originator) calls in
    if is then Accepted (sequence_count_of bytes) ∷ later else later))
receive_sound true o_to_t_size t_to_o_size next unaccepted sequence_count request bytes calls is later =
    (sym (eqb-true _ _ (and_parts _ _ ((and_parts _ _ is).0)).1), later o_to_t_size t_to_o_size next 0 Idle)
receive_sound false o_to_t_size t_to_o_size next unaccepted sequence_count request bytes calls is later = later o_to_t_size t_to_o_size next unaccepted (Waiting sequence_count request)

sound : (calls : List OriginatorCall) → AllSound calls
sound [] o_to_t_size t_to_o_size next unaccepted Idle = tt
sound [] o_to_t_size t_to_o_size next unaccepted (Waiting sequence_count request) = tt
sound [] o_to_t_size t_to_o_size next unaccepted GivenUp = tt
sound (Submit request ∷ calls) o_to_t_size t_to_o_size next unaccepted Idle =
    submit_sound (submit_refusal (state o_to_t_size t_to_o_size next unaccepted Idle) request) o_to_t_size t_to_o_size next unaccepted Idle request calls (sound calls)
    (sound calls o_to_t_size t_to_o_size next unaccepted Idle)
sound (Submit request ∷ calls) o_to_t_size t_to_o_size next unaccepted (Waiting sequence_count waiting) =
    waiting_sound (nat_lt unaccepted MOST_UNACCEPTED) o_to_t_size t_to_o_size next unaccepted sequence_count waiting request calls (sound calls)
sound (Submit request ∷ calls) o_to_t_size t_to_o_size next unaccepted GivenUp =
    submit_sound (submit_refusal (state o_to_t_size t_to_o_size next unaccepted GivenUp) request) o_to_t_size t_to_o_size next unaccepted GivenUp request calls (sound calls)
    (sound calls o_to_t_size t_to_o_size next unaccepted GivenUp)
sound (Resend ∷ calls) o_to_t_size t_to_o_size next unaccepted Idle = sound calls o_to_t_size t_to_o_size next unaccepted Idle
sound (Resend ∷ calls) o_to_t_size t_to_o_size next unaccepted (Waiting sequence_count request) = sound calls o_to_t_size t_to_o_size next unaccepted (Waiting sequence_count request)
sound (Resend ∷ calls) o_to_t_size t_to_o_size next unaccepted GivenUp = sound calls o_to_t_size t_to_o_size next unaccepted GivenUp
sound (Receive bytes ∷ calls) o_to_t_size t_to_o_size next unaccepted Idle = sound calls o_to_t_size t_to_o_size next unaccepted Idle
sound (Receive bytes ∷ calls) o_to_t_size t_to_o_size next unaccepted (Waiting sequence_count request) =
    receive_sound _ o_to_t_size t_to_o_size next unaccepted sequence_count request bytes calls refl (sound calls)
sound (Receive bytes ∷ calls) o_to_t_size t_to_o_size next unaccepted GivenUp = sound calls o_to_t_size t_to_o_size next unaccepted GivenUp
sound (GiveUp ∷ calls) o_to_t_size t_to_o_size next unaccepted Idle = sound calls o_to_t_size t_to_o_size next unaccepted Idle
sound (GiveUp ∷ calls) o_to_t_size t_to_o_size next unaccepted (Waiting sequence_count request) = took_before sequence_count (events_of (state o_to_t_size t_to_o_size next unaccepted GivenUp) calls) (sound calls o_to_t_size t_to_o_size next unaccepted GivenUp)
sound (GiveUp ∷ calls) o_to_t_size t_to_o_size next unaccepted GivenUp = sound calls o_to_t_size t_to_o_size next unaccepted GivenUp

-- from a state in which no request is waiting, at most one reply is accepted for each request
pub events_of-accepted_once : (first o_to_t_size t_to_o_size : ℕ) (calls : List OriginatorCall) → AcceptedOnce (events_of (originator_at_opening first o_to_t_size t_to_o_size) calls)
events_of-accepted_once first o_to_t_size t_to_o_size calls = sound calls o_to_t_size t_to_o_size first 0 Idle

-- what holds if a request is not refused
pub record IsAllowed (since_accepted : ℕ) (waits : Bool) (form : Option Refused) : Type 0 where
  pub room : since_accepted < MOST_UNACCEPTED
  pub free : waits ≡ false
  pub formed : form ≡ None

pub first_refusal-none : (since_accepted : ℕ) (waits : Bool) (form : Option Refused) → first_refusal since_accepted waits form ≡ None →
    IsAllowed since_accepted waits form
first_refusal-none since_accepted waits form is = go (nat_lt since_accepted MOST_UNACCEPTED) waits refl is
  where
    go : (room waiting : Bool) → nat_lt since_accepted MOST_UNACCEPTED ≡ room →
        (if room then (if waiting then Some refusals.Busy else form) else Some refusals.TooManyAbandoned) ≡ None →
        IsAllowed since_accepted waiting form
    go true true e f = absurd (cc)
    go true false e f = record { room = ltb-true since_accepted MOST_UNACCEPTED e; free = refl; formed = f }
    go false waiting e f = absurd (cc)

-- what is claimed of the events from a state on: how many requests are submitted since the last accepted reply
abbrev Fewer : List OriginatorCall → Type 0
Fewer calls = (originator : OriginatorState) → originator.unaccepted ≤ MOST_UNACCEPTED →
    taken_since_accepted originator.unaccepted (events_of originator calls) ≤ MOST_UNACCEPTED

submit_fewer : (why : Option Refused) (originator : OriginatorState) (request : List ℕ) (calls : List OriginatorCall) →
    submit_refusal originator request ≡ why → originator.unaccepted ≤ MOST_UNACCEPTED → Fewer calls →
    taken_since_accepted originator.unaccepted (events_of_submit why originator.next (events_of (after_submit why originator request) calls))
    ≤ MOST_UNACCEPTED
submit_fewer None originator request calls is fits later =
    later (with_next_request originator request)
    (omega (arith, (first_refusal-none originator.unaccepted (is_waiting originator.phase) (form_refusal originator.o_to_t_size request) is).room))
submit_fewer (Some why) originator request calls is fits later = later originator fits

receive_fewer : (is : Bool) (originator : OriginatorState) (bytes : List ℕ) (calls : List OriginatorCall) →
    originator.unaccepted ≤ MOST_UNACCEPTED → Fewer calls →
    taken_since_accepted originator.unaccepted (let later = events_of (if is then idle_again originator else originator) calls in
    if is then Accepted (sequence_count_of bytes) ∷ later else later) ≤ MOST_UNACCEPTED
receive_fewer true originator bytes calls fits later = later (idle_again originator) (omega arith)
receive_fewer false originator bytes calls fits later = later originator fits

give_up_fewer : (is : Bool) (originator : OriginatorState) (calls : List OriginatorCall) → originator.unaccepted ≤ MOST_UNACCEPTED → Fewer calls →
    taken_since_accepted originator.unaccepted (events_of (if is then record originator { phase = GivenUp } else originator) calls) ≤ MOST_UNACCEPTED
give_up_fewer true originator calls fits later = later (record originator { phase = GivenUp }) fits
give_up_fewer false originator calls fits later = later originator fits

fewer : (calls : List OriginatorCall) → Fewer calls
fewer [] originator fits = fits
fewer (Submit request ∷ calls) originator fits =
    submit_fewer (submit_refusal originator request) originator request calls refl fits (fewer calls)
fewer (Resend ∷ calls) originator fits = fewer calls originator fits
fewer (Receive bytes ∷ calls) originator fits =
    receive_fewer (is_reply originator.t_to_o_size originator.phase bytes) originator bytes calls fits (fewer calls)
fewer (GiveUp ∷ calls) originator fits = give_up_fewer (is_waiting originator.phase) originator calls fits (fewer calls)

-- no more requests than that are submitted since the last accepted reply
pub events_of-fewer : (first o_to_t_size t_to_o_size : ℕ) (calls : List OriginatorCall) →
    taken_since_accepted 0 (events_of (originator_at_opening first o_to_t_size t_to_o_size) calls) ≤ MOST_UNACCEPTED
events_of-fewer first o_to_t_size t_to_o_size calls = fewer calls (originator_at_opening first o_to_t_size t_to_o_size) (omega arith)
