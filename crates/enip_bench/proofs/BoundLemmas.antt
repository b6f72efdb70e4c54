-- The bound on abandoned requests, and what one more request would do.
use Rattle.std.proofs.Common.{◌≡◌, ℕ, zero, suc, ◌+◌, ◌-◌, ◌^◌, ◌<◌, ◌≤◌, Bool, true, false, cond, Option, Some, None, option_map, List, [], ◌∷◌, ◌++◌, length, slice_get, slice_index, nat_lt, nat_le, refl, ap, ap₂, sym, ◌∙◌, arith, le-leb, eq-eqb}
use Rattle.std.proofs.lemmas.Bool.{lt-ltb, le-ltb, ltb-false}
use Rattle.std.proofs.lemmas.List.{length_push}
use Rattle.cip_class3.specs.Item.{item}
use Rattle.cip_class3.specs.OriginatorRule.{MOST_UNACCEPTED, is_request, is_waiting, form_refusal, first_refusal, submit_refusal, answers, idle_again, stage_of}
use Rattle.cip_class3.specs.TargetRule.{TargetStep, is_held}
use Rattle.cip_class3.specs.declared.originator.Refused.{Refused}
use Rattle.cip_class3.specs.declared.originator.Refused.TheVariants as refusals
use Rattle.cip_message.specs.Router.{IsReplyTo}
use Rattle.enip_adapter.specs.OwnWrites.{OwnWrite}
use Rattle.enip_bench.specs.Bound.{bound_law, abandonings, accepted_then_abandoned, refusals_law, one_more_seen, old_reply_seen, IsOneTooMany, raised_law}
use Rattle.enip_bench.specs.Events.{Event, Submit, Reach, Back, GiveUp, delivery, with_any}
use Rattle.enip_bench.specs.ItemWorld as items
use Rattle.enip_bench.specs.ItemWorld.{ItemWorld, item_step, item_run, items_seen, with_step}
use Rattle.enip_bench.specs.NumberedWorld.{submits_since_accepted, is_awaiting, refusal}
use Rattle.enip_bench.specs.Seen.{Seen}
use Rattle.enip_bench.specs.WorldLaws.{items_after, numbers_after}
use Rattle.enip_bench.proofs.AgreementLemmas.{items_after-image}
use Rattle.enip_bench.proofs.CountLemmas.{count_of, count_of-first}
use Rattle.enip_bench.proofs.HeldLemmas.{has_form, answered-now}
use Rattle.enip_bench.proofs.Image.{item_of, phase_of, held_of, image}
use Rattle.enip_bench.proofs.OnceLemmas.{window}
use Rattle.enip_bench.proofs.Plain.{progress_of, plain}
use Rattle.enip_bench.proofs.PlainLemmas.{run_plain}
use Rattle.enip_bench.proofs.PositionLemmas.{get-last, delivery-map}
use Rattle.enip_bench.proofs.SoundLemmas.{opening_sound, run_sound}
use Rattle.enip_bench.proofs.StepLemmas.{at_submit, refusal-same, repeats, is_reply-same}
use Rattle.enip_bench.proofs.TrackedSteps.{after_submit, tracked_step, tracked_run}
use Rattle.enip_bench.proofs.TrackedWorld.{Own, OwnLogged, Course, Resting, Abandoned, TrackedWorld, tracked_at_opening}

-- A refusal for the form is never "too many abandoned".
formed_otherwise : (is fits : Bool) →
    cond is (cond fits None (Some refusals.TooLong)) (Some refusals.NoRequest) ≡ Some refusals.TooManyAbandoned → ⊥
formed_otherwise true true e = absurd (cc)
formed_otherwise true false e = absurd (cc)
formed_otherwise false fits e = absurd (cc)

room_used : (since : ℕ) (room waits : Bool) (form : Option Refused) → since ≤ MOST_UNACCEPTED →
    (form ≡ Some refusals.TooManyAbandoned → ⊥) → nat_lt since MOST_UNACCEPTED ≡ room →
    cond room (cond waits (Some refusals.Busy) form) (Some refusals.TooManyAbandoned)
    ≡ Some refusals.TooManyAbandoned → since ≡ MOST_UNACCEPTED
room_used since true true form most other e is = absurd (cc)
room_used since true false form most other e is = absurd (other is)
room_used since false waits form most other e is = omega (arith, ltb-false since MOST_UNACCEPTED e)

too_many : (since : ℕ) (waits : Bool) (form : Option Refused) → MOST_UNACCEPTED ≤ since →
    first_refusal since waits form ≡ Some refusals.TooManyAbandoned
too_many since waits form most =
    ap (λ room. cond room (cond waits (Some refusals.Busy) form) (Some refusals.TooManyAbandoned))
    (le-ltb since MOST_UNACCEPTED most)

pub bound : bound_law
bound o_to_t_size events request =
    let since : ℕ = submits_since_accepted (numbers_after o_to_t_size events) in
    let waits : Bool = is_awaiting (numbers_after o_to_t_size events).progress in (
      (λ is. room_used since (nat_lt since MOST_UNACCEPTED) waits (form_refusal o_to_t_size request)
          (window o_to_t_size events) (formed_otherwise (is_request request) (nat_le (length request + 2) o_to_t_size))
          refl is),
      (λ is. too_many since waits (form_refusal o_to_t_size request) (omega (arith, is))),
    )

-- the request with a number
abbrev numbered : List ℕ → ℕ → Own
numbered request number = record { number = number; request = request }

-- the submits, and what was sent, after n were given up
abbrev submitted : List ℕ → ℕ → List (List ℕ)
submitted request zero = request ∷ []
submitted request (suc n) = submitted request n ++ request ∷ []

abbrev sent : List ℕ → ℕ → List Own
sent request zero = numbered request 0 ∷ []
sent request (suc n) = sent request n ++ numbered request (length (submitted request n)) ∷ []

abbrev course : ℕ → Course
course zero = Resting
course (suc n) = Abandoned

-- the world after an accepted reply and n requests given up and lost
abbrev abandoned_world : List ℕ → ℕ → TrackedWorld
abandoned_world request n = record {
  submits = submitted request n;
  sent = sent request n;
  back = numbered request 0 ∷ [];
  last_reached = Some 0;
  last_back = Some 0;
  log = OwnLogged (numbered request 0) ∷ [];
  is_open = true;
  course = course n;
  accepted = numbered request 0 ∷ [];
  unaccepted = n;
}

length-submitted : (request : List ℕ) (n : ℕ) → length (submitted request n) ≡ n + 1
length-submitted request zero = refl
length-submitted request (suc n) =
    length_push (submitted request n) request ∙ omega (arith, length-submitted request n)

length-sent : (request : List ℕ) (n : ℕ) → length (sent request n) ≡ n + 1
length-sent request zero = refl
length-sent request (suc n) =
    length_push (sent request n) (numbered request (length (submitted request n)))
    ∙ omega (arith, length-sent request n)

free : (n : ℕ) → is_awaiting (progress_of (course n)) ≡ false
free zero = refl
free (suc n) = refl

taken : (o_to_t_size n : ℕ) (request : List ℕ) → n < MOST_UNACCEPTED → form_refusal o_to_t_size request ≡ None →
    refusal o_to_t_size (plain (abandoned_world request n)) request ≡ None
taken o_to_t_size n request below formed =
    let room : nat_lt (submits_since_accepted (plain (abandoned_world request n))) MOST_UNACCEPTED ≡ true =
    lt-ltb _ _ (omega (arith, length-submitted request n)) in
    ap₂ (λ room waits. cond room (cond waits (Some refusals.Busy) (form_refusal o_to_t_size request))
    (Some refusals.TooManyAbandoned)) room (free n) ∙ formed

given_up : (o_to_t_size n : ℕ) (request : List ℕ) (events : List Event) → n < MOST_UNACCEPTED →
    form_refusal o_to_t_size request ≡ None →
    tracked_run o_to_t_size (abandoned_world request n) (Submit request ∷ GiveUp ∷ events)
    ≡ tracked_run o_to_t_size (abandoned_world request (suc n)) events
given_up o_to_t_size n request events below formed =
    ap (λ why. tracked_run o_to_t_size
    (tracked_step o_to_t_size (after_submit why (abandoned_world request n) request) GiveUp) events)
    (taken o_to_t_size n request below formed)
    ∙ ap (λ unaccepted. tracked_run o_to_t_size (record (abandoned_world request (suc n)) { unaccepted = unaccepted }) events)
    (let more : n + 1 ≡ suc n = omega arith in more)

all_given_up : (o_to_t_size more n : ℕ) (request : List ℕ) → more + n ≤ MOST_UNACCEPTED →
    form_refusal o_to_t_size request ≡ None →
    tracked_run o_to_t_size (abandoned_world request n) (abandonings request more) ≡ abandoned_world request (more + n)
all_given_up o_to_t_size zero n request most formed =
    ap (abandoned_world request) (let same : n ≡ 0 + n = omega arith in same)
all_given_up o_to_t_size (suc more) n request most formed =
    given_up o_to_t_size n request (abandonings request more) (omega (arith, most)) formed
    ∙ all_given_up o_to_t_size more (suc n) request (omega (arith, most)) formed
    ∙ ap (abandoned_world request) (let same : more + suc n ≡ suc more + n = omega arith in same)

accepted_then : (o_to_t_size n : ℕ) (request : List ℕ) → n ≤ MOST_UNACCEPTED →
    form_refusal o_to_t_size request ≡ None →
    tracked_run o_to_t_size tracked_at_opening (accepted_then_abandoned request n) ≡ abandoned_world request n
accepted_then o_to_t_size n request most formed =
    ap (λ why. tracked_run o_to_t_size (tracked_step o_to_t_size
    (tracked_step o_to_t_size (after_submit why tracked_at_opening request) (Reach 0)) (Back 0))
    (abandonings request n)) formed
    ∙ all_given_up o_to_t_size n 0 request (omega (arith, most)) formed
    ∙ ap (abandoned_world request) (let same : n + 0 ≡ n = omega arith in same)

module _ {M : Type 0} (after : M → ℕ → List ℕ → M) (answer : M → ℕ → List ℕ → List ℕ)
    (written : OwnWrite → M → M)
    (begins : (router : M) (room : ℕ) (request : List ℕ) → 8 ≤ room → 2 ≤ length request →
    IsReplyTo request (answer router room request))
    (within : (router : M) (room : ℕ) (request : List ℕ) → 8 ≤ room → 2 ≤ length request →
    length (answer router room request) ≤ room) where
  pub refusals_agree : refusals_law after answer written
  refusals_agree first o_to_t_size t_to_o_size router events request below roomy =
      ap (λ (world : ItemWorld M). submit_refusal world.originator request)
      (items_after-image after answer written begins within first o_to_t_size t_to_o_size router events below roomy)
      ∙ refusal-same after answer written first o_to_t_size t_to_o_size router
      (tracked_run o_to_t_size tracked_at_opening events) request
      (run_sound o_to_t_size events tracked_at_opening (opening_sound o_to_t_size))
      ∙ ap (λ world. refusal o_to_t_size world request) (sym (run_plain o_to_t_size events tracked_at_opening))

  module _ (first o_to_t_size t_to_o_size n : ℕ) (router : M) (request : List ℕ) (roomy : 10 ≤ t_to_o_size)
      (below : first < 2 ^ 16) (formed : form_refusal o_to_t_size request ≡ None) (all : n ≡ MOST_UNACCEPTED) where
    abbrev show : TrackedWorld → ItemWorld M
    show world = image after answer written first t_to_o_size router o_to_t_size world

    abbrev old_reply : List ℕ
    old_reply = answer router (t_to_o_size - 2) request

    -- the number of the one more request
    abbrev last : ℕ
    last = length (submitted request n)

    abbrev beyond : TrackedWorld
    beyond = after_submit None (abandoned_world request n) request

    -- it has the count of the first one
    same_count : count_of first last ≡ count_of first 0
    same_count = omega (arith, length-submitted request n, all)

    found : delivery (Some 0) beyond.sent (n + 1) ≡ Some (numbered request last)
    found = ap₂ (λ is (o : Option Own). cond is o None) (le-leb 0 (n + 1) (omega arith))
        (ap (slice_get beyond.sent) (sym (length-sent request n)) ∙ get-last (sent request n) (numbered request last))

    repeated : is_held (held_of after answer written first t_to_o_size router beyond.log) (count_of first last) ≡ true
    repeated = eq-eqb (count_of first 0) (count_of first last) (sym same_count)

    -- the first one's reply is accepted as the last one's
    old_accepted : answers t_to_o_size (count_of first last) (slice_index request 0) (item (count_of first 0) old_reply)
        ≡ true
    old_accepted =
        ap (λ count. answers t_to_o_size count (slice_index request 0) (item (count_of first 0) old_reply)) same_count
        ∙ is_reply-same after answer written first o_to_t_size t_to_o_size router roomy begins within (request ∷ [])
        (numbered request 0) 0 old_reply true refl
        (answered-now after answer written first t_to_o_size router roomy begins within (request ∷ []) router
        (numbered request 0) refl ((has_form o_to_t_size request formed).least)) refl (omega arith) (omega arith)

    -- what is seen after this step of the target, if the answer was accepted or not
    abbrev seen_after : TargetStep M → Seen M
    seen_after step =
        items_seen (item_step after answer written
        (with_step (record (show beyond) { last_reached = Some (n + 1) }) step)
        (Back 1))

    abbrev heard : Bool → ℕ → ℕ → Seen M
    heard is number count = record {
      router = after router (t_to_o_size - 2) request;
      back = item count old_reply ∷ item count old_reply ∷ [];
      accepted = with_any (option_map (λ reply. (number, reply)) (cond is (Some old_reply) None))
          ((0, old_reply) ∷ []);
      stage = stage_of (cond is (idle_again (show beyond).originator) (show beyond).originator).phase;
    }

    number-last : length beyond.submits - 1 ≡ n + 1
    number-last = omega (arith, length_push (submitted request n) request, length-submitted request n)

    answered : one_more_seen after answer written (show (abandoned_world request n)) request (n + 1)
        ≡ old_reply_seen after answer written first t_to_o_size router request (n + 1)
    answered =
        ap (λ world. items_seen (item_run after answer written world (Reach (n + 1) ∷ Back 1 ∷ [])))
        (at_submit after answer written first o_to_t_size t_to_o_size router (abandoned_world request n) None request)
        ∙ ap (λ o. items_seen (item_step after answer written
        (items.after_reach after answer written o (show beyond) (n + 1)) (Back 1)))
        (delivery-map (item_of first) (Some 0) beyond.sent (n + 1) ∙ ap (option_map (item_of first)) found)
        ∙ ap seen_after (repeats after answer written first o_to_t_size t_to_o_size router roomy begins within beyond
        (numbered request last) (has_form o_to_t_size request formed) repeated)
        ∙ ap (λ is. heard is (length beyond.submits - 1) (count_of first 0)) old_accepted
        ∙ ap₂ (λ number count. heard true number count) number-last (count_of-first first below)

    there : items_after after answer written first o_to_t_size t_to_o_size router (accepted_then_abandoned request n)
        ≡ show (abandoned_world request n)
    there =
        items_after-image after answer written begins within first o_to_t_size t_to_o_size router
        (accepted_then_abandoned request n) below roomy
        ∙ ap show (accepted_then o_to_t_size n request (omega (arith, all)) formed)

    pub one_too_many : IsOneTooMany after answer written first t_to_o_size router
        (items_after after answer written first o_to_t_size t_to_o_size router
        (accepted_then_abandoned request n)) request
        (n + 1)
    one_too_many = record {
      refused = ap (λ (world : ItemWorld M). submit_refusal world.originator request) there
          ∙ too_many n (is_waiting (phase_of first (course n))) (form_refusal o_to_t_size request)
          (omega (arith, all));
      answered = ap (λ world. one_more_seen after answer written world request (n + 1)) there ∙ answered;
    }

  pub raised : raised_law after answer written
  raised first o_to_t_size t_to_o_size abandoned router request below roomy formed all =
      one_too_many first o_to_t_size t_to_o_size abandoned router request roomy below formed all
