-- The bound on abandoned requests: what it is, and what one more request would do.
use Rattle.std.specs.Prelude.{◌≡◌, ◌↔◌, ℕ, zero, suc, ◌+◌, ◌-◌, ◌^◌, ◌<◌, ◌≤◌, Some, None, List, [], ◌∷◌}
use Rattle.cip_class3.specs.Item.{item}
use Rattle.cip_class3.specs.OriginatorRule.{MOST_UNACCEPTED, form_refusal, submit_refusal}
use Rattle.cip_class3.specs.declared.originator.Refused.TheVariants.{TooManyAbandoned}
use Rattle.cip_class3.specs.declared.originator.Stage.TheVariants as stages
use Rattle.enip_adapter.specs.OwnWrites.{OwnWrite}
use Rattle.enip_bench.specs.Events.{Event, Submit, Reach, Back, GiveUp}
use Rattle.enip_bench.specs.ItemWorld.{ItemWorld, after_submit, item_run, items_seen}
use Rattle.enip_bench.specs.NumberedWorld.{refusal, submits_since_accepted}
use Rattle.enip_bench.specs.Seen.{Seen}
use Rattle.enip_bench.specs.WorldLaws.{items_after, numbers_after}

-- A request is refused as one too many if and only if the greatest number of requests was submitted since the last
-- accepted reply, or since the opening if no reply was accepted.
abbrev pub bound_law : Type 0
bound_law = (o_to_t_size : ℕ) (events : List Event) (request : List ℕ) →
    (refusal o_to_t_size (numbers_after o_to_t_size events) request ≡ Some TooManyAbandoned)
    ↔ (submits_since_accepted (numbers_after o_to_t_size events) ≡ MOST_UNACCEPTED)

-- the request is submitted n times, and each time given up and lost
abbrev pub abandonings : List ℕ → ℕ → List Event
abandonings request zero = []
abandonings request (suc n) = Submit request ∷ GiveUp ∷ abandonings request n

-- the request is executed and its reply accepted; then n more are submitted, given up and lost
abbrev pub accepted_then_abandoned : List ℕ → ℕ → List Event
accepted_then_abandoned request n = Submit request ∷ Reach 0 ∷ Back 0 ∷ abandonings request n

module _ {M : Type 0} (after : M → ℕ → List ℕ → M) (answer : M → ℕ → List ℕ → List ℕ)
    (written : OwnWrite → M → M) where
  -- both worlds refuse the same requests, for the same reasons
  abbrev pub refusals_law : Type 0
  refusals_law =
      (first o_to_t_size t_to_o_size : ℕ) (router : M) (events : List Event) (request : List ℕ) → first < 2 ^ 16 →
      10 ≤ t_to_o_size →
      submit_refusal (items_after after answer written first o_to_t_size t_to_o_size router events).originator request
      ≡ refusal o_to_t_size (numbers_after o_to_t_size events) request

  -- What the item world shows if one more request is taken and reaches the target, and the answer reaches the
  -- originator.
  abbrev pub one_more_seen : ItemWorld M → List ℕ → ℕ → Seen M
  one_more_seen world request position =
      items_seen (item_run after answer written (after_submit None world request) (Reach position ∷ Back 1 ∷ []))

  -- Only the first request was executed. The last one is answered with the count and the reply of the first one, and the
  -- originator accepts that as its reply.
  abbrev pub old_reply_seen : ℕ → ℕ → M → List ℕ → ℕ → Seen M
  old_reply_seen first t_to_o_size router request last =
      let reply : List ℕ = answer router (t_to_o_size - 2) request in
      record {
        router = after router (t_to_o_size - 2) request;
        back = item first reply ∷ item first reply ∷ [];
        accepted = (0, reply) ∷ (last, reply) ∷ [];
        stage = stages.Idle;
      }

  -- At the bound, one more request is refused. An originator that took it would accept the old reply to another request.
  pub record IsOneTooMany (first t_to_o_size : ℕ) (router : M) (world : ItemWorld M) (request : List ℕ)
      (last : ℕ) : Type 0 where
    pub refused : submit_refusal world.originator request ≡ Some TooManyAbandoned
    pub answered : one_more_seen world request last ≡ old_reply_seen first t_to_o_size router request last

  -- This holds over every router, for every request of a valid form, after these events.
  abbrev pub raised_law : Type 0
  raised_law =
      (first o_to_t_size t_to_o_size abandoned : ℕ) (router : M) (request : List ℕ) → first < 2 ^ 16 →
      10 ≤ t_to_o_size → form_refusal o_to_t_size request ≡ None → abandoned ≡ MOST_UNACCEPTED →
      IsOneTooMany first t_to_o_size router
      (items_after after answer written first o_to_t_size t_to_o_size router
      (accepted_then_abandoned request abandoned))
      request (abandoned + 1)
