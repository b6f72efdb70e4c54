-- From the opening on, both worlds show the same.
use Rattle.std.proofs.Common.{◌≡◌, ℕ, ◌≤◌, ◌<◌, ◌^◌, List, length, ap, sym, ◌∙◌}
use Rattle.cip_class3.specs.OriginatorRule.{Idle}
use Rattle.cip_message.specs.Router.{IsReplyTo}
use Rattle.enip_adapter.specs.OwnWrites.{OwnWrite}
use Rattle.enip_bench.specs.WorldLaws.{items_after, agreement_law}
use Rattle.enip_bench.specs.Events.{Event}
use Rattle.enip_bench.specs.ItemWorld.{items_at_opening, item_run, items_seen}
use Rattle.enip_bench.specs.NumberedWorld.{numbers_seen}
use Rattle.enip_bench.proofs.CountLemmas.{count_of-first}
use Rattle.enip_bench.proofs.Image.{image}
use Rattle.enip_bench.proofs.PlainLemmas.{run_plain}
use Rattle.enip_bench.proofs.SeenLemmas.{seen_same}
use Rattle.enip_bench.proofs.SoundLemmas.{opening_sound, run_sound}
use Rattle.enip_bench.proofs.StepLemmas.{run_same}
use Rattle.enip_bench.proofs.TrackedSteps.{tracked_run}
use Rattle.enip_bench.proofs.TrackedWorld.{tracked_at_opening}

module _ {M : Type 0} (after : M → ℕ → List ℕ → M) (answer : M → ℕ → List ℕ → List ℕ)
    (written : OwnWrite → M → M)
    (begins : (router : M) (room : ℕ) (request : List ℕ) → 8 ≤ room → 2 ≤ length request →
    IsReplyTo request (answer router room request))
    (within : (router : M) (room : ℕ) (request : List ℕ) → 8 ≤ room → 2 ≤ length request →
    length (answer router room request) ≤ room) where
  opening-image : (first o_to_t_size t_to_o_size : ℕ) (router : M) → first < 2 ^ 16 →
      items_at_opening first o_to_t_size t_to_o_size router
      ≡ image after answer written first t_to_o_size router o_to_t_size tracked_at_opening
  opening-image first o_to_t_size t_to_o_size router below =
      ap (λ next. record (items_at_opening first o_to_t_size t_to_o_size router) {
        originator = record {
          o_to_t_size = o_to_t_size;
          t_to_o_size = t_to_o_size;
          next = next;
          phase = Idle;
          unaccepted = 0;
        };
      }) (sym (count_of-first first below))

  -- the item world after these events
  pub items_after-image : (first o_to_t_size t_to_o_size : ℕ) (router : M) (events : List Event) → first < 2 ^ 16 →
      10 ≤ t_to_o_size →
      items_after after answer written first o_to_t_size t_to_o_size router events
      ≡ image after answer written first t_to_o_size router o_to_t_size
      (tracked_run o_to_t_size tracked_at_opening events)
  items_after-image first o_to_t_size t_to_o_size router events below roomy =
      ap (λ world. item_run after answer written world events)
      (opening-image first o_to_t_size t_to_o_size router below)
      ∙ run_same after answer written first o_to_t_size t_to_o_size router roomy begins within events tracked_at_opening
      (opening_sound o_to_t_size)

  pub worlds_agree : agreement_law after answer written
  worlds_agree first o_to_t_size t_to_o_size router events below roomy =
      ap items_seen (items_after-image first o_to_t_size t_to_o_size router events below roomy)
      ∙ seen_same after answer written first o_to_t_size t_to_o_size router
      (tracked_run o_to_t_size tracked_at_opening events)
      (run_sound o_to_t_size events tracked_at_opening (opening_sound o_to_t_size))
      ∙ ap (numbers_seen after answer written first t_to_o_size router)
      (sym (run_plain o_to_t_size events tracked_at_opening))
