-- The answers and the accepted replies, request by request.
use Rattle.std.proofs.Common.{◌≡◌, ℕ, true, ◌≤◌, ◌<◌, ◌^◌, Option, Some, None, option_map, List, map, length, slice_get, refl, ap, sym, ◌∙◌, subst, subst₂}
use Rattle.std.proofs.lemmas.Option.{same_Some, slice_get-map}
use Rattle.cip_class3.specs.Item.{item}
use Rattle.cip_message.specs.Router.{IsReplyTo}
use Rattle.enip_adapter.specs.OwnWrites.{OwnWrite}
use Rattle.enip_bench.specs.Events.{Event}
use Rattle.enip_bench.specs.Executions.{AreRising, IsOnlyExecution}
use Rattle.enip_bench.specs.ItemWorld.{ItemWorld}
use Rattle.enip_bench.specs.NumberedWorld.{NumberedWorld, reply_to}
use Rattle.enip_bench.specs.WorldLaws.{numbers_after, items_after, IsReplyOf, accepted_law, accepted_order_law, answer_law, same_bytes_law}
use Rattle.enip_bench.proofs.AgreementLemmas.{items_after-image, worlds_agree}
use Rattle.enip_bench.proofs.CountLemmas.{count_of}
use Rattle.enip_bench.proofs.Image.{reply_of, answer_of, acceptance_of}
use Rattle.enip_bench.proofs.OnceLemmas.{ordered-rising, only_execution}
use Rattle.enip_bench.proofs.Plain.{number_of}
use Rattle.enip_bench.proofs.PlainLemmas.{run_plain}
use Rattle.enip_bench.proofs.SeenLemmas.{map-map}
use Rattle.enip_bench.proofs.SoundLemmas.{opening_sound, run_sound}
use Rattle.enip_bench.proofs.Soundness.{IsSound}
use Rattle.enip_bench.proofs.TrackedSteps.{tracked_run}
use Rattle.enip_bench.proofs.TrackedWorld.{Own, TrackedWorld, is_logged, tracked_at_opening}

abbrev tracked : ℕ → List Event → TrackedWorld
tracked o_to_t_size events = tracked_run o_to_t_size tracked_at_opening events

tracked_sound : (o_to_t_size : ℕ) (events : List Event) → IsSound o_to_t_size (tracked o_to_t_size events)
tracked_sound o_to_t_size events = run_sound o_to_t_size events tracked_at_opening (opening_sound o_to_t_size)

module _ {M : Type 0} (after : M → ℕ → List ℕ → M) (answer : M → ℕ → List ℕ → List ℕ)
    (written : OwnWrite → M → M)
    (begins : (router : M) (room : ℕ) (request : List ℕ) → 8 ≤ room → 2 ≤ length request →
    IsReplyTo request (answer router room request))
    (within : (router : M) (room : ℕ) (request : List ℕ) → 8 ≤ room → 2 ≤ length request →
    length (answer router room request) ≤ room) where
  -- the log's reply to an executed number is that of its only execution
  logged-reply : (first o_to_t_size t_to_o_size : ℕ) (router : M) (events : List Event) (number : ℕ) →
      is_logged number (tracked o_to_t_size events).log ≡ true →
      IsReplyOf after answer written o_to_t_size t_to_o_size router events number
      (reply_of after answer written first t_to_o_size router (tracked o_to_t_size events).log number)
  logged-reply first o_to_t_size t_to_o_size router events number is =
      let world : TrackedWorld = tracked o_to_t_size events in
      let sound : IsSound o_to_t_size world = tracked_sound o_to_t_size events in
      subst (λ (w : NumberedWorld). IsOnlyExecution after answer written t_to_o_size w.submits router w.log number
      (reply_of after answer written first t_to_o_size router world.log number))
      (sym (run_plain o_to_t_size events tracked_at_opening))
      (only_execution after answer written first t_to_o_size router world.submits world.log number sound.log.falls
      sound.log.submitted is)

  accepted_found : (first o_to_t_size t_to_o_size : ℕ) (router : M) (events : List Event) (position number : ℕ)
      (reply : List ℕ) (found : Option Own) →
      slice_get (tracked o_to_t_size events).accepted position ≡ found →
      option_map (acceptance_of after answer written first t_to_o_size router (tracked o_to_t_size events).log) found
      ≡ Some (number, reply) →
      IsReplyOf after answer written o_to_t_size t_to_o_size router events number reply
  accepted_found first o_to_t_size t_to_o_size router events position number reply None e f = absurd (cc)
  accepted_found first o_to_t_size t_to_o_size router events position number reply (Some own) e f =
      let same = same_Some (
        own.number,
        reply_of after answer written first t_to_o_size router
            (tracked o_to_t_size events).log own.number,
      ) (number, reply) f in
      subst₂ (λ n r. IsReplyOf after answer written o_to_t_size t_to_o_size router events n r)
      (ap (λ (x : ℕ × List ℕ). x.0) same) (ap (λ (x : ℕ × List ℕ). x.1) same)
      (logged-reply first o_to_t_size t_to_o_size router events own.number
      ((tracked_sound o_to_t_size events).accepted.logged position own e))

  pub accepted : accepted_law after answer written
  accepted first o_to_t_size t_to_o_size router events position number reply below roomy e =
      let world : TrackedWorld = tracked o_to_t_size events in
      accepted_found first o_to_t_size t_to_o_size router events position number reply
      (slice_get world.accepted position) refl
      (sym (slice_get-map (acceptance_of after answer written first t_to_o_size router world.log) world.accepted
      position)
      ∙ sym (ap (λ (w : ItemWorld M). slice_get w.accepted position)
      (items_after-image after answer written begins within first o_to_t_size t_to_o_size router events below roomy))
      ∙ e)

  pub accepted_order : accepted_order_law after answer written
  accepted_order first o_to_t_size t_to_o_size router events below roomy =
      let world : TrackedWorld = tracked o_to_t_size events in
      subst AreRising
      (sym (map-map (acceptance_of after answer written first t_to_o_size router world.log) (λ (x : ℕ × List ℕ). x.0)
      number_of world.accepted (λ i x e. refl))
      ∙ sym (ap (λ (w : ItemWorld M). map (λ (x : ℕ × List ℕ). x.0) w.accepted)
      (items_after-image after answer written begins within first o_to_t_size t_to_o_size router events below roomy)))
      (ordered-rising world.accepted ((tracked_sound o_to_t_size events).accepted.order))

  back_found : (first o_to_t_size t_to_o_size : ℕ) (router : M) (events : List Event) (position number : ℕ)
      (found : Option Own) →
      slice_get (tracked o_to_t_size events).back position ≡ found → option_map number_of found ≡ Some number →
      is_logged number (tracked o_to_t_size events).log ≡ true
  back_found first o_to_t_size t_to_o_size router events position number None e f = absurd (cc)
  back_found first o_to_t_size t_to_o_size router events position number (Some own) e f =
      subst (λ n. is_logged n (tracked o_to_t_size events).log ≡ true) (same_Some own.number number f)
      ((tracked_sound o_to_t_size events).back.logged position own e)

  -- what both worlds send back at a position
  pub back_same : (first o_to_t_size t_to_o_size : ℕ) (router : M) (events : List Event) (position : ℕ) →
      first < 2 ^ 16 → 10 ≤ t_to_o_size →
      slice_get (items_after after answer written first o_to_t_size t_to_o_size router events).back position
      ≡ option_map (λ n. item (count_of first n)
      (reply_to after answer written t_to_o_size (numbers_after o_to_t_size events).submits router
      (numbers_after o_to_t_size events).log n)) (slice_get (numbers_after o_to_t_size events).back position)
  back_same first o_to_t_size t_to_o_size router events position below roomy =
      ap (λ seen. slice_get seen.back position)
      (worlds_agree after answer written begins within first o_to_t_size t_to_o_size router events below roomy)
      ∙ slice_get-map (λ n. item (count_of first n)
      (reply_to after answer written t_to_o_size (numbers_after o_to_t_size events).submits router
      (numbers_after o_to_t_size events).log n)) (numbers_after o_to_t_size events).back position

  pub same_bytes : same_bytes_law after answer written
  same_bytes first o_to_t_size t_to_o_size router events one other number below roomy e f =
      back_same first o_to_t_size t_to_o_size router events one below roomy
      ∙ ap (option_map (λ n. item (count_of first n)
      (reply_to after answer written t_to_o_size (numbers_after o_to_t_size events).submits router
      (numbers_after o_to_t_size events).log n))) (e ∙ sym f)
      ∙ sym (back_same first o_to_t_size t_to_o_size router events other below roomy)

  answered_found : (first o_to_t_size t_to_o_size : ℕ) (router : M) (events : List Event) (position number : ℕ)
      (found : Option Own) →
      slice_get (tracked o_to_t_size events).back position ≡ found → option_map number_of found ≡ Some number →
      option_map (answer_of after answer written first t_to_o_size router (tracked o_to_t_size events).log) found
      ≡ Some (item (count_of first number)
      (reply_of after answer written first t_to_o_size router (tracked o_to_t_size events).log number))
  answered_found first o_to_t_size t_to_o_size router events position number None e f = absurd (cc)
  answered_found first o_to_t_size t_to_o_size router events position number (Some own) e f =
      ap (λ n. Some (item (count_of first n)
      (reply_of after answer written first t_to_o_size router (tracked o_to_t_size events).log n)))
      (same_Some own.number number f)

  pub answered : answer_law after answer written
  answered first o_to_t_size t_to_o_size router events position number below roomy e =
      let world : TrackedWorld = tracked o_to_t_size events in
      let found : option_map number_of (slice_get world.back position) ≡ Some number =
      sym (slice_get-map number_of world.back position)
      ∙ sym (ap (λ (w : NumberedWorld). slice_get w.back position)
      (run_plain o_to_t_size events tracked_at_opening)) ∙ e in (
        reply_of after answer written first t_to_o_size router world.log number,
        logged-reply first o_to_t_size t_to_o_size router events number
            (back_found first o_to_t_size t_to_o_size router events position number (slice_get world.back position)
            refl found),
        ap (λ (w : ItemWorld M). slice_get w.back position)
            (items_after-image after answer written begins within first o_to_t_size t_to_o_size router events below
            roomy)
            ∙ slice_get-map (answer_of after answer written first t_to_o_size router world.log) world.back position
            ∙ answered_found first o_to_t_size t_to_o_size router events position number
            (slice_get world.back position) refl found,
      )
