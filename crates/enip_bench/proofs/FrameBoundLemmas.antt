-- What one more request would do, over whole frames.
use Rattle.std.proofs.Common.{◌≡◌, ℕ, ◌+◌, None, List, [], ◌∷◌, ap, ap₂, sym, ◌∙◌, subst}
use Rattle.cip_class3.specs.OriginatorRule.{submit_refusal, form_refusal}
use Rattle.cip_ledger.specs.Device.{Device}
use Rattle.cip_ledger.proofs.Devices.{exec_device-begins, exec_device-within}
use Rattle.enip_client.specs.Calls.{submits, submitted}
use Rattle.enip_client.specs.declared.wants.Wants.{Wants}
use Rattle.enip_adapter.specs.OwnWrites.{device_written}
use Rattle.enip_bench.specs.Bound.{accepted_then_abandoned, IsOneTooMany, one_more_seen}
use Rattle.enip_bench.specs.CountingWorld.{CountingWorld, counting_run}
use Rattle.enip_bench.specs.Events.{Event, Reach, Back}
use Rattle.enip_bench.specs.FrameBound.{one_more_shown, taken_all_the_same, raised_in_frames}
use Rattle.enip_bench.specs.FrameLaw.{in_frames}
use Rattle.enip_bench.specs.ItemWorld as items
use Rattle.enip_bench.specs.ItemWorld.{ItemWorld, item_run, items_at_opening}
use Rattle.enip_bench.specs.ObjectsRun.{after_exec, exec_answer}
use Rattle.enip_bench.proofs.AdapterShows.{Wire, IsWire}
use Rattle.enip_bench.proofs.AgreementLemmas.{items_after-image}
use Rattle.enip_bench.proofs.BoundLemmas.{raised}
use Rattle.enip_bench.proofs.ClientShows.{submits-allowed}
use Rattle.enip_bench.proofs.FrameAgreement.{world-seen}
use Rattle.enip_bench.proofs.FrameSteps.{Shows, run_shows, at_taken}
use Rattle.enip_bench.proofs.OpenedLemmas.{IsOpened}
use Rattle.enip_bench.proofs.OpeningRun.{opening_shows}

-- a request of a valid form is taken in both worlds
taken-shows : (wire : Wire) (world : CountingWorld) (item_world : ItemWorld Device) (request : List ℕ) →
    form_refusal item_world.originator.o_to_t_size request ≡ None → Shows wire world item_world →
    Shows wire (taken_all_the_same world request) (items.after_submit None item_world request)
taken-shows wire world item_world request formed shows =
    subst (λ w. Shows wire (taken_all_the_same w request) (items.after_submit None item_world request)) (sym shows.is)
    (at_taken wire shows.ends_at shows.starts_at item_world request formed shows.agrees)

one_more-shown : (wire : Wire) (world : CountingWorld) (item_world : ItemWorld Device) (request : List ℕ)
    (position : ℕ) → IsWire wire → form_refusal item_world.originator.o_to_t_size request ≡ None →
    Shows wire world item_world →
    one_more_shown world request position
    ≡ in_frames wire.peer wire.wants.t_to_o_id
    (one_more_seen after_exec exec_answer device_written item_world request position)
one_more-shown wire world item_world request position ok formed shows =
    let events : List Event = Reach position ∷ Back 1 ∷ [] in
    world-seen wire (counting_run (taken_all_the_same world request) events)
    (item_run after_exec exec_answer device_written (items.after_submit None item_world request) events)
    (run_shows wire events (taken_all_the_same world request) (items.after_submit None item_world request) ok
    (taken-shows wire world item_world request formed shows))

refused-shown : (wire : Wire) (world : CountingWorld) (item_world : ItemWorld Device) (request : List ℕ) →
    Shows wire world item_world →
    submits world.client.state request
    ≡ submitted world.client.state request (submit_refusal item_world.originator request)
refused-shown wire world item_world request shows =
    subst (λ (w : CountingWorld). submits w.client.state request
    ≡ submitted w.client.state request (submit_refusal item_world.originator request)) (sym shows.is)
    (submits-allowed wire shows.starts_at item_world.originator request shows.agrees.client_shows)

pub raised_framed : raised_in_frames
raised_framed objects listen limits wants world abandoned request is e formed all =
    let opened : IsOpened objects wants world = opening_shows objects listen limits wants is world e in
    let events : List Event = accepted_then_abandoned request abandoned in
    let start : ItemWorld Device = items_at_opening wants.first_count wants.o_to_t_size wants.t_to_o_size objects in
    let now : CountingWorld = counting_run world events in
    let now_in_items : ItemWorld Device = item_run after_exec exec_answer device_written start events in
    let shows : Shows opened.wire now now_in_items = run_shows opened.wire events world start opened.ok opened.shows in
    let size : now_in_items.originator.o_to_t_size ≡ wants.o_to_t_size
    = ap (λ (w : ItemWorld Device). w.originator.o_to_t_size)
    (items_after-image after_exec exec_answer device_written (λ m room text h g. exec_device-begins m room text h g)
    (λ m room text h g. exec_device-within m room text h) wants.first_count wants.o_to_t_size wants.t_to_o_size objects events
    is.first_count is.t_to_o_from) in
    let one : IsOneTooMany after_exec exec_answer device_written wants.first_count wants.t_to_o_size objects
    now_in_items request
    (abandoned + 1)
    = raised after_exec exec_answer device_written (λ m room text h g. exec_device-begins m room text h g)
    (λ m room text h g. exec_device-within m room text h) wants.first_count wants.o_to_t_size wants.t_to_o_size abandoned
    objects request is.first_count is.t_to_o_from formed all in
    record {
      refused = refused-shown opened.wire now now_in_items request shows
          ∙ ap (submitted now.client.state request) one.refused;
      answered = one_more-shown opened.wire now now_in_items request (abandoned + 1) opened.ok
          (ap (λ size. form_refusal size request) size ∙ formed) shows
          ∙ ap₂ (λ (asked : Wants) peer. in_frames peer asked.t_to_o_id
          (one_more_seen after_exec exec_answer device_written now_in_items request (abandoned + 1)))
          opened.asked_for (sym opened.same_peer)
          ∙ ap (in_frames world.peer wants.t_to_o_id) one.answered;
    }
