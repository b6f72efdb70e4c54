-- From the opening on, the counting world of whole frames shows the numbered world.
use Rattle.std.proofs.Common.{◌≡◌, map, ap, ap₂, sym, ◌∙◌}
use Rattle.cip_class3.specs.OriginatorRule.{stage_of}
use Rattle.cip_ledger.specs.Device.{Device}
use Rattle.cip_ledger.proofs.Devices.{exec_device-begins, exec_device-within}
use Rattle.enip_adapter.specs.Calls.{AdapterState}
use Rattle.enip_client.specs.Client.{ClientState}
use Rattle.enip_client.specs.Frames.{item_frame}
use Rattle.enip_client.specs.declared.wants.Wants.{Wants}
use Rattle.enip_wire.specs.Frames.{frame}
use Rattle.enip_adapter.specs.OwnWrites.{device_written}
use Rattle.enip_bench.specs.CountingWorld.{CountingWorld, counting_run, counting_seen}
use Rattle.enip_bench.specs.FrameLaw.{in_frames, frame_law}
use Rattle.enip_bench.specs.ItemWorld.{ItemWorld, items_at_opening, item_run, items_seen}
use Rattle.enip_bench.specs.ObjectsRun.{after_exec, exec_answer}
use Rattle.enip_bench.specs.Seen.{Seen}
use Rattle.enip_bench.proofs.AdapterShows.{Wire}
use Rattle.enip_bench.proofs.AgreementLemmas.{worlds_agree}
use Rattle.enip_bench.proofs.FrameSteps.{shown, Agrees, Shows, run_shows}
use Rattle.enip_bench.proofs.OpenedLemmas.{IsOpened}
use Rattle.enip_bench.proofs.OpeningRun.{opening_shows}

shown-seen : (wire : Wire) (a : AdapterState) (c : ClientState) (world : ItemWorld Device) → Agrees wire a c world →
    counting_seen (shown wire a c world) ≡ in_frames wire.peer wire.wants.t_to_o_id (items_seen world)
shown-seen wire a c world agrees =
    ap₂ (λ router stage. (let x : Seen Device = record {
      router = router;
      back = map (λ item. frame (item_frame wire.peer wire.wants.t_to_o_id item)) world.back;
      accepted = world.accepted;
      stage = stage;
    } in x)) agrees.adapter_shows.objects (ap (λ o. stage_of o.phase) agrees.client_shows.originator)

pub world-seen : (wire : Wire) (world : CountingWorld) (item_world : ItemWorld Device) → Shows wire world item_world →
    counting_seen world ≡ in_frames wire.peer wire.wants.t_to_o_id (items_seen item_world)
world-seen wire world item_world shows =
    ap counting_seen shows.is ∙ shown-seen wire shows.ends_at shows.starts_at item_world shows.agrees

pub frames_agree : frame_law
frames_agree objects listen limits wants world events is e =
    let opened : IsOpened objects wants world = opening_shows objects listen limits wants is world e in
    let start : ItemWorld Device = items_at_opening wants.first_count wants.o_to_t_size wants.t_to_o_size objects in
    world-seen opened.wire (counting_run world events) (item_run after_exec exec_answer device_written start events)
    (run_shows opened.wire events world start opened.ok opened.shows)
    ∙ (ap₂ (λ (asked : Wants) peer. in_frames peer asked.t_to_o_id
    (items_seen (item_run after_exec exec_answer device_written start events)))
    opened.asked_for (sym opened.same_peer)
    ∙ ap (in_frames world.peer wants.t_to_o_id)
    (worlds_agree after_exec exec_answer device_written
    (λ m room text h g. exec_device-begins m room text h g)
    (λ m room text h g. exec_device-within m room text h)
    wants.first_count wants.o_to_t_size wants.t_to_o_size objects events is.first_count is.t_to_o_from))
