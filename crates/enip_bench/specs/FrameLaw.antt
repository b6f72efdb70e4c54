-- What the counting world of whole frames shows, over every list of events from an opening.
use Rattle.std.specs.Prelude.{◌≡◌, ℕ, List, ◌++◌, map, Ok}
use Rattle.cip_ledger.specs.Device.{Device}
use Rattle.enip_adapter.specs.declared.adapter.Limits.{Limits}
use Rattle.enip_adapter.specs.declared.shared.Listen.{Listen}
use Rattle.enip_client.specs.Frames.{item_frame}
use Rattle.enip_client.specs.declared.wants.Wants.{Wants}
use Rattle.enip_wire.specs.Frames.{frame}
use Rattle.enip_adapter.specs.OwnWrites.{device_written}
use Rattle.enip_bench.specs.CountingOpening.{IsWanted, opening}
use Rattle.enip_bench.specs.CountingWorld.{CountingWorld, counting_run, counting_seen}
use Rattle.enip_bench.specs.Events.{Event}
use Rattle.enip_bench.specs.NumberedWorld.{numbers_seen}
use Rattle.enip_bench.specs.ObjectsRun.{after_exec, exec_answer}
use Rattle.enip_bench.specs.Reached.{IsReached}
use Rattle.enip_bench.specs.Seen.{Seen}
use Rattle.enip_bench.specs.WorldLaws.{numbers_after}

-- each item sent back, in a SendUnitData frame of this session and connection ID, with context 0
abbrev pub in_frames : ℕ → ℕ → Seen Device → Seen Device
in_frames session id seen = record seen { back = map (λ item. frame (item_frame session id item)) seen.back }

-- what the numbered world shows after these events, over these objects, in frames of this session
abbrev pub numbers_in_frames : Device → Wants → ℕ → List Event → Seen Device
numbers_in_frames objects wants session events =
    in_frames session wants.t_to_o_id
    (numbers_seen after_exec exec_answer device_written wants.first_count wants.t_to_o_size objects
    (numbers_after wants.o_to_t_size events))

-- For every list of events from an opening without a refusal, over any objects and limits: the whole adapter and the
-- whole client show what the numbered world shows.
abbrev pub frame_law : Type 0
frame_law =
    (objects : Device) (listen : Listen) (limits : Limits) (wants : Wants) (world : CountingWorld)
    (events : List Event) → IsWanted wants → opening objects listen limits wants ≡ Ok world →
    counting_seen (counting_run world events) ≡ numbers_in_frames objects wants world.peer events

-- The same for a world reached from an opening by some events, and what more events make of it.
abbrev pub headline : CountingWorld → List Event → CountingWorld → Type 0
headline old events new =
    (objects : Device) (listen : Listen) (limits : Limits) (wants : Wants) (opened : CountingWorld)
    (before : List Event) → IsWanted wants → opening objects listen limits wants ≡ Ok opened →
    old ≡ counting_run opened before →
    counting_seen new ≡ numbers_in_frames objects wants opened.peer (before ++ events)

-- The same for what a world shows now: it is reached from an opening by some events, and for any such events it shows
-- what the numbered world shows after all of them.
pub record ShowsNumbers (world : CountingWorld) (seen : Seen Device) : Type 0 where
  pub came : IsReached world
  pub shown : (by : IsReached world) → seen ≡ numbers_in_frames by.objects by.wants by.begun.peer by.events
