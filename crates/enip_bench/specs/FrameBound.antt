-- The bound on abandoned requests, over whole frames: what one more request would do.
use Rattle.std.specs.Prelude.{◌≡◌, ℕ, ◌+◌, None, List, [], ◌∷◌, Ok, Err}
use Rattle.cip_class3.specs.OriginatorRule.{MOST_UNACCEPTED, form_refusal}
use Rattle.cip_class3.specs.declared.originator.Refused.TheVariants.{TooManyAbandoned}
use Rattle.cip_ledger.specs.Device.{Device}
use Rattle.enip_adapter.specs.declared.adapter.Limits.{Limits}
use Rattle.enip_adapter.specs.declared.shared.Listen.{Listen}
use Rattle.enip_client.specs.Calls.{submits, submitted}
use Rattle.enip_client.specs.declared.fault.SubmitFault.TheVariants.{Refused}
use Rattle.enip_client.specs.declared.wants.Wants.{Wants}
use Rattle.enip_adapter.specs.OwnWrites.{device_written}
use Rattle.enip_bench.specs.Bound.{accepted_then_abandoned, old_reply_seen}
use Rattle.enip_bench.specs.CountingOpening.{IsWanted, opening}
use Rattle.enip_bench.specs.CountingWorld.{CountingWorld, after_submit, counting_run, counting_seen}
use Rattle.enip_bench.specs.Events.{Reach, Back}
use Rattle.enip_bench.specs.FrameLaw.{in_frames}
use Rattle.enip_bench.specs.ObjectsRun.{after_exec, exec_answer}
use Rattle.enip_bench.specs.Seen.{Seen}

-- the client takes this request although it is refused, and its frame is sent
abbrev pub taken_all_the_same : CountingWorld → List ℕ → CountingWorld
taken_all_the_same world request = after_submit (submitted world.client.state request None) world

-- What both ends show if one more request is taken and reaches the adapter, and the answer reaches the client.
abbrev pub one_more_shown : CountingWorld → List ℕ → ℕ → Seen Device
one_more_shown world request position =
    counting_seen (counting_run (taken_all_the_same world request) (Reach position ∷ Back 1 ∷ []))

-- One more request is refused. A client that took it would accept the old reply to another request.
pub record IsOneTooManyInFrames (objects : Device) (wants : Wants) (session : ℕ) (world : CountingWorld)
    (request : List ℕ) (last : ℕ) : Type 0 where
  pub refused : submits world.client.state request ≡ Err (Refused TooManyAbandoned)
  pub answered : one_more_shown world request last
      ≡ in_frames session wants.t_to_o_id
      (old_reply_seen after_exec exec_answer device_written wants.first_count wants.t_to_o_size objects request last)

-- This holds from every opening without a refusal, for every request of a valid form, after a request was executed and
-- its reply accepted, and the greatest number of requests was submitted, given up and lost.
abbrev pub raised_in_frames : Type 0
raised_in_frames =
    (objects : Device) (listen : Listen) (limits : Limits) (wants : Wants) (world : CountingWorld) (abandoned : ℕ)
    (request : List ℕ) → IsWanted wants → opening objects listen limits wants ≡ Ok world →
    form_refusal wants.o_to_t_size request ≡ None → abandoned ≡ MOST_UNACCEPTED →
    IsOneTooManyInFrames objects wants world.peer (counting_run world (accepted_then_abandoned request abandoned))
    request (abandoned + 1)
