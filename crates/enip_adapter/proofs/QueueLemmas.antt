-- The queue after calls is the one after their pushes and finishes.
use Rattle.std.proofs.Common.{◌≡◌, ℕ, List, [], ◌∷◌, ◌++◌, map, Option, Some, None, append-nil, refl, sym, ap, ◌∙◌}
use Rattle.std.specs.Prelude.{option_map}
use Rattle.cip_ledger.specs.Device.{Device, owned_standing}
use Rattle.cip_ledger.specs.Runs.{Request, reached}
use Rattle.cip_ledger.specs.Turn.{fate}
use Rattle.cip_ledger.specs.Withdrawing.{withdrawal_result}
use Rattle.cip_owner.specs.Owned.{OwnedState}
use Rattle.cip_owner.specs.Queue.{QueueState}
use Rattle.cip_owner.specs.QueueLaws.{HasTickets}
use Rattle.cip_owner.specs.QueueRuns.{QueueStep, after_step, after_steps, steps_of}
use Rattle.cip_owner.proofs.OwnedLemmas.{queue as pushed}
use Rattle.cip_owner.proofs.RunLemmas.{numbers, waiting, results as results_kept, once}
use Rattle.cip_owner.proofs.TicketLemmas.{tickets}
use Rattle.enip_adapter.specs.Calls.{AdapterState, Call}
use Rattle.enip_adapter.specs.DeviceRuns.{DeviceStep, Requested, WrittenBy, device_after_step, device_after, objects_after, objects_answer, objects_after_steps}
use Rattle.enip_adapter.specs.DeviceRuns.{steps_of_calls}
use Rattle.enip_adapter.specs.OwnWrites.{OwnWrite, WritesData, WritesAttribute, SetsStatus, SetsState, Prepares, Settles, Finishes, Marks, Withdraws, router_written}
use Rattle.enip_adapter.specs.OwnerLaws.{owned_in}
use Rattle.enip_adapter.specs.QueueLaws.{AreHandedOver, queue_steps_by_withdrawal, queue_steps_by_write, queue_steps_by_reached, queue_steps_by_step, queue_steps_by_steps, queue_steps_of_calls}
use Rattle.enip_adapter.specs.Runs.{after_calls}
use Rattle.enip_adapter.proofs.AskedLemmas.{AtMostOne, Zero, One, few-fate}
use Rattle.enip_adapter.proofs.DeviceLemmas.{calls-end, step-reached}
use Rattle.enip_adapter.proofs.SettleLemmas.{finished-router}
use Rattle.enip_adapter.proofs.WithdrawalLemmas.{device_left, by-ticket}

steps-two : (queue : QueueState) (first second : List QueueStep)
    → after_steps (after_steps queue first) second ≡ after_steps queue (first ++ second)
steps-two queue [] second = refl
steps-two queue (step ∷ first) second = steps-two (after_step queue step) first second

-- The queue after these steps, if there is one.
abbrev run : List QueueStep → Option QueueState → Option QueueState
run steps queue = option_map (λ queue. after_steps queue steps) queue

run-nothing : (queue : Option QueueState) → queue ≡ run [] queue
run-nothing None = refl
run-nothing (Some queue) = refl

run-two : (queue : Option QueueState) (first second : List QueueStep)
    → run second (run first queue) ≡ run (first ++ second) queue
run-two None first second = refl
run-two (Some queue) first second = ap Some (steps-two queue first second)

left-queue : (ticket : ℕ) (device : Device)
    → (device_left ticket device).router.queue ≡ run (queue_steps_by_withdrawal (Some ticket)) device.router.queue
left-queue ticket device = ap (λ (o : OwnedState). o.queue) (finished-router ticket withdrawal_result device)

written-queue : (write : OwnWrite) (device : Device)
    → (router_written write device).queue ≡ run (queue_steps_by_write write device) device.router.queue
written-queue (WritesData instance offset bytes) device = run-nothing device.router.queue
written-queue (WritesAttribute class instance attribute offset bytes) device = run-nothing device.router.queue
written-queue (SetsStatus status) device = run-nothing device.router.queue
written-queue (SetsState state) device = run-nothing device.router.queue
written-queue (Prepares reply) device = run-nothing device.router.queue
written-queue (Settles originator number reply) device = run-nothing device.router.queue
written-queue (Finishes ticket reply) device = refl
written-queue (Marks ticket) device = refl
written-queue (Withdraws request) device =
    by-ticket (λ d ticket. d.router.queue ≡ run (queue_steps_by_withdrawal ticket) device.router.queue) device request
    (run-nothing device.router.queue) (λ ledger w is facts. run-nothing device.router.queue)
    (λ ledger w ticket is facts of not_handed some. left-queue ticket device)

few-queue : (owned : OwnedState) (requests : List Request) → AtMostOne requests
    → (objects_after_steps owned (map Requested requests)).queue
    ≡ run (queue_steps_by_reached owned.objects requests) owned.queue
few-queue owned [] Zero = run-nothing owned.queue
few-queue owned (request ∷ []) (One _) =
    pushed owned request.0 request.1
    ∙ ap (λ steps. run steps owned.queue) (sym (append-nil (steps_of owned.objects request.1)))
few-queue owned (request ∷ (other ∷ requests)) few = elim few [ ]

pub step-queue : (device : Device) (step : DeviceStep)
    → (device_after_step device step).router.queue ≡ run (queue_steps_by_step device step) device.router.queue
step-queue device (Requested request) =
    ap (λ (o : OwnedState). o.queue) (step-reached device (Requested request))
    ∙ few-queue device.router (reached objects_after objects_answer owned_standing device (request ∷ []))
    (few-fate (fate owned_standing device.ledger device.router request.0 request.1) request)
step-queue device (WrittenBy write) = written-queue write device

pub steps-queue : (steps : List DeviceStep) (device : Device)
    → (device_after device steps).router.queue ≡ run (queue_steps_by_steps device steps) device.router.queue
steps-queue [] device = run-nothing device.router.queue
steps-queue (step ∷ steps) device =
    steps-queue steps (device_after_step device step)
    ∙ (ap (run (queue_steps_by_steps (device_after_step device step) steps)) (step-queue device step)
    ∙ run-two device.router.queue (queue_steps_by_step device step)
    (queue_steps_by_steps (device_after_step device step) steps))

pub calls-queue : (a : AdapterState) (calls : List Call) → (owned_in (after_calls a calls)).queue
    ≡ option_map (λ queue. after_steps queue (queue_steps_of_calls a calls)) (owned_in a).queue
calls-queue a calls =
    ap (λ (d : Device). d.router.queue) (calls-end a calls)
    ∙ steps-queue (steps_of_calls a calls) a.state.shared.objects

pub handed-over : (a : AdapterState) (calls : List Call) (before : QueueState) → (owned_in a).queue ≡ Some before
    → HasTickets before → (after : QueueState) × ((owned_in (after_calls a calls)).queue ≡ Some after)
    × AreHandedOver before after (queue_steps_of_calls a calls)
handed-over a calls before is has =
    let steps : List QueueStep = queue_steps_of_calls a calls in
    let row = numbers before steps in
    let done = once before steps has in (
      after_steps before steps,
      calls-queue a calls ∙ ap (run steps) is,
      record {
        tickets = row.0;
        next = row.1;
        waiting = waiting before steps has;
        results = λ few. results_kept before steps few;
        once = done.0;
        own = done.1;
        goes_on = tickets.1 before steps has;
      },
    )
