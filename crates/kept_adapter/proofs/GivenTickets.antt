-- The queue has given the ticket of each pending command, after every step of a device.
use Rattle.std.proofs.Common.{◌≡◌, ℕ, ◌<◌, ◌≤◌, ◌^◌, ◌==◌, ◌&&◌, nat_lt, not, Bool, true, false, if◌then◌else◌, Option, Some}
use Rattle.std.proofs.Common.{None, List, [], ◌∷◌, ◌+◌, length, map, refl, ap, sym, ◌∙◌, subst, arith, Result, Ok, Err}
use Rattle.std.specs.Prelude.{⊤, option_map, IfSome}
use Rattle.std.proofs.lemmas.Bool.{and_parts}
use Rattle.std.proofs.lemmas.Bool.Decides.{nat_tests}
use Rattle.cip_ledger.specs.declared.target.Standing.{Standing}
use Rattle.cip_ledger.specs.declared.target.Standing.TheVariants as standings
use Rattle.cip_application.specs.declared.config.ServiceKind.{ServiceKind}
use Rattle.cip_application.specs.declared.config.ServiceKind.TheVariants as kinds
use Rattle.cip_objects.specs.declared.status.Refusal.{Refusal}
use Rattle.cip_objects.specs.OwnRequests.{Asked, own_request}
use Rattle.cip_ledger.specs.Device.{Device, owned_standing, standing_by_ticket, standing_of_kind, standing_of_own}
use Rattle.cip_ledger.specs.Device.{standing_in}
use Rattle.cip_ledger.specs.Doubt.{can_settle, settled, with_last}
use Rattle.cip_ledger.specs.Ledger.{LedgerState, SlotState, slot_of, with_slot, without_slot, slot_withdrawn}
use Rattle.cip_ledger.specs.Pending.{is_pending_at, completed_slot, completed, with_completed}
use Rattle.cip_ledger.specs.Doubt.{is_kept_reply}
use Rattle.cip_ledger.specs.Requests.{LedgerRequest, ledger_request, is_barred}
use Rattle.cip_message.specs.LedgerCommand.{Command}
use Rattle.cip_ledger.specs.Runs.{Request, slot_in}
use Rattle.cip_ledger.specs.Services.{Action, Replies, Executes, Queues, Frees, action_of}
use Rattle.cip_ledger.specs.Standings.{by_standing, at_router}
use Rattle.cip_ledger.specs.Turn.{Fate, Passed, Served, fate, fate_of, turn_by, after_embedded, embedded_reply}
use Rattle.cip_ledger.specs.Turn.{with_executed, with_queued, with_freed}
use Rattle.cip_ledger.specs.Withdrawing.{withdrawn}
use Rattle.cip_owner.specs.Owned.{OwnedState, exec_owned}
use Rattle.cip_owner.specs.Queue.{QueueState, IsQueue, takes, has_room, has_widths}
use Rattle.cip_owner.specs.QueueRuns.{QueueStep, Pushes, after_step, after_steps, steps_of, steps_of_kind, steps_of_own}
use Rattle.cip_owner.proofs.OwnedLemmas.{queue as exec_queue}
use Rattle.cip_owner.proofs.QueueLemmas.{queue_stays, next_rises, push_passes}
use Rattle.enip_adapter.specs.DeviceRuns.{DeviceStep, Requested, WrittenBy, device_after_step, objects_after, objects_answer}
use Rattle.enip_adapter.specs.OwnWrites.{OwnWrite, WritesData, WritesAttribute, SetsStatus, SetsState, Prepares}
use Rattle.enip_adapter.specs.OwnWrites.{Settles, Finishes, Marks, Withdraws, ledger_written, router_written}
use Rattle.enip_adapter.specs.QueueLaws.{queue_steps_by_step}
use Rattle.enip_adapter.proofs.QueueLemmas.{step-queue}
use Rattle.enip_adapter.proofs.SettleLemmas.{IsFinished, Unchanged, Completed, finished-ledger}
use Rattle.enip_adapter.proofs.WithdrawalLemmas.{found-ledger}
use Rattle.kept_adapter.specs.Started.{has_given, has_given_each, has_given_all, pending_ticket}
use Rattle.kept_adapter.proofs.WithdrawnLedgers.{by-withdrawn}

-- ---- a later queue has given what an earlier one has

abbrev pub IsLater : Option QueueState → Option QueueState → Type 0
IsLater old new = (ticket : Option ℕ) → has_given ticket old ≡ true → has_given ticket new ≡ true

less_on : (a b c : ℕ) → nat_lt a b ≡ true → b ≤ c → nat_lt a c ≡ true
less_on a b c e h = grind (arith, nat_tests)

both_true : (a b : Bool) → a ≡ true → b ≡ true → a && b ≡ true
both_true a b e f = rw (e, f) refl

pub after_steps_later : (queue : Option QueueState) (steps : List QueueStep)
    → IsLater queue (option_map (λ q. after_steps q steps) queue)
after_steps_later queue steps None e = refl
after_steps_later None steps (Some ticket) e = absurd (cc)
after_steps_later (Some q) steps (Some ticket) e =
    less_on ticket q.next (after_steps q steps).next e (next_rises q steps)

pub each_later : (old new : Option QueueState) (slots : List SlotState) → IsLater old new
    → has_given_each slots old ≡ true → has_given_each slots new ≡ true
each_later old new [] later e = refl
each_later old new (slot ∷ slots) later e =
    let both = and_parts (has_given (pending_ticket slot) old) (has_given_each slots old) e in
    both_true (has_given (pending_ticket slot) new) (has_given_each slots new) (later (pending_ticket slot) both.0)
    (each_later old new slots later both.1)

-- ---- the ticket of a slot

found_given : (queue : Option QueueState) (taken : List SlotState) (originator : ℕ) (slot : SlotState)
    → has_given_each taken queue ≡ true → slot_of originator taken ≡ Some slot → has_given (pending_ticket slot) queue ≡ true
found_given queue [] originator slot all found = absurd (cc)
found_given queue (first ∷ taken) originator slot all found =
    let both = and_parts (has_given (pending_ticket first) queue) (has_given_each taken queue) all in
    by (first.originator == originator) both.0 (found_given queue taken originator slot both.1) found
  where
    same_some : (x y : SlotState) → ◌≡◌ {A = Option SlotState} (Some x) (Some y) → x ≡ y
    same_some x y e = cc

    by : (own : Bool) → has_given (pending_ticket first) queue ≡ true
        → (slot_of originator taken ≡ Some slot → has_given (pending_ticket slot) queue ≡ true)
        → (if own then Some first else slot_of originator taken) ≡ Some slot → has_given (pending_ticket slot) queue ≡ true
    by true own later is = subst (λ (s : SlotState). has_given (pending_ticket s) queue ≡ true) (same_some first slot is) own
    by false own later is = later is

pub slot_given : (ledger : Option LedgerState) (queue : Option QueueState) (originator : ℕ) (slot : SlotState)
    → has_given_all ledger queue ≡ true → slot_in originator ledger ≡ Some slot → has_given (pending_ticket slot) queue ≡ true
slot_given None queue originator slot all found = absurd (cc)
slot_given (Some l) queue originator slot all found = found_given queue l.taken originator slot all found

-- ---- what changes a ledger

pub given_with : (queue : Option QueueState) (slot : SlotState) (taken : List SlotState)
    → has_given (pending_ticket slot) queue ≡ true → has_given_each taken queue ≡ true
    → has_given_each (with_slot slot taken) queue ≡ true
given_with queue slot [] own all = both_true (has_given (pending_ticket slot) queue) true own refl
given_with queue slot (first ∷ taken) own all =
    let both = and_parts (has_given (pending_ticket first) queue) (has_given_each taken queue) all in
    by (first.originator == slot.originator) both.0 both.1 (given_with queue slot taken own both.1)
  where
    by : (same : Bool) → has_given (pending_ticket first) queue ≡ true → has_given_each taken queue ≡ true
        → has_given_each (with_slot slot taken) queue ≡ true
        → has_given_each (if same then slot ∷ taken else first ∷ with_slot slot taken) queue ≡ true
    by true other rest later = both_true (has_given (pending_ticket slot) queue) (has_given_each taken queue) own rest
    by false other rest later =
        both_true (has_given (pending_ticket first) queue) (has_given_each (with_slot slot taken) queue) other later

pub given_without : (queue : Option QueueState) (freed : ℕ) (taken : List SlotState)
    → has_given_each taken queue ≡ true → has_given_each (without_slot freed taken) queue ≡ true
given_without queue freed [] all = refl
given_without queue freed (first ∷ taken) all =
    let both = and_parts (has_given (pending_ticket first) queue) (has_given_each taken queue) all in
    by (first.originator == freed) both.0 (given_without queue freed taken both.1)
  where
    by : (same : Bool) → has_given (pending_ticket first) queue ≡ true
        → has_given_each (without_slot freed taken) queue ≡ true
        → has_given_each (if not same then first ∷ without_slot freed taken else without_slot freed taken) queue ≡ true
    by true other later = later
    by false other later =
        both_true (has_given (pending_ticket first) queue) (has_given_each (without_slot freed taken) queue) other later

given_completed : (queue : Option QueueState) (ticket : ℕ) (reply : List ℕ) (taken : List SlotState)
    → has_given_each taken queue ≡ true → has_given_each (map (completed_slot ticket reply) taken) queue ≡ true
given_completed queue ticket reply [] all = refl
given_completed queue ticket reply (first ∷ taken) all =
    let both = and_parts (has_given (pending_ticket first) queue) (has_given_each taken queue) all in
    both_true (has_given (pending_ticket (completed_slot ticket reply first)) queue)
    (has_given_each (map (completed_slot ticket reply) taken) queue) (by (is_pending_at ticket first) both.0)
    (given_completed queue ticket reply taken both.1)
  where
    by : (t : Bool) → has_given (pending_ticket first) queue ≡ true
        → has_given (pending_ticket (if t then record first { reply = Some reply; ticket = None } else first)) queue ≡ true
    by true own = refl
    by false own = own

completed_given : (queue : Option QueueState) (l : LedgerState) (ticket : ℕ) (reply : List ℕ)
    → has_given_each l.taken queue ≡ true → has_given_each (completed l ticket reply).taken queue ≡ true
completed_given queue l ticket reply all = by (is_kept_reply reply)
  where
    by : (t : Bool) → has_given_each (if t then with_completed ticket reply l else l).taken queue ≡ true
    by true = given_completed queue ticket reply l.taken all
    by false = all

withdrawn_given : (queue : Option QueueState) (l : LedgerState) (originator number : ℕ)
    → has_given_each l.taken queue ≡ true → has_given_each (withdrawn originator number l).taken queue ≡ true
withdrawn_given queue l originator number all =
    by-withdrawn (λ x. has_given_each x.taken queue ≡ true) l originator number all
    (given_with queue (slot_withdrawn originator number) l.taken refl all)

settled_given : (queue : Option QueueState) (l : LedgerState) (originator number : ℕ) (reply : List ℕ)
    → has_given_each l.taken queue ≡ true → has_given_each (settled l originator number reply).taken queue ≡ true
settled_given queue l originator number reply all = by (can_settle l originator number reply)
  where
    by : (t : Bool) → has_given_each (if t then with_last originator number (Some reply) l else l).taken queue ≡ true
    by true =
        given_with queue
        (record { originator = originator; number = number; reply = Some reply; ticket = None }) l.taken refl all
    by false = all

pub mapped_given : (old new : Option QueueState) (l : Option LedgerState) (change : LedgerState → LedgerState)
    → ((x : LedgerState) → has_given_each x.taken old ≡ true → has_given_each (change x).taken new ≡ true)
    → has_given_all l old ≡ true → has_given_all (option_map change l) new ≡ true
mapped_given old new None change stays all = refl
mapped_given old new (Some l) change stays all = stays l all

pub all_later : (old new : Option QueueState) (l : Option LedgerState) → IsLater old new → has_given_all l old ≡ true
    → has_given_all l new ≡ true
all_later old new None later all = refl
all_later old new (Some l) later all = each_later old new l.taken later all

-- ---- a command that is queued

-- The queue takes the request, and gives it this ticket.
record IsTaken (w : OwnedState) (text : List ℕ) (ticket : ℕ) : Type 0 where
  queue : QueueState
  asked : Asked
  queue_is : w.queue ≡ Some queue
  steps : steps_of w.objects text ≡ Pushes asked ∷ []
  takes_it : takes queue asked ≡ true
  ticket_is : queue.next ≡ ticket

by_takes : (q : QueueState) (asked : Asked) (ticket : ℕ) (t : Bool) → takes q asked ≡ t
    → standing_by_ticket (if t then Some q.next else None) ≡ standings.Pending ticket
    → (takes q asked ≡ true) × (q.next ≡ ticket)
by_takes q asked ticket true e is = let same : q.next ≡ ticket = cc in (e, same)
by_takes q asked ticket false e is = absurd (cc)

by_kind : (kind : ServiceKind) (q : QueueState) (asked : Asked) (ticket : ℕ)
    → standing_of_kind kind q asked ≡ standings.Pending ticket
    → (steps_of_kind kind asked ≡ Pushes asked ∷ []) × (takes q asked ≡ true) × (q.next ≡ ticket)
by_kind kinds.Asked q asked ticket is = absurd (cc)
by_kind kinds.Queued q asked ticket is =
    let both = by_takes q asked ticket (takes q asked) refl is in (refl, both.0, both.1)
by_kind kinds.Result q asked ticket is = absurd (cc)

by_own : (w : OwnedState) (text : List ℕ) (ticket : ℕ) (q : QueueState) (own : Option (Result Asked Refusal))
    → w.queue ≡ Some q → own_request w.objects text ≡ own → standing_of_own q own ≡ standings.Pending ticket
    → IsTaken w text ticket
by_own w text ticket q None queue e is = absurd (cc)
by_own w text ticket q (Some (Err refusal)) queue e is = absurd (cc)
by_own w text ticket q (Some (Ok asked)) queue e is =
    let taken = by_kind asked.kind q asked ticket is in
    record {
      queue = q;
      asked = asked;
      queue_is = queue;
      steps = ap steps_of_own e ∙ taken.0;
      takes_it = taken.1;
      ticket_is = taken.2;
    }

is_taken : (w : OwnedState) (text : List ℕ) (ticket : ℕ) → owned_standing w text ≡ standings.Pending ticket
    → IsTaken w text ticket
is_taken w text ticket is = by_queue w.queue refl is
  where
    by_queue : (queue : Option QueueState) → w.queue ≡ queue
        → standing_in queue (own_request w.objects text) ≡ standings.Pending ticket → IsTaken w text ticket
    by_queue None e is = absurd (cc)
    by_queue (Some q) e is = by_own w text ticket q (own_request w.objects text) e refl is

less_than_next : (a b : ℕ) → a ≡ b → nat_lt a (b + 1) ≡ true
less_than_next a b e = grind (arith, nat_tests)

pending_given : (w : OwnedState) (max_size : ℕ) (text : List ℕ) (ticket : ℕ)
    → owned_standing w text ≡ standings.Pending ticket
    → has_given (Some ticket) (exec_owned w max_size text).after.queue ≡ true
pending_given w max_size text ticket is =
    let t = is_taken w text ticket is in
    let after : (exec_owned w max_size text).after.queue ≡ Some (after_step t.queue (Pushes t.asked))
    = exec_queue w max_size text
    ∙ ap (λ steps. option_map (λ q. after_steps q steps) w.queue) t.steps
    ∙ ap (option_map (λ q. after_steps q (Pushes t.asked ∷ []))) t.queue_is in
    ap (has_given (Some ticket)) after
    ∙ ap (λ n. nat_lt ticket n) (push_passes t.queue t.asked t.takes_it)
    ∙ less_than_next ticket t.queue.next (sym t.ticket_is)

is_below : (a b : ℕ) → nat_lt a b ≡ true → a < b
is_below a b e = grind (arith, nat_tests)

pub pending_narrow : (w : OwnedState) (text : List ℕ) (ticket : ℕ) → owned_standing w text ≡ standings.Pending ticket
    → ticket < 2 ^ 32
pending_narrow w text ticket is =
    let t = is_taken w text ticket is in
    let room = and_parts (has_room t.queue) (has_widths t.asked) t.takes_it in
    let both = and_parts (nat_lt (length t.queue.waiting) t.queue.limit) (nat_lt t.queue.next (2 ^ 32)) room.0 in
    subst (λ n. n < 2 ^ 32) t.ticket_is (is_below t.queue.next (2 ^ 32) both.1)

-- ---- what becomes of a request

-- A command that is queued is not barred, and the queue gives it this ticket.
abbrev pub StandsQueued : OwnedState → Fate → Type 0
StandsQueued w (Served service (Queues command ticket)) =
    (is_barred command.request ≡ false) × (owned_standing w command.request ≡ standings.Pending ticket)
StandsQueued w other = ⊤

by_its_standing : (w : OwnedState) (service : ℕ) (command : Command) (s : Standing) → is_barred command.request ≡ false
    → owned_standing w command.request ≡ s → StandsQueued w (Served service (by_standing s command))
by_its_standing w service command standings.Final free e = tt
by_its_standing w service command (standings.Pending ticket) free e = (free, e)
by_its_standing w service command standings.Refused free e = tt

by_command : (w : OwnedState) (service : ℕ) (command : Command) (barred : Bool) → is_barred command.request ≡ barred
    → StandsQueued w
    (Served service (by_standing (if barred then standings.Final else owned_standing w command.request) command))
by_command w service command true e = tt
by_command w service command false e =
    by_its_standing w service command (owned_standing w command.request) e refl

by_action : (w : OwnedState) (service : ℕ) (action : Action)
    → StandsQueued w (Served service (at_router owned_standing w action))
by_action w service (Replies reply) = tt
by_action w service (Executes command) = by_command w service command (is_barred command.request) refl
by_action w service (Queues command ticket) = by_command w service command (is_barred command.request) refl
by_action w service (Frees originator) = tt

pub stands_queued : (w : OwnedState) (ledger : Option LedgerState) (request : Request)
    → StandsQueued w (fate owned_standing ledger w request.0 request.1)
stands_queued w None request = tt
stands_queued w (Some ledger) request = by_asked (ledger_request request.1)
  where
    by_asked : (asked : Option LedgerRequest) → StandsQueued w (fate_of owned_standing ledger w request.0 asked)
    by_asked None = tt
    by_asked (Some asked) = by_action w asked.service (action_of ledger request.0 asked)

queued_given : (w : OwnedState) (command : Command) (ticket : ℕ)
    → StandsQueued w (Served 0 (Queues command ticket))
    → has_given (Some ticket) (after_embedded objects_after objects_answer w command.request).queue ≡ true
queued_given w command ticket (free, stands) =
    ap (λ t. has_given (Some ticket) (if t then w else objects_after w 480 command.request).queue) free
    ∙ pending_given w 480 command.request ticket stands

turn_given : (f : Fate) (device : Device) (request : Request) → StandsQueued device.router f
    → IsLater device.router.queue
    (turn_by objects_after objects_answer f device.ledger device.router request.0 request.1).router.queue
    → has_given_all device.ledger device.router.queue ≡ true
    → has_given_all (turn_by objects_after objects_answer f device.ledger device.router request.0 request.1).ledger
    (turn_by objects_after objects_answer f device.ledger device.router request.0 request.1).router.queue ≡ true
turn_given Passed device request stands later all =
    all_later device.router.queue (objects_after device.router request.0 request.1).queue device.ledger later all
turn_given (Served service (Replies reply)) device request stands later all = all
turn_given (Served service (Executes command)) device request stands later all =
    let new = (after_embedded objects_after objects_answer device.router command.request).queue in
    let reply = embedded_reply objects_after objects_answer device.router command.request in
    mapped_given device.router.queue new device.ledger (with_executed command reply)
    (λ x own. given_with new
    (record { originator = command.originator; number = command.number; reply = Some reply; ticket = None }) x.taken refl
    (each_later device.router.queue new x.taken later own)) all
turn_given (Served service (Queues command ticket)) device request stands later all =
    let new = (after_embedded objects_after objects_answer device.router command.request).queue in
    mapped_given device.router.queue new device.ledger (with_queued command ticket)
    (λ x own. given_with new
    (record { originator = command.originator; number = command.number; reply = None; ticket = Some ticket }) x.taken
    (queued_given device.router command ticket stands)
    (each_later device.router.queue new x.taken later own)) all
turn_given (Served service (Frees freed)) device request stands later all =
    mapped_given device.router.queue device.router.queue device.ledger (with_freed freed)
    (λ x own. given_without device.router.queue freed x.taken own) all

-- ---- a step

pub step_later : (device : Device) (step : DeviceStep)
    → IsLater device.router.queue (device_after_step device step).router.queue
step_later device step ticket e =
    subst (λ q. has_given ticket q ≡ true) (sym (step-queue device step))
    (after_steps_later device.router.queue (queue_steps_by_step device step) ticket e)

finished_given : (ticket : ℕ) (old new : Option LedgerState) (queue : Option QueueState) → IsFinished ticket old new
    → has_given_all old queue ≡ true → has_given_all new queue ≡ true
finished_given ticket old new queue Unchanged all = all
finished_given ticket old new queue (Completed reply) all =
    mapped_given queue queue old (λ l. completed l ticket reply)
    (λ x own. completed_given queue x ticket reply own) all

written_given : (write : OwnWrite) (device : Device) → has_given_all device.ledger device.router.queue ≡ true
    → has_given_all (ledger_written write device) device.router.queue ≡ true
written_given (WritesData instance offset bytes) device all = all
written_given (WritesAttribute class instance attribute offset bytes) device all = all
written_given (SetsStatus status) device all = all
written_given (SetsState state) device all = all
written_given (Prepares reply) device all = all
written_given (Settles originator number reply) device all =
    mapped_given device.router.queue device.router.queue device.ledger (λ l. settled l originator number reply)
    (λ x own. settled_given device.router.queue x originator number reply own) all
written_given (Finishes ticket reply) device all =
    finished_given ticket device.ledger (ledger_written (Finishes ticket reply) device) device.router.queue
    (finished-ledger ticket reply device) all
written_given (Marks ticket) device all = all
written_given (Withdraws request) device all =
    found-ledger (λ l. has_given_all l device.router.queue ≡ true) device request
    (λ l originator number own. withdrawn_given device.router.queue l originator number own)
    (λ l ticket reply own. completed_given device.router.queue l ticket reply own) all

pub step_given : (device : Device) (step : DeviceStep) → has_given_all device.ledger device.router.queue ≡ true
    → has_given_all (device_after_step device step).ledger (device_after_step device step).router.queue ≡ true
step_given device (Requested request) all =
    turn_given (fate owned_standing device.ledger device.router request.0 request.1) device request
    (stands_queued device.router device.ledger request) (step_later device (Requested request)) all
step_given device (WrittenBy write) all =
    all_later device.router.queue (router_written write device).queue (ledger_written write device)
    (step_later device (WrittenBy write)) (written_given write device all)

-- ---- what holds of every queue

mapped_queue : (queue : Option QueueState) (steps : List QueueStep) → IfSome queue IsQueue
    → IfSome (option_map (λ q. after_steps q steps) queue) IsQueue
mapped_queue None steps is = tt
mapped_queue (Some q) steps is = queue_stays q steps is

pub step_queue : (device : Device) (step : DeviceStep) → IfSome device.router.queue IsQueue
    → IfSome (device_after_step device step).router.queue IsQueue
step_queue device step is =
    subst (λ q. IfSome q IsQueue) (sym (step-queue device step))
    (mapped_queue device.router.queue (queue_steps_by_step device step) is)
