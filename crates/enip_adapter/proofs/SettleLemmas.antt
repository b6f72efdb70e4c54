-- Settling a command and finishing a queued one let the same requests through as before, and keep numbers settled.
use Rattle.std.proofs.Common.{◌≡◌, ℕ, ◌==◌, nat_lt, not, Bool, true, false, if◌then◌else◌, Option, Some, None, unwrap_or, List, [], ◌∷◌, length, suc, refl, ap, sym, ◌∙◌}
use Rattle.std.specs.Prelude.{◌&&◌, option_map}
use Rattle.std.specs.Option.{option_and_then}
use Rattle.std.proofs.lemmas.Bool.{and_parts}
use Rattle.cip_bytes.specs.Numbers.{number_at}
use Rattle.cip_message.specs.declared.ledger_services.TheConstants as services
use Rattle.cip_ledger.specs.Device.{Device, FinishedCommand, finished_command, finished_of, finished_text, with_finished, finished_in}
use Rattle.cip_ledger.specs.Doubt.{is_in_doubt_at, is_in_doubt, is_kept_reply, can_settle, with_last, settled}
use Rattle.cip_ledger.specs.Ledger.{LedgerState, SlotState, slot_of, with_slot, is_pending}
use Rattle.cip_ledger.specs.Pending.{completed}
use Rattle.cip_ledger.specs.Reaching.{listed, embedded_by}
use Rattle.cip_ledger.specs.Requests.{LedgerRequest, command_of, ledger_request}
use Rattle.cip_message.specs.LedgerCommand.{Command}
use Rattle.cip_ledger.specs.Runs.{Request, slot_in}
use Rattle.cip_ledger.specs.Services.{Action, Frees, refuses, size_fault, unless, do_by_slot, do_command, forget, forget_in, action_of}
use Rattle.cip_ledger.specs.Withdrawing.{withdrawal_of, withdrawn_from, found_by}
use Rattle.cip_ledger.proofs.Doubts.{settled-numbers, settled-stays}
use Rattle.cip_ledger.proofs.OnePending.{waits, settled-waits, completed-none}
use Rattle.cip_ledger.proofs.Pendings.{completed-stays}
use Rattle.cip_ledger.proofs.ReachingLemmas.{kept_within}
use Rattle.cip_ledger.proofs.Settled.{Settled}
use Rattle.cip_owner.specs.Owned.{OwnedState}
use Rattle.cip_owner.specs.Queue.{QueueState, QueuedCommand, command_of as waiting_command, finished_by, finished}
use Rattle.cip_owner.specs.Replies.{Reply}
use Rattle.enip_adapter.specs.OwnerLaws.{EndsNone}
use Rattle.enip_adapter.proofs.WithdrawalLemmas.{found-ledger, withdrawn-stays}
use Rattle.enip_adapter.specs.OwnWrites.{OwnWrite, WritesData, WritesAttribute, SetsStatus, SetsState, Prepares, Settles, Finishes, Marks, Withdraws, objects_written, router_written, ledger_written, device_written}

-- ---- what the ledger alone lets through

-- By an action of the ledger, if the router takes every command.
abbrev pub through_by_action : Action → List Request
through_by_action action = listed (option_map kept_within (embedded_by action))

abbrev pub through_by : LedgerState → Request → Option LedgerRequest → List Request
through_by ledger request None = request ∷ []
through_by ledger request (Some asked) = through_by_action (action_of ledger request.0 asked)

abbrev pub through : Option LedgerState → Request → List Request
through None request = request ∷ []
through (Some ledger) request = through_by ledger request (ledger_request request.1)

through_if : (is : Bool) (a b c d : Action) → through_by_action a ≡ through_by_action c
    → through_by_action b ≡ through_by_action d
    → through_by_action (if is then a else b) ≡ through_by_action (if is then c else d)
through_if true a b c d one other = one
through_if false a b c d one other = other

same_if : (is other : Bool) (a b : Action) → is ≡ other
    → through_by_action (if is then a else b) ≡ through_by_action (if other then a else b)
same_if is other a b e = ap (λ c. through_by_action (if c then a else b)) e

-- Forget lets nothing through.
forget-through : (ledger : LedgerState) (bytes : List ℕ) → through_by_action (forget ledger bytes) ≡ []
forget-through ledger bytes =
    elim (size_fault 12 bytes) as (λ fault. through_by_action (unless fault refuses
    (forget_in (number_at 0 8 bytes) (number_at 8 4 bytes) (slot_of (number_at 0 8 bytes) ledger.taken))) ≡ []) [
      | None ↦ by_slot (number_at 0 8 bytes) (number_at 8 4 bytes) (slot_of (number_at 0 8 bytes) ledger.taken)
      | Some status ↦ refl
    ]
  where
    by_number : (originator : ℕ) (frees : Bool) (refused : Action) → through_by_action refused ≡ []
        → through_by_action (if frees then Frees originator else refused) ≡ []
    by_number originator true refused is = refl
    by_number originator false refused is = is

    by_slot : (originator number : ℕ) (found : Option SlotState)
        → through_by_action (forget_in originator number found) ≡ []
    by_slot originator number None = refl
    by_slot originator number (Some slot) = by_number originator ((slot.number == number) && not (is_pending slot)) _ refl

-- ---- ledgers with the same life, as many free slots, the same numbers, and the same commands pending

abbrev number_of : Option SlotState → Option ℕ
number_of found = option_map (λ (slot : SlotState). slot.number) found

abbrev has_slot : LedgerState → Bool
has_slot ledger = nat_lt (length ledger.taken) ledger.slots

record HaveSameNumbers (new old : LedgerState) : Type 0 where
  life : new.life ≡ old.life
  free : has_slot new ≡ has_slot old
  numbers : (any : ℕ) → number_of (slot_of any new.taken) ≡ number_of (slot_of any old.taken)
  pending : (any : ℕ) → waits (slot_of any new.taken) ≡ waits (slot_of any old.taken)

module _ (new ledger : LedgerState) (same : HaveSameNumbers new ledger) (max_size : ℕ) where
  found-through : (command : Command) (one other : Option SlotState) → number_of one ≡ number_of other
      → waits one ≡ waits other → through_by_action (do_by_slot new max_size command one)
      ≡ through_by_action (do_by_slot ledger max_size command other)
  found-through command None None e same_waits =
      same_if (has_slot new) (has_slot ledger) _ _ same.free
  found-through command None (Some other) e same_waits = absurd (cc)
  found-through command (Some one) None e same_waits = absurd (cc)
  found-through command (Some one) (Some other) e same_waits =
      let is : one.number ≡ other.number = ap (λ o. unwrap_or o one.number) e in
      let waiting : is_pending one ≡ is_pending other = ap (λ o. unwrap_or o (is_pending one)) same_waits in
      rw is (through_if (nat_lt command.number other.number) _ _ _ _ refl
      (through_if (command.number == other.number) _ _ _ _ refl
      (same_if (is_pending one) (is_pending other) _ _ waiting)))

  life-through : (command : Command)
      → through_by_action (do_command new max_size command) ≡ through_by_action (do_command ledger max_size command)
  life-through command =
      rw same.life (through_if (not (command.life == ledger.life)) _ _ _ _ refl
      (found-through command (slot_of command.originator new.taken) (slot_of command.originator ledger.taken)
      (same.numbers command.originator) (same.pending command.originator)))

  action-through : (asked : LedgerRequest)
      → through_by_action (action_of new max_size asked) ≡ through_by_action (action_of ledger max_size asked)
  action-through asked =
      through_if (asked.instance == 0) _ _ _ _ refl
      (through_if (asked.instance == 1) _ _ _ _
      (through_if (asked.service == services.DO_ONCE) _ _ _ _
      (through_if (nat_lt (length asked.data) 22) _ _ _ _ refl (life-through (command_of asked.data)))
      (through_if (asked.service == services.GET_LAST) _ _ _ _ refl
      (through_if (asked.service == services.FORGET) _ _ _ _
      (forget-through new asked.data ∙ sym (forget-through ledger asked.data))
      (through_if (asked.service == 0x0e) _ _ _ _ refl
      (through_if (asked.service == 0x03) _ _ _ _ refl
      (through_if (asked.service == services.GET_SLOTS) _ _ _ _ refl
      (through_if (asked.service == services.WITHDRAW) _ _ _ _ refl refl)))))))
      refl)

-- The same of a request is let through.
abbrev pub LetsThrough : Request → Option LedgerState → Option LedgerState → Type 0
LetsThrough request new old = through new request ≡ through old request

alike-through : (new ledger : LedgerState) (request : Request) → HaveSameNumbers new ledger
    → LetsThrough request (Some new) (Some ledger)
alike-through new ledger request same = by_asked (ledger_request request.1)
  where
    by_asked : (asked : Option LedgerRequest) → through_by new request asked ≡ through_by ledger request asked
    by_asked None = refl
    by_asked (Some asked) = action-through new ledger same request.0 asked

-- ---- settling

own-slot : (number : ℕ) (found : Option SlotState) → is_in_doubt_at number found ≡ true
    → (slot : SlotState) × (found ≡ Some slot)
own-slot number None is = absurd (cc)
own-slot number (Some slot) is = (slot, refl)

length-with_slot : (taken : List SlotState) (slot found : SlotState) → slot_of slot.originator taken ≡ Some found
    → length (with_slot slot taken) ≡ length taken
length-with_slot [] slot found is = absurd (cc)
length-with_slot (first ∷ taken) slot found is =
    go (first.originator == slot.originator) (length-with_slot taken slot found) is
  where
    go : (own : Bool) → (slot_of slot.originator taken ≡ Some found → length (with_slot slot taken) ≡ length taken)
        → (if own then Some first else slot_of slot.originator taken) ≡ Some found
        → length (if own then slot ∷ taken else first ∷ with_slot slot taken) ≡ length (first ∷ taken)
    go true later e = refl
    go false later e = ap suc (later e)

settled-same : (ledger : LedgerState) (by given : ℕ) (reply : List ℕ)
    → HaveSameNumbers (settled ledger by given reply) ledger
settled-same ledger by given reply = record {
  life = life (can_settle ledger by given reply);
  free = free (can_settle ledger by given reply) refl;
  numbers = settled-numbers ledger by given reply;
  pending = settled-waits ledger by given reply;
}
  where
    life : (can : Bool) → (if can then with_last by given (Some reply) ledger else ledger).life ≡ ledger.life
    life true = refl
    life false = refl

    free : (can : Bool) → can_settle ledger by given reply ≡ can
        → has_slot (if can then with_last by given (Some reply) ledger else ledger) ≡ has_slot ledger
    free false e = refl
    free true e =
        let own = own-slot given (slot_of by ledger.taken)
        (and_parts (is_kept_reply reply) (is_in_doubt ledger by given) e).1 in
        let slot : SlotState = record { originator = by; number = given; reply = Some reply; ticket = None } in
        ap (λ n. nat_lt n ledger.slots) (length-with_slot ledger.taken slot own.0 own.1)

-- ---- completing

-- The ledger after the owner finished a command, or could not: as it was, or with this reply to the ticket.
pub data IsFinished (ticket : ℕ) (old : Option LedgerState) : Option LedgerState → Type 0 where
  Unchanged : IsFinished ticket old old
  Completed : (reply : List ℕ) → IsFinished ticket old (option_map (λ ledger. completed ledger ticket reply) old)

pub finished-ledger : (ticket : ℕ) (reply : Reply) (device : Device)
    → IsFinished ticket device.ledger (ledger_written (Finishes ticket reply) device)
finished-ledger ticket reply device = by_done (finished_of ticket reply device.router.queue)
  where
    by_done : (done : Option FinishedCommand)
        → IsFinished ticket device.ledger (unwrap_or (option_map (with_finished ticket reply device) done) device).ledger
    by_done None = Unchanged
    by_done (Some done) = Completed (finished_text done.service reply)

-- The objects and the queue after it.
abbrev with_queue : OwnedState → Option QueueState → OwnedState
with_queue owned queue = record owned { queue = queue }

-- The objects of the device, or of one that a finish leaves.
abbrev router_of : ℕ → Reply → Device → Option FinishedCommand → OwnedState
router_of ticket reply device done = (unwrap_or (option_map (with_finished ticket reply device) done) device).router

pub finished-router : (ticket : ℕ) (reply : Reply) (device : Device)
    → (unwrap_or (finished_in ticket reply device) device).router
    ≡ objects_written (Finishes ticket reply) device.router
finished-router ticket reply device = by_queue device.router.queue refl
  where
    by_after : (queue : QueueState) (service : ℕ) (after : Option QueueState) → device.router.queue ≡ Some queue
        → router_of ticket reply device (option_map (λ q. record { service = service; queue = q }) after)
        ≡ with_queue device.router (Some (unwrap_or after queue))
    by_after queue service None e = ap (with_queue device.router) e
    by_after queue service (Some after) e = refl

    by_command : (queue : QueueState) (found : Option QueuedCommand) → device.router.queue ≡ Some queue
        → router_of ticket reply device (finished_command queue ticket reply found)
        ≡ with_queue device.router (Some (unwrap_or (finished_by queue ticket reply found) queue))
    by_command queue None e = ap (with_queue device.router) e
    by_command queue (Some command) e =
        by_after queue command.service (finished_by queue ticket reply (Some command)) e

    by_queue : (queue : Option QueueState) → device.router.queue ≡ queue
        → router_of ticket reply device (finished_of ticket reply queue)
        ≡ with_queue device.router (option_map (λ q. unwrap_or (finished q ticket reply) q) queue)
    by_queue None e = ap (with_queue device.router) e
    by_queue (Some queue) e = by_command queue (waiting_command ticket queue.waiting) e

pub finished_written : (ticket : ℕ) (reply : Reply) (device : Device)
    → unwrap_or (finished_in ticket reply device) device ≡ device_written (Finishes ticket reply) device
finished_written ticket reply device =
    ap (λ router. let d : Device = record {
      ledger = (unwrap_or (finished_in ticket reply device) device).ledger;
      router = router;
    } in d) (finished-router ticket reply device)

-- ---- the device's own writes

-- a request that withdraws nothing leaves the device as it was
pub ends-none : (text : List ℕ) (device : Device) → EndsNone device.ledger (Withdraws text) → found_by text device ≡ device
ends-none text device none = go device.ledger refl none
  where
    go : (ledger : Option LedgerState) → device.ledger ≡ ledger → EndsNone ledger (Withdraws text)
        → unwrap_or (option_and_then (withdrawn_from device) (withdrawal_of ledger text)) device ≡ device
    go None is none = refl
    go (Some ledger) is none = ap (λ o. unwrap_or (option_and_then (withdrawn_from device) o) device) none

pub router-alike : (write : OwnWrite) (device : Device) → EndsNone device.ledger write
    → router_written write device ≡ objects_written write device.router
router-alike (WritesData instance offset bytes) device none = refl
router-alike (WritesAttribute class instance attribute offset bytes) device none = refl
router-alike (SetsStatus status) device none = refl
router-alike (SetsState state) device none = refl
router-alike (Prepares reply) device none = refl
router-alike (Settles by given reply) device none = refl
router-alike (Finishes ticket reply) device none = refl
router-alike (Marks ticket) device none = refl
router-alike (Withdraws text) device none = ap (λ (d : Device). d.router) (ends-none text device none)

pub written-through : (write : OwnWrite) (device : Device) (request : Request) → EndsNone device.ledger write
    → LetsThrough request (ledger_written write device) device.ledger
written-through (WritesData instance offset bytes) device request none = refl
written-through (WritesAttribute class instance attribute offset bytes) device request none = refl
written-through (SetsStatus status) device request none = refl
written-through (SetsState state) device request none = refl
written-through (Prepares reply) device request none = refl
written-through (Settles by given reply) device request none = by_ledger device.ledger
  where
    by_ledger : (ledger : Option LedgerState)
        → LetsThrough request (option_map (λ ledger. settled ledger by given reply) ledger) ledger
    by_ledger None = refl
    by_ledger (Some ledger) = alike-through (settled ledger by given reply) ledger request (settled-same ledger by given reply)
written-through (Marks ticket) device request none = refl
written-through (Withdraws text) device request none =
    ap (λ (d : Device). through d.ledger request) (ends-none text device none)
written-through (Finishes ticket reply) device request none =
    go device.ledger _ (finished-ledger ticket reply device) none
  where
    go : (old new : Option LedgerState) → IsFinished ticket old new → EndsNone old (Finishes ticket reply)
        → LetsThrough request new old
    go old new Unchanged none = refl
    go None new (Completed text) none = refl
    go (Some ledger) new (Completed text) none =
        ap (λ l. through (Some l) request) (completed-none ledger ticket text none)

-- ---- numbers stay settled

abbrev StaysSettled : ℕ → ℕ → Option LedgerState → Type 0
StaysSettled originator number ledger = (other : List ℕ) × Settled number other (slot_in originator ledger)

pub written-settled : (write : OwnWrite) (device : Device) (originator number : ℕ) (kept : List ℕ)
    → Settled number kept (slot_in originator device.ledger)
    → (other : List ℕ) × Settled number other (slot_in originator (ledger_written write device))
written-settled (WritesData instance offset bytes) device originator number kept is = (kept, is)
written-settled (WritesAttribute class instance attribute offset bytes) device originator number kept is = (kept, is)
written-settled (SetsStatus status) device originator number kept is = (kept, is)
written-settled (SetsState state) device originator number kept is = (kept, is)
written-settled (Prepares reply) device originator number kept is = (kept, is)
written-settled (Settles by given reply) device originator number kept is = by_ledger device.ledger is
  where
    by_ledger : (ledger : Option LedgerState) → Settled number kept (slot_in originator ledger)
        → StaysSettled originator number (option_map (λ ledger. settled ledger by given reply) ledger)
    by_ledger None is = absurd is
    by_ledger (Some ledger) is = settled-stays ledger by given reply originator number kept is
written-settled (Marks ticket) device originator number kept is = (kept, is)
written-settled (Withdraws text) device originator number kept is =
    found-ledger (StaysSettled originator number) device text
    (λ ledger by own held. withdrawn-stays ledger by own originator number held.0 held.1)
    (λ ledger ticket reply held. completed-stays ledger ticket reply originator number held.0 held.1) (kept, is)
written-settled (Finishes ticket reply) device originator number kept is =
    go device.ledger _ (finished-ledger ticket reply device) is
  where
    go : (old new : Option LedgerState) → IsFinished ticket old new → Settled number kept (slot_in originator old)
        → StaysSettled originator number new
    go old new Unchanged is = (kept, is)
    go None new (Completed text) is = absurd is
    go (Some ledger) new (Completed text) is = completed-stays ledger ticket text originator number kept is
