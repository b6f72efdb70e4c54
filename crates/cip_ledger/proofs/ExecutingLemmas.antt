-- The slot in which a command would be in doubt, and commands that would be executed.
use Rattle.std.proofs.Common.{◌≡◌, ℕ, zero, suc, ◌+◌, ◌<◌, ◌==◌, ◌&&◌, Bool, true, false, if◌then◌else◌, not, Option, Some, None, List, [], ◌∷◌, ◌++◌, length, slice_set, refl, ap, sym, subst, ◌∙◌, arith}
use Rattle.std.specs.Prelude.{slice_get, nat_lt}
use Rattle.std.proofs.lemmas.Bool.{eq-eqb, ne_eqb, eqb-true}
use Rattle.std.proofs.lemmas.Bool.Decides.{nat_tests}
use Rattle.cip_ledger.specs.declared.doubt.DoubtfulCommand.{DoubtfulCommand}
use Rattle.cip_message.specs.declared.ledger_services.TheConstants as services
use Rattle.cip_ledger.specs.declared.service.TheConstants as common
use Rattle.cip_ledger.specs.declared.target.Standing.{Standing}
use Rattle.cip_ledger.specs.declared.target.Standing.TheVariants as standings
use Rattle.cip_ledger.specs.declared.status.Status.{Status}
use Rattle.cip_ledger.specs.declared.status.Status.TheVariants as statuses
use Rattle.cip_ledger.specs.Doubt.{can_doubt, can_doubt_at, doubted, with_last, is_in_doubt, is_in_doubt_at}
use Rattle.cip_ledger.specs.Executing.{name_of, new_command, executed_by, executed_in, command_of, doubtful, IsDoubtedAt}
use Rattle.cip_ledger.specs.Ledger.{SlotState, LedgerState, slot_of, is_pending}
use Rattle.cip_ledger.specs.Requests.{LedgerRequest, ledger_request}
use Rattle.cip_message.specs.LedgerCommand.{Command}
use Rattle.cip_ledger.specs.Requests as requests
use Rattle.cip_ledger.specs.Runs.{Request}
use Rattle.cip_bytes.specs.Numbers.{number_at}
use Rattle.cip_ledger.specs.Standings.{embedded_standing, by_standing, at_router}
use Rattle.cip_ledger.specs.Services.{Action, Replies, Executes, Queues, Frees, Answer, HEAD_SIZE, KEPT_LIMIT, do_new, do_greater, do_by_slot, do_command, do_once, forget, forget_in, get_last, get_slots, withdraw, size_fault, unless, refuses, refusal, success, within, last_content, instance_action, action_of, class_answer, single, value_named, ledger_values, get_attribute_list}
use Rattle.cip_ledger.specs.Slots.{IsAt, IsMissing}
use Rattle.cip_ledger.specs.Turn.{fate_of}
use Rattle.cip_ledger.proofs.SlotLemmas.{slot_of-with_slot}

-- ---- one slot of a list

same_suc : (a b : ℕ) → (suc a == suc b) ≡ (a == b)
same_suc a b = go (a == b) refl
  where
    go : (is : Bool) → (a == b) ≡ is → (suc a == suc b) ≡ (a == b)
    go true h = eq-eqb (suc a) (suc b) (ap suc (eqb-true a b h)) ∙ sym h
    go false h = grind (arith, nat_tests, h)

get_set : (xs : List SlotState) (i at : ℕ) (x : SlotState) → i < length xs
    → slice_get (slice_set xs i x) at ≡ (if at == i then Some x else slice_get xs at)
get_set [] i at x h = absurd (omega (arith, h))
get_set (y ∷ xs) zero zero x h = refl
get_set (y ∷ xs) zero (suc at) x h = rw (ne_eqb (suc at) 0 (λ e. omega (arith, e))) refl
get_set (y ∷ xs) (suc i) zero x h = rw (ne_eqb 0 (suc i) (λ e. omega (arith, e))) refl
get_set (y ∷ xs) (suc i) (suc at) x h = rw (same_suc at i) (get_set xs i at x (omega (arith, h)))

get_pushed : (xs : List SlotState) (n at : ℕ) (x : SlotState) → n ≡ length xs
    → slice_get (xs ++ x ∷ []) at ≡ (if at == n then Some x else slice_get xs at)
get_pushed [] zero zero x e = refl
get_pushed [] zero (suc at) x e = rw (ne_eqb (suc at) 0 (λ f. omega (arith, f))) refl
get_pushed [] (suc n) at x e = absurd (omega (arith, e))
get_pushed (y ∷ xs) zero at x e = absurd (omega (arith, e))
get_pushed (y ∷ xs) (suc n) zero x e = rw (ne_eqb 0 (suc n) (λ f. omega (arith, f))) refl
get_pushed (y ∷ xs) (suc n) (suc at) x e = rw (same_suc at n) (get_pushed xs n at x (omega (arith, e)))

-- ---- where a command would be in doubt

abbrev doubted_if : LedgerState → DoubtfulCommand → Bool → LedgerState
doubted_if ledger command can =
    if can then with_last command.originator command.number None ledger else ledger

pub not_doubted : (ledger : LedgerState) (command : DoubtfulCommand)
    → can_doubt ledger command.originator command.number ≡ false → IsDoubtedAt ledger command None
not_doubted ledger command can = ap (doubted_if ledger command) can

pub doubted_found : (ledger : LedgerState) (command : DoubtfulCommand) (index : ℕ)
    → IsAt ledger.taken command.originator index → can_doubt ledger command.originator command.number ≡ true
    → IsDoubtedAt ledger command (Some index)
doubted_found ledger command index found can = λ at.
    ap (λ b. slice_get (doubted_if ledger command b).taken at) can
    ∙ ap (λ t. slice_get t at) (found.put (doubtful command) refl)
    ∙ get_set ledger.taken index at (doubtful command) found.there

pub doubted_missing : (ledger : LedgerState) (command : DoubtfulCommand) (index : ℕ)
    → IsMissing ledger.taken command.originator → index ≡ length ledger.taken
    → can_doubt ledger command.originator command.number ≡ true → IsDoubtedAt ledger command (Some index)
doubted_missing ledger command index missing last can = λ at.
    ap (λ b. slice_get (doubted_if ledger command b).taken at) can
    ∙ ap (λ t. slice_get t at) (missing.put (doubtful command) refl)
    ∙ get_pushed ledger.taken index at (doubtful command) last

-- ---- what would be executed can be in doubt

record CanBeDoubted (ledger : LedgerState) (action : Action) : Type 0 where
  can : (command : Command) → new_command action ≡ Some command
      → can_doubt ledger command.originator command.number ≡ true

by_reply : (ledger : LedgerState) (answer : Answer) → CanBeDoubted ledger (Replies answer)
by_reply ledger answer = record { can = λ command e. absurd (cc) }

by_freeing : (ledger : LedgerState) (originator : ℕ) → CanBeDoubted ledger (Frees originator)
by_freeing ledger originator = record { can = λ command e. absurd (cc) }

either : (ledger : LedgerState) (b : Bool) (x y : Action) → CanBeDoubted ledger x → CanBeDoubted ledger y
    → CanBeDoubted ledger (if b then x else y)
either ledger true x y f g = f
either ledger false x y f g = g

refused_or : (ledger : LedgerState) (b : Bool) (status : Status) (y : Action) → CanBeDoubted ledger y
    → CanBeDoubted ledger (if b then refuses status else y)
refused_or ledger true status y f = by_reply ledger (refusal status)
refused_or ledger false status y f = f

replied_or : (ledger : LedgerState) (b : Bool) (answer : Answer) (y : Action) → CanBeDoubted ledger y
    → CanBeDoubted ledger (if b then Replies answer else y)
replied_or ledger true answer y f = by_reply ledger answer
replied_or ledger false answer y f = f

same_some : {A : Type 0} (x y : A) → ◌≡◌ {A = Option A} (Some x) (Some y) → x ≡ y
same_some x y e = cc

by_new : (ledger : LedgerState) (max_size : ℕ) (command : Command)
    → can_doubt ledger command.originator command.number ≡ true → CanBeDoubted ledger (do_new max_size command)
by_new ledger max_size command can =
    refused_or ledger (nat_lt max_size (HEAD_SIZE + 1 + KEPT_LIMIT)) statuses.ReplyDataTooLarge (Executes command)
    (record {
      can = λ named e. subst (λ (c : Command). can_doubt ledger c.originator c.number ≡ true)
          (same_some command named e) can;
    })

by_slot : (ledger : LedgerState) (max_size : ℕ) (command : Command) (found : Option SlotState)
    → slot_of command.originator ledger.taken ≡ found → CanBeDoubted ledger (do_by_slot ledger max_size command found)
by_slot ledger max_size command None is = go (nat_lt (length ledger.taken) ledger.slots) refl
  where
    go : (free : Bool) → nat_lt (length ledger.taken) ledger.slots ≡ free
        → CanBeDoubted ledger (if free then do_new max_size command else refuses statuses.ResourceUnavailable)
    go true h = by_new ledger max_size command (ap (can_doubt_at ledger command.number) is ∙ h)
    go false h = by_reply ledger (refusal statuses.ResourceUnavailable)
by_slot ledger max_size command (Some slot) is =
    go (nat_lt command.number slot.number) (command.number == slot.number) refl refl
  where
    go : (smaller same : Bool) → nat_lt command.number slot.number ≡ smaller → (command.number == slot.number) ≡ same
        → CanBeDoubted ledger (if smaller then refuses statuses.ObjectStateConflict
        else (if same then Replies (within max_size (success (last_content slot))) else do_greater max_size command slot))
    go true same h k = by_reply ledger (refusal statuses.ObjectStateConflict)
    go false true h k = by_reply ledger (within max_size (success (last_content slot)))
    go false false h k =
        let greater : nat_lt slot.number command.number ≡ true = grind (arith, nat_tests, h, k) in
        refused_or ledger (is_pending slot) statuses.CommandPending (do_new max_size command)
        (by_new ledger max_size command (ap (can_doubt_at ledger command.number) is ∙ greater))

by_command : (ledger : LedgerState) (max_size : ℕ) (command : Command)
    → CanBeDoubted ledger (do_command ledger max_size command)
by_command ledger max_size command =
    refused_or ledger (not (command.life == ledger.life)) statuses.DeviceStateConflict
    (do_by_slot ledger max_size command (slot_of command.originator ledger.taken))
    (by_slot ledger max_size command (slot_of command.originator ledger.taken) refl)

by_forget : (ledger : LedgerState) (originator number : ℕ) (found : Option SlotState)
    → CanBeDoubted ledger (forget_in originator number found)
by_forget ledger originator number None = by_reply ledger (success [])
by_forget ledger originator number (Some slot) =
    either ledger ((slot.number == number) && not (is_pending slot)) (Frees originator) (refuses statuses.ObjectStateConflict)
    (by_freeing ledger originator) (by_reply ledger (refusal statuses.ObjectStateConflict))

by_size : (ledger : LedgerState) (fault : Option Status) (action : Action) → CanBeDoubted ledger action
    → CanBeDoubted ledger (unless fault refuses action)
by_size ledger None action f = f
by_size ledger (Some status) action f = by_reply ledger (refusal status)

by_once : (ledger : LedgerState) (max_size : ℕ) (bytes : List ℕ) → CanBeDoubted ledger (do_once ledger max_size bytes)
by_once ledger max_size bytes =
    refused_or ledger (nat_lt (length bytes) 22) statuses.NotEnoughData
    (do_command ledger max_size (requests.command_of bytes)) (by_command ledger max_size (requests.command_of bytes))

by_forgetting : (ledger : LedgerState) (bytes : List ℕ) → CanBeDoubted ledger (forget ledger bytes)
by_forgetting ledger bytes =
    by_size ledger (size_fault 12 bytes)
    (forget_in (number_at 0 8 bytes) (number_at 8 4 bytes) (slot_of (number_at 0 8 bytes) ledger.taken))
    (by_forget ledger (number_at 0 8 bytes) (number_at 8 4 bytes) (slot_of (number_at 0 8 bytes) ledger.taken))

module _ (ledger : LedgerState) (max_size : ℕ) (request : LedgerRequest) where
  abbrev one : Answer
  one = single max_size request.data (value_named (ledger_values ledger) request.attribute)

  abbrev list : Answer
  list = get_attribute_list (ledger_values ledger) max_size request.data

  abbrev slots : Answer
  slots = get_slots ledger max_size request.data

  abbrev withdrawn : Answer
  withdrawn = withdraw ledger max_size request.data

  abbrev after_withdraw : Action
  after_withdraw = if request.service == services.WITHDRAW then Replies withdrawn else refuses statuses.ServiceNotSupported

  abbrev after_slots : Action
  after_slots = if request.service == services.GET_SLOTS then Replies slots else after_withdraw

  abbrev after_list : Action
  after_list = if request.service == common.GET_ATTRIBUTE_LIST then Replies list else after_slots

  abbrev after_one : Action
  after_one = if request.service == common.GET_ATTRIBUTE_SINGLE then Replies one else after_list

  abbrev after_forget : Action
  after_forget = if request.service == services.FORGET then forget ledger request.data else after_one

  abbrev last : Answer
  last = get_last ledger max_size request.data

  abbrev after_last : Action
  after_last = if request.service == services.GET_LAST then Replies last else after_forget

  by_instance : CanBeDoubted ledger (instance_action ledger max_size request)
  by_instance =
      either ledger (request.service == services.DO_ONCE) (do_once ledger max_size request.data) after_last
      (by_once ledger max_size request.data)
      (replied_or ledger (request.service == services.GET_LAST) last after_forget
      (either ledger (request.service == services.FORGET) (forget ledger request.data) after_one
      (by_forgetting ledger request.data)
      (replied_or ledger (request.service == common.GET_ATTRIBUTE_SINGLE) one after_list
      (replied_or ledger (request.service == common.GET_ATTRIBUTE_LIST) list after_slots
      (replied_or ledger (request.service == services.GET_SLOTS) slots after_withdraw
      (replied_or ledger (request.service == services.WITHDRAW) withdrawn (refuses statuses.ServiceNotSupported)
      (by_reply ledger (refusal statuses.ServiceNotSupported))))))))

  abbrev by_class : Answer
  by_class = class_answer max_size request

  by_action : CanBeDoubted ledger (action_of ledger max_size request)
  by_action =
      replied_or ledger (request.instance == 0) by_class
      (if request.instance == 1 then instance_action ledger max_size request else refuses statuses.PathDestinationUnknown)
      (either ledger (request.instance == 1) (instance_action ledger max_size request)
      (refuses statuses.PathDestinationUnknown) by_instance (by_reply ledger (refusal statuses.PathDestinationUnknown)))

-- a command with a final reply is the new one
module _ {M : Type 0} (standing : M → List ℕ → Standing) (router : M) where
  by_final : (ledger : LedgerState) (is : Standing) (new : Command) (command : DoubtfulCommand)
      → can_doubt ledger new.originator new.number ≡ true → executed_by (by_standing is new) ≡ Some command
      → can_doubt ledger command.originator command.number ≡ true
  by_final ledger standings.Final new command can e =
      subst (λ (c : DoubtfulCommand). can_doubt ledger c.originator c.number ≡ true) (same_some (name_of new) command e) can
  by_final ledger (standings.Pending ticket) new command can e = absurd (cc)
  by_final ledger standings.Refused new command can e = absurd (cc)

  by_router : (ledger : LedgerState) (action : Action) (command : DoubtfulCommand) → CanBeDoubted ledger action
      → executed_by (at_router standing router action) ≡ Some command
      → can_doubt ledger command.originator command.number ≡ true
  by_router ledger (Replies answer) command is e = absurd (cc)
  by_router ledger (Executes new) command is e =
      by_final ledger (embedded_standing standing router new.request) new command (is.can new refl) e
  by_router ledger (Queues new ticket) command is e =
      by_final ledger (embedded_standing standing router new.request) new command (is.can new refl) e
  by_router ledger (Frees originator) command is e = absurd (cc)

  by_request : (ledger : LedgerState) (max_size : ℕ) (asked : Option LedgerRequest) (command : DoubtfulCommand)
      → executed_in (fate_of standing ledger router max_size asked) ≡ Some command
      → can_doubt ledger command.originator command.number ≡ true
  by_request ledger max_size None command e = absurd (cc)
  by_request ledger max_size (Some request) command e =
      by_router ledger (action_of ledger max_size request) command (by_action ledger max_size request) e

doubtful_at : (number : ℕ) (found : Option SlotState) (originator : ℕ)
    → found ≡ Some (doubtful (record { originator = originator; number = number }))
    → is_in_doubt_at number found ≡ true
doubtful_at number found originator e =
    ap (is_in_doubt_at number) e ∙ rw (eq-eqb number number refl) refl

pub executed_in_doubt : {M : Type 0} (standing : M → List ℕ → Standing) (ledger : LedgerState) (router : M)
    (request : Request) (command : DoubtfulCommand) → command_of standing (Some ledger) router request ≡ Some command
    → is_in_doubt (doubted ledger command.originator command.number) command.originator command.number ≡ true
executed_in_doubt standing ledger router request command e =
    let can = by_request standing router ledger request.0 (ledger_request request.1) command e in
    ap (λ b. is_in_doubt (doubted_if ledger command b) command.originator command.number) can
    ∙ doubtful_at command.number _ command.originator (slot_of-with_slot ledger.taken (doubtful command))
