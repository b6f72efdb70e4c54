-- What a request that withdraws a command is answered.
use Rattle.std.proofs.Common.{◌≡◌, ◌⊎◌, inl, inr, ℕ, ◌≤◌, ◌==◌, ◌&&◌, ◌||◌, nat_lt, Bool, true, false, if◌then◌else◌, Option, Some, None, unwrap_or, List, [], ◌∷◌, length, refl, ap, sym, ◌∙◌, subst, arith}
use Rattle.std.specs.Prelude.{option_map, is_some}
use Rattle.std.specs.Option.{option_and_then}
use Rattle.std.proofs.lemmas.Bool.{eq-eqb, eqb-true, le-ltb, lt-ltb, and_parts}
use Rattle.cip_bytes.specs.Numbers.{number_at}
use Rattle.cip_message.specs.declared.ledger_services.TheConstants as services
use Rattle.cip_ledger.specs.Device.{Device, owned_standing, exec_device, FinishedCommand, finished_of, finished_in, finished_text, with_finished}
use Rattle.cip_ledger.specs.Doubt.{is_kept_reply}
use Rattle.cip_ledger.specs.Pending.{with_completed, completed}
use Rattle.cip_ledger.specs.PendingLaws.{completed_if}
use Rattle.cip_owner.specs.Owned.{OwnedState}
use Rattle.cip_ledger.specs.declared.withdrawal.Withdrawal.{Withdrawal}
use Rattle.cip_ledger.specs.Ledger.{LedgerState, SlotState, slot_of, slot_withdrawn}
use Rattle.cip_ledger.specs.Requests.{LedgerRequest, ledger_request}
use Rattle.cip_ledger.specs.Services.{Action, Replies, Frees, Answer, success, reply_to, WITHDRAWN, withdraw, withdraw_in, forget, forget_in, instance_action, action_of}
use Rattle.cip_ledger.specs.Standings.{at_router}
use Rattle.cip_ledger.specs.Turn.{with_taken, fate_of, turn, turn_by, acted}
use Rattle.cip_ledger.specs.Withdrawing.{withdraw_by_slot, by_withdraw, forget_by_slot, by_forget, withdrawal_by, withdrawal_of, has_place, with_withdrawn, withdrawal_result, was_handed, left_device, with_withdrawal, withdrawn_from, withdrawn_by}
use Rattle.cip_ledger.proofs.Devices.{after as exec_after, answer as exec_answer}
use Rattle.cip_ledger.proofs.Withdrawals.{none-some, same-some, IsNamed, slot-named, forget-named, withdrawn-own, Withdraws, withdraws}
use Rattle.cip_ledger.proofs.Pendings.{slot_of-after}

-- ---- the action of a request that finds its command withdrawn

abbrev IsWithdrawnAction : LedgerRequest → Action → Type 0
IsWithdrawnAction asked action =
    ((asked.service ≡ services.WITHDRAW) × (action ≡ Replies (success (WITHDRAWN ∷ []))))
    ⊎ ((asked.service ≡ services.FORGET) × (originator : ℕ) × (action ≡ Frees originator))

-- `left` is the ledger once the command has left the queue: its slot is still that of the originator.
module _ (ledger left : LedgerState) (w : Withdrawal) (max_size : ℕ) (least : 8 ≤ max_size) (life : left.life ≡ ledger.life)
    (place : has_place left w.originator ≡ true) where
  abbrev after : LedgerState
  after = with_withdrawn w.originator w.number left

  own_slot : (originator : ℕ) → w.originator ≡ originator → slot_of originator after.taken ≡ Some (slot_withdrawn w.originator w.number)
  own_slot originator is = ap (λ o. slot_of o after.taken) (sym is) ∙ withdrawn-own left w.originator w.number place

  after_life : after.life ≡ ledger.life
  after_life = go (has_place left w.originator) ∙ life
    where
      go : (has : Bool) → (if has then with_taken (slot_withdrawn w.originator w.number) left else left).life ≡ left.life
      go true = refl
      go false = refl

  not_less : (a b : ℕ) → a ≡ b → nat_lt a b ≡ false
  not_less a b e = le-ltb a b (omega (arith, e))

  withdraw_answer : (bytes : List ℕ) → length bytes ≡ 20 → number_at 0 8 bytes ≡ ledger.life
      → IsNamed (number_at 8 8 bytes) (number_at 16 4 bytes) w → withdraw after max_size bytes ≡ success (WITHDRAWN ∷ [])
  withdraw_answer bytes size own is =
      rw (size, eq-eqb (number_at 0 8 bytes) after.life (own ∙ sym after_life))
      (ap (withdraw_in max_size (number_at 16 4 bytes)) (own_slot (number_at 8 8 bytes) is.0)
      ∙ rw (not_less (number_at 16 4 bytes) w.number (sym is.1), eq-eqb (number_at 16 4 bytes) w.number (sym is.1), not_less_5) refl)
    where
      not_less_5 : nat_lt max_size 5 ≡ false
      not_less_5 = le-ltb max_size 5 (omega (arith, least))

  forget_action : (bytes : List ℕ) → length bytes ≡ 12 → IsNamed (number_at 0 8 bytes) (number_at 8 4 bytes) w
      → forget after bytes ≡ Frees (number_at 0 8 bytes)
  forget_action bytes size is =
      rw size
      (ap (forget_in (number_at 0 8 bytes) (number_at 8 4 bytes)) (own_slot (number_at 0 8 bytes) is.0)
      ∙ rw (eq-eqb w.number (number_at 8 4 bytes) is.1) refl)

  if_some : {A : Type 0} (b : Bool) (o : Option Withdrawal) → (if b then o else None) ≡ Some w → (b ≡ true → o ≡ Some w → A) → A
  if_some true o e more = more refl e
  if_some false o e more = absurd (none-some w e)

  module _ (asked : LedgerRequest) where
    by_instance : asked.instance ≡ 1 → IsWithdrawnAction asked (instance_action after max_size asked)
        → IsWithdrawnAction asked (action_of after max_size asked)
    by_instance one is = subst (IsWithdrawnAction asked) (rw one refl) is

    by_service : (withdraws forgets : Bool) → (asked.service == services.WITHDRAW) ≡ withdraws
        → (asked.service == services.FORGET) ≡ forgets
        → (if withdraws then by_withdraw ledger asked.data else (if forgets then by_forget ledger asked.data else None)) ≡ Some w
        → IsWithdrawnAction asked (instance_action after max_size asked)
    by_service true forgets h i f =
        let bytes = asked.data in
        let service = eqb-true asked.service services.WITHDRAW h in
        if_some ((length bytes == 20) && (number_at 0 8 bytes == ledger.life)) _ f
        (λ both found.
        let parts = and_parts (length bytes == 20) (number_at 0 8 bytes == ledger.life) both in
        let is = slot-named ledger (number_at 8 8 bytes) (number_at 16 4 bytes) (slot_of (number_at 8 8 bytes) ledger.taken) w found in
        inl (
          service,
          rw service (ap (λ a. Replies a)
              (withdraw_answer bytes (eqb-true (length bytes) 20 parts.0) (eqb-true (number_at 0 8 bytes) ledger.life parts.1) is)),
        ))
    by_service false true h i f =
        let bytes = asked.data in
        let service = eqb-true asked.service services.FORGET i in
        if_some (length bytes == 12) _ f
        (λ size found.
        let is = forget-named (number_at 0 8 bytes) (number_at 8 4 bytes) (slot_of (number_at 0 8 bytes) ledger.taken) w found in
        inr (service, number_at 0 8 bytes, rw service (forget_action bytes (eqb-true (length bytes) 12 size) is)))
    by_service false false h i f = absurd (none-some w f)

    asked_action : withdrawal_by ledger asked ≡ Some w → IsWithdrawnAction asked (action_of after max_size asked)
    asked_action e =
        if_some (asked.instance == 1) _ e
        (λ one found. by_instance (eqb-true asked.instance 1 one)
        (by_service (asked.service == services.WITHDRAW) (asked.service == services.FORGET) refl refl found))

-- ---- the ledger once a command has left the queue

finished-life : (ticket : ℕ) (ledger : LedgerState) (reply : List ℕ) → (completed ledger ticket reply).life ≡ ledger.life
finished-life ticket ledger reply = go (is_kept_reply reply)
  where
    go : (kept : Bool) → (if kept then with_completed ticket reply ledger else ledger).life ≡ ledger.life
    go true = refl
    go false = refl

finished-place : (ticket : ℕ) (ledger : LedgerState) (reply : List ℕ) (originator : ℕ) (slot : SlotState)
    → slot_of originator ledger.taken ≡ Some slot → has_place (completed ledger ticket reply) originator ≡ true
finished-place ticket ledger reply originator slot found =
    ap (λ o. is_some o || nat_lt (length (completed ledger ticket reply).taken) (completed ledger ticket reply).slots)
    (slot_of-after ledger ticket reply originator ∙ ap (option_map (completed_if ticket reply)) found)

-- ---- the answer

abbrev pub IsWithdrawnAnswer : List ℕ → Type 0
IsWithdrawnAnswer given =
    (given ≡ reply_to services.WITHDRAW (success (WITHDRAWN ∷ []))) ⊎ (given ≡ reply_to services.FORGET (success []))

acted_answer : (asked : LedgerRequest) (action : Action) (ledger : Option LedgerState) (router : OwnedState)
    → IsWithdrawnAction asked action
    → IsWithdrawnAnswer (acted exec_after exec_answer (at_router owned_standing router action) asked.service ledger router).answer
acted_answer asked action ledger router (inl is) =
    inl (ap (λ a. (acted exec_after exec_answer (at_router owned_standing router a) asked.service ledger router).answer) is.1
    ∙ ap (λ s. reply_to s (success (WITHDRAWN ∷ []))) is.0)
acted_answer asked action ledger router (inr is) =
    inr (ap (λ a. (acted exec_after exec_answer (at_router owned_standing router a) asked.service ledger router).answer) is.2
    ∙ ap (λ s. reply_to s (success [])) is.0)

-- The ledger of a device that a command has left.
pub record LeavesLedger (ledger : LedgerState) (w : Withdrawal) (left : Device) : Type 0 where
  pub state : LedgerState
  pub is : left.ledger ≡ Some state
  pub life : state.life ≡ ledger.life
  pub place : has_place state w.originator ≡ true

same_device : (a b : Device) → ◌≡◌ {A = Option Device} (Some a) (Some b) → a ≡ b
same_device a b e = same-some a b e

left-ledger : (device left : Device) (ledger : LedgerState) (w : Withdrawal) → device.ledger ≡ Some ledger
    → Withdraws ledger w → left_device w.ticket device ≡ Some left → LeavesLedger ledger w left
left-ledger device left ledger w is facts e = go w.ticket refl e
  where
    finished : (ticket : ℕ) (slot : SlotState) (done : Option FinishedCommand) → slot_of w.originator ledger.taken ≡ Some slot
        → option_map (with_finished ticket withdrawal_result device) done ≡ Some left → LeavesLedger ledger w left
    finished ticket slot None found f = absurd (none-some left f)
    finished ticket slot (Some done) found f =
        let same = same_device (with_finished ticket withdrawal_result device done) left f in
        let text = finished_text done.service withdrawal_result in
        record {
          state = completed ledger ticket text;
          is = ap (λ (d : Device). d.ledger) (sym same) ∙ ap (option_map (λ l. completed l ticket text)) is;
          life = finished-life ticket ledger text;
          place = finished-place ticket ledger text w.originator slot found;
        }

    has_slot : (ticket : ℕ) → w.ticket ≡ Some ticket → Withdraws ledger w
        → (slot : SlotState) × (slot_of w.originator ledger.taken ≡ Some slot)
    has_slot ticket own (inl pending) = (pending.slot, pending.found)
    has_slot ticket own (inr unused) = absurd (none-some ticket (sym unused.no_ticket ∙ own))

    unused_place : Withdraws ledger w → has_place ledger w.originator ≡ true
    unused_place (inl pending) =
        ap (λ o. is_some o || nat_lt (length ledger.taken) ledger.slots) pending.found
    unused_place (inr unused) = by_slot (slot_of w.originator ledger.taken) refl
      where
        by_slot : (found : Option SlotState) → slot_of w.originator ledger.taken ≡ found
            → (is_some found || nat_lt (length ledger.taken) ledger.slots) ≡ true
        by_slot None none = lt-ltb (length ledger.taken) ledger.slots (unused.free none)
        by_slot (Some slot) found = refl

    by_handed : (ticket : ℕ) (handed : Bool) → w.ticket ≡ Some ticket
        → (if handed then None else finished_in ticket withdrawal_result device) ≡ Some left → LeavesLedger ledger w left
    by_handed ticket true own f = absurd (none-some left f)
    by_handed ticket false own f =
        let slot = has_slot ticket own facts in
        finished ticket slot.0 (finished_of ticket withdrawal_result device.router.queue) slot.1 f

    go : (ticket : Option ℕ) → w.ticket ≡ ticket → left_device ticket device ≡ Some left → LeavesLedger ledger w left
    go None own f =
        let same = same_device device left f in
        record {
          state = ledger;
          is = ap (λ (d : Device). d.ledger) (sym same) ∙ is;
          life = refl;
          place = unused_place facts;
        }
    go (Some ticket) own f = by_handed ticket (was_handed ticket device.router.queue) own f

-- Withdraw that withdraws a command is answered that it is withdrawn, and Forget that does so frees the slot.
pub withdrawn-answer : (device found : Device) (max_size : ℕ) (text : List ℕ)
    → withdrawn_by text device ≡ Some found → 8 ≤ max_size → IsWithdrawnAnswer (exec_device found max_size text).answer
withdrawn-answer device found max_size text e least = of_ledger device.ledger refl e
  where
    of_left : (ledger : LedgerState) (asked : LedgerRequest) (w : Withdrawal) (left : Option Device)
        → device.ledger ≡ Some ledger → ledger_request text ≡ Some asked → withdrawal_by ledger asked ≡ Some w
        → Withdraws ledger w → left_device w.ticket device ≡ left → option_map (with_withdrawal w) left ≡ Some found
        → IsWithdrawnAnswer (exec_device found max_size text).answer
    of_left ledger asked w None is asks by facts leaves f = absurd (none-some found f)
    of_left ledger asked w (Some left) is asks by facts leaves f =
        let same : with_withdrawal w left ≡ found = same_device (with_withdrawal w left) found f in
        let gone = left-ledger device left ledger w is facts leaves in
        let new : LedgerState = with_withdrawn w.originator w.number gone.state in
        let own : found.ledger ≡ Some new
        = ap (λ (n : Device). n.ledger) (sym same) ∙ ap (option_map (with_withdrawn w.originator w.number)) gone.is in
        subst IsWithdrawnAnswer
        (sym (ap (λ l. (turn exec_after exec_answer owned_standing l found.router max_size text).answer) own
        ∙ ap (λ a. (turn_by exec_after exec_answer (fate_of owned_standing new found.router max_size a)
        (Some new) found.router max_size text).answer) asks))
        (acted_answer asked (action_of new max_size asked) (Some new) found.router
        (asked_action ledger gone.state w max_size least gone.life gone.place asked by))

    of_withdrawal : (ledger : LedgerState) (asked : LedgerRequest) (o : Option Withdrawal) → device.ledger ≡ Some ledger
        → ledger_request text ≡ Some asked → withdrawal_by ledger asked ≡ o
        → option_and_then (withdrawn_from device) o ≡ Some found
        → IsWithdrawnAnswer (exec_device found max_size text).answer
    of_withdrawal ledger asked None is asks by f = absurd (none-some found f)
    of_withdrawal ledger asked (Some w) is asks by f =
        of_left ledger asked w (left_device w.ticket device) is asks by
        (withdraws ledger w text (ap (option_and_then (withdrawal_by ledger)) asks ∙ by)) refl f

    of_request : (ledger : LedgerState) (o : Option LedgerRequest) → device.ledger ≡ Some ledger → ledger_request text ≡ o
        → option_and_then (withdrawn_from device) (option_and_then (withdrawal_by ledger) o) ≡ Some found
        → IsWithdrawnAnswer (exec_device found max_size text).answer
    of_request ledger None is asks f = absurd (none-some found f)
    of_request ledger (Some asked) is asks f = of_withdrawal ledger asked (withdrawal_by ledger asked) is asks refl f

    of_ledger : (o : Option LedgerState) → device.ledger ≡ o
        → option_and_then (withdrawn_from device) (withdrawal_of o text) ≡ Some found
        → IsWithdrawnAnswer (exec_device found max_size text).answer
    of_ledger None is f = absurd (none-some found f)
    of_ledger (Some ledger) is f = of_request ledger (ledger_request text) is refl f
