-- The device once what a request withdraws is withdrawn.
use Rattle.std.proofs.Common.{◌≡◌, ◌⊎◌, inl, inr, ℕ, ◌<◌, ◌==◌, ◌&&◌, ◌||◌, nat_lt, not, Bool, true, false, if◌then◌else◌, Option, Some, None, unwrap_or, List, [], ◌∷◌, length, suc, map, refl, ap, sym, ◌∙◌, subst, arith}
use Rattle.std.specs.Prelude.{option_map, is_some}
use Rattle.std.specs.Option.{option_and_then}
use Rattle.std.proofs.lemmas.Bool.{eq-eqb, eqb-true, eqb-false, ltb-true, lt-ltb}
use Rattle.cip_ledger.specs.declared.withdrawal.Withdrawal.{Withdrawal}
use Rattle.cip_ledger.specs.Device.{Device, FinishedCommand, finished_text, finished_of, with_finished, finished_in}
use Rattle.cip_ledger.specs.Doubt.{is_kept_reply}
use Rattle.cip_ledger.specs.Ledger.{LedgerState, SlotState, slot_of, with_slot, is_pending, slot_withdrawn}
use Rattle.cip_ledger.specs.Pending.{completed_slot, with_completed, completed}
use Rattle.cip_ledger.specs.Services.{last_content}
use Rattle.cip_ledger.specs.Turn.{with_taken}
use Rattle.cip_ledger.specs.Withdrawing.{of_command, withdraw_by_slot, of_pending, of_unused, can_withdraw, has_place, with_withdrawn, withdrawn, withdrawal_of, withdrawal_result, was_handed, left_device, with_withdrawal, withdrawn_from, found_by}
use Rattle.cip_ledger.proofs.CompletedSlots.{completed-originator, slot_of-completed}
use Rattle.cip_ledger.proofs.Fates.{IsNewAt, HasEnded}
use Rattle.cip_ledger.proofs.Settled.{Settled}
use Rattle.cip_ledger.proofs.Withdrawals.{withdrawn-own, withdrawn-other, can-place, none-some, same-some, IsOfPending, IsOfUnused, Withdraws, withdraws}
use Rattle.cip_owner.specs.Replies.{Reply}
use Rattle.enip_adapter.specs.OwnWrites.{ticket_left, ticket_withdrawn}

-- ---- the two kinds

abbrev kind_by : Option (List ℕ) → Option ℕ → Bool
kind_by reply ticket = not (is_some reply) && is_some ticket

-- one with a ticket is pending
pub pending_of : (ledger : LedgerState) (w : Withdrawal) (ticket : ℕ) → Withdraws ledger w → w.ticket ≡ Some ticket
    → IsOfPending ledger w
pending_of ledger w ticket (inl is) e = is
pending_of ledger w ticket (inr is) e = absurd (none-some ticket (sym is.no_ticket ∙ e))

-- and one without a ticket was not used
pub unused_of : (ledger : LedgerState) (w : Withdrawal) → Withdraws ledger w → w.ticket ≡ None → IsOfUnused ledger w
unused_of ledger w (inr is) e = is
unused_of ledger w (inl is) e = absurd (no is.slot.reply (ap (kind_by is.slot.reply) (sym (is.ticket_is ∙ e)) ∙ is.waits))
  where
    no : (reply : Option (List ℕ)) → kind_by reply None ≡ true → ⊥
    no None f = absurd (cc)
    no (Some bytes) f = absurd (cc)

-- ---- the device as a request finds it, with the ticket that leaves the queue

-- The device once the command with a ticket has left its queue.
abbrev pub device_left : ℕ → Device → Device
device_left ticket device = unwrap_or (finished_in ticket withdrawal_result device) device

module _ (P : Device → Option ℕ → Type 0) (device : Device) (text : List ℕ) (same : P device None)
    (unused : (ledger : LedgerState) (w : Withdrawal) → device.ledger ≡ Some ledger → IsOfUnused ledger w
    → P (with_withdrawal w device) None)
    (leaves : (ledger : LedgerState) (w : Withdrawal) (ticket : ℕ) → device.ledger ≡ Some ledger → IsOfPending ledger w
    → w.ticket ≡ Some ticket → was_handed ticket device.router.queue ≡ false
    → is_some (finished_in ticket withdrawal_result device) ≡ true
    → P (with_withdrawal w (device_left ticket device)) (Some ticket)) where
  of_left : (ledger : LedgerState) (w : Withdrawal) (ticket : Option ℕ) (left : Option Device)
      → device.ledger ≡ Some ledger → Withdraws ledger w → w.ticket ≡ ticket → left_device ticket device ≡ left
      → P (unwrap_or (option_map (with_withdrawal w) left) device) (if is_some left then ticket else None)
  of_left ledger w ticket None is facts e f = same
  of_left ledger w None (Some left) is facts e f =
      subst (λ d. P (with_withdrawal w d) None) (same-some device left f) (unused ledger w is (unused_of ledger w facts e))
  of_left ledger w (Some ticket) (Some left) is facts e f = go (was_handed ticket device.router.queue) refl f
    where
      go : (handed : Bool) → was_handed ticket device.router.queue ≡ handed
          → (if handed then None else finished_in ticket withdrawal_result device) ≡ Some left
          → P (with_withdrawal w left) (Some ticket)
      go true h g = absurd (none-some left g)
      go false h g =
          subst (λ d. P (with_withdrawal w d) (Some ticket)) (ap (λ o. unwrap_or o device) g)
          (leaves ledger w ticket is (pending_of ledger w ticket facts e) e h (ap (λ o. is_some o) g))

  pub by-ticket : P (found_by text device) (ticket_withdrawn text device)
  by-ticket = go device.ledger refl
    where
      of_withdrawal : (ledger : LedgerState) (found : Option Withdrawal) → device.ledger ≡ Some ledger
          → withdrawal_of (Some ledger) text ≡ found
          → P (unwrap_or (option_and_then (withdrawn_from device) found) device) (option_and_then (ticket_left device) found)
      of_withdrawal ledger None is e = same
      of_withdrawal ledger (Some w) is e =
          of_left ledger w w.ticket (left_device w.ticket device) is (withdraws ledger w text e) refl refl

      go : (ledger : Option LedgerState) → device.ledger ≡ ledger
          → P (unwrap_or (option_and_then (withdrawn_from device) (withdrawal_of ledger text)) device)
          (option_and_then (ticket_left device) (withdrawal_of ledger text))
      go None is = same
      go (Some ledger) is = of_withdrawal ledger (withdrawal_of (Some ledger) text) is refl

-- ---- a command that is withdrawn, and then leaves the queue

-- what is withdrawn can be
pub pending-can : (ledger : LedgerState) (w : Withdrawal) → IsOfPending ledger w
    → can_withdraw ledger w.originator w.number ≡ true
pending-can ledger w is =
    ap (λ o. is_some (withdraw_by_slot ledger w.originator w.number o)) is.found
    ∙ (ap (λ b. is_some (if b then of_pending w.originator w.number is.slot else of_unused w.originator w.number is.slot))
    is.waits
    ∙ ap (λ b. is_some (if b then Some (of_command w.originator w.number is.slot.ticket) else None))
    (eq-eqb is.slot.number w.number is.number_is))

pub unused-can : (ledger : LedgerState) (w : Withdrawal) → IsOfUnused ledger w
    → can_withdraw ledger w.originator w.number ≡ true
unused-can ledger w is = go (slot_of w.originator ledger.taken) refl is.newer is.ended
  where
    go : (found : Option SlotState) → slot_of w.originator ledger.taken ≡ found → IsNewAt found w.number → HasEnded found
        → is_some (withdraw_by_slot ledger w.originator w.number found) ≡ true
    go None e newer ended =
        ap (λ b. is_some (if b then Some (of_command w.originator w.number None) else None))
        (lt-ltb (length ledger.taken) ledger.slots (is.free e))
    go (Some slot) e newer ended =
        ap (λ b. is_some (if b then of_pending w.originator w.number slot else of_unused w.originator w.number slot)) ended
        ∙ ap (λ b. is_some (if b then Some (of_command w.originator w.number None) else None))
        (lt-ltb slot.number w.number newer)

pub withdrawn-can : (ledger : LedgerState) (originator number : ℕ) → can_withdraw ledger originator number ≡ true
    → withdrawn originator number ledger ≡ with_withdrawn originator number ledger
withdrawn-can ledger originator number can =
    ap (λ b. if b then with_withdrawn originator number ledger else ledger) can

-- completing other slots and withdrawing this one can change places
module _ (originator number ticket : ℕ) (reply : List ℕ) where
  abbrev done : SlotState → SlotState
  done slot = completed_slot ticket reply slot

  with_slot-completed : (taken : List SlotState)
      → with_slot (slot_withdrawn originator number) (map done taken)
      ≡ map done (with_slot (slot_withdrawn originator number) taken)
  with_slot-completed [] = refl
  with_slot-completed (first ∷ taken) =
      ap (λ o. if o == originator then slot_withdrawn originator number ∷ map done taken
      else done first ∷ with_slot (slot_withdrawn originator number) (map done taken))
      (completed-originator ticket reply first)
      ∙ go (first.originator == originator) (with_slot-completed taken)
    where
      go : (own : Bool)
          → with_slot (slot_withdrawn originator number) (map done taken)
          ≡ map done (with_slot (slot_withdrawn originator number) taken)
          → (if own then slot_withdrawn originator number ∷ map done taken
          else done first ∷ with_slot (slot_withdrawn originator number) (map done taken))
          ≡ map done (if own then slot_withdrawn originator number ∷ taken
          else first ∷ with_slot (slot_withdrawn originator number) taken)
      go true later = refl
      go false later = ap (λ more. done first ∷ more) later

  length-done : (taken : List SlotState) → length (map done taken) ≡ length taken
  length-done [] = refl
  length-done (first ∷ taken) = ap suc (length-done taken)

  some_mapped : (found : Option SlotState) → is_some (option_map done found) ≡ is_some found
  some_mapped None = refl
  some_mapped (Some slot) = refl

  place-completed : (ledger : LedgerState)
      → has_place (with_completed ticket reply ledger) originator ≡ has_place ledger originator
  place-completed ledger =
      ap (λ o. is_some o || nat_lt (length (map done ledger.taken)) ledger.slots)
      (slot_of-completed ticket reply ledger.taken originator)
      ∙ (ap (λ b. b || nat_lt (length (map done ledger.taken)) ledger.slots) (some_mapped (slot_of originator ledger.taken))
      ∙ ap (λ n. is_some (slot_of originator ledger.taken) || nat_lt n ledger.slots) (length-done ledger.taken))

  pub place-finished : (ledger : LedgerState)
      → has_place (completed ledger ticket reply) originator ≡ has_place ledger originator
  place-finished ledger = go (is_kept_reply reply)
    where
      go : (kept : Bool)
          → has_place (if kept then with_completed ticket reply ledger else ledger) originator ≡ has_place ledger originator
      go true = place-completed ledger
      go false = refl

  abbrev with_slots : LedgerState → List SlotState → LedgerState
  with_slots ledger taken = record ledger { taken = taken }

  withdrawn-completed : (ledger : LedgerState)
      → with_withdrawn originator number (with_completed ticket reply ledger)
      ≡ with_completed ticket reply (with_withdrawn originator number ledger)
  withdrawn-completed ledger =
      ap (λ b. if b then with_taken (slot_withdrawn originator number) (with_completed ticket reply ledger)
      else with_completed ticket reply ledger) (place-completed ledger)
      ∙ go (has_place ledger originator)
    where
      go : (place : Bool)
          → (if place then with_taken (slot_withdrawn originator number) (with_completed ticket reply ledger)
          else with_completed ticket reply ledger)
          ≡ with_completed ticket reply
          (if place then with_taken (slot_withdrawn originator number) ledger else ledger)
      go true = ap (with_slots ledger) (with_slot-completed ledger.taken)
      go false = refl

  pub withdrawn-finished : (ledger : LedgerState)
      → with_withdrawn originator number (completed ledger ticket reply)
      ≡ completed (with_withdrawn originator number ledger) ticket reply
  withdrawn-finished ledger = go (is_kept_reply reply)
    where
      go : (kept : Bool)
          → with_withdrawn originator number (if kept then with_completed ticket reply ledger else ledger)
          ≡ (if kept then with_completed ticket reply (with_withdrawn originator number ledger)
          else with_withdrawn originator number ledger)
      go true = withdrawn-completed ledger
      go false = refl

-- ---- the ledger, as steps

-- the reply to the command that leaves the queue
abbrev pub text_by : Reply → Option FinishedCommand → List ℕ
text_by reply None = []
text_by reply (Some done) = finished_text done.service reply

abbrev pub text_left : ℕ → Device → List ℕ
text_left ticket device = text_by withdrawal_result (finished_of ticket withdrawal_result device.router.queue)

-- the ledger of the device that is left
pub left-ledger : (ticket : ℕ) (device : Device) → is_some (finished_in ticket withdrawal_result device) ≡ true
    → (device_left ticket device).ledger
    ≡ option_map (λ ledger. completed ledger ticket (text_left ticket device)) device.ledger
left-ledger ticket device some = go (finished_of ticket withdrawal_result device.router.queue) some
  where
    go : (done : Option FinishedCommand)
        → is_some (option_map (with_finished ticket withdrawal_result device) done) ≡ true
        → (unwrap_or (option_map (with_finished ticket withdrawal_result device) done) device).ledger
        ≡ option_map (λ ledger. completed ledger ticket (text_by withdrawal_result done)) device.ledger
    go None e = absurd (cc)
    go (Some done) e = refl

-- the ledger once a number is withdrawn, and once it is withdrawn after a ticket got its reply
pub withdrawn-in : (all : Option LedgerState) (ledger : LedgerState) (originator number : ℕ) → all ≡ Some ledger
    → can_withdraw ledger originator number ≡ true
    → option_map (withdrawn originator number) all ≡ option_map (with_withdrawn originator number) all
withdrawn-in all ledger originator number is can =
    subst (λ o. option_map (withdrawn originator number) o ≡ option_map (with_withdrawn originator number) o) (sym is)
    (ap Some (withdrawn-can ledger originator number can))

pub withdrawn-behind : (all : Option LedgerState) (ledger : LedgerState) (originator number ticket : ℕ) (reply : List ℕ)
    → all ≡ Some ledger → can_withdraw ledger originator number ≡ true
    → option_map (λ l. completed l ticket reply) (option_map (withdrawn originator number) all)
    ≡ option_map (with_withdrawn originator number) (option_map (λ l. completed l ticket reply) all)
withdrawn-behind all ledger originator number ticket reply is can =
    subst (λ o. option_map (λ l. completed l ticket reply) (option_map (withdrawn originator number) o)
    ≡ option_map (with_withdrawn originator number) (option_map (λ l. completed l ticket reply) o)) (sym is)
    (ap Some (ap (λ l. completed l ticket reply) (withdrawn-can ledger originator number can)
    ∙ sym (withdrawn-finished originator number ticket reply ledger)))

-- A fact on the ledger that stays true if a number is withdrawn, and if a ticket gets its reply, stays true.
module _ (Q : Option LedgerState → Type 0) (device : Device) (text : List ℕ)
    (gone : (ledger : LedgerState) (originator number : ℕ) → Q (Some ledger) → Q (Some (withdrawn originator number ledger)))
    (ended : (ledger : LedgerState) (ticket : ℕ) (reply : List ℕ) → Q (Some ledger) → Q (Some (completed ledger ticket reply)))
  where
    pub found-ledger : Q device.ledger → Q (found_by text device).ledger
    found-ledger before =
        by-ticket (λ d ticket. Q d.ledger) device text before
        (λ ledger w is facts.
        subst (λ (l : Option LedgerState). Q (option_map (with_withdrawn w.originator w.number) l)) (sym is)
        (subst (λ l. Q (Some l)) (withdrawn-can ledger w.originator w.number (unused-can ledger w facts))
        (gone ledger w.originator w.number (subst Q is before))))
        (λ ledger w ticket is facts of _ some.
        subst (λ (l : Option LedgerState). Q (option_map (with_withdrawn w.originator w.number) l))
        (sym (left-ledger ticket device some))
        (subst (λ (l : Option LedgerState). Q (option_map (with_withdrawn w.originator w.number)
        (option_map (λ k. completed k ticket (text_left ticket device)) l))) (sym is)
        (subst (λ l. Q (Some l))
        (sym (withdrawn-finished w.originator w.number ticket (text_left ticket device) ledger))
        (ended (with_withdrawn w.originator w.number ledger) ticket (text_left ticket device)
        (subst (λ l. Q (Some l)) (withdrawn-can ledger w.originator w.number (pending-can ledger w facts))
        (gone ledger w.originator w.number (subst Q is before)))))))

-- ---- a number stays settled

-- one that was withdrawn is that of its originator, or greater than the one before it
withdrawn-at-least : (ledger : LedgerState) (originator number : ℕ) (slot : SlotState)
    → can_withdraw ledger originator number ≡ true → slot_of originator ledger.taken ≡ Some slot
    → (slot.number ≡ number) ⊎ (slot.number < number)
withdrawn-at-least ledger originator number slot can found =
    go (is_pending slot) (subst (λ o. is_some (withdraw_by_slot ledger originator number o) ≡ true) found can)
  where
    same : (b : Bool) → (slot.number == number) ≡ b
        → is_some (if b then Some (of_command originator number slot.ticket) else None) ≡ true → slot.number ≡ number
    same true h e = eqb-true slot.number number h
    same false h e = absurd (cc)

    less : (b : Bool) → nat_lt slot.number number ≡ b
        → is_some (if b then Some (of_command originator number None) else None) ≡ true → slot.number < number
    less true h e = ltb-true slot.number number h
    less false h e = absurd (cc)

    go : (waits : Bool)
        → is_some (if waits then of_pending originator number slot else of_unused originator number slot) ≡ true
        → (slot.number ≡ number) ⊎ (slot.number < number)
    go true e = inl (same (slot.number == number) refl e)
    go false e = inr (less (nat_lt slot.number number) refl e)

abbrev StaysSettledAt : ℕ → Option SlotState → Type 0
StaysSettledAt number found = (other : List ℕ) × Settled number other found

pub withdrawn-stays : (ledger : LedgerState) (by own originator number : ℕ) (kept : List ℕ)
    → Settled number kept (slot_of originator ledger.taken)
    → (other : List ℕ) × Settled number other (slot_of originator (withdrawn by own ledger).taken)
withdrawn-stays ledger by own originator number kept settled = go (can_withdraw ledger by own) refl
  where
    new : SlotState
    new = slot_withdrawn by own

    by_slot : (found : Option SlotState) → slot_of by ledger.taken ≡ found → can_withdraw ledger by own ≡ true
        → Settled number kept found → StaysSettledAt number (Some new)
    by_slot None found can is = absurd is
    by_slot (Some slot) found can is = ends (withdrawn-at-least ledger by own slot can found) is
      where
        ends : (slot.number ≡ own) ⊎ (slot.number < own)
            → ((slot.number ≡ number) × (last_content slot ≡ kept)) ⊎ (number < slot.number)
            → StaysSettledAt number (Some new)
        ends (inl same) (inl is) = (last_content new, inl (sym same ∙ is.0, refl))
        ends (inl same) (inr less) = (last_content new, inr (subst (λ n. number < n) same less))
        ends (inr more) (inl is) = (last_content new, inr (subst (λ n. n < own) is.0 more))
        ends (inr more) (inr less) = (last_content new, inr (omega (arith, more, less)))

    own_slot : can_withdraw ledger by own ≡ true → by ≡ originator
        → StaysSettledAt number (slot_of originator (with_withdrawn by own ledger).taken)
    own_slot can same =
        subst (StaysSettledAt number)
        (sym (ap (λ o. slot_of o (with_withdrawn by own ledger).taken) (sym same)
        ∙ withdrawn-own ledger by own (can-place ledger by own can)))
        (by_slot (slot_of by ledger.taken) refl can
        (subst (λ o. Settled number kept (slot_of o ledger.taken)) (sym same) settled))

    by_name : (same : Bool) → (by == originator) ≡ same → can_withdraw ledger by own ≡ true
        → StaysSettledAt number (slot_of originator (with_withdrawn by own ledger).taken)
    by_name true h can = own_slot can (eqb-true by originator h)
    by_name false h can =
        (kept, subst (Settled number kept) (sym (withdrawn-other ledger by own originator (eqb-false by originator h))) settled)

    go : (can : Bool) → can_withdraw ledger by own ≡ can
        → StaysSettledAt number (slot_of originator (if can then with_withdrawn by own ledger else ledger).taken)
    go true h = by_name (by == originator) refl h
    go false h = (kept, settled)
