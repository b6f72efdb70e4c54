-- The ledger that is put back.
use Rattle.std.proofs.Common.{◌≡◌, ℕ, zero, suc, ◌+◌, ◌^◌, ◌<◌, ◌≤◌, ◌≡◌, eqb, ◌==◌, nat_lt, true, false, cond, unwrap_or, List, [], ◌∷◌, ◌++◌, length, append_assoc, Option, Some, None, sym, ap, ◌∙◌, arith}
use Rattle.std.proofs.lemmas.Bool.{eqb-true, and_parts}
use Rattle.std.proofs.lemmas.Bool.Decides.{nat_tests}
use Rattle.std.proofs.lemmas.List.{append-nil, length-append}
use Rattle.byteorder.specs.Numbers.{little_number-reads_back}
use Rattle.cip_bytes.specs.Numbers.{le, number_at}
use Rattle.cip_message.specs.declared.ledger_services.TheConstants.{LEDGER}
use Rattle.cip_ledger.specs.Kept.{IsLedger, restored as slot_restored}
use Rattle.cip_ledger.specs.Ledger.{SlotState, LedgerState, IsSlot, are_apt, empty_ledger}
use Rattle.cip_ledger.proofs.KeptLemmas.{next_restored, slot_behind}
use Rattle.cip_objects.specs.Contents.{Contents}
use Rattle.cip_objects.specs.Kept.{name_of}
use Rattle.device_state.specs.declared.restoring.Outcome.TheVariants.{Used}
use Rattle.device_state.specs.Keys.{key_of}
use Rattle.device_state.specs.Restored.{done, slot_in, if_restored, slot_done, ledger_done, with_ledger, by_name, restored_entry}
use Rattle.device_state.specs.Saved.{state_of, entry_of, life_entry, slot_bytes, slot_entries, ledger_entries}
use Rattle.device_state.proofs.KeyLemmas.{name_back}
use Rattle.device_state.proofs.Puts.{Leads, leads_nowhere, leads_on}

abbrev state : ℕ → ℕ → List SlotState → LedgerState
state slots life taken = record { slots = slots; life = life; taken = taken }

-- the life
life_back : (life : ℕ) → life < 2 ^ 64 → number_at 0 8 (le 8 life) ≡ life
life_back life h = ap (number_at 0 8) (sym (append-nil (le 8 life))) ∙ little_number-reads_back 8 life [] h

life_put : (m : Contents) (slots old life : ℕ) → life < 2 ^ 64 → restored_entry (state_of m (Some (state slots old []))) (life_entry life) ≡ done (state_of m (Some (state slots life []))) Used
life_put m slots old life h =
    ap (by_name (state_of m (Some (state slots old []))) (le 8 life)) (name_back LEDGER 0 0 (omega arith) (omega arith) (omega arith))
    ∙ ap (λ n. done (state_of m (Some (state slots n []))) Used) (life_back life h)

-- a slot
long : (n : ℕ) → nat_lt (13 + n) 13 ≡ false
long n = grind (arith, nat_tests)

abbrev slot_of : ℕ → ℕ → Option (List ℕ) → Option ℕ → SlotState
slot_of originator number reply ticket = record { originator = originator; number = number; reply = reply; ticket = ticket }

ticket_back : (ticket : ℕ) → ticket < 2 ^ 32 → number_at 0 4 (le 4 ticket) ≡ ticket
ticket_back ticket h = ap (number_at 0 4) (sym (append-nil (le 4 ticket))) ∙ little_number-reads_back 4 ticket [] h

slot_back_by : (o n : ℕ) (reply : Option (List ℕ)) (ticket : Option ℕ) → o < 2 ^ 64 → n < 2 ^ 32 → unwrap_or ticket 0 < 2 ^ 32 → are_apt reply ticket ≡ true → slot_in (slot_bytes (slot_of o n reply ticket)) ≡ Some (slot_of o n reply ticket)
slot_back_by o n None None wide narrow below one =
    let b = slot_bytes (slot_of o n None None) in
    let a : number_at 0 8 b ≡ o = little_number-reads_back 8 o (le 4 n ++ 2 ∷ []) wide in
    let c : number_at 8 4 b ≡ n = little_number-reads_back 4 n (2 ∷ []) narrow in
    ap (λ k. Some (slot_of k (number_at 8 4 b) None None)) a ∙ ap (λ k. Some (slot_of o k None None)) c
slot_back_by o n None (Some ticket) wide narrow below one =
    let b = slot_bytes (slot_of o n None (Some ticket)) in
    let a : number_at 0 8 b ≡ o = little_number-reads_back 8 o (le 4 n ++ 1 ∷ le 4 ticket) wide in
    let c : number_at 8 4 b ≡ n = little_number-reads_back 4 n (1 ∷ le 4 ticket) narrow in
    let t = number_at 0 4 (le 4 ticket) in
    ap (λ k. Some (slot_of k (number_at 8 4 b) None (Some t))) a
    ∙ ap (λ k. Some (slot_of o k None (Some t))) c
    ∙ ap (λ k. Some (slot_of o n None (Some k))) (ticket_back ticket below)
slot_back_by o n (Some []) (Some zero) wide narrow below one =
    let b = slot_bytes (slot_of o n (Some []) (Some 0)) in
    let a : number_at 0 8 b ≡ o = little_number-reads_back 8 o (le 4 n ++ 3 ∷ []) wide in
    let c : number_at 8 4 b ≡ n = little_number-reads_back 4 n (3 ∷ []) narrow in
    ap (λ k. Some (slot_of k (number_at 8 4 b) (Some []) (Some 0))) a
    ∙ ap (λ k. Some (slot_of o k (Some []) (Some 0))) c
slot_back_by o n (Some []) (Some (suc ticket)) wide narrow below one =
    let same = eqb-true (suc ticket) 0 one in absurd (omega (arith, same))
slot_back_by o n (Some (byte ∷ reply)) (Some ticket) wide narrow below one =
    let both = and_parts (length (byte ∷ reply) == 0) (ticket == 0) one in
    let same = eqb-true (length (byte ∷ reply)) 0 both.0 in absurd (omega (arith, same))
slot_back_by o n (Some reply) None wide narrow below one =
    let b = slot_bytes (slot_of o n (Some reply) None) in
    let size : length b ≡ 13 + length reply = omega (arith, length-append (le 8 o) (le 4 n ++ 0 ∷ reply), length-append (le 4 n) (0 ∷ reply)) in
    let a : number_at 0 8 b ≡ o = little_number-reads_back 8 o (le 4 n ++ 0 ∷ reply) wide in
    let c : number_at 8 4 b ≡ n = little_number-reads_back 4 n (0 ∷ reply) narrow in
    let whole : Option SlotState = Some (slot_of (number_at 0 8 b) (number_at 8 4 b) (Some reply) None) in
    ap (λ t. cond t None whole) (ap (λ k. nat_lt k 13) size ∙ long (length reply))
    ∙ ap (λ k. Some (slot_of k (number_at 8 4 b) (Some reply) None)) a
    ∙ ap (λ k. Some (slot_of o k (Some reply) None)) c

pub slot_back : (slot : SlotState) → IsSlot slot → slot_in (slot_bytes slot) ≡ Some slot
slot_back slot is = slot_back_by slot.originator slot.number slot.reply slot.ticket is.originator is.number is.ticket is.one

not_first : (n : ℕ) → 1 ≤ n → eqb n 0 ≡ false
not_first n h = grind (arith, nat_tests)

slot_put : (m : Contents) (l after : LedgerState) (number : ℕ) (slot : SlotState) → 1 ≤ number → number < 2 ^ 16 → IsSlot slot → slot_restored slot l ≡ Some after
    → restored_entry (state_of m (Some l)) (entry_of (key_of LEDGER number 0) (slot_bytes slot)) ≡ done (state_of m (Some after)) Used
slot_put m l after number slot above narrow is e =
    let b = slot_bytes slot in
    ap (by_name (state_of m (Some l)) b) (name_back LEDGER number 0 (omega arith) narrow (omega arith))
    ∙ ap (λ t. with_ledger m (cond t (ledger_done l (name_of LEDGER 0 0) b) (slot_done l (slot_in b)))) (not_first number above)
    ∙ ap (λ o. with_ledger m (slot_done l o)) (slot_back slot is)
    ∙ ap (λ o. with_ledger m (if_restored l o)) e

slots_lead : (m : Contents) (slots life number : ℕ) (front rest : List SlotState) → IsLedger (state slots life (front ++ rest)) → number ≡ 1 + length front
    → Leads (state_of m (Some (state slots life front))) (slot_entries number rest) (state_of m (Some (state slots life (front ++ rest))))
slots_lead m slots life number front [] is e =
    rw (append-nil front) (leads_nowhere (state_of m (Some (state slots life front))))
slots_lead m slots life number front (slot ∷ rest) is e =
    let same = append_assoc front (slot ∷ []) rest in
    let now : IsLedger (state slots life ((front ++ slot ∷ []) ++ rest)) = rw same is in
    let further : suc number ≡ 1 + length (front ++ slot ∷ []) = omega (arith, e, length-append front (slot ∷ [])) in
    let narrow : number < 2 ^ 16 = omega (arith, e, is.few, is.within, length-append front (slot ∷ rest)) in
    leads_on (state_of m (Some (state slots life front))) (state_of m (Some (state slots life (front ++ slot ∷ [])))) (state_of m (Some (state slots life (front ++ slot ∷ rest))))
    (entry_of (key_of LEDGER number 0) (slot_bytes slot)) (slot_entries (suc number) rest)
    (slot_put m (state slots life front) (state slots life (front ++ slot ∷ [])) number slot (omega (arith, e)) narrow (slot_behind front rest slot is.sized) (next_restored slots life front rest slot is))
    (rw (← same) (slots_lead m slots life (suc number) (front ++ slot ∷ []) rest now further))

pub ledger_leads : (m : Contents) (l : LedgerState) (life : ℕ) → IsLedger l → Leads (state_of m (Some (empty_ledger l.slots life))) (ledger_entries (Some l)) (state_of m (Some l))
ledger_leads m l life is =
    leads_on (state_of m (Some (empty_ledger l.slots life))) (state_of m (Some (state l.slots l.life []))) (state_of m (Some l)) (life_entry l.life) (slot_entries 1 l.taken)
    (life_put m l.slots life l.life is.life)
    (slots_lead m l.slots l.life 1 [] l.taken is (omega arith))
