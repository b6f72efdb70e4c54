-- A ledger with a command in doubt, entry by entry.
use Rattle.std.proofs.Common.{◌≡◌, ℕ, zero, suc, ◌+◌, ◌≤◌, ◌==◌, List, [], ◌∷◌, length, Option, Bool, true, false, if◌then◌else◌, Some, None, refl, sym, ap, ◌∙◌, arith}
use Rattle.std.specs.Prelude.{slice_get}
use Rattle.std.proofs.lemmas.Bool.{ne_eqb}
use Rattle.cip_bytes.specs.Numbers.{le}
use Rattle.cip_ledger.specs.declared.doubt.DoubtfulCommand.{DoubtfulCommand}
use Rattle.cip_ledger.specs.Doubt.{can_doubt, doubted, with_last}
use Rattle.cip_ledger.specs.Executing.{doubted_by, doubtful}
use Rattle.cip_ledger.specs.Ledger.{LedgerState, SlotState, with_slot}
use Rattle.kept_adapter.specs.Saved.{ledger_bytes, bytes_of_slot}
use Rattle.saved_adapter.specs.Entries.{IsMarkedAt}

-- the life stays
same_life : (ledger : LedgerState) (command : DoubtfulCommand)
    → (doubted ledger command.originator command.number).life ≡ ledger.life
same_life ledger command = go (can_doubt ledger command.originator command.number)
  where
    go : (can : Bool)
        → (if can then with_last command.originator command.number None ledger else ledger).life ≡ ledger.life
    go true = refl
    go false = refl

pub other_slot : (ledger : LedgerState) (command : DoubtfulCommand) (index number : ℕ)
    → IsMarkedAt ledger (Some command) (Some index) → (number ≡ index + 1 → ⊥)
    → ledger_bytes ledger number ≡ ledger_bytes (doubted_by (Some command) ledger) number
other_slot ledger command index zero marked n = ap (le 8) (sym (same_life ledger command))
other_slot ledger command index (suc at) marked n =
    let other : at ≡ index → ⊥ = λ e. n (omega (arith, e)) in
    sym (ap bytes_of_slot (marked at
    ∙ ap (λ b. if b then Some (doubtful command) else slice_get ledger.taken at) (ne_eqb at index other)))

pub no_slot : (ledger : LedgerState) (command : DoubtfulCommand) (number : ℕ) → IsMarkedAt ledger (Some command) None
    → ledger_bytes ledger number ≡ ledger_bytes (doubted_by (Some command) ledger) number
no_slot ledger command number marked = ap (λ l. ledger_bytes l number) (sym marked)

-- there is one slot more at most
longer : (taken : List SlotState) (slot : SlotState) → length (with_slot slot taken) ≤ length taken + 1
longer [] slot = omega arith
longer (first ∷ taken) slot = go (first.originator == slot.originator) (longer taken slot)
  where
    go : (own : Bool) → length (with_slot slot taken) ≤ length taken + 1
        → length (if own then slot ∷ taken else first ∷ with_slot slot taken) ≤ suc (length taken) + 1
    go true h = omega arith
    go false h = omega (arith, h)

pub few_slots : (ledger : LedgerState) (doubt : Option DoubtfulCommand)
    → length (doubted_by doubt ledger).taken ≤ length ledger.taken + 1
few_slots ledger None = omega arith
few_slots ledger (Some command) = go (can_doubt ledger command.originator command.number)
  where
    go : (can : Bool)
        → length (if can then with_last command.originator command.number None ledger else ledger).taken
        ≤ length ledger.taken + 1
    go true = longer ledger.taken (doubtful command)
    go false = omega arith
