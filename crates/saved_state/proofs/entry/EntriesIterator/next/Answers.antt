use Rattle.std.proofs.Common.{◌≡◌, ◌∷◌, ◌-◌, length, rules, sym, ap, ◌∙◌, arith}
use Rattle.saved_state.specs.Reading.{entry_at, first_entries}
use Rattle.saved_state.proofs.EntryLemmas.{first_entries-next}
use Rattle.saved_state.proofs.entry.EntriesIterator.next.Goals as goal

pub returns-clause-goes : goal.returns-clause-goes
returns-clause-goes c =
    let left : c.args.self.now
    ≡ entry_at c.self.inside.text.now ∷ first_entries (c.self.inside.left - 1) c.in_ok-entry.rest.now
    = sym c.self.view_is
    ∙ first_entries-next c.self.inside.left c.self.inside.text.now c.in_ok-entry.rest.now (omega arith)
    c.in_ok-entry.ensures.0 c.in_ok-entry.ensures.2 in
    let fewer = ap length left in
    record { on = λ _. (search rules, tt, omega arith); keeps = search rules; rests = λ _. tt }
