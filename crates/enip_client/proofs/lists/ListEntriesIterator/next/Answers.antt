use Rattle.std.proofs.Common.{length, Some, None, refl, sym, ap, ◌∙◌, arith, rules}
use Rattle.std.specs.Option.{option_map}
use Rattle.enip_wire.specs.Items.{item_of}
use Rattle.enip_client.specs.Lists.{entries_in, entry_shown}
use Rattle.enip_client.proofs.ListsLemmas.{more_of}
use Rattle.enip_client.proofs.lists.ListEntriesIterator.next.Goals as goal

pub loop-item-init : goal.loop-item-init
loop-item-init c = record { left = refl }

pub returns-in_err-item-clause-steps : goal.returns-in_err-item-clause-steps
returns-in_err-item-clause-steps c =
    let command = c.loop-item.self.command in
    rw c.from_residual.ensures
    (c.loop-item.invariant.left ∙ ap (entries_in command) c.in_err-item.ensures.steps.0, ap (entries_in command) c.in_err-item.ensures.steps.1)

pub returns-in-Some-clause-steps : goal.returns-in-Some-clause-steps
returns-in-Some-clause-steps c =
    let command = c.loop-item.self.command in
    c.loop-item.invariant.left ∙ ap (entries_in command) c.in_ok-item.ensures.steps
    ∙ more_of command (item_of c.in_ok-item.item) c.next.new.self (Some (entry_shown c.in-Some.entry)) (sym c.in-Some.ensures)

pub returns-in-Some-clause-goes : goal.returns-in-Some-clause-goes
returns-in-Some-clause-goes c = let steps = returns-in-Some-clause-steps c in search rules

pub loop-item-smaller : goal.loop-item-smaller
loop-item-smaller c = omega (arith, ap length c.in_ok-item.ensures.steps)

pub loop-item-preserved : goal.loop-item-preserved
loop-item-preserved c =
    let command = c.loop-item.self.command in
    record {
      left = c.loop-item.invariant.left ∙ ap (entries_in command) c.in_ok-item.ensures.steps
          ∙ more_of command (item_of c.in_ok-item.item) c.next.new.self None (sym c.entry.ensures ∙ ap (option_map entry_shown) c.in_default.is);
    }
