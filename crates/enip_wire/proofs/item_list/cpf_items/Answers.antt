use Rattle.std.proofs.Common.{Ok, Err, arith}
use Rattle.enip_wire.specs.declared.item_list.CpfFault.TheVariants.{Short, Trailing}
use Rattle.enip_wire.proofs.ItemLemmas.{items_iff}
use Rattle.enip_wire.proofs.item_list.cpf_items.Goals as goal

pub returns-clause-spelled : goal.returns-clause-spelled
returns-clause-spelled c l =
    items_iff c.args.text.now c.read_items.result (Ok l) (λ i. omega (arith, c.type_inv.text i)) c.read_items.ensures

pub returns-clause-short : goal.returns-clause-short
returns-clause-short c =
    items_iff c.args.text.now c.read_items.result (Err Short) (λ i. omega (arith, c.type_inv.text i)) c.read_items.ensures

pub returns-clause-trailing : goal.returns-clause-trailing
returns-clause-trailing c =
    items_iff c.args.text.now c.read_items.result (Err Trailing) (λ i. omega (arith, c.type_inv.text i)) c.read_items.ensures
