use Rattle.std.proofs.Common.{map, ap, sym, ◌∙◌, List, drop}
use Rattle.std.proofs.lemmas.Result.{err_from_is_err_and}
use Rattle.json.specs.Value.{value_view, items_view}
use Rattle.enip_owner.specs.Requests.{Given, given_in, items_given, value_given}
use Rattle.enip_owner.proofs.ReadingLemmas.{in_front, nothing_in_front, item_step, item_fails, all_given, also_fails}
use Rattle.enip_owner.proofs.reading.items_of.Goals as goal

pub loop-item-init : goal.loop-item-init
loop-item-init c = rw c.new-values.ensures.items (nothing_in_front (items_given (items_view c.args.items.now)))

pub loop-item-preserved : goal.loop-item-preserved
loop-item-preserved c =
    c.loop-item.invariant
    ∙ rw c.in_ok-push.ensures.items
    (item_step c.args.items.now c.loop-item.item-index c.item-item.result c.loop-item.values.items c.in_ok-value_of.field-0 c.loop-item-test.true
    (rw (← c.item-item.is) c.in_ok-value_of.ensures))

pub returns-in_err-value_of : goal.returns-in_err-value_of
returns-in_err-value_of c =
    let p = err_from_is_err_and c.from_residual.result c.from_residual.ensures.1 in
    rw (p.1, p.2)
    (also_fails c.in_err-value_of.field-0.0 (value_given (value_view c.item-item.result)) (items_given (items_view c.args.items.now))
    c.in_err-value_of.ensures
    (λ is. c.loop-item.invariant
    ∙ item_fails c.args.items.now c.loop-item.item-index c.item-item.result (map given_in c.loop-item.values.items)
    c.in_err-value_of.field-0.0 c.loop-item-test.true (rw (← c.item-item.is) is)))

pub returns : goal.returns
returns c =
    c.loop-item.invariant ∙ all_given c.args.items.now c.loop-item.item-index (map given_in c.loop-item.values.items) c.loop-item-test.false
