use Rattle.std.proofs.Common.{◌<◌, ◌≤◌, length, sym, arith}
use Rattle.std.proofs.lemmas.Option.{slice_get_within}
use Rattle.cip_owner.specs.QueueViews.{waiting_in}
use Rattle.owner_port.proofs.HandLemmas.{collected, none_from}
use Rattle.owner_port.proofs.handing.+collect_from.Goals as goal

pub overflow_add-index : goal.overflow_add-index
overflow_add-index t c =
    let within : c.args.index < length c.args.queue.now.waiting =
    slice_get_within c.args.queue.now.waiting c.args.index (waiting_in c.in-Some.command) (sym c.in-Some.ensures.command) in
    let few : length c.args.queue.now.waiting ≤ c.args.queue.now.limit = c.waiting_count-count.ensures.queue.within in
    let most : c.args.queue.now.limit ≤ 256 = c.waiting_count-count.ensures.queue.few in
    omega (arith, within, few, most)

pub collect_from-requires : goal.collect_from-requires
collect_from-requires t c =
    let within : c.args.index < length c.args.queue.now.waiting =
    slice_get_within c.args.queue.now.waiting c.args.index (waiting_in c.in-Some.command) (sym c.in-Some.ensures.command) in
    (omega (arith, within, c.decreases), tt)

pub returns-in_default : goal.returns-in_default
returns-in_default t c =
    none_from c.args.queue.now c.args.index c.args.tickets.now.items (sym c.in_default.ensures.command)

pub returns : goal.returns
returns t c =
    collected c.collect_from.result c.args.queue.now c.args.index (waiting_in c.in-Some.command) c.args.tickets.now.items
    c.push_if_marked.new.tickets.items c.collect_from.new.tickets.items (sym c.in-Some.ensures.command)
    c.in_ok-push_if_marked.ensures c.collect_from.ensures
