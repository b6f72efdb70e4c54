use Rattle.std.proofs.Common.{◌≡◌, true, false, arith, rules}
use Rattle.owner_port.specs.Handing.{Full}
use Rattle.owner_port.specs.Sessions.{has_space}
use Rattle.owner_port.proofs.HandLemmas.{none_left, one_more, fewer_left}
use Rattle.owner_port.proofs.handing.+hand_all.Goals as goal

pub returns-then-not-has_space : goal.returns-then-not-has_space
returns-then-not-has_space t c =
    let full : has_space c.args.session.now ≡ false = search rules in
    Full c.args.hand_over.now c.args.session.now full

pub returns-in_default : goal.returns-in_default
returns-in_default t c =
    none_left c.args.queue.now c.args.senders.now.known.items c.args.tickets.now c.args.hand_over.now c.next.new.self
    c.args.session.now c.next.result c.next.ensures.next c.next.ensures.after (search rules)

pub hand_all-requires : goal.hand_all-requires
hand_all-requires t c =
    let fewer = fewer_left c.args.hand_over.now c.next.new.self c.args.tickets.now c.next.result c.in-Some.handed
    c.next.ensures.next c.in-Some.is c.next.ensures.after in
    (omega (arith, fewer, c.decreases), tt)

pub returns : goal.returns
returns t c =
    let space : has_space c.args.session.now ≡ true = search rules in
    one_more c.args.queue.now c.args.senders.now.known.items c.args.tickets.now c.args.hand_over.now c.next.new.self
    c.hand_all.new.hand_over c.args.session.now c.send_handed.new.session c.hand_all.new.session c.next.result c.in-Some.handed
    space c.next.ensures.next c.in-Some.is c.next.ensures.after c.send_handed.ensures c.hand_all.ensures
