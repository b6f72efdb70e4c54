use Rattle.std.proofs.Common.{length, ap, sym, ◌∙◌, arith}
use Rattle.std.specs.Prelude.{filter}
use Rattle.std.proofs.lemmas.List.{take_all}
use Rattle.enip_adapter.proofs.MapLemmas.{is_at_group, slots_of_group, at_most}
use Rattle.enip_adapter.proofs.peer_slots.peers_of_group.Goals as goal

pub returns-clause-count : goal.returns-clause-count
returns-clause-count c =
    c.loop-index.invariant.0
    ∙ (ap (λ ps. length (filter (is_at_group c.args.group) ps)) (take_all c.loop-index.index c.args.places.now (omega arith))
    ∙ sym (slots_of_group c.args.group c.args.places.now))

pub returns-clause-within : goal.returns-clause-within
returns-clause-within c =
    let all = ap (λ ps. length (filter (is_at_group c.args.group) ps))
    (take_all c.loop-index.index c.args.places.now (omega arith)) in
    let few = at_most (is_at_group c.args.group) c.args.places.now in
    omega (arith, c.loop-index.invariant.0, all, few)
