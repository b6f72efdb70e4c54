use Rattle.std.proofs.Common.{◌≡◌, drop}
use Rattle.std.specs.Prelude.{option_map}
use Rattle.kept_adapter.specs.Started.{has_given_each}
use Rattle.kept_adapter.proofs.tickets.has_given_each.Given as goal

abbrev pub invariant-loop-index : goal.invariant-loop-index
invariant-loop-index l =
    has_given_each (drop l.index l.ledger.taken) (option_map (λ q. q.now) l.queue)
    ≡ has_given_each l.ledger.taken (option_map (λ q. q.now) l.queue)
