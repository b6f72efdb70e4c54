use Rattle.std.proofs.Common.{◌≡◌, drop, map}
use Rattle.json.specs.Value.{items_view}
use Rattle.enip_owner.specs.Requests.{items_given, given_in}
use Rattle.enip_owner.proofs.ReadingLemmas.{in_front}
use Rattle.enip_owner.proofs.reading.items_of.Given as goal

abbrev pub invariant-loop-item : goal.invariant-loop-item
invariant-loop-item l =
    items_given (items_view l.items) ≡ in_front (map given_in l.values.items) (items_given (items_view (drop l.item-index l.items)))
