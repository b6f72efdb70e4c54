use Rattle.std.proofs.Common.{◌≡◌, drop}
use Rattle.json.specs.Value.{members_view}
use Rattle.enip_owner.specs.Requests.{are_known}
use Rattle.enip_owner.proofs.reading.are_known.Given as goal

abbrev pub invariant-loop-member : goal.invariant-loop-member
invariant-loop-member l =
    are_known l.known (members_view l.members) ≡ are_known l.known (members_view (drop l.member-index l.members))
