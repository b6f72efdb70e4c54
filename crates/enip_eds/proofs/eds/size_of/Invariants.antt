use Rattle.std.proofs.Common.{◌≡◌, sum, take}
use Rattle.enip_eds.proofs.eds.size_of.Given as goal

abbrev pub invariant-loop-member : goal.invariant-loop-member
invariant-loop-member l = l.size ≡ sum (take l.member-index l.members)
