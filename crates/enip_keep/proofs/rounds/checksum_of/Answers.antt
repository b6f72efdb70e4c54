use Rattle.std.proofs.Common.{rules, take_all}
use Rattle.enip_keep.specs.Rounds.{checksum_of}
use Rattle.enip_keep.proofs.rounds.checksum_of.Goals as goal

pub returns : goal.returns
unfolding checksum_of
returns c = search (rules, take_all)
