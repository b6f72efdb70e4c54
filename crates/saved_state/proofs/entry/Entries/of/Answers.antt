use Rattle.std.proofs.Common.{arith}
use Rattle.saved_state.proofs.FewLemmas.{few}
use Rattle.saved_state.proofs.entry.Entries.of.Goals as goal

pub returns-clause-few : goal.returns-clause-few
returns-clause-few c = let h = few c.args.count c.args.text.now in omega (arith, h, c.ranges.count.fits)
