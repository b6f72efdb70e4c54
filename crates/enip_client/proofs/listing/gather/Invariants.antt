use Rattle.std.proofs.Common.{◌≡◌, ◌-◌, ◌^◌}
use Rattle.enip_client.proofs.ListingLemmas.{Came}
use Rattle.enip_client.proofs.listing.gather.Given as goal

abbrev pub invariant-loop-reader : goal.invariant-loop-reader
invariant-loop-reader g l = record {
  failures : g.R.Source.failures l.reader ≡ g.R.Source.failures l.fn.reader;
  came : Came (g.R.Source.left l.fn.reader) (g.R.Source.left l.reader) l.frames;
}

abbrev pub decreases-loop-reader : goal.decreases-loop-reader
decreases-loop-reader g l = 2 ^ 64 - 1 - g.R.Source.reads l.reader
