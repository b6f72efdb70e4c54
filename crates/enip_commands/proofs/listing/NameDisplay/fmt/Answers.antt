use Rattle.std.proofs.Common.{rules, refl}
use Rattle.std.proofs.Output.{has_written_append, has_written_of_eq}
use Rattle.enip_commands.proofs.ListingLemmas.{name_text-more}
use Rattle.enip_commands.proofs.listing.NameDisplay.fmt.Goals as goal

pub loop-byte-init : goal.loop-byte-init
loop-byte-init g c = λ plain. search rules

pub loop-byte-preserved : goal.loop-byte-preserved
loop-byte-preserved g c = λ plain.
    let before = c.loop-byte.invariant plain in
    has_written_of_eq _ _ _ _ _ (name_text-more c.args.self.now.0.now c.loop-byte.byte-index c.loop-byte-test.true)
    (has_written_append _ _ _ _ _ _ before (c.in_ok-write.ensures.writes before.plain refl))
