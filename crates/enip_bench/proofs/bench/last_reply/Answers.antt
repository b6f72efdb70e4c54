use Rattle.std.proofs.Common.{ap, sym, ◌∙◌}
use Rattle.std.specs.Option.{option_copied}
use Rattle.enip_bench.proofs.BenchLemmas.{last-at}
use Rattle.enip_bench.proofs.bench.last_reply.Goals as goal

pub returns-in-Some : goal.returns-in-Some
returns-in-Some c =
    c.as_slice.ensures
    ∙ sym (last-at c.args.accepted.now c.in-Some.one.now (sym c.last.ensures.value ∙ ap option_copied c.in-Some.is))
