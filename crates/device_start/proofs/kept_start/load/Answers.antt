use Rattle.std.proofs.Common.{◌≡◌, subst, arith}
use Rattle.device_start.specs.Preparing.{IsPrepared}
use Rattle.enip_keep.specs.Kept.{Kept, pairs_of}
use Rattle.device_start.proofs.kept_start.load.Goals as goal

pub returns-in-Ok-commit_loaded-clause-prepared : goal.returns-in-Ok-commit_loaded-clause-prepared
returns-in-Ok-commit_loaded-clause-prepared g c = λ sure.
    let certain : g.K.Keeper.doubt c.load.new.self ≡ 0 = omega (arith, sure, c.commit_loaded.ensures.doubt) in
    subst (λ (kept : Kept). IsPrepared c.args.start c.in_ok-start.start c.args.wishes kept
    (pairs_of c.prepare_later.new.entries.items))
    (c.in-Ok.ensures.pairs certain) c.in_ok-start.ensures.prepared
