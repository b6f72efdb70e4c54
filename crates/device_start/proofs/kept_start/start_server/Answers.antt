use Rattle.std.proofs.Common.{◌≡◌, ap, sym, ◌∙◌, arith}
use Rattle.enip_keep.specs.Kept.{Kept, pairs_of}
use Rattle.kept_adapter.specs.declared.adapter_start.AdapterStart.{AdapterStart}
use Rattle.kept_adapter.specs.Saved.{saved_adapter}
use Rattle.kept_adapter.specs.Started.{started, waiting_keys}
use Rattle.kept_server.specs.Rounds.{contents_with}
use Rattle.device_start.proofs.kept_start.start_server.Goals as goal

pub returns-in-Ok-clause-goes_on : goal.returns-in-Ok-clause-goes_on
returns-in-Ok-clause-goes_on g c = λ sure.
    let later : AdapterStart = c.in_ok-keeper.start in
    let certain : g.K.Keeper.doubt c.in_ok-keeper.keeper ≡ 0 = omega (arith, sure, c.in-Ok.ensures.doubt) in (
      later,
      pairs_of c.in_ok-keeper.entries.items,
      c.in_ok-keeper.ensures.prepared certain,
      c.in-Ok.ensures.contents sure
          ∙ ap (λ (kept : Kept). contents_with saved_adapter (waiting_keys later kept) kept (started later kept))
          (sym (c.in_ok-keeper.ensures.loaded certain)),
    )
