use Rattle.std.proofs.Common.{◌≡◌, ap, sym, ◌∙◌}
use Rattle.device_start.specs.Preparing.{first_unknown}
use Rattle.enip_keep.specs.Kept.{pairs_of}
use Rattle.kept_adapter.specs.Preparing.{configured_values, preparation}
use Rattle.device_start.proofs.prepared.prepare.Goals as goal

pub returns-clause-changes : goal.returns-clause-changes
returns-clause-changes c =
    let values : pairs_of c.deref.result.now ≡ configured_values c.args.start.now
    = ap (λ es. pairs_of es) c.deref.ensures.value ∙ c.in_ok-values.ensures in (
      c.in_ok-wanted.wanted,
      c.in_ok-wanted.ensures.drops,
      c.in_ok-wanted.ensures.accepts,
      ap (λ vs. first_unknown vs c.in_ok-wanted.wanted.resets.items) (sym values) ∙ c.in_ok-wanted.ensures.resets,
      c.in_ok-changes.ensures.changes ∙ ap (λ es. preparation c.args.start.now c.in_ok-wanted.wanted (pairs_of es)) c.deref-2.ensures.value,
    )
