use Rattle.std.proofs.Common.{◌≡◌, ◌+◌, ◌*◌, ◌≤◌, drop}
use Rattle.cip_layouts.specs.Fields.{total}
use Rattle.cip_layouts.proofs.writing.total.Given as goal

abbrev pub invariant-loop-field : goal.invariant-loop-field
invariant-loop-field l =
    (l.total + total (drop l.field-index l.fields) ≡ total l.fields) × (l.total ≤ 65535 * l.field-index)
