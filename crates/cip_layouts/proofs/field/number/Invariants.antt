use Rattle.std.proofs.Common.{◌≡◌, ◌<◌, drop}
use Rattle.cip_layouts.specs.Layouts.{number_after}
use Rattle.cip_layouts.proofs.field.number.Given as goal

abbrev pub invariant-loop-byte : goal.invariant-loop-byte
invariant-loop-byte l =
    (number_after 0 l.text ≡ number_after l.number (drop l.byte-index l.text)) × (l.number < 65536)
