use Rattle.std.proofs.Common.{◌≡◌, drop, map}
use Rattle.enip_config.specs.Keys.{row}
use Rattle.enip_config.specs.Known.{is_among}
use Rattle.enip_config.proofs.known.is_number.Given as goal

abbrev pub invariant-loop-key : goal.invariant-loop-key
invariant-loop-key l =
    is_among (map (λ key. (row key).name) (drop l.key-index l.keys)) l.name
    ≡ is_among (map (λ key. (row key).name) l.keys) l.name
