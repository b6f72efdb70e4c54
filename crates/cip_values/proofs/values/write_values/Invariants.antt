use Rattle.std.proofs.Common.{map, take}
use Rattle.cip_values.proofs.Written.{SoFar}
use Rattle.cip_values.proofs.values.write_values.Given as goal

abbrev pub invariant-loop-word : goal.invariant-loop-word
invariant-loop-word l = SoFar l.value_type (map (λ word. word.now) (take l.word-index l.words)) l.bytes.items
