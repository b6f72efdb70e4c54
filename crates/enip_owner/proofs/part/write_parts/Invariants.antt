use Rattle.std.proofs.Common.{take}
use Rattle.std.specs.List.{flat_map}
use Rattle.enip_owner.specs.Parts.{part_tokens}
use Rattle.enip_owner.proofs.PartLemmas.{AreAdded}
use Rattle.enip_owner.proofs.part.write_parts.Given as goal

abbrev pub invariant-loop-part : goal.invariant-loop-part
invariant-loop-part l = AreAdded l.fn.writer l.writer (flat_map part_tokens (take l.part-index l.parts))
