use Rattle.std.proofs.Common.{◌≡◌, length}
use Rattle.enip_owner.specs.Values.{latin_bytes}
use Rattle.enip_owner.proofs.ValueLemmas.{with_front}
use Rattle.enip_owner.proofs.written_values.latin_bytes.Given as goal

abbrev pub invariant-loop-rest : goal.invariant-loop-rest
invariant-loop-rest l = with_front l.bytes.items (latin_bytes l.rest) ≡ latin_bytes l.text

abbrev pub decreases-loop-rest : goal.decreases-loop-rest
decreases-loop-rest l = length l.rest
