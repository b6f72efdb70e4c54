use Rattle.std.proofs.Common.{◌≡◌, string_bytes, take}
use Rattle.enip_lines.specs.JsonValues.{latin}
use Rattle.enip_lines.proofs.latin.latin_text.Given as goal

abbrev pub invariant-loop-byte : goal.invariant-loop-byte
invariant-loop-byte l = string_bytes l.text ≡ latin (take l.byte-index l.bytes)
