use Rattle.std.proofs.Common.{◌≡◌, ◌||◌, nat_lt, drop}
use Rattle.std.specs.List.{list_any}
use Rattle.enip_config.proofs.standard.is_text.Given as goal

abbrev pub invariant-loop-byte : goal.invariant-loop-byte
invariant-loop-byte l =
    list_any (λ byte. nat_lt byte 0x20 || nat_lt 0x7e byte) (drop l.byte-index l.text) ≡ list_any (λ byte. nat_lt byte 0x20 || nat_lt 0x7e byte) l.text
