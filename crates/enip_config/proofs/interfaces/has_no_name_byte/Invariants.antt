use Rattle.std.proofs.Common.{◌≡◌, drop}
use Rattle.std.specs.List.{list_any}
use Rattle.enip_config.specs.Interfaces.{is_no_name_byte}
use Rattle.enip_config.proofs.interfaces.has_no_name_byte.Given as goal

abbrev pub invariant-loop-byte : goal.invariant-loop-byte
invariant-loop-byte l = list_any is_no_name_byte (drop l.byte-index l.name) ≡ list_any is_no_name_byte l.name
