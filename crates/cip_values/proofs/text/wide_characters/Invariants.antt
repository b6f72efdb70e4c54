use Rattle.std.proofs.Common.{◌≡◌, ◌++◌, length}
use Rattle.cip_bytes.specs.Numbers.{words_of}
use Rattle.cip_values.proofs.text.wide_characters.Given as goal

abbrev pub invariant-characters : goal.invariant-characters
invariant-characters l = words_of l.fn.text ≡ l.units.items ++ words_of l.rest

abbrev pub decreases-characters : goal.decreases-characters
decreases-characters l = length l.rest
