use Rattle.std.proofs.Common.{rules, ◌≡◌, ◌≢◌, ◌<◌, ◌∙◌, sym, false, length, get_or}
use Rattle.hex.specs.Hex.{is_hex_digit}
use Rattle.enip_commands.proofs.HexLemmas.{spelled, stopped, ended}
use Rattle.enip_commands.proofs.hexadecimal.is_hexadecimal.Goals as goal

pub returns-then-not-is_digit : goal.returns-then-not-is_digit
returns-then-not-is_digit c =
    let rest = c.loop-rest.rest.now in
    let some : 0 < length rest = search rules in
    let other : get_or rest 0 0 ≢ 32 = search rules in
    let no_digit : is_hex_digit (get_or rest 0 0) ≡ false = search rules in
    sym (stopped c.loop-rest.is_half rest some other no_digit) ∙ c.loop-rest.invariant ∙ spelled c.args.text.now

pub returns : goal.returns
returns c =
    let none : length c.loop-rest.rest.now ≡ 0 = search rules in
    sym (ended c.loop-rest.is_half c.loop-rest.rest.now none) ∙ c.loop-rest.invariant ∙ spelled c.args.text.now
