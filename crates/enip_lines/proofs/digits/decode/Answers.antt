use Rattle.std.proofs.Common.{◌≡◌, ◌==◌, false, rules}
use Rattle.std.specs.List.{list_any}
use Rattle.enip_lines.proofs.DigitLemmas.{without_none}
use Rattle.enip_lines.proofs.digits.decode.Goals as goal

pub returns-then-not-contains-clause-read : goal.returns-then-not-contains-clause-read
returns-then-not-contains-clause-read c =
    let none : list_any (λ byte. byte == 32) c.args.text.now ≡ false = search rules in
    rw (without_none c.args.text.now none) c.decode_digits.ensures.read

pub returns-then-not-contains-clause-bytes : goal.returns-then-not-contains-clause-bytes
returns-then-not-contains-clause-bytes c =
    let none : list_any (λ byte. byte == 32) c.args.text.now ≡ false = search rules in
    rw (without_none c.args.text.now none) c.decode_digits.ensures.bytes
