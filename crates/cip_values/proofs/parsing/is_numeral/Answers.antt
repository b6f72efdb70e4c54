use Rattle.std.proofs.Common.{◌≡◌, rules, sym, ◌∙◌}
use Rattle.std.specs.Char.{is_digit}
use Rattle.std.specs.List.{list_all}
use Rattle.cip_values.proofs.ParsingLemmas.{digits-from_all, all-from_digits}
use Rattle.cip_values.proofs.parsing.is_numeral.Goals as goal

pub returns-then-not-is_empty : goal.returns-then-not-is_empty
returns-then-not-is_empty c =
    let all : c.are_digits.result ≡ list_all (λ b. is_digit b c.args.radix) c.args.text.now = search rules in (
      λ h. (search rules, digits-from_all c.args.radix c.args.text.now (sym all ∙ h)),
      λ numeral. all ∙ all-from_digits c.args.radix c.args.text.now numeral.1,
    )
