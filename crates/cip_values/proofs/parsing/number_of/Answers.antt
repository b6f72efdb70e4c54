use Rattle.std.proofs.Common.{◌∙◌}
use Rattle.std.proofs.lemmas.Int.{to_z-of_z}
use Rattle.std.specs.Int.{w128}
use Rattle.cip_values.proofs.ParsingLemmas.{parsed}
use Rattle.cip_values.proofs.parsing.number_of.Goals as goal

pub returns : goal.returns
returns c =
    let numeral = c.is_numeral.ensures.0 c.if-not-is_numeral.false in (
      numeral,
      to_z-of_z w128 c.unwrap_or.result (record { sfits = c.unwrap_or.type_inv }) ∙ c.unwrap_or.ensures
          ∙ parsed c.args.radix c.args.digits.now c.from_str_radix.result c.requires.high numeral c.from_str_radix.ensures.value,
    )
