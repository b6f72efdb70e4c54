use Rattle.std.proofs.Common.{◌≡◌, ℕ, ◌+◌, ◌<◌, List, [], ◌∷◌, ◌++◌, codes, length, None, Some, Ok, refl, sym, ap, ◌∙◌, arith, rules}
use Rattle.std.proofs.lemmas.Grind.{common_steps}
use Rattle.hex.specs.Hex.{lower_digits}
use Rattle.hex.proofs.HexLemmas.{length-encode_with}
use Rattle.enip_commands.proofs.CommandFileLemmas.{request_length}
use Rattle.enip_commands.proofs.command_file.read_request.Goals as goal

pub returns-then-digits-gt-LONGEST_DIGITS-clause-lacking : goal.returns-then-digits-gt-LONGEST_DIGITS-clause-lacking
returns-then-digits-gt-LONGEST_DIGITS-clause-lacking c = λ none request bytes short e.
    omega (arith, ap length e, length-encode_with lower_digits request)

pub returns-then-not-decode_lower-clause-lacking : goal.returns-then-not-decode_lower-clause-lacking
returns-then-not-decode_lower-clause-lacking c = λ none request bytes short e.
    let same : length request ≡ length c.as_mut_slice.result.now =
    request_length c.args.digits.now request c.from-request.result.items c.as_mut_slice.result.now e short (first_of (search rules, grind (arith, common_steps))) (c.as_mut_slice.ensures.value ∙ c.truncate.ensures.items) in
    c.decode_lower.ensures.lacking c.if-not-decode_lower.true request bytes same e
