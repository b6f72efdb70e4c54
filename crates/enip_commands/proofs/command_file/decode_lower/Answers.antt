use Rattle.std.proofs.Common.{◌≡◌, ℕ, ◌+◌, ◌<◌, List, [], ◌∷◌, ◌++◌, codes, length, None, Some, Ok, refl, sym, ap, ◌∙◌, arith, rules}
use Rattle.std.proofs.lemmas.Grind.{common_steps}
use Rattle.hex.specs.Hex.{encode_lower}
use Rattle.enip_faults.proofs.DigitLemmas.{encoded_in_room}
use Rattle.enip_commands.proofs.CommandFileLemmas.{lower_decoded, lower_lacking, err_not_ok}
use Rattle.enip_commands.proofs.command_file.decode_lower.Goals as goal

pub returns-then-is_err-clause-lacking : goal.returns-then-is_err-clause-lacking
returns-then-is_err-clause-lacking c = λ no given bytes same spelled.
    let decoded = lower_decoded c.args.digits.now given c.decode_to_slice.new.out (length c.args.bytes.now) c.decode_to_slice.result bytes same spelled c.decode_to_slice.ensures.value in
    err_not_ok c.decode_to_slice.result c.is_err.result c.is_err.ensures.value c.if-is_err.true decoded.0

pub returns-clause-lacking : goal.returns-clause-lacking
returns-clause-lacking c = λ no given bytes same spelled.
    let decoded = lower_decoded c.args.digits.now given c.decode_to_slice.new.out (length c.args.bytes.now) c.decode_to_slice.result bytes same spelled c.decode_to_slice.ensures.value in
    let again : c.encode_to_slice.new.output ≡ encode_lower c.decode_to_slice.new.out =
    encoded_in_room c.encode_to_slice.result c.decode_to_slice.new.out _ c.encode_to_slice.new.output c.encode_to_slice.ensures.fits (first_of (search rules, grind (arith, common_steps))) c.encode_to_slice.ensures.written in
    lower_lacking c.args.digits.now given c.decode_to_slice.new.out c.encode_to_slice.new.output spelled decoded.1 again (sym c.eq.ensures ∙ no)
