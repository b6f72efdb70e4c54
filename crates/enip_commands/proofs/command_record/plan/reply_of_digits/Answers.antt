use Rattle.std.proofs.Common.{◌≡◌, ℕ, ◌+◌, ◌*◌, ◌<◌, List, [], ◌++◌, length, drop, take, refl, sym, ap, ◌∙◌, arith, rules}
use Rattle.std.proofs.lemmas.Grind.{common_steps}
use Rattle.hex.specs.Hex.{lower_digits}
use Rattle.hex.proofs.HexLemmas.{length-encode_with}
use Rattle.enip_commands.proofs.CommandFileLemmas.{lower_decoded, err_not_ok}
use Rattle.enip_commands.proofs.CommandRecordLemmas.{cut_length}
use Rattle.enip_commands.proofs.command_record.plan.reply_of_digits.Goals as goal

pub returns-then-digits : goal.returns-then-digits
returns-then-digits c = λ bytes are short e.
    omega (arith, ap length e, length-encode_with lower_digits bytes, c.if-digits.true)

pub returns-then-is_err : goal.returns-then-is_err
returns-then-is_err c = λ bytes are short e.
    let same : length bytes ≡ length c.as_mut_slice.result.now =
    cut_length 4000 c.args.digits.now bytes c.from-reply.result.items c.as_mut_slice.result.now e short (first_of (search rules, grind (arith, common_steps))) (c.as_mut_slice.ensures.value ∙ c.truncate.ensures.items) in
    let decoded = lower_decoded c.args.digits.now bytes c.decode_to_slice.new.out (length c.as_mut_slice.result.now) c.decode_to_slice.result are same e c.decode_to_slice.ensures.value in
    err_not_ok c.decode_to_slice.result c.is_err.result c.is_err.ensures.value c.if-is_err.true decoded.0

pub returns : goal.returns
returns c = λ bytes are short e.
    let same : length bytes ≡ length c.as_mut_slice.result.now =
    cut_length 4000 c.args.digits.now bytes c.from-reply.result.items c.as_mut_slice.result.now e short (first_of (search rules, grind (arith, common_steps))) (c.as_mut_slice.ensures.value ∙ c.truncate.ensures.items) in
    let decoded = lower_decoded c.args.digits.now bytes c.decode_to_slice.new.out (length c.as_mut_slice.result.now) c.decode_to_slice.result are same e c.decode_to_slice.ensures.value in
    let out : c.decode_to_slice.new.out ≡ bytes = decoded.1 in
    let whole : length c.truncate.new.self.items ≡ length c.decode_to_slice.new.out = sym (ap length c.as_mut_slice.ensures.value) ∙ sym same ∙ sym (ap length out) in
    grind (arith, common_steps, out, whole)
