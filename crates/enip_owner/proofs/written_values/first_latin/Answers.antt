use Rattle.std.proofs.Common.{◌≡◌, ◌<◌, ◌≤◌, length, get_or, false, rules, sym, ◌∙◌, arith}
use Rattle.enip_lines.proofs.InputLemmas.{bytes_from}
use Rattle.enip_owner.specs.Values.{is_pair}
use Rattle.enip_owner.proofs.ValueLemmas.{first_short, first_pair, first_alone, first_wide}
use Rattle.enip_owner.proofs.written_values.first_latin.Goals as goal
use Rattle.enip_owner.proofs.written_values.first_latin.Goals.{then-text-lt2-via-then-text-lt2, then-text-lt2-via-else-text-lt2+then-not-is_pair}

pub returns-then-byte-lt128-clause-first : goal.returns-then-byte-lt128-clause-first
returns-then-byte-lt128-clause-first c =
    let some : 0 < length c.args.text.now = search rules in
    rw (bytes_from 1 c.args.text.now) (first_short c.args.text.now some c.if-byte-lt128.true)

pub returns-then-text-lt2-clause-first : goal.returns-then-text-lt2-clause-first
returns-then-text-lt2-clause-first c =
    elim c.then-text-lt2.branch [
      | then-text-lt2-via-then-text-lt2 w ↦ λ some. first_alone c.args.text.now w.if-text-lt2.true some c.if-byte-lt128.false
      | then-text-lt2-via-else-text-lt2+then-not-is_pair w ↦ λ some.
          first_wide c.args.text.now w.if-text-lt2.false c.if-byte-lt128.false (sym w.is_pair.ensures ∙ w.if-not-is_pair.true)
    ]

pub returns-clause-first : goal.returns-clause-first
returns-clause-first c =
    rw (bytes_from 2 c.args.text.now)
    (first_pair c.args.text.now c.if-text-lt2.false c.if-byte-lt128.false (sym c.is_pair.ensures ∙ c.if-not-is_pair.false))
