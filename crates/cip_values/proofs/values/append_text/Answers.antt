use Rattle.std.proofs.Common.{rules}
use Rattle.cip_values.proofs.Written.{counted_appends, refused_oversized}
use Rattle.cip_values.proofs.values.append_text.Goals as goal

pub returns-clause-written : goal.returns-clause-written
returns-clause-written c =
    counted_appends c.args.value_type c.args.word.now c.as_slice.result.now c.args.out.now.items c.append_counted.new.out.items c.requires
    (search (rules, c.unescaped.ensures)) (rw c.form-form.ensures.form at c.in_ok-append_counted.ensures)

pub returns-then-count-count_limit-clause-refused : goal.returns-then-count-count_limit-clause-refused
returns-then-count-count_limit-clause-refused c =
    rw c.oversized.ensures (refused_oversized c.args.value_type c.args.word.now _ (search (rules, c.unescaped.ensures)))
