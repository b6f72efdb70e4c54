use Rattle.std.proofs.Common.{[]}
use Rattle.cip_values.proofs.Written.{so_far_word, words_refused}
use Rattle.cip_values.proofs.values.write_values.Goals as goal

pub returns-in-Err-clause-refused : goal.returns-in-Err-clause-refused
returns-in-Err-clause-refused c =
    words_refused c.args.value_type c.args.words.now c.loop-word.word-index (record { ref_ptr = (0, 0); now = [] })
    c.loop-word.bytes.items c.in-Err.fault c.loop-word-test.true c.loop-word.invariant c.in-Err.ensures.refused

pub loop-word-preserved : goal.loop-word-preserved
loop-word-preserved c =
    so_far_word c.args.value_type c.args.words.now c.loop-word.word-index (record { ref_ptr = (0, 0); now = [] }) c.loop-word.bytes.items
    c.append_word.new.out.items c.loop-word-test.true c.loop-word.invariant c.in-Ok.ensures.written
