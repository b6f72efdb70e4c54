use Rattle.cip_bytes.specs.Numbers.{le}
use Rattle.saved_state.specs.Numbers.{udint}
use Rattle.saved_state.proofs.WriteLemmas.{put_number}
use Rattle.saved_state.proofs.numbers.put_udint.Goals as goal

pub returns : goal.returns
unfolding udint
returns c = put_number 4 c.args.offset c.args.into.now c.write_u32.new.buf (le 4 c.args.value) c.write_u32.ensures
