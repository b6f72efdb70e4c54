use Rattle.cip_bytes.specs.Numbers.{le}
use Rattle.saved_state.specs.Numbers.{ulint}
use Rattle.saved_state.proofs.WriteLemmas.{put_number}
use Rattle.saved_state.proofs.numbers.put_ulint.Goals as goal

pub returns : goal.returns
unfolding ulint
returns c = put_number 8 c.args.offset c.args.into.now c.write_u64.new.buf (le 8 c.args.value) c.write_u64.ensures
