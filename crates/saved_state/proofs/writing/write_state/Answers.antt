use Rattle.std.proofs.Common.{refl, arith}
use Rattle.saved_state.specs.States.{State}
use Rattle.saved_state.proofs.WriteLemmas.{state_written}
use Rattle.saved_state.proofs.writing.write_state.Goals as goal

pub returns : goal.returns
returns g c =
    let s : State = record { generation = c.args.generation; entries = g.S.EntrySource.entries c.args.source.now } in
    state_written s c.args.buffer.now c.put_ulint.new.into c.put_udint.new.into c.put_udint-2.new.into
    c.put_ulint-2.new.into c.put_udint-3.new.into _ c.put_ulint-3.new.into c.write_entries.new.into
    _ c.checksum-sum.result _ c.args.count c.put_ulint.ensures c.put_udint.ensures
    c.put_udint-2.ensures c.put_ulint-2.ensures c.put_udint-3.ensures refl c.put_ulint-3.ensures c.requires.sized
    c.requires.counted c.write_entries.ensures (omega arith) c.checksum-sum.ensures (omega arith)
