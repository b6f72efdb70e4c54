use Rattle.std.proofs.Common.{ap}
use Rattle.saved_state.specs.Writing.{entry_number}
use Rattle.saved_state.proofs.WriteLemmas.{entry_written}
use Rattle.saved_state.proofs.writing.write_entry.Goals as goal

pub returns : goal.returns
returns g c =
    entry_written (entry_number c.args.index (g.S.EntrySource.entries c.args.source.now)) c.args.into.now
    c.put_ulint.new.into c.put_udint.new.into c.copy.new.into c.args.head.key c.args.head.len c.put_ulint.ensures
    c.put_udint.ensures (ap (λ h. h.key) c.requires.head) (ap (λ h. h.len) c.requires.head) c.copy.ensures
    c.requires.sized
