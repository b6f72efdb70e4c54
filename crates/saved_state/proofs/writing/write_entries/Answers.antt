use Rattle.std.proofs.Common.{ap, arith}
use Rattle.saved_state.proofs.WriteLemmas.{size_more, size_within, entries_step}
use Rattle.saved_state.proofs.writing.write_entries.Goals as goal

pub overflow_add-end-in-Some : goal.overflow_add-end-in-Some
overflow_add-end-in-Some g c =
    omega (
      arith,
      size_within c.loop-head.index c.loop-head.at c.in-Some.head.len (g.S.EntrySource.entries c.args.source.now)
          c.in-Some.ensures.0 c.loop-head.invariant.size (ap (λ h. h.len) c.in-Some.ensures.1),
    )

pub slice_bounds-write_entry-end : goal.slice_bounds-write_entry-end
slice_bounds-write_entry-end g c =
    omega (
      arith,
      size_within c.loop-head.index c.loop-head.at c.in-Some.head.len (g.S.EntrySource.entries c.args.source.now)
          c.in-Some.ensures.0 c.loop-head.invariant.size (ap (λ h. h.len) c.in-Some.ensures.1),
    )

pub loop-head-preserved : goal.loop-head-preserved
loop-head-preserved g c =
    record {
      size = size_more c.loop-head.index c.loop-head.at c.in-Some.head.len (g.S.EntrySource.entries c.args.source.now)
          c.in-Some.ensures.0 c.loop-head.invariant.size (ap (λ h. h.len) c.in-Some.ensures.1);
      written = entries_step c.loop-head.index c.loop-head.at c.in-Some.head.len
          (g.S.EntrySource.entries c.args.source.now) c.loop-head.into c.write_entry.new.into c.in-Some.ensures.0
          c.loop-head.invariant.size (ap (λ h. h.len) c.in-Some.ensures.1) c.loop-head.invariant.written
          c.write_entry.ensures (omega (
            arith,
            size_within c.loop-head.index c.loop-head.at c.in-Some.head.len
                (g.S.EntrySource.entries c.args.source.now) c.in-Some.ensures.0 c.loop-head.invariant.size
                (ap (λ h. h.len) c.in-Some.ensures.1),
          ));
      before = omega (arith, c.loop-head.invariant.before);
      within = omega (arith, c.in-Some.ensures.0);
    }
