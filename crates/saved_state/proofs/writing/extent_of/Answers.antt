use Rattle.std.proofs.Common.{ap, arith}
use Rattle.saved_state.proofs.WriteLemmas.{size_more, size_within}
use Rattle.saved_state.proofs.writing.extent_of.Goals as goal
use Rattle.saved_state.proofs.writing.extent_of.Goals.{then-size-lt-ENTRY_HEAD-via-then-size-lt-ENTRY_HEAD, then-size-lt-ENTRY_HEAD-via-else-size-lt-ENTRY_HEAD+then-size-head}

pub returns-then-size-lt-ENTRY_HEAD : goal.returns-then-size-lt-ENTRY_HEAD
returns-then-size-lt-ENTRY_HEAD g c =
    let within = size_within c.loop-head.count c.loop-head.size c.in-Some.head.len
    (g.S.EntrySource.entries c.args.source.now) c.in-Some.ensures.0 c.loop-head.invariant.size
    (ap (λ h. h.len) c.in-Some.ensures.1) in
    elim c.then-size-lt-ENTRY_HEAD.branch [
      | then-size-lt-ENTRY_HEAD-via-then-size-lt-ENTRY_HEAD w ↦ omega (arith, w.if-size-lt-ENTRY_HEAD.true)
      | then-size-lt-ENTRY_HEAD-via-else-size-lt-ENTRY_HEAD+then-size-head w ↦ omega (arith, w.if-size-head.true)
    ]

pub loop-head-preserved : goal.loop-head-preserved
loop-head-preserved g c =
    let more = size_more c.loop-head.count c.loop-head.size c.in-Some.head.len
    (g.S.EntrySource.entries c.args.source.now) c.in-Some.ensures.0 c.loop-head.invariant.size
    (ap (λ h. h.len) c.in-Some.ensures.1) in
    record {
      size = omega arith;
      limit = omega (arith, c.if-size-lt-ENTRY_HEAD.false, c.if-size-head.false);
      counted = omega (arith, c.loop-head.invariant.counted);
      within = omega (arith, c.in-Some.ensures.0);
    }
