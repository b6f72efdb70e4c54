use Rattle.std.proofs.Common.{take, suc, ap, ◌≡◌, ◌+◌, ◌∙◌, ◌++◌, arith}
use Rattle.enip_keep.specs.Kept.{pairs_of}
use Rattle.device_state.specs.QueueEntries.{QUEUE_ENTRIES, queue_bytes}
use Rattle.kept_adapter.specs.Keys.{queue_key}
use Rattle.kept_adapter.specs.Saved.{first_queue_entries}
use Rattle.kept_adapter.proofs.SavingLemmas.{numbered_more, small_next}
use Rattle.kept_adapter.proofs.saving.save_queue.Goals as goal

pub loop-number-preserved : goal.loop-number-preserved
loop-number-preserved c =
    let count = c.loop-number.count in
    let number = c.loop-number.number in
    let next : count + 1 ≡ suc count = omega arith in
    let after : number + 1 ≡ suc number = omega arith in (
      numbered_more queue_key (queue_bytes c.args.queue.now) (pairs_of c.loop-number.into.items)
          (pairs_of c.set_entry.new.into.items) (take c.args.start (pairs_of c.args.into.now.items)) count (count + 1) number (number + 1) c.queue_key.result
          c.deref.result.now next after c.in_ok-set_entry.ensures.entry c.loop-number.invariant.0 c.queue_key.ensures.key
          (c.deref.ensures.0 ∙ c.write_queue_entry.ensures),
      small_next (pairs_of c.set_entry.new.into.items) count (count + 1) next c.in_ok-set_entry.ensures.small,
      omega (arith, c.in_ok-set_entry.ensures.within),
      omega (arith, c.loop-number.invariant.3),
    )

pub returns-clause-entries : goal.returns-clause-entries
returns-clause-entries c =
    let e : c.loop-number.number ≡ QUEUE_ENTRIES = omega (arith, c.loop-number-test.false, c.loop-number.auto.number-end) in
    c.loop-number.invariant.0
    ∙ ap (λ number. take c.args.start (pairs_of c.args.into.now.items) ++ first_queue_entries c.args.queue.now number) e
