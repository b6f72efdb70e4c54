use Rattle.std.proofs.Common.{◌≡◌, ◌<◌, refl, sym, arith, length}
use Rattle.device_state.specs.QueueEntries.{QUEUE_ENTRIES, queue_bytes}
use Rattle.kept_adapter.specs.Keys.{queue_key}
use Rattle.kept_adapter.proofs.CompareLemmas.{false_is, numbered_all, numbered_differ, numbered_go_on, numbered_size}
use Rattle.kept_adapter.proofs.CompareLemmas.{not_both}
use Rattle.kept_adapter.proofs.comparing.are_all_of_queue.Goals as goal

pub returns-then-entries-from : goal.returns-then-entries-from
returns-then-entries-from c = (
  false_is _,
  λ same. absurd (numbered_size c.args.entries.now queue_key (queue_bytes c.args.queue.now) QUEUE_ENTRIES
      (λ size. omega (arith, size, c.if-entries-from.true, c.from.ensures)) same),
)

pub returns-then-not-is_of_queue : goal.returns-then-not-is_of_queue
returns-then-not-is_of_queue c =
    let number = c.loop-number.number in
    let index = c.from-in-loop-number.result in
    let here : index ≡ number = c.from-in-loop-number.ensures in
    let below : number < QUEUE_ENTRIES = omega (arith, c.loop-number-test.true, c.loop-number.auto.number-end) in
    let less : index < length c.args.entries.now = omega (arith, here, below, c.if-entries-from.false, c.from.ensures) in (
      false_is _,
      λ same. absurd (numbered_differ c.args.entries.now queue_key (queue_bytes c.args.queue.now) QUEUE_ENTRIES number index
          c.index-entries-from.result here less (sym c.index-entries-from.is) below
          (λ is. not_both c.is_of_queue.result c.if-not-is_of_queue.true (c.is_of_queue.ensures.1 is)) same),
    )

pub loop-number-preserved : goal.loop-number-preserved
loop-number-preserved c =
    let number = c.loop-number.number in
    let index = c.from-in-loop-number.result in
    let here : index ≡ number = c.from-in-loop-number.ensures in
    let below : number < QUEUE_ENTRIES = omega (arith, c.loop-number-test.true, c.loop-number.auto.number-end) in
    let less : index < length c.args.entries.now = omega (arith, here, below, c.if-entries-from.false, c.from.ensures) in
    numbered_go_on c.args.entries.now queue_key (queue_bytes c.args.queue.now) number index c.index-entries-from.result
    here less (sym c.index-entries-from.is) (c.is_of_queue.ensures.0 c.if-not-is_of_queue.false) c.loop-number.invariant

pub returns : goal.returns
returns c = (
  λ is. numbered_all c.args.entries.now queue_key (queue_bytes c.args.queue.now) QUEUE_ENTRIES c.loop-number.number
      (omega (arith, c.if-entries-from.false, c.from.ensures))
      (omega (arith, c.loop-number-test.false, c.loop-number.auto.number-end)) c.loop-number.invariant,
  λ same. refl,
)
