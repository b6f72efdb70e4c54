use Rattle.std.proofs.Common.{◌≡◌, ◌<◌, sym, arith, length}
use Rattle.kept_adapter.specs.Keys.{ledger_key}
use Rattle.kept_adapter.specs.Saved.{ENTRIES, ledger_bytes}
use Rattle.kept_adapter.proofs.CompareLemmas.{false_is, numbered_differ, numbered_go_on, not_both}
use Rattle.kept_adapter.proofs.comparing.are_all_of_ledger.Goals as goal

pub returns-then-not-is_of_ledger : goal.returns-then-not-is_of_ledger
returns-then-not-is_of_ledger c =
    let number = c.loop-number.number in
    let index = c.from-in-loop-number.result in
    let here : index ≡ number = c.from-in-loop-number.ensures in
    let below : number < ENTRIES = omega (arith, c.loop-number-test.true, c.loop-number.auto.number-end) in
    let less : index < length c.args.entries.now = omega (arith, here, below, c.if-entries-from.false, c.from.ensures) in (
      false_is _,
      λ same. absurd (numbered_differ c.args.entries.now ledger_key (ledger_bytes c.args.ledger.now) ENTRIES number index
          c.index-entries-from.result here less (sym c.index-entries-from.is) below
          (λ is. not_both c.is_of_ledger.result c.if-not-is_of_ledger.true (c.is_of_ledger.ensures.1 is)) same),
    )

pub loop-number-preserved : goal.loop-number-preserved
loop-number-preserved c =
    let number = c.loop-number.number in
    let index = c.from-in-loop-number.result in
    let here : index ≡ number = c.from-in-loop-number.ensures in
    let below : number < ENTRIES = omega (arith, c.loop-number-test.true, c.loop-number.auto.number-end) in
    let less : index < length c.args.entries.now = omega (arith, here, below, c.if-entries-from.false, c.from.ensures) in
    numbered_go_on c.args.entries.now ledger_key (ledger_bytes c.args.ledger.now) number index c.index-entries-from.result
    here less (sym c.index-entries-from.is) (c.is_of_ledger.ensures.0 c.if-not-is_of_ledger.false) c.loop-number.invariant
