use Rattle.std.proofs.Common.{take, suc, ap, ◌≡◌, ◌+◌, ◌∙◌, ◌++◌, arith}
use Rattle.enip_keep.specs.Kept.{pairs_of}
use Rattle.kept_adapter.specs.Keys.{ledger_key}
use Rattle.kept_adapter.specs.Saved.{first_entries, ledger_bytes, ENTRIES}
use Rattle.kept_adapter.proofs.SavingLemmas.{numbered_more, small_next}
use Rattle.kept_adapter.proofs.saving.save_ledger.Goals as goal

pub loop-number-preserved : goal.loop-number-preserved
loop-number-preserved c =
    let count = c.loop-number.count in
    let number = c.loop-number.number in
    let next : count + 1 ≡ suc count = omega arith in
    let after : number + 1 ≡ suc number = omega arith in (
      numbered_more ledger_key (ledger_bytes c.args.ledger.now) (pairs_of c.loop-number.into.items)
          (pairs_of c.set_entry.new.into.items) (take c.args.start (pairs_of c.args.into.now.items)) count (count + 1) number (number + 1) c.ledger_key.result
          c.deref.result.now next after c.in_ok-set_entry.ensures.entry c.loop-number.invariant.0 c.ledger_key.ensures.key
          (c.deref.ensures.0 ∙ c.write_ledger_bytes.ensures),
      small_next (pairs_of c.set_entry.new.into.items) count (count + 1) next c.in_ok-set_entry.ensures.small,
      omega (arith, c.in_ok-set_entry.ensures.within),
      omega (arith, c.loop-number.invariant.3),
    )

pub returns-clause-entries : goal.returns-clause-entries
returns-clause-entries c =
    let e : c.loop-number.number ≡ ENTRIES = omega (arith, c.loop-number-test.false, c.loop-number.auto.number-end) in
    c.loop-number.invariant.0
    ∙ ap (λ number. take c.args.start (pairs_of c.args.into.now.items) ++ first_entries c.args.ledger.now number) e
