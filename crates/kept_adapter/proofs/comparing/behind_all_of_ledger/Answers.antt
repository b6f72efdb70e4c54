use Rattle.std.proofs.Common.{◌≡◌, ◌+◌, ◌-◌, ◌++◌, drop, length, take_all, length-drop, ap, sym, ◌∙◌, arith}
use Rattle.enip_keep.specs.Kept.{pairs_of}
use Rattle.kept_adapter.specs.Keys.{ledger_key}
use Rattle.kept_adapter.specs.Saved.{ENTRIES, first_entries, ledger_bytes}
use Rattle.kept_adapter.proofs.CompareLemmas.{length_first, not_both, not_first, rest_behind, too_few}
use Rattle.kept_adapter.proofs.comparing.behind_all_of_ledger.Goals as goal
use Rattle.kept_adapter.proofs.comparing.behind_all_of_ledger.Goals.{then-entries-count-via-then-entries-count}
use Rattle.kept_adapter.proofs.comparing.behind_all_of_ledger.Goals.{then-entries-count-via-else-entries-count+then-not-are_all_of_ledger}

pub returns-then-entries-count-clause-other : goal.returns-then-entries-count-clause-other
returns-then-entries-count-clause-other c =
    let first = first_entries c.args.ledger.now ENTRIES in
    let count = c.from-count.result + 1 in
    let size : count ≡ length first
    = omega (arith, c.from-count.ensures, length_first ledger_key (ledger_bytes c.args.ledger.now) ENTRIES) in
    elim c.then-entries-count.branch [
      | then-entries-count-via-then-entries-count w ↦
          λ rest. too_few c.args.entries.now count first rest size w.if-entries-count.true
      | then-entries-count-via-else-entries-count+then-not-are_all_of_ledger w ↦
          λ rest. not_first c.args.entries.now count first rest size
          (λ is. not_both w.are_all_of_ledger.result w.if-not-are_all_of_ledger.true (w.are_all_of_ledger.ensures.1 is))
    ]

pub returns-clause-same : goal.returns-clause-same
returns-clause-same c =
    let first = first_entries c.args.ledger.now ENTRIES in
    let count = c.from-count.result + 1 in
    let rest = drop count c.args.entries.now in
    rest_behind c.args.entries.now count first (c.are_all_of_ledger.ensures.0 c.if-not-are_all_of_ledger.false)
    ∙ ap (λ es. first ++ pairs_of es)
    (sym (take_all (length c.args.entries.now - count) rest (omega (arith, length-drop count c.args.entries.now))))
