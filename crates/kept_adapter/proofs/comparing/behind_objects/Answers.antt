use Rattle.std.proofs.Common.{◌≡◌, ◌≤◌, ◌+◌, ◌∙◌, ◌++◌, List, Some, ap, sym, arith, suc, length, drop, map, ◌-◌, take_all, length-drop}
use Rattle.device_state.specs.Saved.{Entry, entry_of, object_entries}
use Rattle.enip_keep.specs.Kept.{Kept, pairs_of, pair_of as pair_of_kept}
use Rattle.std.specs.Prelude.{slice_get}
use Rattle.kept_adapter.specs.Saved.{pair_of}
use Rattle.kept_adapter.proofs.CompareLemmas.{differs_at, differs_past, first_and_rest, length_pairs, not_both, pair_at}
use Rattle.kept_adapter.proofs.CompareLemmas.{take_more}
use Rattle.kept_adapter.proofs.SavingLemmas.{entry_more, entry_within, get_map, past_end}
use Rattle.kept_adapter.proofs.comparing.behind_objects.Goals as goal
use Rattle.kept_adapter.proofs.comparing.behind_objects.Goals.{then-count-entries-via-then-count-entries}
use Rattle.kept_adapter.proofs.comparing.behind_objects.Goals.{then-count-entries-via-else-count-entries+then-not-is_entry}

pub returns-then-count-entries-clause-other : goal.returns-then-count-entries-clause-other
returns-then-count-entries-clause-other c =
    let es : List Entry = object_entries c.args.objects.now c.args.is_version_2 in
    let pairs : Kept = pairs_of c.args.entries.now in
    let count = c.loop-key.count in
    let key = c.in-Some.key in
    let bytes = c.object_entry.new.bytes.items in
    let there : Some (key, bytes) ≡ slice_get (map pair_of es) count
    = get_map pair_of es count (entry_of key bytes) c.in-Some.ensures.entry in
    elim c.then-count-entries.branch [
      | then-count-entries-via-then-count-entries w ↦
          λ rest. differs_past pairs (map pair_of es) rest count (key, bytes)
          (omega (arith, length_pairs c.args.entries.now, w.if-count-entries.true)) there
      | then-count-entries-via-else-count-entries+then-not-is_entry w ↦
          λ rest. differs_at pairs (map pair_of es) rest count (pair_of_kept w.index-entries-count.result) (key, bytes)
          (pair_at c.args.entries.now count w.index-entries-count.result (omega (arith, w.if-count-entries.false))
          (sym w.index-entries-count.is)) there
          (λ is. not_both w.is_entry.result w.if-not-is_entry.true
          (w.is_entry.ensures.1 (is ∙ ap (λ b. (key, b)) (sym w.deref.ensures.0))))
    ]

pub loop-key-preserved : goal.loop-key-preserved
loop-key-preserved c =
    let es : List Entry = object_entries c.args.objects.now c.args.is_version_2 in
    let pairs : Kept = pairs_of c.args.entries.now in
    let count = c.loop-key.count in
    let key = c.in-Some.key in
    let bytes = c.object_entry.new.bytes.items in
    let next : count + 1 ≡ suc count = omega arith in
    let here : Some (key, bytes) ≡ slice_get pairs count
    = ap (λ p. Some p) (sym (c.is_entry.ensures.0 c.if-not-is_entry.false ∙ ap (λ b. (key, b)) c.deref.ensures.0))
    ∙ pair_at c.args.entries.now count c.index-entries-count.result (omega (arith, c.if-count-entries.false))
    (sym c.index-entries-count.is) in (
      entry_more es pairs pairs count (count + 1) key bytes next c.in-Some.ensures.entry c.loop-key.invariant.0
          (take_more pairs count (key, bytes) here),
      omega (arith, c.if-count-entries.false),
      entry_within es count (count + 1) key bytes next c.in-Some.ensures.entry,
    )

pub loop-key-smaller : goal.loop-key-smaller
loop-key-smaller c =
    let es : List Entry = object_entries c.args.objects.now c.args.is_version_2 in
    let count = c.loop-key.count in
    let next : count + 1 ≡ suc count = omega arith in
    let within : count + 1 ≤ length (map pair_of es)
    = entry_within es count (count + 1) c.in-Some.key c.object_entry.new.bytes.items next c.in-Some.ensures.entry in
    omega (arith, within)

pub returns-clause-same : goal.returns-clause-same
returns-clause-same c =
    let es : List Entry = object_entries c.args.objects.now c.args.is_version_2 in
    first_and_rest c.args.entries.now c.loop-key.count
    ∙ ap (λ front. front ++ pairs_of (drop c.loop-key.count c.args.entries.now))
    (c.loop-key.invariant.0 ∙ past_end pair_of es c.loop-key.count c.in_default.ensures.entry)
    ∙ ap (λ rest. map pair_of es ++ pairs_of rest)
    (sym (take_all (length c.args.entries.now - c.loop-key.count) (drop c.loop-key.count c.args.entries.now)
    (omega (arith, length-drop c.loop-key.count c.args.entries.now))))
