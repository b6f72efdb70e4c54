use Rattle.std.proofs.Common.{◌≡◌, suc, ◌+◌, take, List, ap, ◌∙◌, ◌++◌, ◌∷◌, [], arith}
use Rattle.device_state.specs.Saved.{Entry, object_entries}
use Rattle.enip_keep.specs.Kept.{pairs_of}
use Rattle.kept_adapter.specs.Saved.{pair_of}
use Rattle.kept_adapter.proofs.SavingLemmas.{entry_more, entry_within, past_end, small_next}
use Rattle.kept_adapter.proofs.saving.save_objects.Goals as goal

pub loop-key-preserved : goal.loop-key-preserved
loop-key-preserved c =
    let es : List Entry = object_entries c.args.objects.now c.args.is_version_2 in
    let count = c.loop-key.count in
    let next : count + 1 ≡ suc count = omega arith in (
      entry_more es (pairs_of c.loop-key.into.items) (pairs_of c.set_entry.new.into.items) count (count + 1) c.in-Some.key
          c.object_entry.new.bytes.items next c.in-Some.ensures.entry c.loop-key.invariant.0
          (c.in_ok-set_entry.ensures.entry
          ∙ ap (λ bytes. take count (pairs_of c.loop-key.into.items) ++ (c.in-Some.key, bytes) ∷ []) c.deref.ensures.0),
      small_next (pairs_of c.set_entry.new.into.items) count (count + 1) next c.in_ok-set_entry.ensures.small,
      omega (arith, c.in_ok-set_entry.ensures.within),
      entry_within es count (count + 1) c.in-Some.key c.object_entry.new.bytes.items next c.in-Some.ensures.entry,
    )

pub returns-clause-entries : goal.returns-clause-entries
returns-clause-entries c =
    let es : List Entry = object_entries c.args.objects.now c.args.is_version_2 in
    c.loop-key.invariant.0 ∙ past_end pair_of es c.loop-key.count c.in_default.ensures.entry
