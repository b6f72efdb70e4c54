use Rattle.std.proofs.Common.{◌≡◌, ◌+◌, ◌-◌, sym, ap, ◌∙◌, arith}
use Rattle.std.specs.Prelude.{Some, None, option_map, slice_get}
use Rattle.kept_adapter.specs.Saved.{saved_device}
use Rattle.saved_adapter.specs.Entries.{entries_of}
use Rattle.saved_adapter.proofs.EntryLemmas.{object_entry, behind_values, counted, not_within}
use Rattle.saved_adapter.proofs.entries.AdapterEntries.entry.Goals as goal

pub returns-in-Some : goal.returns-in-Some
returns-in-Some c =
    object_entry c.self.inside.objects.now c.self.inside.ledger (option_map (λ q. q.now) c.self.inside.queue)
    c.self.inside.is_version_2 c.in-Some.key c.object_entry.new.bytes.items c.args.index c.self.invariant.1
    c.in-Some.ensures.entry
    ∙ ap (λ es. slice_get es c.args.index) c.self.view_is

pub returns-then-index-self : goal.returns-then-index-self
returns-then-index-self c =
    absurd (not_within c.self.inside.objects.now c.self.inside.is_version_2 c.object_entry.new.bytes.items c.self.inside.values c.args.index
    c.self.invariant.0 c.in_default.ensures.entry (omega (arith, c.if-index-self.true)))

pub returns-in-Some-ledger : goal.returns-in-Some-ledger
returns-in-Some-ledger c =
    let count = c.self.inside.values in
    let queue = option_map (λ q. q.now) c.self.inside.queue in
    let same = counted c.self.inside.objects.now c.self.inside.is_version_2 c.object_entry.new.bytes.items count c.args.index c.self.invariant.0
    c.ranges.index.fits c.in_default.ensures.entry in
    let whole : c.args.index ≡ count + (c.args.index - count) = omega (arith, c.if-index-self.false) in
    c.ledger_or_queue.ensures
    ∙ sym (behind_values c.self.inside.objects.now (Some c.in-Some-ledger.ledger) queue c.args.index
    (c.args.index - count) count same whole)
    ∙ ap (λ l. slice_get (entries_of (saved_device c.self.inside.objects.now l queue)) c.args.index)
    (sym c.in-Some-ledger.is)
    ∙ ap (λ es. slice_get es c.args.index) c.self.view_is

pub returns-in-None : goal.returns-in-None
returns-in-None c =
    let count = c.self.inside.values in
    let queue = option_map (λ q. q.now) c.self.inside.queue in
    let same = counted c.self.inside.objects.now c.self.inside.is_version_2 c.object_entry.new.bytes.items count c.args.index c.self.invariant.0
    c.ranges.index.fits c.in_default.ensures.entry in
    let whole : c.args.index ≡ count + (c.args.index - count) = omega (arith, c.if-index-self.false) in
    c.queue_entry.ensures
    ∙ sym (behind_values c.self.inside.objects.now None queue c.args.index (c.args.index - count) count same whole)
    ∙ ap (λ l. slice_get (entries_of (saved_device c.self.inside.objects.now l queue)) c.args.index)
    (sym c.in-None.is)
    ∙ ap (λ es. slice_get es c.args.index) c.self.view_is
