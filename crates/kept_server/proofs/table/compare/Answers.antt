use Rattle.std.proofs.Common.{ap, ◌∙◌, subst, List, Bool}
use Rattle.std.specs.Prelude.{OnOk}
use Rattle.enip_keep.specs.Kept.{Kept, pairs_of}
use Rattle.kept_server.specs.Changes.{AreChanges, are_small, still_waiting}
use Rattle.kept_server.proofs.ChangeLemmas.{changes_kept, changes_small}
use Rattle.kept_server.proofs.table.compare.Goals as goal

pub returns-clause-changes : goal.returns-clause-changes
returns-clause-changes c =
    let waits : List Bool = c.args.last.now.waits.items in
    let last : Kept = pairs_of c.args.last.now.entries.items in
    let next : Kept = pairs_of c.args.next.now.entries.items in
    let changed : Kept = pairs_of c.collect_changes.new.changed.items in
    changes_kept c.collect_changes.result waits c.mark_still_waiting.new.marks.items last next changed
    (c.in_ok-mark_still_waiting.ensures
    ∙ ap (λ ws. still_waiting ws (pairs_of c.as_slice-2.result.now) (pairs_of c.as_slice-3.result.now))
    c.as_slice.ensures.value
    ∙ ap (λ es. still_waiting waits (pairs_of es) (pairs_of c.as_slice-3.result.now)) c.as_slice-2.ensures.value
    ∙ ap (λ es. still_waiting waits last (pairs_of es)) c.as_slice-3.ensures.value)
    c.requires.rising
    (subst (λ es. OnOk c.collect_changes.result (AreChanges last (pairs_of es) changed)) c.as_slice-5.ensures.value
    (subst (λ es. OnOk c.collect_changes.result (AreChanges (pairs_of es) (pairs_of c.as_slice-5.result.now) changed))
    c.as_slice-4.ensures.value c.collect_changes.ensures))

pub returns-clause-small : goal.returns-clause-small
returns-clause-small c =
    changes_small c.collect_changes.result (pairs_of c.as_slice-4.result.now) (pairs_of c.as_slice-5.result.now)
    (pairs_of c.collect_changes.new.changed.items) c.collect_changes.ensures
    (ap (λ es. are_small (pairs_of es)) c.as_slice-5.ensures.value ∙ c.requires.small)
