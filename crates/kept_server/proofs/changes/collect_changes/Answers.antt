use Rattle.std.proofs.Common.{◌≡◌, ◌<◌, ◌+◌, ℕ, [], length, take, List, sym, ap, ◌∙◌, subst, arith, take_all}
use Rattle.std.specs.Global.{Vec}
use Rattle.enip_keep.specs.declared.entry.Entry.{Entry}
use Rattle.enip_keep.specs.Kept.{Kept, pairs_of}
use Rattle.kept_server.specs.Changes.{AreChanges}
use Rattle.kept_server.specs.Changes.AreChanges.{No_entry}
use Rattle.kept_server.proofs.ChangeLemmas.{more_same, more_differs, same_length, bytes_equal, bytes_unequal, unequal_not}
use Rattle.kept_server.proofs.changes.collect_changes.Goals as goal
use Rattle.kept_server.proofs.changes.collect_changes.Goals.{then-ne+in_ok-copy+in_ok-push, else-ne}

pub loop-index-init : goal.loop-index-init
loop-index-init c = subst (λ xs. AreChanges [] [] (pairs_of xs)) (sym c.requires.none) No_entry

pub loop-index-preserved : goal.loop-index-preserved
loop-index-preserved c =
    let kept : List Entry = c.args.kept.now in
    let current : List Entry = c.args.current.now in
    let index : ℕ = c.loop-index.index in
    let now : Kept = pairs_of (take (index + 1) current) in
    let less : index < length kept = omega arith in
    elim c.if-ne.branch [
      | then-ne+in_ok-copy+in_ok-push w ↦
          subst (λ xs. AreChanges (pairs_of (take (index + 1) kept)) now (pairs_of xs))
          (sym (ap (λ (v : Vec Entry). v.items) w.changed-is ∙ w.in_ok-push.ensures.items))
          (more_differs kept current index c.index-kept-index.result c.index-current-index.result c.requires.keys less
          c.loop-index-test.true (sym c.index-kept-index.is) (sym c.index-current-index.is) c.loop-index.changed.items
          c.loop-index.invariant
          (λ e. (bytes_unequal _ _ (sym c.ne.ensures ∙ w.if-ne.true)) (c.as_slice.ensures.value ∙ e
          ∙ sym c.as_slice-in-loop-index.ensures.value))
          w.in_ok-copy.copy w.in_ok-copy.ensures.0 w.in_ok-copy.ensures.1)
      | else-ne w ↦
          subst (λ xs. AreChanges (pairs_of (take (index + 1) kept)) now (pairs_of xs))
          (sym (ap (λ (v : Vec Entry). v.items) w.changed-is))
          (more_same kept current index c.index-kept-index.result c.index-current-index.result c.requires.keys less
          c.loop-index-test.true (sym c.index-kept-index.is) (sym c.index-current-index.is) c.loop-index.changed.items
          c.loop-index.invariant
          (sym c.as_slice.ensures.value ∙ bytes_equal _ _ (unequal_not _ (sym c.ne.ensures ∙ w.if-ne.false))
          ∙ c.as_slice-in-loop-index.ensures.value))
    ]

pub returns-then-index-kept : goal.returns-then-index-kept
returns-then-index-kept c =
    absurd (omega (arith, same_length c.args.kept.now c.args.current.now c.requires.keys))

pub returns-after-loop-index : goal.returns-after-loop-index
returns-after-loop-index c =
    let kept : List Entry = c.args.kept.now in
    let current : List Entry = c.args.current.now in
    let index : ℕ = c.loop-index.index in
    let same : length current ≡ length kept = same_length kept current c.requires.keys in
    subst (λ xs. AreChanges (pairs_of xs) (pairs_of current) (pairs_of c.loop-index.changed.items))
    (take_all index kept (omega arith))
    (subst (λ xs. AreChanges (pairs_of (take index kept)) (pairs_of xs) (pairs_of c.loop-index.changed.items))
    (take_all index current (omega arith)) c.loop-index.invariant)
