use Rattle.std.proofs.Common.{◌≡◌, ap, ◌∙◌, List, Bool}
use Rattle.enip_keep.specs.Kept.{Kept, pairs_of, set_all}
use Rattle.kept_server.specs.Changes.{are_small, without_waiting}
use Rattle.kept_server.proofs.ChangeLemmas.{small_written}
use Rattle.kept_server.proofs.table.EntryTable.new.Goals as goal

pub invariant_of-result : goal.invariant_of-result
invariant_of-result c =
    let waits : List Bool = c.mark_waiting.new.marks.items in
    let found : Kept = pairs_of c.args.found.items in
    let copies : Kept = pairs_of c.copy_without_waiting.new.copies.items in
    let copied : copies ≡ without_waiting waits (pairs_of c.args.entries.items)
    = c.in_ok-copy_without_waiting.ensures
    ∙ ap (λ ws. without_waiting ws (pairs_of c.as_slice-3.result.now)) c.as_slice-2.ensures.value
    ∙ ap (λ es. without_waiting waits (pairs_of es)) c.as_slice-3.ensures.value in
    record {
      changes = ap (λ es. set_all copies (set_all (without_waiting c.new.result.waits.items (pairs_of es)) found))
          c.new.ensures.entries ∙ ap (λ es. set_all es found) copied;
      rising = c.requires.rising;
      small = ap are_small copied ∙ small_written waits (pairs_of c.args.entries.items) c.requires.small;
    }
