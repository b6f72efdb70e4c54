use Rattle.std.proofs.Common.{ap, sym, ◌∙◌}
use Rattle.std.specs.Global.{Vec}
use Rattle.enip_keep.specs.declared.entry.Entry.{Entry}
use Rattle.enip_keep.specs.Kept.{Kept, pairs_of, set_all}
use Rattle.kept_server.specs.declared.table.Saving.{Saving}
use Rattle.kept_server.specs.Changes.{are_small, keys_of, newest, rise}
use Rattle.kept_server.specs.Savings.{kept_by}
use Rattle.kept_server.proofs.ChangeLemmas.{appended, changes_join_up, small_two}
use Rattle.kept_server.proofs.table.EntryTable.update.Goals as goal

pub invariant_of-self-2 : goal.invariant_of-self-2
invariant_of-self-2 c =
    let table = c.args.self.now in
    let found : Kept = pairs_of table.found.items in
    let last : Saving = newest table.is_settled table.kept table.current in
    record {
      changes = changes_join_up table.changed.items c.compare.new.changed.items c.append.new.self.items
          (kept_by table.kept found) (kept_by last found) (kept_by c.swap.new.x found) c.in_ok-append.ensures.items
          table.changes
          (ap (λ s. set_all (pairs_of c.compare.new.changed.items) (kept_by s found)) (sym c.newest.ensures)
          ∙ c.in_ok-compare.ensures.changes found ∙ ap (λ s. kept_by s found) (sym c.swap.ensures.x_after));
      rising = ap (λ (s : Saving). rise (keys_of (pairs_of s.entries.items))) c.swap.ensures.x_after
          ∙ ap (λ (v : Vec Entry). rise (keys_of (pairs_of v.items))) c.compare.ensures.entries
          ∙ ap rise (sym c.requires.keys) ∙ table.rising;
      small = ap (λ es. are_small (pairs_of es)) c.in_ok-append.ensures.items
          ∙ ap are_small (appended table.changed.items c.compare.new.changed.items)
          ∙ small_two (pairs_of table.changed.items) (pairs_of c.compare.new.changed.items) table.small
          c.in_ok-compare.ensures.small;
    }
