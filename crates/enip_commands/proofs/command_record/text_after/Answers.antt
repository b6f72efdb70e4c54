use Rattle.std.proofs.Common.{◌≡◌, ◌-◌, List, length, drop, take, refl, ap, ◌∙◌, arith, length-drop}
use Rattle.std.proofs.lemmas.List.{take_all}
use Rattle.enip_commands.specs.declared.command_record.DoneCommand.{DoneCommand}
use Rattle.enip_commands.specs.CommandRecords.{done_in, record_in}
use Rattle.enip_commands.proofs.CommandRecordLemmas.{if_ok, text_kept, kept_distinct}
use Rattle.enip_commands.proofs.command_record.text_after.Goals as goal

pub returns-clause-kept : goal.returns-clause-kept
returns-clause-kept c =
    let n = c.saturating_sub-dropped.result in
    let done = c.as_slice-done.result.now in
    let same = c.as_slice-done.ensures.value in
    let dropped = c.saturating_sub-dropped.ensures ∙ ap (λ (ds : List DoneCommand). length ds - (c.args.most - 1)) same in
    let rest : take (length done - n) (drop n done) ≡ drop n done = take_all _ _ (omega (arith, length-drop n done)) in
    if_ok c.text_with_ids.result _ _
    (λ text e. text_kept text.items (record_in c.args.before.now) c.args.before.now.done.items _ _ c.args.command c.args.most n
    c.requires dropped refl (rest ∙ ap (drop n) same) refl e)
    c.text_with_ids.ensures

pub returns-clause-distinct : goal.returns-clause-distinct
returns-clause-distinct c = λ distinct new.
    kept_distinct (record_in c.args.before.now).done (done_in c.args.command) c.args.most _ distinct new refl
