use Rattle.std.proofs.Common.{◌≡◌, take, sym, ap, ◌∙◌, false}
use Rattle.std.specs.List.{list_any}
use Rattle.std.specs.Str.{bytes_eq}
use Rattle.std.proofs.lemmas.List.{take_all}
use Rattle.enip_commands.specs.declared.command_record.DoneCommand.{DoneCommand}
use Rattle.enip_commands.proofs.CommandRecordLemmas.{any_more, found_at, not_found}
use Rattle.enip_commands.proofs.command_record.plan.find_done.Goals as goal

pub loop-command-preserved : goal.loop-command-preserved
loop-command-preserved c =
    any_more (λ command. bytes_eq command.id.now c.args.id.now) c.args.done.now c.loop-command.command-index _ c.loop-command-test.true c.loop-command.invariant
    (sym c.is_same.ensures ∙ c.if-is_same.false)

pub returns-then-is_same : goal.returns-then-is_same
returns-then-is_same c =
    found_at c.args.id.now c.args.done.now c.loop-command.command-index _ c.loop-command-test.true c.loop-command.invariant (sym c.is_same.ensures ∙ c.if-is_same.true)

pub returns : goal.returns
returns c =
    let all : take c.loop-command.command-index c.args.done.now ≡ c.args.done.now = take_all _ _ c.loop-command-test.false in
    let none : list_any (λ (command : DoneCommand). bytes_eq command.id.now c.args.id.now) c.args.done.now ≡ false =
    ap (list_any (λ (command : DoneCommand). bytes_eq command.id.now c.args.id.now)) (sym all) ∙ c.loop-command.invariant in
    not_found c.args.id.now c.args.done.now none
