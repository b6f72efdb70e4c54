use Rattle.std.proofs.Common.{Bool, sym, ap, ◌∙◌}
use Rattle.std.specs.Prelude.{◌&&◌}
use Rattle.std.specs.List.{list_all}
use Rattle.enip_client.specs.Lists.{is_sound}
use Rattle.enip_client.proofs.lists.are_sound.Goals as goal

pub loop-item-init : goal.loop-item-init
loop-item-init c =
    record { left = ap (list_all (is_sound c.args.command)) (sym c.into_iter-item-iterator.ensures.into_iter_gives) }

pub returns-then-not-is_sound : goal.returns-then-not-is_sound
returns-then-not-is_sound c =
    let command = c.args.command in
    let rest = list_all (is_sound command) c.next.new.self in
    sym (c.loop-item.invariant.left ∙ ap (list_all (is_sound command)) c.in-Some.ensures.steps ∙ ap (λ (t : Bool). t && rest) (sym c.if-not-is_sound.ensures))

pub loop-item-preserved : goal.loop-item-preserved
loop-item-preserved c =
    let command = c.args.command in
    let rest = list_all (is_sound command) c.next.new.self in
    record {
      left = c.loop-item.invariant.left ∙ ap (list_all (is_sound command)) c.in-Some.ensures.steps ∙ ap (λ (t : Bool). t && rest) (sym c.if-not-is_sound.ensures);
    }

pub returns : goal.returns
returns c =
    let command = c.args.command in
    sym (c.loop-item.invariant.left ∙ ap (list_all (is_sound command)) c.in-None.ensures.steps.0)
