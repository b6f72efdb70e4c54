use Rattle.std.proofs.Common.{Bool, sym, ap, ◌∙◌}
use Rattle.std.specs.Prelude.{◌||◌}
use Rattle.enip_adapter.specs.Rights.{any_change}
use Rattle.enip_adapter.proofs.rights.any_change.Goals as goal

pub loop-request-init : goal.loop-request-init
loop-request-init c = record { left = ap any_change (sym c.into_iter-request-iterator.ensures.into_iter_gives) }

pub returns-then-is_single_change : goal.returns-then-is_single_change
returns-then-is_single_change c =
    let rest = any_change c.next.new.self in
    sym (c.loop-request.invariant.left ∙ ap any_change c.in-Some.ensures.steps ∙ ap (λ (t : Bool). t || rest) (sym c.if-is_single_change.ensures))

pub loop-request-preserved : goal.loop-request-preserved
loop-request-preserved c =
    let rest = any_change c.next.new.self in
    record {
      left = c.loop-request.invariant.left ∙ ap any_change c.in-Some.ensures.steps ∙ ap (λ (t : Bool). t || rest) (sym c.if-is_single_change.ensures);
    }

pub returns : goal.returns
returns c = sym (c.loop-request.invariant.left ∙ ap any_change c.in-None.ensures.steps.0)
