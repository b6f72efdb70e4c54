use Rattle.std.proofs.Common.{ap₂, ◌∙◌}
use Rattle.cip_message.specs.Open.{view}
use Rattle.cip_message.specs.declared.parameters.Parameters.{Parameters}
use Rattle.cip_manager.specs.Opening.{opening_with}
use Rattle.cip_manager.proofs.opening.Opening.of.Goals as goal

pub returns : goal.returns
returns c =
    c.with_directions.ensures (λ (parameters : Parameters). parameters.bits)
    ∙ ap₂ (λ o_to_t t_to_o. opening_with o_to_t t_to_o (view c.args.request.now)) c.of-o_to_t.ensures c.of-t_to_o.ensures
