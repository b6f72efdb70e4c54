use Rattle.std.proofs.Common.{ap₂, ◌∙◌}
use Rattle.cip_message.specs.Open.{large_view}
use Rattle.cip_message.specs.declared.parameters.LargeParameters.{LargeParameters}
use Rattle.cip_manager.specs.Opening.{opening_with}
use Rattle.cip_manager.proofs.opening.Opening.of_large.Goals as goal

pub returns : goal.returns
returns c =
    c.with_directions.ensures (λ (parameters : LargeParameters). parameters.bits)
    ∙ ap₂ (λ o_to_t t_to_o. opening_with o_to_t t_to_o (large_view c.args.request.now)) c.of_large-o_to_t.ensures c.of_large-t_to_o.ensures
