use Rattle.std.proofs.Common.{subst, sym}
use Rattle.enip_c.specs.StateCalls.{IsKeptAdapterOf}
use Rattle.enip_c.proofs.starting.boxed_from_state.Goals as goal

pub returns-in-Ok-clause-made : goal.returns-in-Ok-clause-made
returns-in-Ok-clause-made c =
    subst (IsKeptAdapterOf c.args.text.now c.args.state.now c.args.life) (sym c.in-Ok.ensures.ok)
    c.in_ok-adapter.ensures.made
