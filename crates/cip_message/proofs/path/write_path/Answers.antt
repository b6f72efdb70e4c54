use Rattle.cip_message.proofs.ShortPaths.{is_shortest}
use Rattle.cip_message.proofs.path.write_path.Goals as goal

pub returns-then-remaining_capacity-size-clause-shortest :
    goal.returns-then-remaining_capacity-size-clause-shortest
returns-then-remaining_capacity-size-clause-shortest g c =
    is_shortest c.args.path (record { class = c.size16.ensures.fits; instance = c.size32.ensures.fits; attribute = c.size_optional.ensures.fits; member = c.size_optional-2.ensures.fits })

pub returns-clause-shortest : goal.returns-clause-shortest
returns-clause-shortest g c =
    is_shortest c.args.path (record { class = c.size16.ensures.fits; instance = c.size32.ensures.fits; attribute = c.size_optional.ensures.fits; member = c.size_optional-2.ensures.fits })
