use Rattle.kept_adapter.proofs.NewLives.{once_in_lives}
use Rattle.kept_adapter.proofs.laws.once_in_each_life.Goals as goal

pub returns : goal.returns
returns c = once_in_lives
