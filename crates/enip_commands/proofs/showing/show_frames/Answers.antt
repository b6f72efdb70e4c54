use Rattle.std.specs.Prelude.{⊤}
use Rattle.enip_lines.proofs.InputLemmas.{never_refused}
use Rattle.enip_commands.proofs.showing.show_frames.Goals as goal

pub returns : goal.returns
returns g c = never_refused (λ _ _ _ _ _. ⊤) _ _ _ _ _ c.read_lines.result c.read_lines.ensures
