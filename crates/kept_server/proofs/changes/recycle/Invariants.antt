use Rattle.std.proofs.Common.{vec_len}
use Rattle.kept_server.proofs.changes.recycle.Given as goal

abbrev pub decreases-loop-entry : goal.decreases-loop-entry
decreases-loop-entry l = vec_len l.used
