use Rattle.std.proofs.Common.{◌<◌, ℕ, get_or}
use Rattle.cip_application.proofs.message_router.index_for.Given as goal

abbrev pub invariant-loop-i : goal.invariant-loop-i
invariant-loop-i l = (k d : ℕ) → k < l.i → get_or l.classes k d < l.class
