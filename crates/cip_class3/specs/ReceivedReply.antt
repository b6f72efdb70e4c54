-- A `Came`, as contracts see it.
use Rattle.std.specs.Prelude.{ℕ, List, Option, Some, None}
use Rattle.cip_class3.specs.declared.originator.Came.{Came}
use Rattle.cip_class3.specs.declared.originator.Came.TheVariants.{Accepted, Ignored}

-- The reply, if one was accepted.
abbrev pub reply_in : Came → Option (List ℕ)
reply_in (Accepted reply) = Some reply.now
reply_in Ignored = None
