-- A `KeptReply`, as contracts see it.
use Rattle.cip_class3.specs.declared.target.KeptReply.{KeptReply as Lent}
use Rattle.cip_class3.specs.TargetRule.{KeptReply}

-- The sequence count, and the bytes of the reply.
abbrev pub kept_of : Lent → KeptReply
kept_of lent = record { sequence_count = lent.sequence_count; reply = lent.reply.now }
