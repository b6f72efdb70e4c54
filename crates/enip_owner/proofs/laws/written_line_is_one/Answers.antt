use Rattle.std.proofs.Common.{ap, ◌∙◌}
use Rattle.enip_owner.specs.Streams.{lines_of}
use Rattle.enip_owner.proofs.StreamLemmas.{line_alone}
use Rattle.enip_owner.proofs.laws.written_line_is_one.Goals as goal

pub returns : goal.returns
returns c j line is = ap lines_of is.text ∙ line_alone _ is.one_line is.short
