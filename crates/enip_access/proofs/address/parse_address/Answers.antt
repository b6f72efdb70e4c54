use Rattle.std.proofs.Common.{◌∙◌}
use Rattle.enip_access.proofs.Texts.{parsed}
use Rattle.enip_access.proofs.address.parse_address.Goals as goal

pub returns : goal.returns
returns c = c.ok.ensures.value ∙ parsed c.args.text.now c.parse_ascii.result c.parse_ascii.ensures
