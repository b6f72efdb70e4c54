use Rattle.std.proofs.Common.{Some, None, sym, ap}
use Rattle.cip_layouts.specs.Layouts.{element_by}
use Rattle.cip_layouts.proofs.ParseLemmas.{element_is}
use Rattle.cip_layouts.proofs.field.element.Goals as goal

pub returns-in-Some : goal.returns-in-Some
returns-in-Some c =
    sym (ap element_by (element_is c.args.name.now (Some c.in-Some.element) c.in-Some.ensures.named c.in-Some.ensures.other))

pub returns-in-None : goal.returns-in-None
returns-in-None c = sym (ap element_by (element_is c.args.name.now None c.in-None.ensures.named c.in-None.ensures.other))
