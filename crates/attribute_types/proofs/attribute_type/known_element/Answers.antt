use Rattle.attribute_types.proofs.TypeLemmas.{element_found}
use Rattle.attribute_types.proofs.attribute_type.known_element.Goals as goal

pub returns : goal.returns
returns c = element_found c.args.name.now c.from_name.result c.from_name.ensures.named c.from_name.ensures.other
