use Rattle.std.proofs.Common.{codes, sym, subst}
use Rattle.enip_owner.specs.Parts.{Adds, number_member}
use Rattle.enip_owner.specs.Shown.{number_of_attribute}
use Rattle.enip_owner.proofs.event.write_number_of.Goals as goal

pub returns-in-Some : goal.returns-in-Some
returns-in-Some c =
    subst (λ a. Adds c.write_part.result c.args.writer.now c.write_part.new.writer (number_of_attribute a))
    (sym c.in-Some.is)
    (subst (λ n. Adds c.write_part.result c.args.writer.now c.write_part.new.writer (number_member (codes "attribute") n))
    c.from.ensures c.write_part.ensures)
