use Rattle.enip_owner.specs.Shown.{asked_front, number_of_attribute}
use Rattle.enip_owner.specs.Parts.{text_member}
use Rattle.hex.specs.Hex.{encode_lower}
use Rattle.std.proofs.Common.{codes}
use Rattle.enip_owner.proofs.HelloLemmas.{joined}
use Rattle.enip_owner.proofs.event.write_asked_head.Goals as goal

pub returns : goal.returns
returns c =
    let e = c.args.event.now in
    joined c.write_part.result c.args.writer.now c.write_asked_front.new.writer c.write_number_of.new.writer c.write_part.new.writer
    (asked_front e) (number_of_attribute e.attribute) (text_member (codes "data") (encode_lower e.«data».now))
    c.in_ok-write_asked_front.ensures.ok c.write_asked_front.ensures.before c.in_ok-write_number_of.ensures.ok c.write_number_of.ensures.before
    c.write_part.ensures
