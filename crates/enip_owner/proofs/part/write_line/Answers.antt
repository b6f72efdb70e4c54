use Rattle.std.proofs.Common.{ap, ◌∙◌, ◌++◌}
use Rattle.std.specs.List.{flat_map}
use Rattle.enip_owner.specs.Parts.{part_tokens}
use Rattle.enip_owner.proofs.PartLemmas.{written}
use Rattle.enip_owner.proofs.part.write_line.Goals as goal

pub returns : goal.returns
returns c j same shallow =
    written j c.write_parts.new.writer c.line_from.result (c.write_parts.ensures.before ∙ c.in_ok-writer.ensures.before)
    (c.in_ok-write_parts.ensures.ok ∙ ap (λ l. l ++ flat_map part_tokens c.args.parts.now) c.in_ok-writer.ensures.tokens ∙ same)
    shallow c.line_from.ensures
