use Rattle.std.proofs.Common.{map, arith}
use Rattle.cip_layouts.proofs.WriteLemmas.{ok_appended}
use Rattle.cip_layouts.proofs.writing.+write_from.Goals as goal

pub returns-in-Ok-clause-written : goal.returns-in-Ok-clause-written
returns-in-Ok-clause-written t c =
    ok_appended c.write_from.result c.args.fields.now c.args.index c.index-fields-index.result (map (λ word. word.now) c.args.words.now)
    (map (λ word. word.now) c.in-Ok.rest.now) c.args.out.now.items c.write_field.new.out.items c.write_from.new.out.items
    (omega (arith, c.if-index-fields.false)) c.index-fields-index.is c.in-Ok.ensures.written c.write_from.ensures.written
