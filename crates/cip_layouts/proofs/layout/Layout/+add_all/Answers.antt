use Rattle.std.proofs.Common.{sym, ◌∙◌}
use Rattle.cip_layouts.specs.Layouts.{fields_in}
use Rattle.cip_layouts.proofs.ParseLemmas.{adds_last, adds_first, fails_first}
use Rattle.cip_layouts.proofs.layout.Layout.+add_all.Goals as goal

pub returns-in-None : goal.returns-in-None
returns-in-None t c = adds_last (fields_in c.args.self.now) c.args.text.now _ c.add_text.ensures (sym c.in-None.ensures.cut)

pub returns-in-Ok : goal.returns-in-Ok
returns-in-Ok t c =
    c.add_all.ensures
    ∙ sym (adds_first (fields_in c.args.self.now) (fields_in c.add_text-in-Some.new.self) c.args.text.now c.in-Some.first.now c.in-Some.rest.now
    c.in-Ok.ensures (sym c.in-Some.ensures.cut))

pub returns-in-Err : goal.returns-in-Err
returns-in-Err t c =
    sym (fails_first (fields_in c.args.self.now) c.args.text.now c.in-Some.first.now c.in-Some.rest.now c.in-Err.fault c.in-Err.ensures
    (sym c.in-Some.ensures.cut))
