use Rattle.std.proofs.Common.{Ok, sym, ap, ◌∙◌}
use Rattle.saved_adapter.specs.Entries.{entries_in_doubt, generation_after, generation_of}
use Rattle.saved_adapter.proofs.ReadLemmas.{first_generation, last_is}
use Rattle.saved_adapter.proofs.saving.generation.Goals as goal

pub returns-then-is_empty : goal.returns-then-is_empty
returns-then-is_empty c =
    first_generation c.args.last.now c.args.doubt c.args.adapter.now (sym c.is_empty.ensures ∙ c.if-is_empty.true)

pub returns-in-Ok : goal.returns-in-Ok
returns-in-Ok c =
    ap Ok (c.generation_after.ensures ∙ ap (generation_after c.in-Ok.state) c.new.ensures)
    ∙ sym (ap (λ l. generation_of l (entries_in_doubt c.args.doubt c.args.adapter.now))
    (last_is c.args.last.now c.read.result (sym c.is_empty.ensures ∙ c.if-is_empty.false) c.read.ensures.spelled
    c.read.ensures.refused ∙ c.in-Ok.is))

pub returns-in-Err : goal.returns-in-Err
returns-in-Err c =
    sym (ap (λ l. generation_of l (entries_in_doubt c.args.doubt c.args.adapter.now))
    (last_is c.args.last.now c.read.result (sym c.is_empty.ensures ∙ c.if-is_empty.false) c.read.ensures.spelled
    c.read.ensures.refused ∙ c.in-Err.is))
