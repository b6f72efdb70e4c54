use Rattle.std.proofs.Common.{◌≡◌, List, [], Option, Some, None, Ok, map, refl, sym, ap, ◌∙◌, inl, inr}
use Rattle.std.proofs.lemmas.Bool.Decides.{Decides-eqb}
use Rattle.std.proofs.lemmas.Slice.Eq.{strip_prefix_is}
use Rattle.enip_commands.specs.CommandRecords.{Done, done_in, ids_head}
use Rattle.enip_commands.proofs.CommandRecordLemmas.{plain_record, records_agree}
use Rattle.enip_commands.proofs.command_record.reading.read_record.Goals as goal

pub returns-in-Ok-clause-written : goal.returns-in-Ok-clause-written
returns-in-Ok-clause-written c = λ kept is e.
    let (text, none) = plain_record kept c.args.text.now (strip_prefix_is Decides-eqb c.args.text.now ids_head None c.in_default.ensures.cases) e in
    let commander : c.in-Ok.commander ≡ kept.commander = c.in-Ok.ensures.written kept.commander is.commander text in
    let done : map done_in c.new.result.items ≡ kept.done = ap (map done_in) c.new.ensures.items ∙ sym none.1 in
    inr (records_agree c.in-Ok.commander kept.commander None kept.pending_id (map done_in c.new.result.items) kept.done commander (sym none.0) done)
