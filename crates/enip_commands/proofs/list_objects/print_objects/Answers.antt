use Rattle.std.proofs.Common.{ap, subst}
use Rattle.std.specs.Io.KnownBytes.{Appends}
use Rattle.enip_client.specs.Lists.{entries_left, entry_shown}
use Rattle.enip_commands.specs.ListObjects.{object_line, object_lines}
use Rattle.enip_commands.proofs.ListingLemmas.{printed_none, printed_more, printed_all}
use Rattle.enip_commands.proofs.list_objects.print_objects.Goals as goal

pub loop-entry-init : goal.loop-entry-init
loop-entry-init g c = printed_none object_line (g.O.Write.contents c.args.output.now) (entries_left c.into_iter-entry-iterator.result)

pub loop-entry-preserved : goal.loop-entry-preserved
loop-entry-preserved g c =
    printed_more object_line (g.O.Write.contents c.args.output.now) (g.O.Write.contents c.loop-entry.output) (g.O.Write.contents c.print_object.new.output)
    (entries_left c.into_iter-entry-iterator.result) (entries_left c.loop-entry.entry-iterator) (entries_left c.next.new.self) (entry_shown c.in-Some.entry)
    c.loop-entry.invariant c.in-Some.ensures.steps c.in_ok-print_object.ensures.printed

pub returns-clause-printed : goal.returns-clause-printed
returns-clause-printed g c =
    let before = g.O.Write.contents c.args.output.now in
    let after = g.O.Write.contents c.loop-entry.output in
    subst (λ entries. Appends before after (object_lines entries)) (ap entries_left c.into_iter-entry-iterator.ensures.into_iter_gives)
    (printed_all object_line before after (entries_left c.into_iter-entry-iterator.result) (entries_left c.loop-entry.entry-iterator) c.loop-entry.invariant c.in-None.ensures.steps.0)
