use Rattle.std.proofs.Common.{◌≡◌, ◌∷◌, ap, sym, subst, ◌∙◌}
use Rattle.std.proofs.KnownBytes.{Appends-trans}
use Rattle.std.specs.Io.KnownBytes.{Appends}
use Rattle.std.specs.List.{flat_map}
use Rattle.enip_client.specs.Lists.{entries_left, entry_shown}
use Rattle.enip_lines.specs.Lines.{with_newline}
use Rattle.enip_commands.specs.Listing.{entry_lines, further, list_text}
use Rattle.enip_commands.proofs.ListingLemmas.{printed_none, printed_more, printed_all}
use Rattle.enip_commands.proofs.listing.print_entries.Goals as goal

pub loop-entry-init : goal.loop-entry-init
loop-entry-init g c = printed_none further (g.O.Write.contents c.writeln.new.self) (entries_left c.into_iter-entry-iterator.result)

pub loop-entry-preserved : goal.loop-entry-preserved
loop-entry-preserved g c =
    printed_more further (g.O.Write.contents c.writeln.new.self) (g.O.Write.contents c.loop-entry.output) (g.O.Write.contents c.write.new.self)
    (entries_left c.into_iter-entry-iterator.result) (entries_left c.loop-entry.entry-iterator) (entries_left c.next-in-loop-entry.new.self) (entry_shown c.in-Some-entry.entry)
    c.loop-entry.invariant c.in-Some-entry.ensures.steps c.in_ok-write.ensures.bytes

pub returns-clause-printed : goal.returns-clause-printed
returns-clause-printed g c =
    let before = g.O.Write.contents c.args.output.now in
    let between = g.O.Write.contents c.writeln.new.self in
    let after = g.O.Write.contents c.loop-entry.output in
    let rest = entries_left c.into_iter-entry-iterator.result in
    let all : entries_left c.args.entries ≡ entry_shown c.in-Some.first ∷ rest =
    c.in-Some.ensures.steps ∙ ap (λ it. entry_shown c.in-Some.first ∷ entries_left it) (sym c.into_iter-entry-iterator.ensures.into_iter_gives) in
    subst (λ entries. Appends before after (list_text entries)) (sym all)
    (Appends-trans before between after (with_newline (entry_lines (entry_shown c.in-Some.first))) (flat_map further rest) c.in_ok-writeln.ensures.bytes
    (printed_all further between after rest (entries_left c.loop-entry.entry-iterator) c.loop-entry.invariant c.in-None.ensures.steps.0))
