use Rattle.std.proofs.Common.{option_map, sym, ap, ◌∙◌}
use Rattle.enip_commands.specs.declared.command_record.DoneCommand.{DoneCommand}
use Rattle.enip_commands.proofs.RecordListingLemmas.{last_of}
use Rattle.enip_commands.proofs.command_record.listing.last_reply.Goals as goal

pub returns-in-Some : goal.returns-in-Some
returns-in-Some c = ap (option_map (λ (d : DoneCommand). d.reply.now)) c.in-Some.ensures.value ∙ sym (last_of c.args.done.now)

pub returns-in-None : goal.returns-in-None
returns-in-None c = ap (option_map (λ (d : DoneCommand). d.reply.now)) c.in-None.ensures.value ∙ sym (last_of c.args.done.now)
