use Rattle.std.proofs.Common.{◌≡◌, ℕ, List, ◌++◌, codes, true, false, refl, sym, ap, ◌∙◌, rules}
use Rattle.std.specs.Str.{bytes_eq}
use Rattle.enip_commands.specs.CommandRecords.{pending_id_text}
use Rattle.enip_commands.proofs.CommandFileLemmas.{lines_agree}
use Rattle.enip_commands.proofs.CommandRecordLemmas.{id_text_no_feed, lacks_id}
use Rattle.enip_commands.proofs.command_record.reading.read_pending_id.Goals as goal

pub returns-in_err-id-clause-lacking : goal.returns-in_err-id-clause-lacking
returns-in_err-id-clause-lacking c = λ none id rest fits e.
    c.in_err-id.ensures.lacking refl (pending_id_text id) rest (record { whole = e; one = id_text_no_feed id fits })

pub returns-then-not-is_command_id-clause-lacking : goal.returns-then-not-is_command_id-clause-lacking
returns-then-not-is_command_id-clause-lacking c = λ none id rest fits e.
    let agree = lines_agree (codes "pending-id ") c.in_ok-id.id.now (pending_id_text id) c.in_ok-id.rest.now rest
    c.in_ok-id.ensures.read.one (id_text_no_feed id fits) (sym c.in_ok-id.ensures.read.whole ∙ e) in
    let none_text : c.as_slice.result.now ≡ codes "no id" = search rules in
    let differs : bytes_eq c.in_ok-id.id.now c.as_slice.result.now ≡ false = sym c.eq.ensures ∙ c.if-eq.false in
    lacks_id c.in_ok-id.id.now id (ap (bytes_eq c.in_ok-id.id.now) (sym none_text) ∙ differs) (sym c.is_command_id.ensures ∙ c.if-not-is_command_id.true) fits agree.0
