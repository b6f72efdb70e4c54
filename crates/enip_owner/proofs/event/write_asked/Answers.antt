use Rattle.std.proofs.Common.{[], ◌∷◌, ◌∙◌, codes, refl}
use Rattle.std.specs.Net.Text.{ip_text}
use Rattle.json.specs.Token.{key, string, end_object}
use Rattle.enip_owner.specs.Events.{IsAsked, asked_json}
use Rattle.enip_owner.specs.Shown.{asked_head, shown_tokens}
use Rattle.enip_owner.proofs.PartLemmas.{written_one}
use Rattle.enip_owner.proofs.HelloLemmas.{joined_all}
use Rattle.enip_owner.proofs.ShownLemmas.{asked_tokens, asked_shallow}
use Rattle.enip_owner.proofs.event.write_asked.Goals as goal

pub returns : goal.returns
returns c =
    let e = c.args.event.now in
    let ok = c.in_ok-write_shown.ensures.ok in
    let same =
    joined_all c.in_ok-writer.writer c.write_asked_head.new.writer c.write_shown.new.writer c.write_parts.new.writer
    (asked_head e) (shown_tokens ok.0) (key (codes "by") ∷ string (ip_text e.by) ∷ end_object ∷ end_object ∷ [])
    c.in_ok-writer.ensures.tokens c.in_ok-write_asked_head.ensures.ok ok.1.1 c.in_ok-write_parts.ensures.ok in
    written_one (IsAsked e) (asked_json e ok.0) c.write_parts.new.writer c.line_from.result (ok.0, (ok.1.0, refl))
    (c.write_parts.ensures.before ∙ c.write_shown.ensures.before ∙ c.write_asked_head.ensures.before ∙ c.in_ok-writer.ensures.before)
    (same ∙ asked_tokens e ok.0) (asked_shallow e ok.0 ok.1.0) c.line_from.ensures
