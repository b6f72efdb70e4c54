use Rattle.std.proofs.Common.{sym, ◌∙◌}
use Rattle.saved_state.proofs.ReadLemmas.{refused, accepted}
use Rattle.saved_state.proofs.state.read_state.Goals as goal

pub returns-in-Some-entries_fault : goal.returns-in-Some-entries_fault
returns-in-Some-entries_fault c =
    refused c.args.bytes.now c.udint_at-count.result c.in-Some-entries_fault.fault c.in_default.ensures.fault
    (sym c.checksum.ensures ∙ c.if-checksum-ulint_at.false ∙ c.ulint_at.ensures) c.udint_at-count.ensures
    c.in-Some-entries_fault.ensures

pub returns-in-None : goal.returns-in-None
returns-in-None c =
    accepted c.args.bytes.now c.ulint_at-generation.result c.udint_at-count.result c.in_default.ensures.fault
    (sym c.checksum.ensures ∙ c.if-checksum-ulint_at.false ∙ c.ulint_at.ensures) c.ulint_at-generation.ensures
    c.udint_at-count.ensures c.in-None.ensures
