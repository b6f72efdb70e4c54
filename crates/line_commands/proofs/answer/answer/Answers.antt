use Rattle.std.proofs.Common.{ℕ, List, subst, sym, ◌∙◌}
use Rattle.config_refusal.specs.declared.fault.ConfigurationRefusal.{ConfigurationRefusal}
use Rattle.enip_config.specs.Documents.{IsRefused}
use Rattle.configured_adapter.specs.Configured.{IsAccepted}
use Rattle.configured_runs.proofs.StatusLemmas.{status_of_fault, line_refused, configuration_refused}
use Rattle.line_commands.proofs.answer.answer.Goals as goal

pub returns-in-Ok-clause-accepted : goal.returns-in-Ok-clause-accepted
returns-in-Ok-clause-accepted g c done_ =
    subst (λ (text : List ℕ). IsAccepted text) c.as_bytes.ensures.value c.in-Ok.ensures.accepted

pub returns-in-Err-clause-status : goal.returns-in-Err-clause-status
returns-in-Err-clause-status g c = rw c.exit_status.ensures (status_of_fault _ c.in-Err.fault c.in-Err.ensures.refused)

pub returns-in-Err-clause-line : goal.returns-in-Err-clause-line
returns-in-Err-clause-line g c four =
    subst (λ (text : List ℕ). IsAccepted text) c.as_bytes.ensures.value
    (line_refused _ c.in-Err.fault c.in-Err.ensures.refused (sym c.exit_status.ensures ∙ four))

pub returns-in-Err-clause-refused : goal.returns-in-Err-clause-refused
returns-in-Err-clause-refused g c three =
    subst (λ (text : List ℕ). (refusal : ConfigurationRefusal) × IsRefused text refusal) c.as_bytes.ensures.value
    (configuration_refused _ c.in-Err.fault c.in-Err.ensures.refused (sym c.exit_status.ensures ∙ three))
