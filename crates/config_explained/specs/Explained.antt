-- The explanation of a refused configuration.
use Rattle.config_explained.specs.declared.explanation.ExplainedFault.{ExplainedFault}
use Rattle.config_explained.specs.declared.explanation.ExplainedFault.TheVariants as explained
use Rattle.config_explained.specs.declared.explanation.Explanation.{Explanation}
use Rattle.config_refusal.specs.declared.fault.ConfigurationRefusal.{ConfigurationRefusal}
use Rattle.config_refusal.specs.declared.fault.LoadFault.{LoadFault}
use Rattle.config_refusal.specs.declared.fault.LoadFault.TheVariants.{Refused, Memory}

-- the check that it explains
abbrev pub refusal_of : Explanation → ConfigurationRefusal
refusal_of explanation = explanation.refusal

-- the same fault without the explanation
abbrev pub fault_of : ExplainedFault → LoadFault
fault_of (explained.Refused explanation) = Refused (refusal_of explanation)
fault_of explained.Memory = Memory
