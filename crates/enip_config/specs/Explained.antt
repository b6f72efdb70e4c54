-- Why a configuration is refused, with an explanation.
use Rattle.std.specs.Prelude.{◌≡◌, ◌⊎◌, ℕ, List}
use Rattle.config_explained.specs.Explained.{fault_of}
use Rattle.config_explained.specs.declared.explanation.ExplainedFault.{ExplainedFault}
use Rattle.config_refusal.specs.declared.fault.LoadFault.{LoadFault}
use Rattle.config_refusal.specs.declared.fault.LoadFault.TheVariants.{Memory}
use Rattle.enip_config.specs.Documents.{IsFaultOf}

-- The explanation is that of the first check that fails.
abbrev pub IsExplained : List ℕ → ExplainedFault → Type 0
IsExplained bytes fault = IsFaultOf bytes (fault_of fault)

-- The explanation is of this fault, or memory was refused.
abbrev pub IsSameFault : LoadFault → ExplainedFault → Type 0
IsSameFault fault explained = (fault_of explained ≡ Memory) ⊎ (fault_of explained ≡ fault)
