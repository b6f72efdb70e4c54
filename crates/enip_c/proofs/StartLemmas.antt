-- The slots of a ledger that an adapter starts from.
use Rattle.std.proofs.Common.{◌≡◌, ◌≤◌, ℕ, Option, Some, None, IfSome, subst, sym}
use Rattle.std.specs.Option.{ForSome, option_map}
use Rattle.cip_objects.specs.Configuration.{fault_of}
use Rattle.cip_objects.specs.declared.config.Config.{Config}
use Rattle.enip_config.specs.declared.ledger.LedgerConfig.{LedgerConfig}
use Rattle.enip_config.specs.Documents.{HasRanges}
use Rattle.kept_adapter.specs.declared.adapter_start.LedgerStart.{LedgerStart}
use Rattle.enip_c.specs.StateCalls.{ledger_start}

same_start : (a b : LedgerStart) → Some a ≡ Some b → a ≡ b
same_start a b e = cc

pub slots_from : (life : ℕ) (configured : Option LedgerConfig) (ledger : Option LedgerStart)
    → IfSome configured HasRanges → ledger ≡ option_map (ledger_start life) configured
    → ForSome ledger (λ l. 1 ≤ l.originators)
slots_from life None ledger ranges is start e = absurd (cc)
slots_from life (Some l) ledger ranges is start e =
    subst (λ s. 1 ≤ s.originators) (same_start (ledger_start life l) start (cc)) ranges.originators_from

pub slots_to : (life : ℕ) (configured : Option LedgerConfig) (ledger : Option LedgerStart)
    → IfSome configured HasRanges → ledger ≡ option_map (ledger_start life) configured
    → ForSome ledger (λ l. l.originators ≤ 64)
slots_to life None ledger ranges is start e = absurd (cc)
slots_to life (Some l) ledger ranges is start e =
    subst (λ s. s.originators ≤ 64) (same_start (ledger_start life l) start (cc)) ranges.originators_to

-- The objects of a configuration that is accepted are accepted.
pub accepted : (described objects : Config) → objects ≡ described → fault_of described ≡ None → fault_of objects ≡ None
accepted described objects same is = subst (λ o. fault_of o ≡ None) (sym same) is
