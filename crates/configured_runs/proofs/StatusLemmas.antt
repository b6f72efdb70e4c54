use Rattle.std.proofs.Common.{◌≡◌, ℕ, List, Option, inl, inr, Result, Ok, Err, IfErr, refl, arith}
use Rattle.std.specs.Result.{IsErr, IsErrAnd}
use Rattle.enip_adapter.specs.Calls.{AdapterState}
use Rattle.config_refusal.specs.declared.fault.ConfigurationRefusal.{ConfigurationRefusal}
use Rattle.configured_adapter.specs.Configured.{IsAccepted, IsUnsharedAdapterOf}
use Rattle.enip_config.specs.Documents.{IsRefused}
use Rattle.enip_faults.specs.declared.fault.ProgramFault.{ProgramFault}
use Rattle.enip_faults.specs.declared.fault.ProgramFault.TheVariants as program
use Rattle.enip_faults.specs.declared.replay_failure.ReplayFailure.{ReplayFailure}
use Rattle.enip_faults.specs.declared.replay_failure.ReplayFailure.TheVariants as failures
use Rattle.enip_replay.specs.Replay.{IsStop}
use Rattle.enip_common.specs.declared.fault.Fault.{Fault}
use Rattle.enip_common.specs.declared.fault.Fault.TheVariants.{Configuration as Refused, Setup, Run, Value, CommandFile, State, Storage, Unsettled, Blocked}
use Rattle.enip_common.specs.declared.fault.Fault.TheVariants.{Hex, Pending, OtherLife, OtherRequest, Withdrawn, Session, Refusal, Client}
use Rattle.enip_common.specs.Statuses.{exit_status, fault_of_replay}
use Rattle.configured_runs.specs.Statuses.{IsStatus, IsReplayStatus, IsFaultOf, IsReplayFaultOf, IsOpeningRefused}

-- A run over an accepted configuration.
of_run_fault : (text : List ℕ) (cause : ProgramFault) → IsAccepted text → IsFaultOf text (Run cause)
of_run_fault text (program.Line number why) accepted = accepted
of_run_fault text program.Device accepted = tt
of_run_fault text program.Memory accepted = tt

-- What holds of a refused configuration and of each end of a run holds of each fault that a run may end with.
by_fault : (P : Fault → Type 0) (text : List ℕ) → ((check : ConfigurationRefusal) → IsRefused text check → P (Refused check))
    → ((cause : ProgramFault) → IsFaultOf text (Run cause) → P (Run cause)) → (fault : Fault) → IsFaultOf text fault → P fault
by_fault P text refused run (Refused check) so = refused check so
by_fault P text refused run Setup so = absurd so
by_fault P text refused run Value so = absurd so
by_fault P text refused run State so = absurd so
by_fault P text refused run Storage so = absurd so
by_fault P text refused run Unsettled so = absurd so
by_fault P text refused run Blocked so = absurd so
by_fault P text refused run Session so = absurd so
by_fault P text refused run Refusal so = absurd so
by_fault P text refused run (Client number) so = absurd so
by_fault P text refused run Hex so = absurd so
by_fault P text refused run Pending so = absurd so
by_fault P text refused run OtherLife so = absurd so
by_fault P text refused run OtherRequest so = absurd so
by_fault P text refused run Withdrawn so = absurd so
by_fault P text refused run (CommandFile line) so = absurd so
by_fault P text refused run (Run cause) so = run cause so

-- The same of a replay, whose opening may be refused too.
by_replay_fault : (P : Fault → Type 0) (text : List ℕ) → (IsOpeningRefused text → P Setup)
    → ((fault : Fault) → IsFaultOf text fault → P fault) → (fault : Fault) → IsReplayFaultOf text fault → P fault
by_replay_fault P text opening other Setup so = opening so
by_replay_fault P text opening other (Refused check) so = other (Refused check) so
by_replay_fault P text opening other Value so = absurd so
by_replay_fault P text opening other State so = absurd so
by_replay_fault P text opening other Storage so = absurd so
by_replay_fault P text opening other Unsettled so = absurd so
by_replay_fault P text opening other Blocked so = absurd so
by_replay_fault P text opening other Session so = absurd so
by_replay_fault P text opening other Refusal so = absurd so
by_replay_fault P text opening other (Client number) so = absurd so
by_replay_fault P text opening other Hex so = absurd so
by_replay_fault P text opening other Pending so = absurd so
by_replay_fault P text opening other OtherLife so = absurd so
by_replay_fault P text opening other OtherRequest so = absurd so
by_replay_fault P text opening other Withdrawn so = absurd so
by_replay_fault P text opening other (CommandFile line) so = absurd so
by_replay_fault P text opening other (Run cause) so = other (Run cause) so

-- The exit statuses of a run that ends early.
pub status_of_fault : (text : List ℕ) (fault : Fault) → IsFaultOf text fault → IsStatus (exit_status fault)
status_of_fault text fault so = by_fault (λ f. IsStatus (exit_status f)) text (λ check refused. inr (inl refl)) ran fault so
  where
    ran : (cause : ProgramFault) → IsFaultOf text (Run cause) → IsStatus (exit_status (Run cause))
    ran (program.Line number why) accepted = inr (inr (inl refl))
    ran program.Device accepted = inr (inr (inr refl))
    ran program.Memory accepted = inr (inr (inr refl))

-- A line is refused only once the configuration is accepted.
pub line_refused : (text : List ℕ) (fault : Fault) → IsFaultOf text fault → exit_status fault ≡ 4 → IsAccepted text
line_refused text fault so =
    by_fault (λ f. exit_status f ≡ 4 → IsAccepted text) text (λ check refused four. absurd (omega (arith, four))) ran fault so
  where
    ran : (cause : ProgramFault) → IsFaultOf text (Run cause) → exit_status (Run cause) ≡ 4 → IsAccepted text
    ran (program.Line number why) accepted four = accepted
    ran program.Device accepted four = absurd (omega (arith, four))
    ran program.Memory accepted four = absurd (omega (arith, four))

-- Exit status 3 is that of a refused configuration.
pub configuration_refused : (text : List ℕ) (fault : Fault) → IsFaultOf text fault → exit_status fault ≡ 3
    → (refusal : ConfigurationRefusal) × IsRefused text refusal
configuration_refused text fault so =
    by_fault (λ f. exit_status f ≡ 3 → (refusal : ConfigurationRefusal) × IsRefused text refusal) text
    (λ check refused three. (check, refused)) ran fault so
  where
    ran : (cause : ProgramFault) → IsFaultOf text (Run cause) → exit_status (Run cause) ≡ 3
        → (refusal : ConfigurationRefusal) × IsRefused text refusal
    ran (program.Line number why) accepted three = absurd (omega (arith, three))
    ran program.Device accepted three = absurd (omega (arith, three))
    ran program.Memory accepted three = absurd (omega (arith, three))

of_replay_failure : (text : List ℕ) (adapter : AdapterState) (refused : ℕ → Type 0) (before after : Option (List ℕ)) (failure : ReplayFailure)
    → IsUnsharedAdapterOf text adapter → IsAccepted text → IsStop adapter refused before after failure → IsReplayFaultOf text (fault_of_replay failure)
of_replay_failure text adapter refused before after failures.Setup made accepted so = (adapter, (made, so.0))
of_replay_failure text adapter refused before after (failures.Program cause) made accepted so = of_run_fault text cause accepted

pub replay_fails : {T : Type 0} (text : List ℕ) (adapter : AdapterState) (refused : ℕ → Type 0) (before after : Option (List ℕ)) (failure : ReplayFailure)
    (r : Result T Fault) → IsErr r × IsErrAnd r (λ f. f ≡ fault_of_replay failure) → IsUnsharedAdapterOf text adapter → IsAccepted text
    → IsStop adapter refused before after failure → IfErr r (IsReplayFaultOf text)
replay_fails text adapter refused before after failure (Ok x) gives made accepted so = tt
replay_fails text adapter refused before after failure (Err f) gives made accepted so =
    rw gives.1 (of_replay_failure text adapter refused before after failure made accepted so)

pub status_of_replay_fault : (text : List ℕ) (fault : Fault) → IsReplayFaultOf text fault → IsReplayStatus (exit_status fault)
status_of_replay_fault text fault so =
    by_replay_fault (λ f. IsReplayStatus (exit_status f)) text (λ opening. inr refl) (λ f g. inl (status_of_fault text f g)) fault so

pub replay_line_refused : (text : List ℕ) (fault : Fault) → IsReplayFaultOf text fault → exit_status fault ≡ 4 → IsAccepted text
replay_line_refused text fault so =
    by_replay_fault (λ f. exit_status f ≡ 4 → IsAccepted text) text (λ opening four. absurd (omega (arith, four)))
    (line_refused text) fault so

pub replay_configuration_refused : (text : List ℕ) (fault : Fault) → IsReplayFaultOf text fault → exit_status fault ≡ 3
    → (refusal : ConfigurationRefusal) × IsRefused text refusal
replay_configuration_refused text fault so =
    by_replay_fault (λ f. exit_status f ≡ 3 → (refusal : ConfigurationRefusal) × IsRefused text refusal) text
    (λ opening three. absurd (omega (arith, three))) (configuration_refused text) fault so

-- Exit status 6 is that of a refused opening.
pub replay_setup : (text : List ℕ) (fault : Fault) → IsReplayFaultOf text fault → exit_status fault ≡ 6 → IsOpeningRefused text
replay_setup text fault so =
    by_replay_fault (λ f. exit_status f ≡ 6 → IsOpeningRefused text) text (λ opening six. opening)
    (λ f ran six. absurd (not_six (exit_status f) (status_of_fault text f ran) six)) fault so
  where
    not_six : (status : ℕ) → IsStatus status → status ≡ 6 → ⊥
    not_six status (inl is) six = omega (arith, is, six)
    not_six status (inr (inl is)) six = omega (arith, is, six)
    not_six status (inr (inr (inl is))) six = omega (arith, is, six)
    not_six status (inr (inr (inr is))) six = omega (arith, is, six)
