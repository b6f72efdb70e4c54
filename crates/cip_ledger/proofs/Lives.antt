-- Commands over several lives of a device.
use Rattle.std.proofs.Common.{◌≢◌, ℕ, List, [], ◌∷◌, refl, sym, ◌∙◌}
use Rattle.std.specs.Prelude.{map}
use Rattle.std.specs.List.{AllByRecursion}
use Rattle.cip_ledger.specs.declared.target.Standing.{Standing}
use Rattle.cip_message.specs.LedgerCommand.{Command}
use Rattle.cip_ledger.specs.Runs.{Event, Executed, Freed}
use Rattle.cip_ledger.specs.Laws.{AreOfLife, IsNotExecuted, AreApart, IsOnceInAll, Life, begun, HaveOwnNumbers, journal_of}
use Rattle.cip_ledger.proofs.Settled.{journal-life, journal-rises}
use Rattle.cip_ledger.proofs.Answered.{rises-apart}

not_executed : (command : Command) (life : ℕ) (events : List Event) → command.life ≢ life → AreOfLife life events → IsNotExecuted command events
not_executed command life [] other all = tt
not_executed command life (Executed done reply ∷ events) other all =
    ((λ same originator number. other (same ∙ all.0)), not_executed command life events other all.1)
not_executed command life (Freed freed ∷ events) other all = not_executed command life events other all

apart : (life other_life : ℕ) (events others : List Event) → life ≢ other_life → AreOfLife life events → AreOfLife other_life others → AreApart events others
apart life other_life [] others other own all = tt
apart life other_life (Executed command reply ∷ events) others other own all = (
  not_executed command other_life others (λ e. other (sym own.0 ∙ e)) all,
  apart life other_life events others other own.1 all,
)
apart life other_life (Freed freed ∷ events) others other own all = apart life other_life events others other own all

module _ {M : Type 0} (after : M → ℕ → List ℕ → M) (answer : M → ℕ → List ℕ → List ℕ)
    (standing : M → List ℕ → Standing) where
  of_life : (life : Life M) → AreOfLife life.number (journal_of after answer standing life)
  of_life life = journal-life after answer standing life.requests (begun life) life.number refl

  all_apart : (life : Life M) (lives : List (Life M)) → AllByRecursion (λ (other : Life M). life.number ≢ other.number) lives →
      AllByRecursion (AreApart (journal_of after answer standing life)) (map (journal_of after answer standing) lives)
  all_apart life [] own = tt
  all_apart life (other ∷ lives) own = (
    apart life.number other.number (journal_of after answer standing life) (journal_of after answer standing other) own.0 (of_life life) (of_life other),
    all_apart life lives own.1,
  )

  pub once_in_all : (lives : List (Life M)) → HaveOwnNumbers lives → IsOnceInAll (map (journal_of after answer standing) lives)
  once_in_all [] own = tt
  once_in_all (life ∷ lives) own = (
    rises-apart (journal_of after answer standing life) (journal-rises after answer standing life.requests (begun life)),
    all_apart life lives own.0,
    once_in_all lives own.1,
  )
