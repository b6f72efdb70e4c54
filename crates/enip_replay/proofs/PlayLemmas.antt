use Rattle.std.proofs.Common.{◌≡◌, ◌∙◌, ℕ, List, [], Option, Some, Result, Ok, Err, MatchResult, OnOk, IfErr, refl, sym, ap, subst}
use Rattle.std.proofs.KnownBytes.{Appends-trans}
use Rattle.std.specs.Io.KnownBytes.{Appends, Keeps}
use Rattle.std.specs.Result.{IsErr, IsErrAnd}
use Rattle.enip_adapter.specs.Calls.{AdapterState}
use Rattle.enip_bench.specs.CountingWorld.{CountingWorld, counting_run}
use Rattle.enip_bench.specs.Events.{Event}
use Rattle.enip_lines.specs.InputLines.{AreAllRun, IsLineRefused, StopsAtLine, IsTakenToEnd, lines_of}
use Rattle.enip_faults.specs.Statuses.{IsOfDevices}
use Rattle.enip_faults.specs.declared.fault.ProgramFault.{ProgramFault}
use Rattle.enip_faults.specs.declared.fault.ProgramFault.TheVariants.{Line, Device, Memory}
use Rattle.enip_replay.specs.Drawing.{Grows, IsDrawnFrom, IsDrawnUpTo, IsEndDrawn, nothing}
use Rattle.enip_replay.specs.Outcome.{outcomes}
use Rattle.enip_replay.specs.Replay.{IsPlayedFrom, IsPlayedUpTo, IsOpeningOf, IsRun, IsStop, IsStopAt, OnceOpened, ending}
use Rattle.enip_faults.specs.declared.replay_failure.ReplayFailure.{ReplayFailure}
use Rattle.enip_faults.specs.declared.replay_failure.ReplayFailure.TheVariants.{Program}
use Rattle.enip_replay.specs.Script.{IsRefusedAt, IsRefusedLine}
use Rattle.enip_replay.proofs.LadderLemmas.{grown-more}
use Rattle.enip_replay.proofs.RunLemmas.{AreRunFrom, IsInOrder, Keeps-appends, lines_run, outcomes_in_order, nothing_in_order}

pub on_ok : {T E A B : Type 0} (r : Result T E) → (A → B) → OnOk r A → OnOk r B
on_ok (Ok x) f a = f a
on_ok (Err e) f a = tt

pub of_devices : (refused : ℕ → Type 0) (fault : ProgramFault) → IsOfDevices fault → IsStopAt refused fault
of_devices refused (Line number why) failed = absurd failed
of_devices refused Device failed = tt
of_devices refused Memory failed = tt

pub devices_stop : {T : Type 0} (refused : ℕ → Type 0) (r : Result T ProgramFault) → IfErr r IsOfDevices → IfErr r (IsStopAt refused)
devices_stop refused (Ok x) failed = tt
devices_stop refused (Err fault) failed = of_devices refused fault failed

-- The exit of a `?` passes a fault on.
pub passed_on : {T : Type 0} (P : ProgramFault → Type 0) (fault : ProgramFault) (r : Result T ProgramFault) → IsErr r × IsErrAnd r (λ f. f ≡ fault)
    → P fault → IfErr r P
passed_on P fault (Ok x) gives so = tt
passed_on P fault (Err f) gives so = subst P (sym gives.1) so

-- A fault of the program, as a failure of a replay.
abbrev pub IsFailureOf : Result (Unit {0}) ProgramFault → Result (Unit {0}) ReplayFailure → Type 0
IsFailureOf played r = MatchResult played (λ x. r ≡ Ok x) (λ fault. IsErrAnd r (λ failure. failure ≡ Program fault))

pub replay_done : (ended : Result (Unit {0}) ProgramFault) (r : Result (Unit {0}) ReplayFailure) (A B : Type 0) → IsFailureOf ended r → (A → B)
    → OnOk ended A → OnOk r B
replay_done (Ok x) r A B of f a = subst (λ r. OnOk r B) (sym of) (f a)
replay_done (Err e) (Ok x) A B of f a = absurd of
replay_done (Err e) (Err failure) A B of f a = tt

once_at : (adapter : AdapterState) (opened : CountingWorld) (P : CountingWorld → ℕ → Type 0) (fault : ProgramFault) → IsOpeningOf adapter opened
    → IsStopAt (P opened) fault → IsStopAt (λ number. OnceOpened adapter (λ world. P world number)) fault
once_at adapter opened P (Line number why) opening so = (opened, opening, so)
once_at adapter opened P Device opening so = tt
once_at adapter opened P Memory opening so = tt

pub replay_stopped : (adapter : AdapterState) (opened : CountingWorld) (P : CountingWorld → ℕ → Type 0) (before after : Option (List ℕ))
    (ended : Result (Unit {0}) ProgramFault) (r : Result (Unit {0}) ReplayFailure) → IsOpeningOf adapter opened → IsFailureOf ended r
    → IfErr ended (IsStopAt (P opened)) → IfErr r (IsStop adapter (λ number. OnceOpened adapter (λ world. P world number)) before after)
replay_stopped adapter opened P before after (Ok x) r opening of so =
    subst (λ r. IfErr r (IsStop adapter (λ number. OnceOpened adapter (λ world. P world number)) before after)) (sym of) tt
replay_stopped adapter opened P before after (Err e) (Ok x) opening of so = tt
replay_stopped adapter opened P before after (Err e) (Err failure) opening of so =
    subst (IsStop adapter (λ number. OnceOpened adapter (λ world. P world number)) before after) (sym of) (once_at adapter opened P e opening so)

-- What a script does up to a refused line.
pub record IsUpTo (prints : CountingWorld → List Event → List ℕ) (opened : CountingWorld) (script : List ℕ) (before after : Option (List ℕ))
    (number : ℕ) : Type 0 where
  pub events : List Event
  pub refused : IsRefusedAt number (lines_of script) events
  pub printed : Appends before after (prints opened events)

module _ {S : Type 0} (world : S → CountingWorld) where
  abbrev Does : (CountingWorld → List Event → List ℕ) → List ℕ → S → S → Option (List ℕ) → Option (List ℕ) → Type 0
  Does prints text old new before after = IsRun prints text (world old) (world new) before after

  all_run : (prints : CountingWorld → List Event → List ℕ) → IsInOrder prints → (script : List ℕ) (old new : S) (before after : Option (List ℕ))
      → AreAllRun (Does prints) (Some script) old new before after → AreRunFrom prints (lines_of script) (world old) (world new) before after
  all_run prints in_order script old new before after all =
      subst (λ bytes. AreRunFrom prints (lines_of bytes) (world old) (world new) before after) all.input_is
      (lines_run world prints in_order (lines_of all.bytes) old new before after all.run)

  up_to : (prints : CountingWorld → List Event → List ℕ) → IsInOrder prints → (script : List ℕ) (old : S) (before after : Option (List ℕ)) (number : ℕ)
      → IsLineRefused (Does prints) IsRefusedLine (Some script) old before after number → IsUpTo prints (world old) script before after number
  up_to prints in_order script old before after number refused =
      let run = lines_run world prints in_order refused.earlier old refused.new before after refused.run in
      record {
        events = run.events;
        refused = record {
          earlier = refused.earlier;
          line = refused.line;
          later = refused.later;
          split = ap lines_of (sym refused.input_is) ∙ refused.lines_are;
          counted = refused.number_is;
          said = run.said;
          refused = refused.refused;
        };
        printed = run.printed;
      }

  -- The script was run, and the ending printed.
  pub played : (script : List ℕ) (old new : S) (before between after : Option (List ℕ))
      → AreAllRun (Does outcomes) (Some script) old new before between → Appends between after (ending (world new))
      → IsPlayedFrom (world old) script before after
  played script old new before between after all ended =
      let run = all_run outcomes outcomes_in_order script old new before between all in
      record {
        events = run.events;
        said = run.said;
        printed = Appends-trans before between after (outcomes (world old) run.events) (ending (counting_run (world old) run.events))
            run.printed (subst (λ w. Appends between after (ending w)) run.done ended);
      }

  -- The script was not run to its end.
  pub play_stopped : (script : List ℕ) (old : S) (before after : Option (List ℕ)) (fault : ProgramFault)
      → StopsAtLine (Does outcomes) IsRefusedLine (Some script) old before after fault
      → IsStopAt (IsPlayedUpTo (world old) script before after) fault
  play_stopped script old before after (Line number why) stopped =
      let to = up_to outcomes outcomes_in_order script old before after number stopped in
      record { events = to.events; refused = to.refused; printed = to.printed }
  play_stopped script old before after Device stopped = tt
  play_stopped script old before after Memory stopped = tt

  -- The script was drawn, and then the end.
  pub drawn : (script : List ℕ) (old new : S) (before from to after : Option (List ℕ)) (ran result : Result (Unit {0}) ProgramFault)
      → IsTakenToEnd (Does nothing) IsRefusedLine (Some script) old new before from ran → Grows from to
      → OnOk result (IsEndDrawn (world new) to after) → IfErr ran (λ fault. (result ≡ Err fault) × Keeps to after)
      → OnOk result (IsDrawnFrom (world old) script before after)
  drawn script old new before from to after ran (Err fault) taken grown ended silent = tt
  drawn script old new before from to after (Err fault) (Ok done) taken grown ended silent = absurd (cc silent.0)
  drawn script old new before from to after (Ok run) (Ok done) taken grown ended silent =
      let all = all_run nothing nothing_in_order script old new before from taken in
      record {
        events = all.events;
        said = all.said;
        between = to;
        drawn = grown-more before from to ([], all.printed) grown;
        ended = subst (λ w. IsEndDrawn w to after) all.done ended;
      }

  drawing_refused : (script : List ℕ) (old : S) (before from to after : Option (List ℕ)) (fault : ProgramFault)
      → StopsAtLine (Does nothing) IsRefusedLine (Some script) old before from fault → Grows from to → Keeps to after
      → IsStopAt (IsDrawnUpTo (world old) script before after) fault
  drawing_refused script old before from to after (Line number why) stopped grown kept =
      let up = up_to nothing nothing_in_order script old before from number stopped in
      record {
        events = up.events;
        refused = up.refused;
        drawn = grown-more before to after (grown-more before from to ([], up.printed) grown) ([], Keeps-appends to after [] refl kept);
      }
  drawing_refused script old before from to after Device stopped grown kept = tt
  drawing_refused script old before from to after Memory stopped grown kept = tt

  -- The script was drawn up to a refused line, or a device or memory failed.
  pub drawing_stopped : (script : List ℕ) (old new : S) (before from to after : Option (List ℕ)) (ran result : Result (Unit {0}) ProgramFault)
      → IsTakenToEnd (Does nothing) IsRefusedLine (Some script) old new before from ran → Grows from to
      → IfErr ran (λ fault. (result ≡ Err fault) × Keeps to after) → OnOk ran (IfErr result IsOfDevices)
      → IfErr result (IsStopAt (IsDrawnUpTo (world old) script before after))
  drawing_stopped script old new before from to after (Ok run) result taken grown silent failed = devices_stop _ result failed
  drawing_stopped script old new before from to after (Err fault) result taken grown silent failed =
      subst (λ r. IfErr r (IsStopAt (IsDrawnUpTo (world old) script before after))) (sym silent.0)
      (drawing_refused script old before from to after fault taken grown silent.1)
