-- What `enip replay --ladder` prints.
use Rattle.std.specs.Prelude.{ℕ, List, [], ◌++◌, Option, codes}
use Rattle.std.specs.Io.KnownBytes.{Appends}
use Rattle.enip_adapter.specs.Calls.{AdapterState}
use Rattle.enip_bench.specs.CountingWorld.{CountingWorld, counting_run, counting_seen}
use Rattle.enip_bench.specs.Events.{Event}
use Rattle.enip_bench.specs.FrameLaw.{ShowsNumbers}
use Rattle.enip_lines.specs.InputLines.{lines_of}
use Rattle.enip_lines.specs.Lines.{with_newline}
use Rattle.enip_replay.specs.Replay.{ending, IsStop, OnceOpened}
use Rattle.enip_replay.specs.Script.{Say, IsRefusedAt}
use Rattle.enip_faults.specs.declared.replay_failure.ReplayFailure.{ReplayFailure}

-- A picture is drawn at the end: nothing is printed for the events as they are done.
abbrev pub nothing : CountingWorld → List Event → List ℕ
nothing world events = []

-- Something was printed, or nothing.
abbrev pub Grows : Option (List ℕ) → Option (List ℕ) → Type 0
Grows before after = (printed : List ℕ) × Appends before after printed

-- The last line of a picture.
abbrev pub same_line : List ℕ
same_line = codes "same result as in a world without sequence counts or kept replies"

-- The state at the end was printed, and then the last line. This world shows what the numbered world shows.
pub record IsEndDrawn (world : CountingWorld) (before after : Option (List ℕ)) : Type 0 where
  pub same : ShowsNumbers world (counting_seen world)
  pub printed : Appends before after (ending world ++ with_newline same_line)

-- From this world on, a script was drawn: each event that its lines say was done at both ends, in order, and a picture
-- was drawn. Then the state at the end and the last line were printed.
pub record IsDrawnFrom (opened : CountingWorld) (script : List ℕ) (before after : Option (List ℕ)) : Type 0 where
  pub events : List Event
  pub said : Say (lines_of script) events
  pub between : Option (List ℕ)
  pub drawn : Grows before between
  pub ended : IsEndDrawn (counting_run opened events) between after

-- From this world on, a script was drawn up to the line with this number, from 1, which is the first that is refused:
-- the events before it were done, and a picture was drawn. The last line was not printed.
pub record IsDrawnUpTo (opened : CountingWorld) (script : List ℕ) (before after : Option (List ℕ)) (number : ℕ)
    : Type 0 where
  pub events : List Event
  pub refused : IsRefusedAt number (lines_of script) events
  pub drawn : Grows before after

-- A script was drawn at a bench of this adapter, to its end.
abbrev pub IsDrawn : AdapterState → List ℕ → Option (List ℕ) → Option (List ℕ) → Type 0
IsDrawn adapter script before after = OnceOpened adapter (λ opened. IsDrawnFrom opened script before after)

-- Why a drawing of a script ends early.
abbrev pub IsDrawingStopOf : AdapterState → List ℕ → Option (List ℕ) → Option (List ℕ) → ReplayFailure → Type 0
IsDrawingStopOf adapter script before after =
    IsStop adapter (λ number. OnceOpened adapter (λ opened. IsDrawnUpTo opened script before after number)) before after
