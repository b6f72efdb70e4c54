-- What rounds, crashes and starts make of the contents, and what of it survives.
use Rattle.std.specs.Prelude.{◌≡◌, ◌⊎◌, Bool, true, false, List, [], ◌∷◌}
use Rattle.enip_keep.specs.declared.lives.Event.{Event}
use Rattle.enip_keep.specs.declared.lives.Event.TheVariants.{Round, Restart}
use Rattle.enip_keep.specs.Kept.{Kept}

-- a round that was executed, or a start with this configuration
pub data Step (Requests Configuration : Type 0) : Type 0 where
  Executed : Requests → Step Requests Configuration
  Restarted : Configuration → Step Requests Configuration

module _ {Contents Requests Configuration : Type 0} (executed : Contents → Requests → Contents)
    (kept_part : Contents → Kept) (started : Configuration → Kept → Contents) where
  -- a round is executed on what it finds; a start makes the contents from what is kept of them, and from nothing else
  abbrev pub after_step : Contents → Step Requests Configuration → Contents
  after_step contents (Executed requests) = executed contents requests
  after_step contents (Restarted configuration) = started configuration (kept_part contents)

  -- after these steps, the first of them first
  abbrev pub after : List (Step Requests Configuration) → Contents → Contents
  after [] contents = contents
  after (step ∷ steps) contents = after steps (after_step contents step)

-- the first step is such, and the others are such
abbrev pub Begins : {Requests Configuration : Type 0} → (Step Requests Configuration → Type 0)
    → (List (Step Requests Configuration) → Type 0) → List (Step Requests Configuration) → Type 0
Begins {Requests} {Configuration} IsFirst AreOthers steps =
    (step : Step Requests Configuration) × (others : List (Step Requests Configuration)) × (steps ≡ step ∷ others)
    × IsFirst step × AreOthers others

module _ {Input Requests Configuration : Type 0} (brings : Input → Requests → Type 0) where
  -- the step of an event: a round has requests of its input, and a start its own configuration
  abbrev pub IsStepOf : Event Input Configuration → Step Requests Configuration → Type 0
  IsStepOf (Round input) (Executed requests) = brings input requests
  IsStepOf (Round input) (Restarted configuration) = ⊥
  IsStepOf (Restart configuration) (Executed requests) = ⊥
  IsStepOf (Restart configuration) (Restarted with) = with ≡ configuration

  -- These steps are of the events that were done, in their order. Each event that went well has its step. One that
  -- failed has it or not: a crash came after its commit, or before.
  abbrev pub AreStepsOf : List (Event Input Configuration) → List Bool → List (Step Requests Configuration) → Type 0
  AreStepsOf [] went steps = steps ≡ []
  AreStepsOf (event ∷ events) [] steps = steps ≡ []
  AreStepsOf (event ∷ events) (true ∷ went) steps = Begins (IsStepOf event) (AreStepsOf events went) steps
  AreStepsOf (event ∷ events) (false ∷ went) steps =
      AreStepsOf events went steps ⊎ Begins (IsStepOf event) (AreStepsOf events went) steps

module _ {Input Contents Requests Configuration : Type 0} (brings : Input → Requests → Type 0)
    (executed : Contents → Requests → Contents) (kept_part : Contents → Kept)
    (started : Configuration → Kept → Contents) where
  -- the contents after steps of these events
  abbrev pub AreAfter : List (Event Input Configuration) → List Bool → Contents → Contents → Type 0
  AreAfter events went first contents =
      (steps : List (Step Requests Configuration)) × AreStepsOf brings events went steps
      × (contents ≡ after executed kept_part started steps first)

  -- what is kept after steps of these events
  abbrev pub IsKeptAfter : List (Event Input Configuration) → List Bool → Contents → Kept → Type 0
  IsKeptAfter events went first kept =
      (steps : List (Step Requests Configuration)) × AreStepsOf brings events went steps
      × (kept ≡ kept_part (after executed kept_part started steps first))

module _ {Input Contents Requests Configuration : Type 0} (brings : Input → Requests → Type 0)
    (executed : Contents → Requests → Contents) (started : Configuration → Kept → Contents) where
  -- What an event makes, if rounds are served on such contents, and a crash may leave such entries.
  abbrev pub Makes : (Contents → Type 0) → (Kept → Type 0) → Event Input Configuration → Contents → Type 0
  Makes IsServed MayFind (Round input) contents =
      (before : Contents) × (requests : Requests) × IsServed before × brings input requests
      × (contents ≡ executed before requests)
  Makes IsServed MayFind (Restart configuration) contents =
      (found : Kept) × MayFind found × (contents ≡ started configuration found)
