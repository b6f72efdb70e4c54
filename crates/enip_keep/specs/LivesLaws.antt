-- What the steps of a list of events say of one of them.
use Rattle.std.specs.Prelude.{◌≡◌, Bool, true, List, ◌∷◌, ◌++◌, length}
use Rattle.enip_keep.specs.declared.lives.Event.{Event}
use Rattle.enip_keep.specs.Lives.{Step, IsStepOf, AreStepsOf}

-- The step of this event is between those of the events before it and those of the events after it.
abbrev pub HasItsStep : {Input Requests Configuration : Type 0} → (Input → Requests → Type 0)
    → List (Event Input Configuration) → List Bool → Event Input Configuration
    → List (Event Input Configuration) → List Bool → List (Step Requests Configuration) → Type 0
HasItsStep {Requests = Requests} {Configuration = Configuration} brings earlier went event later went_later steps =
    (before : List (Step Requests Configuration)) × (step : Step Requests Configuration)
    × (after : List (Step Requests Configuration)) × (steps ≡ before ++ step ∷ after) × IsStepOf brings event step
    × AreStepsOf brings earlier went before × AreStepsOf brings later went_later after

-- An event that went well has its step.
abbrev pub done_law : (Input Requests Configuration : Type 0) → (Input → Requests → Type 0) → Type 0
done_law Input Requests Configuration brings =
    (earlier later : List (Event Input Configuration)) (event : Event Input Configuration) (went went_later : List Bool)
    (steps : List (Step Requests Configuration)) → length earlier ≡ length went
    → AreStepsOf brings (earlier ++ event ∷ later) (went ++ true ∷ went_later) steps
    → HasItsStep brings earlier went event later went_later steps
