-- What holds of a kept commander between its calls, and why a call fails.
use Rattle.std.specs.Prelude.{◌≡◌, ℕ, Bool, true, false, IsTrue, Option, None, Some, List}
use Rattle.cip_commander.specs.CommanderRule.{CommanderState, pending_message}
use Rattle.cip_commander.specs.declared.refusal.CommandRefused.{CommandRefused}
use Rattle.kept_commander.specs.declared.fault.KeptCommandError.{KeptCommandError}
use Rattle.kept_commander.specs.declared.fault.KeptCommandError.TheVariants.{Refused, Storage, Stopped}
use Rattle.kept_commander.specs.declared.kept.KeptCommander.{KeptCommander}
use Rattle.kept_commander.specs.Kept.{HasFailed}

-- The keeper has what this commander is.
pub record IsKept (is_up : Type 0) (kept commander : CommanderState) : Type 0 where
  pub up : is_up
  pub whole : kept ≡ commander

-- As long as it serves, the keeper has what its commander is.
abbrev pub IsReady : {K : Type 0} → (K → ℕ) → (K → Type 0) → (K → CommanderState) → KeptCommander K → Type 0
IsReady doubt is_up kept k =
    doubt k.keeper ≡ 0 → IsTrue k.is_serving → IsKept (is_up k.keeper) (kept k.keeper) k.commander

-- What a call leaves by its error: nothing has changed, or nothing is handed out any more.
abbrev pub IsLeftBy : {K : Type 0} → KeptCommandError → KeptCommander K → KeptCommander K → Type 0
IsLeftBy (Refused why) old new = new ≡ old
IsLeftBy Storage old new = new.is_serving ≡ false
IsLeftBy Stopped old new = new ≡ old

-- A command is refused by its rule; the storage fails between these two counts; or an earlier call failed.
abbrev pub IsCause : {K : Type 0} → (K → ℕ) → Option CommandRefused → KeptCommander K → KeptCommander K
    → KeptCommandError → Type 0
IsCause faults refusal old new (Refused why) = (refusal ≡ Some why) × IsTrue old.is_serving
IsCause faults refusal old new Storage = HasFailed (faults old.keeper) (faults new.keeper) × IsTrue old.is_serving
IsCause faults refusal old new Stopped = old.is_serving ≡ false

-- the message that is handed out: that of the pending command, as long as it serves
abbrev pub handed_out : Bool → CommanderState → Option (List ℕ)
handed_out true commander = pending_message commander
handed_out false commander = None
