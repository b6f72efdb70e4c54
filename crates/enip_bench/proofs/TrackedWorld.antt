-- The numbered world in a form for proofs: each number has its request with it, the log is newest first, and the
-- submits since the last accepted reply are counted.
use Rattle.std.proofs.Common.{ℕ, Bool, true, false, ◌||◌, ◌==◌, Option, None, List, [], ◌∷◌}
use Rattle.enip_adapter.specs.OwnWrites.{OwnWrite}

-- a number and its request
pub record Own : Type 0 where
  pub number : ℕ
  pub request : List ℕ

pub data Logged : Type 0 where
  OwnLogged : (own : Own) → Logged
  OtherLogged : (request : List ℕ) → Logged
  WriteLogged : (write : OwnWrite) → Logged

pub data Course : Type 0 where
  Resting : Course
  Awaiting : (own : Own) → Course
  Abandoned : Course

pub record TrackedWorld : Type 0 where
  pub submits : List (List ℕ)
  pub sent : List Own
  pub back : List Own
  pub last_reached : Option ℕ
  pub last_back : Option ℕ
  pub log : List Logged
  pub is_open : Bool
  pub course : Course
  pub accepted : List Own
  pub unaccepted : ℕ

abbrev pub tracked_at_opening : TrackedWorld
tracked_at_opening = record {
  submits = [];
  sent = [];
  back = [];
  last_reached = None;
  last_back = None;
  log = [];
  is_open = true;
  course = Resting;
  accepted = [];
  unaccepted = 0;
}

abbrev pub is_logged : ℕ → List Logged → Bool
is_logged number [] = false
is_logged number (OwnLogged own ∷ log) = (own.number == number) || is_logged number log
is_logged number (OtherLogged request ∷ log) = is_logged number log
is_logged number (WriteLogged write ∷ log) = is_logged number log
