-- The numbered world that a tracked world describes: numbers only, and the log oldest first.
use Rattle.std.proofs.Common.{ℕ, List, [], ◌∷◌, ◌++◌, map}
use Rattle.enip_bench.specs.NumberedWorld.{Entry, OwnRequest, OtherRequest, DeviceWrite, Progress, Idle, WaitingFor, GivenUp, NumberedWorld}
use Rattle.enip_bench.proofs.TrackedWorld.{Own, Logged, OwnLogged, OtherLogged, WriteLogged, Course, Resting, Awaiting, Abandoned, TrackedWorld}

abbrev pub number_of : Own → ℕ
number_of own = own.number

abbrev pub entries_of : List Logged → List Entry
entries_of [] = []
entries_of (OwnLogged own ∷ log) = entries_of log ++ OwnRequest own.number ∷ []
entries_of (OtherLogged request ∷ log) = entries_of log ++ OtherRequest request ∷ []
entries_of (WriteLogged write ∷ log) = entries_of log ++ DeviceWrite write ∷ []

abbrev pub progress_of : Course → Progress
progress_of Resting = Idle
progress_of (Awaiting own) = WaitingFor own.number
progress_of Abandoned = GivenUp

abbrev pub plain : TrackedWorld → NumberedWorld
plain world = record {
  submits = world.submits;
  sent = map number_of world.sent;
  back = map number_of world.back;
  last_reached = world.last_reached;
  last_back = world.last_back;
  log = entries_of world.log;
  is_open = world.is_open;
  progress = progress_of world.course;
  accepted = map number_of world.accepted;
}
