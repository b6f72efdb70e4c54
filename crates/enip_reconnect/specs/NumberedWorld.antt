-- The numbered world: each command has a number, and a log says what is executed. No reply is kept: what the device
-- answers is computed from the log.
use Rattle.std.specs.Prelude.{ℕ, ◌+◌, ◌==◌, nat_lt, not, if◌then◌else◌, Option, Some, None, unwrap_or}
use Rattle.std.specs.Prelude.{List, [], ◌∷◌, ◌++◌, length, map, fold}
use Rattle.std.specs.List.{slice_get}
use Rattle.cip_message.specs.Reply.{reply_service}
use Rattle.cip_message.specs.declared.ledger_services.TheConstants as services
use Rattle.cip_ledger.specs.declared.target.Standing.{Standing}
use Rattle.cip_ledger.specs.Ledger.{LedgerState, SlotState, empty_ledger, with_slot}
use Rattle.cip_ledger.specs.Services.{HEAD_SIZE, KEPT_LIMIT, DONE, reply_to, success}
use Rattle.cip_ledger.specs.Turn.{Turn, turn, after_embedded, embedded_reply}
use Rattle.cip_commander.specs.CommanderRule.{CommanderState, command_refusal, abandoned}
use Rattle.enip_reconnect.specs.Worlds.{Event, NewCommand, Abandon, Send, Reach, Back, Other, Opening, Seen}
use Rattle.enip_reconnect.specs.Worlds.{gives, sends, awaits}
use Rattle.cip_commander.specs.CommanderRule.{after_command}

-- what is executed: the embedded request of the originator's command with this number, or a request of another
pub data Entry : Type 0 where
  Own : (number : ℕ) (request : List ℕ) → Entry
  Another : (max_size : ℕ) (request : List ℕ) → Entry

-- an answer: the command is done, with this reply to its embedded request, or it was refused
pub data Said : Type 0 where
  IsDone : (reply : List ℕ) → Said
  IsRefused : (status : ℕ) → Said

-- an answer's bytes
abbrev pub said_bytes : Said → List ℕ
said_bytes (IsDone reply) = reply_to services.DO_ONCE (success (DONE ∷ reply))
said_bytes (IsRefused status) = reply_service services.DO_ONCE ∷ 0 ∷ status ∷ 0 ∷ []

abbrev pub answer_in : ℕ × Said → ℕ × List ℕ
answer_in said = (said.0, said_bytes said.1)

-- The device once a log was executed: the ledger of the others, the router, and the last number of the originator's,
-- with the reply of its execution. In the ledger the originator has a slot, once it needs one, with nothing kept in it.
pub record Device (M : Type 0) : Type 0 where
  pub ledger : LedgerState
  pub router : M
  pub last : Option (ℕ × List ℕ)

abbrev pub device_at : {M : Type 0} → Opening M → Device M
device_at opening =
    record { ledger = empty_ledger opening.slots opening.life; router = opening.router; last = None }

-- the log, the originator, the commands that it gave, what was sent and sent back so far, each with its number, and the
-- accepted replies
pub record NumberedWorld : Type 0 where
  pub log : List Entry
  pub commander : CommanderState
  pub given : List (ℕ × List ℕ)
  pub sent : List (ℕ × List ℕ)
  pub back : List (ℕ × Said)
  pub accepted : List (ℕ × List ℕ)

abbrev pub world_at : {M : Type 0} → Opening M → NumberedWorld
world_at opening = record {
  log = [];
  commander = opening.commander;
  given = sends opening.commander opening.commander.pending;
  sent = [];
  back = [];
  accepted = [];
}

-- the slot of the originator, with nothing kept
abbrev pub blank_slot : ℕ → SlotState
blank_slot originator = record { originator = originator; number = 0; reply = None; ticket = None }

abbrev pub with_blank : ℕ → LedgerState → LedgerState
with_blank originator ledger = record ledger { taken = with_slot (blank_slot originator) ledger.taken }

-- a command arrives, and is executed or only answered
pub data Arrival : Type 0 where
  Appended : Arrival
  Answered : (said : Said) → Arrival

-- a new number is executed if the longest reply would fit (the reply's head, a state, a kept reply), else 0x11
abbrev pub new_number : ℕ → Arrival
new_number max_size = if nat_lt max_size (HEAD_SIZE + 1 + KEPT_LIMIT) then Answered (IsRefused 0x11) else Appended

-- the last number's reply, if it fits
abbrev pub last_again : ℕ → List ℕ → Arrival
last_again max_size reply =
    if nat_lt max_size (HEAD_SIZE + (length reply + 1)) then Answered (IsRefused 0x11) else Answered (IsDone reply)

-- Without a number in the log, a slot must be free, else 0x02. A number below the last one is refused with 0x0c. The
-- last one is answered again. A greater one is new.
abbrev pub arrival_by : LedgerState → ℕ → ℕ → Option (ℕ × List ℕ) → Arrival
arrival_by ledger max_size number None =
    if nat_lt (length ledger.taken) ledger.slots then new_number max_size else Answered (IsRefused 0x02)
arrival_by ledger max_size number (Some last) =
    if nat_lt number last.0 then Answered (IsRefused 0x0c)
    else (if number == last.0 then last_again max_size last.1 else new_number max_size)

-- what becomes of a command of this life when it arrives: one of another life is refused, 0x10
abbrev pub arrival : {M : Type 0} → ℕ → Device M → ℕ → ℕ → Arrival
arrival life device max_size number =
    if not (life == device.ledger.life) then Answered (IsRefused 0x10)
    else arrival_by device.ledger max_size number device.last

abbrev pub said_of : Said → NumberedWorld → NumberedWorld
said_of (IsDone reply) world = record world {
  commander = abandoned world.commander;
  accepted = world.accepted ++ (world.commander.last_number, reply) ∷ [];
}
said_of (IsRefused status) world = world

abbrev pub world_back : NumberedWorld → Option (ℕ × Said) → NumberedWorld
world_back world None = world
world_back world (Some said) = if awaits world.commander said.0 then said_of said.1 world else world

module _ {M : Type 0} (after : M → ℕ → List ℕ → M) (answer : M → ℕ → List ℕ → List ℕ)
    (standing : M → List ℕ → Standing) where
  abbrev pub turn_on : Device M → ℕ → List ℕ → Turn M
  turn_on device max_size request = turn after answer standing (Some device.ledger) device.router max_size request

  -- the device once an entry was executed
  abbrev pub device_step : ℕ → Device M → Entry → Device M
  device_step originator device (Own number request) = record {
    ledger = with_blank originator device.ledger;
    router = after_embedded after answer device.router request;
    last = Some (number, embedded_reply after answer device.router request);
  }
  device_step originator device (Another max_size request) = record device {
    ledger = unwrap_or (turn_on device max_size request).ledger device.ledger;
    router = (turn_on device max_size request).router;
  }

  -- the device after a log, from left to right
  abbrev pub device_after : Opening M → List Entry → Device M
  device_after opening log = fold (device_step opening.commander.originator) (device_at opening) log

  abbrev pub arrived : Arrival → NumberedWorld → Device M → ℕ → List ℕ → NumberedWorld
  arrived Appended world device number request = record world {
    log = world.log ++ Own number request ∷ [];
    back = world.back ++ (number, IsDone (embedded_reply after answer device.router request)) ∷ [];
  }
  arrived (Answered said) world device number request =
      record world { back = world.back ++ (number, said) ∷ [] }

  abbrev pub world_reach : Opening M → NumberedWorld → ℕ → Option (ℕ × List ℕ) → NumberedWorld
  world_reach opening world max_size None = world
  world_reach opening world max_size (Some message) =
      let device = device_after opening world.log in
      arrived (arrival opening.commander.life device max_size message.0) world device message.0 message.1

  abbrev pub world_step : Opening M → NumberedWorld → Event → NumberedWorld
  world_step opening world (NewCommand request) = record world {
    commander = after_command world.commander request;
    given = world.given ++ gives world.commander request (command_refusal world.commander request);
  }
  world_step opening world Abandon = record world { commander = abandoned world.commander }
  world_step opening world Send =
      record world { sent = world.sent ++ sends world.commander world.commander.pending }
  world_step opening world (Reach position max_size) =
      world_reach opening world max_size (slice_get world.sent position)
  world_step opening world (Back position) = world_back world (slice_get world.back position)
  world_step opening world (Other max_size request) =
      record world { log = world.log ++ Another max_size request ∷ [] }

  -- the numbered world after these events
  abbrev pub world_after : Opening M → List Event → NumberedWorld
  world_after opening events = fold (world_step opening) (world_at opening) events

  abbrev pub seen_of_world : Opening M → NumberedWorld → Seen M
  seen_of_world opening world = record {
    machine = (device_after opening world.log).router;
    commander = world.commander;
    back = map answer_in world.back;
    accepted = world.accepted;
  }
