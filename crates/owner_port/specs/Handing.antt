-- Which of the waiting commands are marked, and which of those are queued for the owner.
use Rattle.std.specs.Prelude.{◌≡◌, ◌⊎◌, ℕ, ◌-◌, ◌==◌, min, if◌then◌else◌, Bool, true, false, nat_le, List, [], ◌∷◌, length, map, slice_get, option_map, Option, Some, None, Result, Vec}
use Rattle.std.specs.declared.alloc.Global.{Global}
use Rattle.cip_owner.specs.Queue.{QueueState, QueuedCommand, command_of, command_ticket, is_handed, handed_commands}
use Rattle.enip_owner.specs.declared.event.CommandEvent.{CommandEvent}
use Rattle.enip_owner.specs.declared.event_fault.EventFault.{EventFault}
use Rattle.enip_owner.specs.declared.hand_over.HandOver.{HandOver}
use Rattle.enip_owner.specs.declared.hand_over.HandedOver.{HandedOver}
use Rattle.enip_owner.specs.Events.{IsWritten, command_json}
use Rattle.enip_owner.specs.HandOvers.{next_in, after_next}
use Rattle.owner_port.specs.declared.fault.SessionEnd.TheVariants as ends
use Rattle.owner_port.specs.declared.senders.Sender.{Sender}
use Rattle.owner_port.specs.declared.session.Session.{Session}
use Rattle.owner_port.specs.Senders.{sender_of}
use Rattle.owner_port.specs.Sessions.{IsSent, has_space, with_end}

-- The event of a command, with the address of the peer that sent it.
pub record IsCommandEvent (known : List Sender) (command : QueuedCommand) (again : Bool) (e : CommandEvent) : Type 0 where
  pub ticket : e.ticket ≡ command.ticket
  pub class : e.class ≡ command.class
  pub instance : e.instance ≡ command.instance
  pub service : e.service ≡ command.service
  pub content : e.«data».now ≡ command.content
  pub by : e.by ≡ sender_of command.ticket known
  pub again_is : e.again ≡ again

abbrev pub IsCommandLine : List Sender → QueuedCommand → Bool → Result (Vec ℕ Global) EventFault → Type 0
IsCommandLine known command again line =
    (e : CommandEvent) × IsCommandEvent known command again e × IsWritten (command_json e) line

-- The command that is handed over is queued. All that are handed over wait (`commands_wait`).
abbrev pub IsCommandFoundSent : List Sender → Bool → Option QueuedCommand → Session → Session → Type 0
IsCommandFoundSent known again None old new = new ≡ old
IsCommandFoundSent known again (Some command) old new = IsSent (IsCommandLine known command again) old new

abbrev pub IsCommandSent : QueueState → List Sender → HandedOver → Session → Session → Type 0
IsCommandSent queue known handed old new =
    IsCommandFoundSent known handed.again (command_of handed.ticket queue.waiting) old new

-- Commands are queued one after the other, each by `next_in`, and then no more are: there is none that was not handed over
-- in this session, the owner has as many in hand as it may, or the line of the next one may not fit.
pub data AreAllHanded (queue : QueueState) (known : List Sender) (waiting : List ℕ) : HandOver → Session → HandOver → Session → Type 0 where
  Full : (h : HandOver) (s : Session) → has_space s ≡ false → AreAllHanded queue known waiting h s h s
  NoneLeft : (h : HandOver) (s : Session) → next_in h waiting ≡ None → AreAllHanded queue known waiting h s h s
  Hands : (h last : HandOver) (s between new : Session) (handed : HandedOver)
      → has_space s ≡ true → next_in h waiting ≡ Some handed → IsCommandSent queue known handed s between
      → AreAllHanded queue known waiting (after_next h waiting) between last new
      → AreAllHanded queue known waiting h s last new

-- The tickets of the waiting commands that were marked as handed over, in their order.
abbrev pub marked_tickets : QueueState → List ℕ
marked_tickets queue = map command_ticket (handed_commands queue)

-- The ticket of a command, if it is marked.
abbrev pub if_marked : QueueState → ℕ → List ℕ
if_marked queue ticket = if nat_le ticket queue.handed then ticket ∷ [] else []

-- The commands that are marked, in their order. If memory is refused, the session is over.
abbrev pub AreHanded : QueueState → List Sender → HandOver → Session → HandOver → Session → Type 0
AreHanded queue known h s last new =
    AreAllHanded queue known (marked_tickets queue) h s last new
    ⊎ ((last ≡ h) × (has_space s ≡ true) × (new ≡ with_end ends.Memory s))

-- ---- the law

-- What is handed over waits, so that its line is queued, and is marked.
abbrev pub waits_law : Type 0
waits_law = (queue : QueueState) (h : HandOver) (handed : HandedOver)
    → next_in h (marked_tickets queue) ≡ Some handed
    → (command : QueuedCommand) × (command_of handed.ticket queue.waiting ≡ Some command)
    × (is_handed queue command ≡ true)

-- ---- marking

-- The ticket of the command at a place, of those that wait.
abbrev pub ticket_at : List QueuedCommand → ℕ → Option ℕ
ticket_at waiting index = option_map command_ticket (slice_get waiting index)

-- The ticket up to which the owner may have commands in hand: that of the last of the first `ahead` that wait. None if
-- none waits, or if the owner may have none.
abbrev pub last_ahead : ℕ → List QueuedCommand → Option ℕ
last_ahead ahead waiting =
    if min ahead (length waiting) == 0 then None else ticket_at waiting (min ahead (length waiting) - 1)

abbrev pub last_in : ℕ → Option QueueState → Option ℕ
last_in ahead None = None
last_in ahead (Some queue) = last_ahead ahead queue.waiting
