-- By whom the waiting commands were sent.
use Rattle.std.specs.Prelude.{◌≡◌, ◌⊎◌, ℕ, zero, suc, ◌+◌, ◌==◌, ◌&&◌, Bool, nat_lt, nat_le, not, if◌then◌else◌, List, [], ◌∷◌, ◌++◌, length, filter, Option, Some, None}
use Rattle.std.specs.declared.net.ip_addr.IpAddr.{IpAddr}
use Rattle.cip_owner.specs.Queue.{QueueState}
use Rattle.enip_adapter.specs.QueueLaws.{is_waiting}
use Rattle.owner_port.specs.declared.senders.Sender.{Sender}
use Rattle.owner_port.specs.declared.senders.Senders.{Senders}

-- The next ticket of a queue. Without a queue no ticket is given.
abbrev pub next_in : Option QueueState → ℕ
next_in None = 1
next_in (Some queue) = queue.next

-- The address of the peer that sent a command, if it is known.
abbrev pub sender_of : ℕ → List Sender → Option IpAddr
sender_of ticket [] = None
sender_of ticket (sender ∷ known) = if sender.ticket == ticket then Some sender.address else sender_of ticket known

abbrev pub without_sender : ℕ → List Sender → List Sender
without_sender ticket known = filter (λ (sender : Sender). not (sender.ticket == ticket)) known

-- The senders that stay known as commands were put into the queue, from this ticket on. A command can leave the queue without
-- its owner, if it is withdrawn. So if as many senders are known as commands can wait, those are forgotten whose commands
-- have left.
abbrev pub is_full : ℕ → Option QueueState → List Sender → Bool
is_full next queue known = nat_lt next (next_in queue) && nat_le 256 (length known)

abbrev pub still_known : ℕ → Option QueueState → List Sender → List Sender
still_known next queue known =
    if is_full next queue known then filter (λ (sender : Sender). is_waiting sender.ticket queue) known else known

-- The sender of a command is known from now on. If memory is refused, it is not.
abbrev pub IsNoted : ℕ → IpAddr → List Sender → List Sender → Type 0
IsNoted ticket address old new = (new ≡ old ++ record { ticket = ticket; address = address } ∷ []) ⊎ (new ≡ old)

-- The same of so many commands, whose tickets are in a row from this one on.
abbrev pub AreNoted : ℕ → ℕ → IpAddr → List Sender → List Sender → Type 0
AreNoted zero first address old new = new ≡ old
AreNoted (suc n) first address old new =
    (between : List Sender) × AreNoted n first address old between × IsNoted (first + n) address between new

-- Nobody is known.
pub record IsNobody (queue : Option QueueState) (senders : Senders) : Type 0 where
  pub next : senders.next ≡ next_in queue
  pub known : senders.known.items ≡ []
