-- When to try a socket that gives one connection or datagram after another.
use Rattle.std.specs.Prelude.{ℕ, ◌≤◌, ◌+◌, ◌-◌, ◌^◌, min, ⊤, Option, Some, None}
use Rattle.std.specs.declared.io.ErrorKind.{ErrorKind}
use Rattle.std.specs.declared.io.ErrorKind.TheVariants.{WouldBlock, Interrupted, ConnectionAborted}
use Rattle.device_sockets.specs.declared.readiness.Readiness.{Readiness}
use Rattle.device_sockets.specs.declared.readiness.Readiness.TheVariants.{Ready, Blocked, RetryAt}

-- After an error. A socket that has nothing is blocked. One that could not give what it has is left alone for a second,
-- so that it is not tried over and over.
abbrev pub after_error : ErrorKind → ℕ → Readiness
after_error WouldBlock now = Blocked
after_error Interrupted now = Ready
after_error ConnectionAborted now = Ready
after_error kind now = RetryAt (min (now + 1000000) (2 ^ 64 - 1))

-- Once the system reports the socket as readable.
abbrev pub on_readable : Readiness → Readiness
on_readable (RetryAt time) = RetryAt time
on_readable other = Ready

-- Once a descriptor is free that the socket may have lacked.
abbrev pub on_descriptor_freed : Readiness → Readiness
on_descriptor_freed Blocked = Blocked
on_descriptor_freed other = Ready

-- The time of the next try without a report of the system.
abbrev pub next_try : Readiness → Option ℕ
next_try Ready = Some 0
next_try Blocked = None
next_try (RetryAt time) = Some time

-- The socket is to be tried now.
abbrev pub IsDue : ℕ → Readiness → Type 0
IsDue now Ready = ⊤
IsDue now Blocked = ⊥
IsDue now (RetryAt time) = time ≤ now
