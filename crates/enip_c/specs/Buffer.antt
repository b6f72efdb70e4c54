-- What a function returns to C: bytes at the front of the buffer, a count, a status.
use Rattle.std.specs.Prelude.{ℕ, List, [], ◌++◌, ◌≡◌, ◌⊎◌, nat_le, if◌then◌else◌, drop, length, Option, Some, None}
use Rattle.enip_c.specs.declared.status.Status.{Status}
use Rattle.enip_c.specs.declared.status.Status.TheVariants as status

-- The number of a status in enip.h.
abbrev pub status_number : Status → ℕ
status_number status.Done = 0
status_number status.Misuse = 1
status_number status.Room = 2
status_number status.Memory = 3
status_number status.Configuration = 4
status_number status.Places = 5
status_number status.Handles = 6
status_number status.Absent = 7
status_number status.State = 8
status_number status.Failed = 9
status_number status.Refused = 10
status_number status.TooLong = 11
status_number status.Malformed = 12
status_number status.Request = 13
status_number status.Waiting = 14
status_number status.LongRequest = 15
status_number status.GivenUp = 16
status_number status.Abandoned = 17
status_number status.Wants = 18
status_number status.Numbers = 19
status_number status.SavedState = 20
status_number status.Share = 21

-- The status of a call that makes an object, if nothing is wrong with its arguments: memory may run out.
abbrev pub IsMadeStatus : ℕ → Type 0
IsMadeStatus result = (result ≡ status_number status.Done) ⊎ (result ≡ status_number status.Memory)

-- Bytes at the front of a buffer, whose rest stays as it was.
abbrev pub in_buffer : List ℕ → List ℕ → List ℕ
in_buffer bytes buffer = bytes ++ drop (length bytes) buffer

-- The status, the count and the buffer after a call.
pub record Returned : Type 0 where
  pub status : ℕ
  pub count : ℕ
  pub buffer : List ℕ

abbrev pub returned : Status → ℕ → List ℕ → Returned
returned s count buffer = record { status = status_number s; count = count; buffer = buffer }

-- Bytes are copied if they fit. If there are none, or they do not fit, nothing changes.
abbrev pub returned_bytes : Option (List ℕ) → ℕ → List ℕ → Returned
returned_bytes None count buffer = returned status.Absent count buffer
returned_bytes (Some bytes) count buffer =
    if nat_le (length bytes) (length buffer)
    then returned status.Done (length bytes) (in_buffer bytes buffer)
    else returned status.Room count buffer

-- The status, and the number if there is one.
abbrev pub ReturnsNumber : Option ℕ → ℕ → ℕ → ℕ → Type 0
ReturnsNumber None old new result = (result ≡ status_number status.Absent) × (new ≡ old)
ReturnsNumber (Some n) old new result = (result ≡ status_number status.Done) × (new ≡ n)
