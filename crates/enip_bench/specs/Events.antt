-- The events between the two ends of an open class 3 connection, and which of them are possible.
use Rattle.std.specs.Prelude.{ℕ, nat_le, Bool, true, ◌&&◌, if◌then◌else◌, Option, Some, None, List, [], ◌∷◌, ◌++◌, length, slice_get}
use Rattle.cip_bytes.specs.declared.protocol.TheConstants.{SMALLEST_REQUEST, UNCONNECTED_LIMIT}
use Rattle.enip_adapter.specs.OwnWrites.{OwnWrite}

-- an event, as seen from outside: a call of the originator, a delivery by position, or another event at the target
pub data Event : Type 0 where
  -- a request is submitted to the originator
  Submit : (request : List ℕ) → Event
  -- the originator sends the pending item again
  Resend : Event
  -- what was sent at this position reaches the target
  Reach : (position : ℕ) → Event
  -- what was sent back at this position reaches the originator
  Back : (position : ℕ) → Event
  -- another session sends an unconnected request
  Other : (request : List ℕ) → Event
  -- the device itself writes into its objects
  Write : (write : OwnWrite) → Event
  -- the target's end of the connection is closed
  Shut : Event
  -- the originator gives up the pending request
  GiveUp : Event

-- sending order is kept: no delivery from before the last position delivered
abbrev pub is_in_order : Option ℕ → ℕ → Bool
is_in_order None position = true
is_in_order (Some last) position = nat_le last position

-- What a delivery brings: what was sent at this position. Nothing if it was not sent yet, or if something later was
-- delivered already.
abbrev pub delivery : {A : Type 0} → Option ℕ → List A → ℕ → Option A
delivery last sent position = if is_in_order last position then slice_get sent position else None

-- an unconnected request has 2 to 504 bytes
abbrev pub is_unconnected_request : List ℕ → Bool
is_unconnected_request request =
    nat_le SMALLEST_REQUEST (length request) && nat_le (length request) UNCONNECTED_LIMIT

-- the list with one more at the end, if there is one
abbrev pub with_any : {A : Type 0} → Option A → List A → List A
with_any None xs = xs
with_any (Some x) xs = xs ++ x ∷ []
