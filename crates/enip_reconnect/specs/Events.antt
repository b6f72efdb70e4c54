-- What may happen to both ends and to the TCP connections between them.
use Rattle.std.specs.Prelude.{ℕ, List}
use Rattle.enip_adapter.specs.Calls.{Call}
use Rattle.enip_client.specs.declared.wants.Wants.{Wants}

-- The originator gives a command, or gives the pending one up. It opens a TCP connection with a new client, if it has
-- none. It registers a session, sends the pending command's message, or asks something else.
--
-- At this time at most `count` bytes in flight on the stream with this peer handle arrive at the adapter. At most
-- `count` bytes in flight to the originator arrive there.
--
-- The TCP connection breaks at the originator. What is in flight to the adapter may still arrive there. A TCP
-- connection ends at the adapter. What is in flight to the originator may still arrive there.
--
-- A call of the adapter's that is not for the originator's peers: bytes of other peers, their beginning and end, time.
pub data Event : Type 0 where
  NewCommand : (request : List ℕ) → Event
  Abandon : Event
  Connect : (wants : Wants) → Event
  Register : Event
  Send : Event
  Ask : (request : List ℕ) → Event
  Arrive : (now peer count : ℕ) → Event
  Receive : (count : ℕ) → Event
  Break : Event
  End : (peer : ℕ) → Event
  Other : (call : Call) → Event
