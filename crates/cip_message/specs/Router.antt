-- What every reply of a router has (Volume 1, Message Router response format).
use Rattle.std.specs.Prelude.{◌≡◌, ℕ, ◌≤◌, List, length, slice_index}
use Rattle.cip_bytes.specs.declared.protocol.GeneralStatus.TheVariants.{ReplyDataTooLarge}
use Rattle.cip_bytes.specs.Protocol.{general_status_number}
use Rattle.cip_message.specs.Reply.{reply_service}

-- The general status of a reply. The head of a reply is the service, a reserved byte, the status, and the size of
-- the additional status.
abbrev pub general_status : List ℕ → ℕ
general_status reply = slice_index reply 2

-- The general status "reply data too large".
abbrev pub REPLY_TOO_LARGE : ℕ
REPLY_TOO_LARGE = general_status_number ReplyDataTooLarge

-- The reply has the four bytes of a head, and its service answers the request's.
pub record IsReplyTo (request reply : List ℕ) : Type 0 where
  pub head : 4 ≤ length reply
  pub service : slice_index reply 0 ≡ reply_service (slice_index request 0)

-- Replies are well formed: each has the head of a reply, its service is the request's with bit 7 set, and it has at
-- most `max_size` bytes. An originator needs this, because it accepts a reply by its service.
pub record RepliesWellFormed {S : Type 0} (answer : S → ℕ → List ℕ → List ℕ) : Type 0 where
  pub begins : (router : S) (max_size : ℕ) (request : List ℕ) → 8 ≤ max_size → 2 ≤ length request →
      IsReplyTo request (answer router max_size request)
  pub within : (router : S) (max_size : ℕ) (request : List ℕ) → 8 ≤ max_size → 2 ≤ length request →
      length (answer router max_size request) ≤ max_size
