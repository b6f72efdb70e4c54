-- Replies of the message router (Volume 1, message router response format).
use Rattle.std.specs.Prelude.{◌≡◌, ℕ, ◌+◌, ◌*◌, ◌<◌, ◌≤◌, ◌^◌, List, [], ◌∷◌, ◌++◌, length, take, drop, Result, Ok, Err}
use Rattle.std.specs.Prelude.{nat_lt, if◌then◌else◌}
use Rattle.std.specs.List.{flat_map}
use Rattle.cip_bytes.specs.Numbers.{le, AreBytes, AreWords, words_of}
use Rattle.cip_message.specs.declared.reply.ReplyView.{ReplyView}
use Rattle.cip_message.specs.declared.reply.ReplyFault.{ReplyFault}
use Rattle.cip_message.specs.declared.reply.ReplyFault.TheVariants.{Short, NotReply, Extra}

-- The service of the reply to a request with this service: bit 7 is set.
abbrev pub reply_service : ℕ → ℕ
reply_service service = if nat_lt service 128 then service + 128 else service

-- A reply, without where it lies in memory.
pub record Reply : Type 0 where
  pub service : ℕ
  pub status : ℕ
  pub additional : List ℕ
  pub «data» : List ℕ

-- The replies that have a spelling: bit 7 of the service is set, and there are at most 255 additional status words.
pub record IsReply (a : Reply) : Type 0 where
  pub service : a.service < 2 ^ 8
  pub bit7 : 128 ≤ a.service
  pub status : a.status < 2 ^ 8
  pub counted : length a.additional < 2 ^ 8
  pub additional : AreWords a.additional
  pub «data» : AreBytes a.data

-- The spellings of a reply, one for each value of the reserved byte: service, reserved byte, general status, number
-- of additional status words, these words, data.
abbrev pub reply_with : ℕ → Reply → List ℕ
reply_with reserved a =
    a.service ∷ reserved ∷ a.status ∷ length a.additional ∷ (flat_map (le 2) a.additional ++ a.data)

-- b is a spelling of the reply a.
pub record SpellsReply (a : Reply) (b : List ℕ) : Type 0 where
  pub reserved : ℕ
  pub is_reply : IsReply a
  pub spelled : b ≡ reply_with reserved a

-- The spelling that is written: its reserved byte is 0.
abbrev pub reply : Reply → List ℕ
reply a = reply_with 0 a

-- The reply with these fields.
abbrev pub reply_of_fields : ℕ → ℕ → List ℕ → List ℕ → Reply
reply_of_fields service status additional bytes =
    record { service = service; status = status; additional = additional; «data» = bytes }

-- The reply to a request with this service.
abbrev pub reply_to : ℕ → ℕ → List ℕ → List ℕ → Reply
reply_to service status additional bytes = reply_of_fields (reply_service service) status additional bytes

-- A reply of the code, as one of the specification.
abbrev pub view : ReplyView → Reply
view v = reply_of_fields v.service v.status (words_of v.additional.now) v.data.now

-- The number of a fault, as printed.
abbrev pub reply_fault_number : ReplyFault → ℕ
reply_fault_number Short = 1
reply_fault_number NotReply = 2
reply_fault_number Extra = 3

-- Reads a reply.
unfoldable pub reply_of : List ℕ → Result Reply ReplyFault
reply_of [] = Err Short
reply_of (service ∷ []) = Err Short
reply_of (service ∷ reserved ∷ []) = Err Short
reply_of (service ∷ reserved ∷ status ∷ []) = Err Short
reply_of (service ∷ reserved ∷ status ∷ words ∷ rest) =
    if nat_lt service 128 then Err NotReply
    else if nat_lt (length rest) (2 * words) then Err Extra
    else Ok (reply_of_fields service status (words_of (take (2 * words) rest)) (drop (2 * words) rest))
