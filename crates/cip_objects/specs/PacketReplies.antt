-- The replies to the first requests of a packet, as they are gathered.
use Rattle.std.specs.Prelude.{ℕ, ◌+◌, ◌==◌, ◌||◌, not, Bool, false, List, [], ◌∷◌, ◌++◌, length}
use Rattle.cip_bytes.specs.Numbers.{le}
use Rattle.cip_objects.specs.declared.packet_replies.PacketReplies.{PacketReplies}
use Rattle.cip_objects.specs.Packets.{numbers_size}
use Rattle.cip_message.specs.Router.{general_status}

-- How many requests the packet has, the offsets and the replies so far, and whether one of these is a refusal.
pub record Gathered : Type 0 where
  pub count : ℕ
  pub offsets : List ℕ
  pub replies : List ℕ
  pub refused : Bool

abbrev pub seen : PacketReplies → Gathered
seen r = record { count = r.count; offsets = r.offsets.items; replies = r.replies.items; refused = r.is_refused }

abbrev pub none_of : ℕ → Gathered
none_of count = record { count = count; offsets = []; replies = []; refused = false }

abbrev pub pushed : Gathered → List ℕ → Gathered
pushed g answer = record {
  count = g.count;
  offsets = g.offsets ++ le 2 (numbers_size g.count + length g.replies);
  replies = g.replies ++ answer;
  refused = g.refused || not (general_status answer == 0);
}

abbrev pub all_pushed : Gathered → List (List ℕ) → Gathered
all_pushed g [] = g
all_pushed g (answer ∷ answers) = all_pushed (pushed g answer) answers
