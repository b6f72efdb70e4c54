-- What a file of --once has, for people and as JSON.
use Rattle.std.specs.Prelude.{ℕ, ◌-◌, Option, Some, None, option_map, List, ◌++◌, codes, length, map, slice_get}
use Rattle.std.specs.Int.{to_be_bytes, w64}
use Rattle.hex.specs.Hex.{encode_lower}
use Rattle.enip_commands.specs.CommandFiles.{line}
use Rattle.enip_commands.specs.CommandRecords.{Done, Record, commander_lines, pending_id_line, count_line, dones_text}
use Rattle.enip_lines.specs.JsonValues.{count, latin}
use Rattle.serde_json.specs.Data.{Data, Items, null, string, array, object, member, no_members}
use Rattle.serde_json.specs.View.{items_of}

-- the reply of the last command with an id that was executed
abbrev pub last_reply : List Done → Option (List ℕ)
last_reply done = option_map (λ d. d.reply) (slice_get done (length done - 1))

abbrev pub reply_text : Option (List ℕ) → List ℕ
reply_text None = codes "none"
reply_text (Some digits) = digits

-- ---- for people

-- the lines of the commander, the id of its pending command, the commands that were executed, and the last reply
abbrev pub listing_text : Record → List ℕ
listing_text r =
    commander_lines r.commander ++ (pending_id_line r.pending_id ++ (count_line (length r.done) ++ (dones_text r.done
    ++ line (codes "last reply ") (reply_text (last_reply r.done)))))

-- ---- as JSON, with members sorted by name

abbrev pub done_data : Done → Data
done_data d =
    object (member (codes "id") (string (latin d.id))
    (member (codes "reply") (string (latin d.reply))
    (member (codes "request") (string (latin d.request)) no_members)))

abbrev pub dones_data : List Done → Items
dones_data done = items_of (map done_data done)

-- a text, or null
abbrev pub text_data : Option (List ℕ) → Data
text_data None = null
text_data (Some text) = string (latin text)

-- a pending request and its id
abbrev pub pending_data : Option (List ℕ) → Option (List ℕ) → Data
pending_data None id = null
pending_data (Some request) id =
    object (member (codes "id") (text_data id)
    (member (codes "request") (string (encode_lower request)) no_members))

abbrev pub record_data : Record → Data
record_data r =
    object (member (codes "ids") (array (dones_data r.done))
    (member (codes "last_reply") (text_data (last_reply r.done))
    (member (codes "life") (count r.commander.life)
    (member (codes "number") (count r.commander.last_number)
    (member (codes "originator") (string (encode_lower (to_be_bytes w64 r.commander.originator)))
    (member (codes "pending") (pending_data r.commander.pending r.pending_id) no_members))))))
