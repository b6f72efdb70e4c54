-- A file of --once with ids: which commands were executed, and the commander.
use Rattle.std.specs.Prelude.{⊤, ◌≡◌, ◌==◌, ◌≤◌, ◌+◌, ◌-◌, ◌%◌, ◌&&◌, ◌||◌, nat_lt, nat_le, not, ℕ, Bool, true, false, if◌then◌else◌}
use Rattle.std.specs.Prelude.{Option, Some, None, is_some, option_map, List, [], ◌∷◌, ◌++◌, codes, length, map, drop, Result, Ok, Err}
use Rattle.std.specs.Fmt.{decimal}
use Rattle.std.specs.List.{list_all, list_any, find}
use Rattle.std.specs.Str.{bytes_eq}
use Rattle.hex.specs.Hex.{encode_lower}
use Rattle.cip_commander.specs.CommanderRule.{CommanderState}
use Rattle.enip_commands.specs.CommandFiles.{line, originator_line, life_line, number_line, pending_line, file_text, IsKept}
use Rattle.enip_commands.specs.declared.command_record.CommandRecord.{CommandRecord}
use Rattle.enip_commands.specs.declared.command_record.DoneCommand.{DoneCommand}
use Rattle.enip_commands.specs.declared.command_record.plan.IdPlan.{IdPlan}
use Rattle.enip_commands.specs.declared.command_record.plan.IdPlan.TheVariants.{Executed, Send, SettleFirst}
use Rattle.enip_commands.specs.declared.once_refusal.OnceRefusal.{OnceRefusal}
use Rattle.enip_commands.specs.declared.once_refusal.OnceRefusal.TheVariants as refusals

-- ---- what a file has

-- a command that was executed: its id, and its request and its reply in hexadecimal digits
pub record Done : Type 0 where
  pub id : List ℕ
  pub request : List ℕ
  pub reply : List ℕ

-- the commander, the id of its pending command, and the last commands with an id that were executed, the oldest first
pub record Record : Type 0 where
  pub commander : CommanderState
  pub pending_id : Option (List ℕ)
  pub done : List Done

abbrev pub done_in : DoneCommand → Done
done_in command = record { id = command.id.now; request = command.request.now; reply = command.reply.now }

abbrev pub record_in : CommandRecord → Record
record_in r = record {
  commander = r.commander;
  pending_id = option_map (λ id. id.now) r.pending_id;
  done = map done_in r.done.items;
}

-- ---- ids and digits

-- a character that is printed and is not a space
abbrev pub is_id_byte : ℕ → Bool
is_id_byte byte = nat_le 0x21 byte && nat_le byte 0x7e

abbrev pub is_id : List ℕ → Bool
is_id text = nat_lt 0 (length text) && nat_le (length text) 64 && list_all is_id_byte text

-- a lower-case hexadecimal digit
abbrev pub is_lower_digit : ℕ → Bool
is_lower_digit byte = nat_le 0x30 byte && nat_le byte 0x39 || nat_le 0x61 byte && nat_le byte 0x66

-- two digits for each byte, and not too many
abbrev pub are_digits : List ℕ → ℕ → Bool
are_digits text most = nat_le (length text) most && (length text % 2 == 0) && list_all is_lower_digit text

abbrev pub is_done : Done → Bool
is_done d = is_id d.id && are_digits d.request 956 && are_digits d.reply 8000

-- ---- different ids

abbrev pub has_id : List Done → List ℕ → Bool
has_id done id = list_any (λ d. bytes_eq d.id id) done

-- no two of these commands have the same id
abbrev pub AreDistinct : List Done → Type 0
AreDistinct [] = ⊤
AreDistinct (d ∷ ds) = (has_id ds d.id ≡ false) × AreDistinct ds

-- ---- the text

-- the three lines of a command
abbrev pub done_text : Done → List ℕ
done_text d = line (codes "id ") d.id ++ (line (codes "request ") d.request ++ line (codes "reply ") d.reply)

abbrev pub dones_text : List Done → List ℕ
dones_text [] = []
dones_text (d ∷ ds) = done_text d ++ dones_text ds

-- no id has a space
abbrev pub pending_id_text : Option (List ℕ) → List ℕ
pending_id_text None = codes "no id"
pending_id_text (Some id) = id

abbrev pub pending_id_line : Option (List ℕ) → List ℕ
pending_id_line id = line (codes "pending-id ") (pending_id_text id)

-- the last four lines of a file without ids
abbrev pub commander_lines : CommanderState → List ℕ
commander_lines c =
    originator_line c.originator ++ (life_line c.life ++ (number_line c.last_number ++ pending_line c.pending))

abbrev pub ids_head : List ℕ
ids_head = codes "enip commands 2\n"

abbrev pub count_line : ℕ → List ℕ
count_line count = line (codes "ids ") (decimal count)

abbrev pub text_with_ids : Record → List ℕ
text_with_ids r =
    ids_head ++ (count_line (length r.done) ++ (dones_text r.done
    ++ (pending_id_line r.pending_id ++ commander_lines r.commander)))

-- the same with these commands and then the last ones
abbrev pub text_of_both : CommanderState → Option (List ℕ) → List Done → List Done → List ℕ
text_of_both c pending_id done last =
    ids_head ++ (count_line (length done + length last) ++ (dones_text done ++ (dones_text last
    ++ (pending_id_line pending_id ++ commander_lines c))))

abbrev pub has_ids : Record → Bool
has_ids r = is_some r.pending_id || nat_lt 0 (length r.done)

-- a file without ids is as it was before there were ids
abbrev pub record_text : Record → List ℕ
record_text r = if has_ids r then text_with_ids r else file_text r.commander

-- ---- what a file can hold

-- the id of a pending command is that of no command that was executed
abbrev pub is_new_id : List Done → Option (List ℕ) → Option (List ℕ) → Bool
is_new_id done pending None = true
is_new_id done None (Some id) = false
is_new_id done (Some request) (Some id) = is_id id && not (has_id done id)

-- a commander that its file holds, and at most 1,024 commands with different ids
pub record IsKeptRecord (r : Record) : Type 0 where
  pub commander : IsKept r.commander
  pub count : length r.done ≤ 1024
  pub done : list_all is_done r.done ≡ true
  pub distinct : AreDistinct r.done
  pub pending_id : is_new_id r.done r.commander.pending r.pending_id ≡ true

-- ---- the reader's parts

-- These lines are those of this many commands, whose ids are new and differ, and the rest follows.
pub record AreRead (old new : List Done) (count : ℕ) (lines rest : List ℕ) : Type 0 where
  pub more : List Done
  pub appended : new ≡ old ++ more
  pub counted : length more ≡ count
  pub whole : lines ≡ dones_text more ++ rest
  pub fit : list_all is_done more ≡ true

-- The lines begin with those of no such commands.
abbrev pub LacksCommands : List Done → ℕ → List ℕ → Type 0
LacksCommands old count lines =
    (more : List Done) (rest : List ℕ) → length more ≡ count → list_all is_done more ≡ true → AreDistinct (old ++ more)
    → lines ≡ dones_text more ++ rest → ⊥

-- no id, or one
abbrev pub is_id_or_none : Option (List ℕ) → Bool
is_id_or_none None = true
is_id_or_none (Some id) = is_id id

-- with ids, that of the pending command is new; without one, some command was executed
abbrev pub is_whole : List Done → Option (List ℕ) → Option (List ℕ) → Bool
is_whole done pending None = nat_lt 0 (length done)
is_whole done pending (Some id) = is_new_id done pending (Some id)

-- ---- a command with an id

-- the reply of an executed command, in digits; or what is sent: the command, or the pending one before it
pub data Plan : Type 0 where
  PlanExecuted : (reply : List ℕ) → Plan
  PlanSend : Plan
  PlanSettleFirst : Plan

abbrev pub plan_in : IdPlan → Plan
plan_in (Executed reply) = PlanExecuted reply.now
plan_in Send = PlanSend
plan_in SettleFirst = PlanSettleFirst

-- what is done about a command with an id that no executed command has
abbrev pub unknown_plan : Option (List ℕ) → Option (List ℕ) → List ℕ → List ℕ → Result Plan OnceRefusal
unknown_plan None pending_id id request = Ok PlanSend
unknown_plan (Some pending) None id request = Ok PlanSettleFirst
unknown_plan (Some pending) (Some pending_id) id request =
    if bytes_eq pending_id id
    then (if bytes_eq pending request then Ok PlanSend else Err refusals.OtherRequest)
    else Ok PlanSettleFirst

abbrev pub known_plan : Option Done → Result Plan OnceRefusal → List ℕ → Result Plan OnceRefusal
known_plan None unknown digits = unknown
known_plan (Some d) unknown digits =
    if bytes_eq d.request digits then Ok (PlanExecuted d.reply) else Err refusals.OtherRequest

-- the reply of an executed command with this id, or what is sent; an id is that of one request
abbrev pub plan_of_id : Record → List ℕ → List ℕ → Result Plan OnceRefusal
plan_of_id r id request =
    known_plan (find (λ d. bytes_eq d.id id) r.done)
    (unknown_plan r.commander.pending r.pending_id id request) (encode_lower request)

-- ---- a command that was executed

-- the last so many commands
abbrev pub last_commands : ℕ → List Done → List Done
last_commands most done = drop (length done - most) done

-- the commands that are kept once one more was executed
abbrev pub kept_after : List Done → Done → ℕ → List Done
kept_after done d most = last_commands most (done ++ (d ∷ []))

-- the last of its commands are kept, and none is pending
abbrev pub record_after : Record → Done → ℕ → Record
record_after r d most = record { commander = r.commander; pending_id = None; done = kept_after r.done d most }
