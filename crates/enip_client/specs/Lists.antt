-- The lists that a device answers without a session: ListServices and ListIdentity (Volume 2, encapsulation commands).
use Rattle.std.specs.Prelude.{ℕ, ◌≡◌, ◌==◌, ◌&&◌, is_some, if◌then◌else◌, Bool, true, List, [], ◌∷◌}
use Rattle.std.specs.Prelude.{Option, None, Result, Ok, Err}
use Rattle.std.specs.List.{filter_map, list_all}
use Rattle.std.specs.Option.{option_map}
use Rattle.cip_bytes.specs.Numbers.{number_at}
use Rattle.cip_bytes.specs.Protocol.{command_number}
use Rattle.cip_bytes.specs.declared.protocol.Command.{Command}
use Rattle.cip_bytes.specs.declared.protocol.Command.TheVariants as commands
use Rattle.enip_wire.specs.Frames.{Frame, frame, IsFrame}
use Rattle.enip_wire.specs.Items.{Item, items, AreItems, items_of}
use Rattle.enip_wire.specs.Stream.{Parsed}
use Rattle.enip_wire.specs.Stream.Parsed.{Incomplete, WholeFrame, TooLongHeader}
use Rattle.enip_wire.specs.declared.header.Header.{Header}
use Rattle.enip_wire.specs.declared.item_list.CpfFault.{CpfFault}
use Rattle.enip_client.specs.declared.fault.ClientFault.{ClientFault}
use Rattle.enip_client.specs.declared.fault.ClientFault.TheVariants as faults
use Rattle.enip_client.specs.declared.lists.ListCommand.{ListCommand}
use Rattle.enip_client.specs.declared.lists.ListCommand.TheVariants as lists
use Rattle.enip_client.specs.declared.lists.ListEntry.{ListEntry}
use Rattle.enip_client.specs.declared.lists.ListEntry.TheVariants as entries
use Rattle.enip_client.specs.declared.lists.ListEntries.{ListEntries}
use Rattle.enip_client.specs.Frames.{sent}
use Rattle.enip_client.specs.Identity.{Identity, SpellsIdentity, identity_in, identity_of}
use Rattle.enip_client.specs.Service.{Service, SpellsService, service_in, service_of}

-- An entry of a list.
pub data Entry : Type 0 where
  A_service : (service : Service) → Entry
  An_identity : (identity : Identity) → Entry

-- The command that requests a list, and the type of its items.
abbrev pub list_command : ListCommand → Command
list_command lists.Services = commands.ListServices
list_command lists.Identity = commands.ListIdentity

abbrev pub item_kind : ListCommand → ℕ
item_kind lists.Services = 0x0100
item_kind lists.Identity = 0x000c

-- The request has neither data nor a session.
abbrev pub list_frame : ListCommand → Frame
list_frame command = sent (list_command command) 0 0 []

-- The bytes spell an entry of a list.
abbrev pub SpellsEntry : ListCommand → Entry → List ℕ → Type 0
SpellsEntry lists.Services (A_service service) bytes = SpellsService service bytes
SpellsEntry lists.Services (An_identity identity) bytes = ⊥
SpellsEntry lists.Identity (A_service service) bytes = ⊥
SpellsEntry lists.Identity (An_identity identity) bytes = SpellsIdentity identity bytes

-- The entries in items. Each item of the list's type spells one, and items of another type are ignored (ours).
pub data Lists : ListCommand → List Item → List Entry → Type 0 where
  Ended : {command : ListCommand} → Lists command [] []
  Said : {command : ListCommand} {item : Item} {entry : Entry} {more : List Item} {entries : List Entry}
      → item.kind ≡ item_kind command → SpellsEntry command entry item.bytes → Lists command more entries
      → Lists command (item ∷ more) (entry ∷ entries)
  Skipped : {command : ListCommand} {item : Item} {more : List Item} {entries : List Entry}
      → (item.kind ≡ item_kind command → ⊥) → Lists command more entries → Lists command (item ∷ more) entries

-- The bytes are one frame that answers with these entries. It repeats command and context of the request, has status 0,
-- and its data are items that list the entries.
pub record IsAnswer (command : ListCommand) (bytes : List ℕ) (entries : List Entry) : Type 0 where
  pub answer : Frame
  pub is_frame : IsFrame answer
  pub spelled : bytes ≡ frame answer
  pub command_repeated : answer.header.command ≡ command_number (list_command command)
  pub context_repeated : number_at 0 8 answer.header.context ≡ 0
  pub success : answer.header.status ≡ 0
  pub items_in : List Item
  pub are_items : AreItems items_in
  pub body : answer.body ≡ items items_in
  pub lists : Lists command items_in entries

-- The value of an entry in the code, and the entries that an iterator has left.
abbrev pub entry_shown : ListEntry → Entry
entry_shown (entries.Service view) = A_service (service_in view)
entry_shown (entries.Identity view) = An_identity (identity_in view)

-- The rest states the same as a computation.

-- The entry that the bytes spell, if any.
abbrev pub entry_of : ListCommand → List ℕ → Option Entry
entry_of lists.Services bytes = option_map A_service (service_of bytes)
entry_of lists.Identity bytes = option_map An_identity (identity_of bytes)

abbrev pub is_of : ListCommand → Item → Bool
is_of command item = item.kind == item_kind command

-- The entry of an item. None if its type is another.
abbrev pub entry_in : ListCommand → Item → Option Entry
entry_in command item = if is_of command item then entry_of command item.bytes else None

abbrev pub entries_in : ListCommand → List Item → List Entry
entries_in command list = filter_map (entry_in command) list

-- An item spells an entry, or its type is another.
abbrev pub is_sound : ListCommand → Item → Bool
is_sound command item = if is_of command item then is_some (entry_of command item.bytes) else true

-- The entries of the items of a body.
abbrev pub list_of : ListCommand → Result (List Item) CpfFault → Result (List Entry) ClientFault
list_of command (Err fault) = Err faults.Malformed
list_of command (Ok list) =
    if list_all (is_sound command) list then Ok (entries_in command list) else Err faults.Malformed

-- A reply repeats the command and context of its request.
abbrev pub is_reply_to : ListCommand → Header → Bool
is_reply_to command h = (h.command == command_number (list_command command)) && (number_at 0 8 h.context == 0)

-- The entries of a frame. A status other than 0 is a fault.
abbrev pub answered_with : ListCommand → Frame → Result (List Entry) ClientFault
answered_with command f =
    if is_reply_to command f.header
    then if f.header.status == 0 then list_of command (items_of f.body) else Err (faults.Status f.header.status)
    else Err faults.Malformed

-- The entries in bytes, by what the bytes are.
abbrev pub answer_in : ListCommand → Parsed → Result (List Entry) ClientFault
answer_in command Incomplete = Err faults.Malformed
answer_in command (WholeFrame f) = answered_with command f
answer_in command (TooLongHeader h) = Err faults.TooLong

-- The entries that are left.
abbrev pub entries_left : ListEntries → List Entry
entries_left items = entries_in items.command items.items
