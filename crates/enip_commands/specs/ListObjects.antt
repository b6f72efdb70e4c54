-- Identities and services as JSON: one object per line.
use Rattle.std.specs.Prelude.{ℕ, List, [], Option, Result, Ok, Err}
use Rattle.std.specs.List.{flat_map}
use Rattle.std.specs.Io.KnownBytes.{Appends}
use Rattle.serde_json.specs.Written.{compact_text}
use Rattle.enip_commands.specs.Json.{identity_data, service_data}
use Rattle.enip_wire.specs.Stream.{parsed}
use Rattle.enip_client.specs.Lists.{Entry, A_service, An_identity, answer_in}
use Rattle.enip_client.specs.Listing.{ListState, IsListed}
use Rattle.enip_client.specs.declared.fault.AskFault.TheVariants as ask
use Rattle.enip_client.specs.declared.fault.ClientFault.{ClientFault}
use Rattle.enip_client.specs.declared.lists.ListCommand.{ListCommand}
use Rattle.enip_client.specs.declared.lists.ListCommand.TheVariants as lists
use Rattle.enip_lines.specs.Lines.{with_newline}
use Rattle.enip_faults.specs.Statuses.{IsOfDevices}
use Rattle.enip_commands.specs.declared.request_failure.RequestFailure.{RequestFailure}
use Rattle.enip_commands.specs.declared.request_failure.RequestFailure.TheVariants.{Hex, Session, Client}
use Rattle.enip_commands.specs.declared.request_failure.RequestFailure.TheVariants.{Shape, Fields, Program}

-- The line of an entry.
abbrev pub object_line : Entry → List ℕ
object_line (A_service service) = with_newline (compact_text (service_data service))
object_line (An_identity identity) = with_newline (compact_text (identity_data identity))

abbrev pub object_lines : List Entry → List ℕ
object_lines entries = flat_map object_line entries

-- The lines of an answer to ListIdentity. A datagram that is not a whole answer has none.
abbrev pub objects_in : Result (List Entry) ClientFault → List ℕ
objects_in (Ok entries) = object_lines entries
objects_in (Err fault) = []

abbrev pub datagram_objects : List ℕ → List ℕ
datagram_objects datagram = objects_in (answer_in lists.Identity (parsed datagram))

-- The entries in the answer were printed, or the answer is malformed, or a device or memory failed.
abbrev pub AreObjectsPrinted : ListCommand → ListState → ListState → Option (List ℕ) → Option (List ℕ)
    → Result (Unit {0}) RequestFailure → Type 0
AreObjectsPrinted command old new before after (Ok done) =
    (entries : List Entry) × IsListed command old new (Ok entries) × Appends before after (object_lines entries)
AreObjectsPrinted command old new before after (Err Hex) = ⊥
AreObjectsPrinted command old new before after (Err (Session status)) = ⊥
AreObjectsPrinted command old new before after (Err (Client fault)) = IsListed command old new (Err (ask.Client fault))
AreObjectsPrinted command old new before after (Err (Shape value_type fault)) = ⊥
AreObjectsPrinted command old new before after (Err (Fields fault)) = ⊥
AreObjectsPrinted command old new before after (Err (Program fault)) = IsOfDevices fault
