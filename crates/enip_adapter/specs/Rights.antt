-- What peers may do: a writer everything, a reader whatever changes nothing (ours).
use Rattle.std.specs.Prelude.{ℕ, ◌==◌, ◌&&◌, ◌||◌, Bool, false, not, if◌then◌else◌, List, [], ◌∷◌, Result, Ok, Err}
use Rattle.std.specs.Prelude.{Option, Some, None}
use Rattle.cip_message.specs.declared.ledger_services.TheConstants.{LEDGER}
use Rattle.cip_message.specs.declared.ledger_services.TheConstants.{GET_LAST, GET_SLOTS}
use Rattle.cip_ledger.specs.Device.{Device, Executed, exec_device}
use Rattle.cip_message.specs.declared.path.Path.{Path}
use Rattle.cip_message.specs.declared.path.PathFault.{PathFault}
use Rattle.cip_message.specs.declared.request.RequestFault.{RequestFault}
use Rattle.cip_message.specs.PathReading.{path_of}
use Rattle.cip_message.specs.Reply.{reply_service}
use Rattle.cip_message.specs.Request.{Request, request_of}
use Rattle.cip_objects.specs.declared.status.Refusal.{Refusal}
use Rattle.cip_objects.specs.OwnRequests.{is_own_service}
use Rattle.cip_objects.specs.Packets.{packet_of, requests_of}
use Rattle.enip_adapter.specs.declared.peer.Rights.{Rights}
use Rattle.enip_adapter.specs.declared.peer.Rights.TheVariants.{Read, Write}
use Rattle.enip_adapter.specs.declared.rights.TheConstants.{PRIVILEGE_VIOLATION}

-- ---- requests that could change something

-- The service of a request is its first byte.
abbrev pub service_of : List ℕ → ℕ
service_of [] = 0
service_of (service ∷ rest) = service

-- The services that change what they are sent to (Volume 1, common services): Set_Attributes_All, Set_Attribute_List,
-- Reset, Set_Attribute_Single and Set_Member. Vendor and class specific services, 0x32 to 0x63, count as such: Add,
-- Clear, own services, Do_Once and Forget.
abbrev pub is_change_service : ℕ → Bool
is_change_service service =
    (service == 0x02) || (service == 0x04) || (service == 0x05) || (service == 0x10) || (service == 0x19)
    || is_own_service service

abbrev pub is_path_to_ledger : Result Path PathFault → Bool
is_path_to_ledger (Err fault) = false
is_path_to_ledger (Ok path) = path.class == LEDGER

abbrev pub is_to_ledger : Result Request RequestFault → Bool
is_to_ledger (Err fault) = false
is_to_ledger (Ok request) = is_path_to_ledger (path_of request.path)

-- The class specific services that only read: Get_Last, 0x4c, and Get_Slots, 0x50, of the command ledger.
abbrev pub is_read_service : ℕ → Bool
is_read_service service = (service == GET_LAST) || (service == GET_SLOTS)

abbrev pub is_ledger_read : List ℕ → Bool
is_ledger_read request = is_read_service (service_of request) && is_to_ledger (request_of request)

-- The service and the class decide, before anything else of the request is looked at.
unfoldable pub is_single_change : List ℕ → Bool
is_single_change request = is_change_service (service_of request) && not (is_ledger_read request)

abbrev pub any_change : List (List ℕ) → Bool
any_change [] = false
any_change (request ∷ requests) = is_single_change request || any_change requests

-- A packet that cannot be read changes nothing.
abbrev pub are_changes : Result (List (List ℕ)) Refusal → Bool
are_changes (Err refusal) = false
are_changes (Ok requests) = any_change requests

-- One of the requests of a packet could change something, whether the device has the Message Router or not.
abbrev pub is_changing_packet : Option (List ℕ) → Bool
is_changing_packet None = false
is_changing_packet (Some content) = are_changes (requests_of content)

unfoldable pub is_change : List ℕ → Bool
is_change request = is_single_change request || is_changing_packet (packet_of request)

-- ---- what a reader is refused

abbrev pub is_refused : Rights → List ℕ → Bool
is_refused Write request = false
is_refused Read request = is_change request

-- The reply to a request that is refused: the status privilege violation, no additional status words, and no data.
abbrev pub refusal : List ℕ → List ℕ
refusal request = reply_service (service_of request) ∷ 0 ∷ PRIVILEGE_VIOLATION ∷ 0 ∷ []

-- A refused request changes nothing.
abbrev pub refused : Device → List ℕ → Executed
refused device request = record { after = device; answer = refusal request }

-- The device after a request of a peer with these rights, and its reply.
abbrev pub exec_for : Rights → Device → ℕ → List ℕ → Executed
exec_for rights device max_size request =
    if is_refused rights request then refused device request else exec_device device max_size request

abbrev pub after_for : Rights → Device → ℕ → List ℕ → Device
after_for rights device max_size request = (exec_for rights device max_size request).after

abbrev pub answer_for : Rights → Device → ℕ → List ℕ → List ℕ
answer_for rights device max_size request = (exec_for rights device max_size request).answer
