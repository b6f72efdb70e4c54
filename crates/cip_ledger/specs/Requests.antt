-- Requests to the ledger's class, and the command that Do_Once gives.
use Rattle.std.specs.Prelude.{◌≡◌, ◌≤◌, length, slice_index, ℕ, ◌==◌, ◌||◌, Bool, false, if◌then◌else◌, Option, Some}
use Rattle.std.specs.Prelude.{None, List, drop, Result, Ok, Err}
use Rattle.cip_bytes.specs.Numbers.{number_at}
use Rattle.cip_bytes.specs.declared.protocol.TheConstants.{CONNECTION_MANAGER}
use Rattle.cip_message.specs.declared.path.Path.{Path}
use Rattle.cip_message.specs.declared.path.PathFault.{PathFault}
use Rattle.cip_message.specs.declared.request.RequestFault.{RequestFault}
use Rattle.cip_message.specs.PathReading.{path_of}
use Rattle.cip_message.specs.Request.{Request, request_of}
use Rattle.cip_message.specs.LedgerCommand.{Command}
use Rattle.cip_message.specs.declared.ledger_services.TheConstants.{LEDGER}
use Rattle.cip_message.specs.declared.ledger_services.TheConstants.{DO_ONCE}

-- a request to the ledger's class; the member of its path is ignored
pub record LedgerRequest : Type 0 where
  pub service : ℕ
  pub instance : ℕ
  pub attribute : Option ℕ
  pub «data» : List ℕ

abbrev pub request_by_path : Request → Result Path PathFault → Option LedgerRequest
request_by_path request (Err fault) = None
request_by_path request (Ok path) =
    if path.class == LEDGER then Some (record {
      service = request.service;
      instance = path.instance;
      attribute = path.attribute;
      «data» = request.data;
    }) else None

abbrev pub request_by_parts : Result Request RequestFault → Option LedgerRequest
request_by_parts (Err fault) = None
request_by_parts (Ok request) = request_by_path request (path_of request.path)

-- the request to the ledger's class, None if it goes elsewhere or its path can't be read
unfoldable pub ledger_request : List ℕ → Option LedgerRequest
ledger_request text = request_by_parts (request_of text)

-- the path of a request is this class and an instance, each in 8 bits
pub record IsShort (text : List ℕ) : Type 0 where
  pub size : 6 ≤ length text
  pub words : slice_index text 1 ≡ 2
  pub class_first : slice_index text 2 ≡ 0x20
  pub class : slice_index text 3 ≡ LEDGER
  pub instance_first : slice_index text 4 ≡ 0x24

-- Do_Once at the instance, with these data
abbrev pub do_once_with : List ℕ → LedgerRequest
do_once_with bytes = record { service = DO_ONCE; instance = 1; attribute = None; «data» = bytes }

-- the command in the data of Do_Once: ULINT, ULINT, UDINT, a router request
abbrev pub command_of : List ℕ → Command
command_of bytes = record {
  life = number_at 0 8 bytes;
  originator = number_at 8 8 bytes;
  number = number_at 16 4 bytes;
  request = drop 20 bytes;
}

abbrev pub bars_class : Result Path PathFault → Bool
bars_class (Err fault) = false
bars_class (Ok path) = (path.class == CONNECTION_MANAGER) || (path.class == LEDGER)

abbrev pub bars : Result Request RequestFault → Bool
bars (Err fault) = false
bars (Ok request) = bars_class (path_of request.path)

-- whether a request can't be embedded: it goes to the Connection Manager or to the ledger
unfoldable pub is_barred : List ℕ → Bool
is_barred text = bars (request_of text)
