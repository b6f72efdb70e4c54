-- A commander's message is Do_Once with its command, as the ledger reads it.
use Rattle.std.proofs.Common.{◌≡◌, ℕ, ◌<◌, ◌≤◌, ◌^◌, nat_lt, false, Some, None, List, [], ◌∷◌, ◌++◌, length, drop, Ok, refl, ap, ◌∙◌, arith}
use Rattle.std.proofs.lemmas.Bool.{le-ltb}
use Rattle.byteorder.specs.Numbers.{little_number-reads_back}
use Rattle.cip_bytes.specs.Numbers.{le, number_at}
use Rattle.cip_message.specs.Request.{Request, request_of}
use Rattle.cip_message.specs.PathReading.{path_of, class_of, instance_of, attribute_of, member_of, whole_of, segment_of}
use Rattle.cip_message.specs.declared.ledger_services.TheConstants as services
use Rattle.cip_ledger.specs.declared.target.Standing.{Standing}
use Rattle.cip_ledger.specs.Ledger.{LedgerState}
use Rattle.cip_ledger.specs.Requests.{LedgerRequest, command_of, ledger_request, request_by_parts, request_by_path}
use Rattle.cip_message.specs.LedgerCommand.{Command}
use Rattle.cip_ledger.specs.Standings.{at_router}
use Rattle.cip_ledger.specs.Services.{do_command}
use Rattle.cip_ledger.specs.Services as ledger
use Rattle.cip_ledger.specs.Turn.{Served, fate, fate_of}
use Rattle.cip_commander.specs.CommanderRule.{do_once}

-- the numbers of a command have their sizes, and its request has at least two bytes
pub record IsCommand (command : Command) : Type 0 where
  pub life : command.life < 2 ^ 64
  pub originator : command.originator < 2 ^ 64
  pub number : command.number < 2 ^ 32
  pub request : 2 ≤ length command.request

abbrev data_of : Command → List ℕ
data_of command = le 8 command.life ++ (le 8 command.originator ++ (le 4 command.number ++ command.request))

abbrev path : List ℕ
path = 0x20 ∷ 0x65 ∷ 0x24 ∷ 1 ∷ []

path_of-path : path_of path ≡ Ok (record { class = 0x65; instance = 1; attribute = None; member = None })
unfolding path_of class_of instance_of attribute_of member_of whole_of segment_of
path_of-path = refl

request_of-do_once : (content : List ℕ) →
    request_of (services.DO_ONCE ∷ 2 ∷ 0x20 ∷ 0x65 ∷ 0x24 ∷ 1 ∷ content)
    ≡ Ok (record { service = services.DO_ONCE; path = path; «data» = content })
unfolding request_of
request_of-do_once content =
    let long : nat_lt (length (0x20 ∷ 0x65 ∷ 0x24 ∷ 1 ∷ content)) 4 ≡ false = le-ltb _ _ (omega arith) in
    rw long refl

abbrev asked : List ℕ → LedgerRequest
asked content = record { service = services.DO_ONCE; instance = 1; attribute = None; «data» = content }

ledger_request-do_once : (content : List ℕ) →
    ledger_request (services.DO_ONCE ∷ 2 ∷ 0x20 ∷ 0x65 ∷ 0x24 ∷ 1 ∷ content) ≡ Some (asked content)
unfolding ledger_request
ledger_request-do_once content =
    let whole : Request = record { service = services.DO_ONCE; path = path; «data» = content } in
    ap request_by_parts (request_of-do_once content) ∙ ap (request_by_path whole) path_of-path

same_command : (a b c d e f : ℕ) (r s : List ℕ) → a ≡ d → b ≡ e → c ≡ f → r ≡ s →
    let one : Command = record { life = a; originator = b; number = c; request = r } in
    let other : Command = record { life = d; originator = e; number = f; request = s } in
    one ≡ other
same_command a b c d e f r s life originator number request = cc

command_of-data : (command : Command) → IsCommand command → command_of (data_of command) ≡ command
command_of-data command is =
    let life : number_at 0 8 (data_of command) ≡ command.life =
    little_number-reads_back 8 command.life (le 8 command.originator ++ (le 4 command.number ++ command.request)) is.life in
    let originator : number_at 8 8 (data_of command) ≡ command.originator =
    little_number-reads_back 8 command.originator (le 4 command.number ++ command.request) is.originator in
    let number : number_at 16 4 (data_of command) ≡ command.number =
    little_number-reads_back 4 command.number command.request is.number in
    same_command
    (number_at 0 8 (data_of command)) (number_at 8 8 (data_of command)) (number_at 16 4 (data_of command))
    command.life command.originator command.number (drop 20 (data_of command)) command.request life originator number refl

do_once-long : (state : LedgerState) (max_size : ℕ) (content : List ℕ) → nat_lt (length content) 22 ≡ false →
    ledger.do_once state max_size content ≡ do_command state max_size (command_of content)
do_once-long state max_size content long = rw long refl

-- what the ledger does with a commander's message
pub fate-do_once : {M : Type 0} (standing : M → List ℕ → Standing) (state : LedgerState) (router : M) (max_size : ℕ)
    (command : Command) → IsCommand command →
    fate standing (Some state) router max_size (do_once command)
    ≡ Served services.DO_ONCE (at_router standing router (do_command state max_size command))
fate-do_once standing state router max_size command is =
    let request = is.request in
    let long : nat_lt (length (data_of command)) 22 ≡ false = le-ltb _ _ (omega arith) in
    ap (fate_of standing state router max_size) (ledger_request-do_once (data_of command))
    ∙ ap (λ action. Served services.DO_ONCE (at_router standing router action))
    (do_once-long state max_size (data_of command) long ∙ ap (do_command state max_size) (command_of-data command is))
