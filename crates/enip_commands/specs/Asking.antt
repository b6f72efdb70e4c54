-- One request to a device, and how its reply is reported.
use Rattle.std.specs.Prelude.{⊤, ◌≡◌, ◌==◌, ◌⊎◌, ℕ, Bool, if◌then◌else◌, List, [], slice_get, Some, None, is_some, true, unwrap_or}
use Rattle.std.specs.Prelude.{Result, Ok, Err}
use Rattle.cip_message.specs.PathWriting.{short}
use Rattle.cip_message.specs.Request.{request}
use Rattle.cip_message.specs.Reply.{Reply, reply_of}
use Rattle.enip_client.specs.Asking.{Ends, IsAskedOver}
use Rattle.enip_client.specs.Client.{ClientState, new_client}
use Rattle.enip_client.specs.State.{is_registered}
use Rattle.enip_client.specs.declared.fault.AskFault.{AskFault}
use Rattle.enip_client.specs.declared.fault.AskFault.TheVariants as ask
use Rattle.enip_client.specs.declared.fault.ClientFault.TheVariants as client
use Rattle.enip_commands.specs.declared.asking.DeviceRequest.{DeviceRequest}
use Rattle.enip_client.specs.declared.wants.Wants.{Wants}
use Rattle.enip_commands.specs.declared.asking.ReplyOutcome.{ReplyOutcome}
use Rattle.enip_commands.specs.declared.asking.ReplyOutcome.TheVariants.{Done, Refused}
use Rattle.enip_commands.specs.declared.request_failure.RequestFailure.{RequestFailure}
use Rattle.enip_commands.specs.declared.request_failure.RequestFailure.TheVariants.{Hex, Session, Client}
use Rattle.enip_commands.specs.declared.request_failure.RequestFailure.TheVariants.{Shape, Fields, Program}
use Rattle.enip_faults.specs.declared.fault.ProgramFault.TheVariants.{Memory}
use Rattle.enip_commands.specs.declared.style.Style.{Style}
use Rattle.enip_lines.specs.Digits.{bytes_spelled}
use Rattle.enip_commands.specs.Failures.{stop_of}
use Rattle.enip_faults.specs.Statuses.{IsOfDevices}
use Rattle.enip_commands.specs.Styles.{IsUnprinted}

-- The bytes of this request: service, shortest path, and the data that the digits spell.
abbrev pub IsRequested : DeviceRequest → List ℕ → Type 0
IsRequested q bytes = (given : List ℕ)
    × (bytes_spelled q.digits.now ≡ Some given)
    × (bytes ≡ request (record { service = q.service; path = short q.path; «data» = given }))

-- Why a request was not made: its digits are not hexadecimal, or they are and memory was refused.
abbrev pub IsNotMade : DeviceRequest → RequestFailure → Type 0
IsNotMade q Hex = bytes_spelled q.digits.now ≡ None
IsNotMade q (Program Memory) = is_some (bytes_spelled q.digits.now) ≡ true
IsNotMade q failure = ⊥

-- The same for an exchange. While the session is not registered, a status is the answer to RegisterSession.
abbrev pub exchange_result : Result (Unit {0}) AskFault → Bool → Result (Unit {0}) RequestFailure
exchange_result (Ok done) registered = Ok done
exchange_result (Err (ask.Client (client.Status status))) registered =
    if registered then Err (Client (client.Status status)) else Err (Session status)
exchange_result (Err fault) registered = Err (stop_of fault)

-- No client could be made: nothing was read, written or changed.
abbrev pub IsWithoutClient : Wants → (ClientState → Ends) → (ClientState → Ends) → Result (Unit {0}) RequestFailure → Type 0
IsWithoutClient wants old new result = (result ≡ Err (Program Memory)) × (new (new_client wants) ≡ old (new_client wants))

-- One exchange of a new client that wants this connection, over a route, whose ends are these for each state of the client.
abbrev pub IsExchangedOver : Wants → List ℕ → List ℕ → Bool → (ClientState → Ends) → (ClientState → Ends)
    → Result (Unit {0}) RequestFailure → Type 0
IsExchangedOver wants route request connected old new result =
    IsWithoutClient wants old new result
    ⊎ ((asked : Result (Unit {0}) AskFault) × ((left : ClientState)
    × (IsAskedOver route request connected (old (new_client wants)) (new left) asked
    × (result ≡ exchange_result asked (is_registered left.state.registration)))))

-- The exchange failed, or a device or memory did.
abbrev pub IsOfExchange : RequestFailure → Type 0
IsOfExchange Hex = ⊥
IsOfExchange (Session status) = ⊤
IsOfExchange (Client fault) = ⊤
IsOfExchange (Shape value_type fault) = ⊤
IsOfExchange (Fields fault) = ⊤
IsOfExchange (Program fault) = IsOfDevices fault

-- The outcome of a reply: general status 0 is success. Any other is a refusal, with the first additional word or 0.
abbrev pub told_of : Reply → ReplyOutcome
told_of a = if a.status == 0 then Done else Refused a.status (unwrap_or (slice_get a.additional 0) 0)

-- These bytes are a reply with this outcome.
abbrev pub IsReplyPrinted : List ℕ → ReplyOutcome → Type 0
IsReplyPrinted bytes replied = (a : Reply) × (reply_of bytes ≡ Ok a) × (replied ≡ told_of a)

-- These bytes are not a reply, or its data are not values of the style's type, or a device or memory failed.
abbrev pub IsNotPrinted : Style → List ℕ → RequestFailure → Type 0
IsNotPrinted style bytes Hex = ⊥
IsNotPrinted style bytes (Session status) = ⊥
IsNotPrinted style bytes (Client fault) = (fault ≡ client.Malformed) × ((a : Reply) → reply_of bytes ≡ Ok a → ⊥)
IsNotPrinted style bytes (Shape value_type fault) =
    (a : Reply) × (reply_of bytes ≡ Ok a) × IsUnprinted style a.«data» (Shape value_type fault)
IsNotPrinted style bytes (Fields fault) = (a : Reply) × (reply_of bytes ≡ Ok a) × IsUnprinted style a.«data» (Fields fault)
IsNotPrinted style bytes (Program fault) = IsOfDevices fault
