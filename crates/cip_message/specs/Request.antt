-- Requests of the message router (Volume 1, message router request format).
use Rattle.std.specs.Prelude.{◌≡◌, ℕ, ◌*◌, ◌/◌, ◌%◌, ◌<◌, ◌≤◌, ◌^◌, List, [], ◌∷◌, ◌++◌, length, take, drop, Result, Ok}
use Rattle.std.specs.Prelude.{Err, nat_lt, if◌then◌else◌}
use Rattle.cip_bytes.specs.Numbers.{AreBytes}
use Rattle.cip_message.specs.declared.request.RequestView.{RequestView}
use Rattle.cip_message.specs.declared.request.RequestFault.{RequestFault}
use Rattle.cip_message.specs.declared.request.RequestFault.TheVariants.{Short, PathSize}

-- A request, without where it lies in memory.
pub record Request : Type 0 where
  pub service : ℕ
  pub path : List ℕ
  pub «data» : List ℕ

-- The requests that have a spelling: the path is whole words, at most 255 of them.
pub record IsRequest (q : Request) : Type 0 where
  pub service : q.service < 2 ^ 8
  pub whole_words : length q.path % 2 ≡ 0
  pub counted : length q.path ≤ 510
  pub path : AreBytes q.path
  pub «data» : AreBytes q.data

-- The spelling of a request: service, path size in words, path, data.
abbrev pub request : Request → List ℕ
request q = q.service ∷ (length q.path / 2) ∷ (q.path ++ q.data)

-- A request of the code, as one of the specification.
abbrev pub view : RequestView → Request
view v = record { service = v.service; path = v.path.now; «data» = v.data.now }

-- The number of a fault, as printed.
abbrev pub request_fault_number : RequestFault → ℕ
request_fault_number Short = 1
request_fault_number PathSize = 2

-- Reads a request.
unfoldable pub request_of : List ℕ → Result Request RequestFault
request_of [] = Err Short
request_of (service ∷ []) = Err Short
request_of (service ∷ words ∷ rest) =
    if nat_lt (length rest) (2 * words) then Err PathSize
    else Ok (record { service = service; path = take (2 * words) rest; «data» = drop (2 * words) rest })
