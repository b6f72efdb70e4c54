-- Requests that are not to the Connection Manager, by their service.
use Rattle.std.proofs.Common.{◌≡◌, ℕ, ◌*◌, nat_lt, Bool, true, false, if◌then◌else◌, None, List, [], ◌∷◌, length, take, drop, Result, Ok, Err, refl, ap, slice_index}
use Rattle.cip_bytes.specs.Protocol.{manager_service_of}
use Rattle.cip_message.specs.declared.path.Path.{Path}
use Rattle.cip_message.specs.declared.path.PathFault.{PathFault}
use Rattle.cip_message.specs.declared.request.RequestFault.TheVariants.{PathSize}
use Rattle.cip_message.specs.PathReading.{path_of}
use Rattle.cip_message.specs.Request.{Request, request_of}
use Rattle.enip_adapter.specs.SendRRData.{Executes, by_service, is_manager, manager_service, route_by_path, route_by_request, route_of}

by_class : (q : Request) → manager_service_of q.service ≡ None → (is : Bool) →
    (if is then manager_service q.service q.data else Executes) ≡ Executes
by_class q e true = ap (by_service q.data) e
by_class q e false = refl

by_path : (q : Request) → manager_service_of q.service ≡ None → (path : Result Path PathFault) →
    route_by_path q path ≡ Executes
by_path q e (Err fault) = refl
by_path q e (Ok path) = by_class q e (is_manager path)

by_size : (q : Request) → manager_service_of q.service ≡ None → (short : Bool) →
    route_by_request (if short then Err PathSize else Ok q) ≡ Executes
by_size q e true = refl
by_size q e false = by_path q e (path_of q.path)

-- a request goes to the objects unless its service is one of the Connection Manager's
pub objects_by_service : (text : List ℕ) → manager_service_of (slice_index text 0) ≡ None → route_of text ≡ Executes
unfolding request_of
objects_by_service [] e = refl
objects_by_service (service ∷ []) e = refl
objects_by_service (service ∷ words ∷ rest) e =
    let path = take (2 * words) rest in
    let q : Request = record { service = service; path = path; «data» = drop (2 * words) rest } in
    by_size q e (nat_lt (length rest) (2 * words))
