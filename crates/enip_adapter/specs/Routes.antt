-- The route of a request, as the code holds it.
use Rattle.std.specs.Prelude.{Bool, false, Some, Result, Ok, Err}
use Rattle.cip_message.specs.declared.path.Path.{Path}
use Rattle.cip_message.specs.declared.path.PathFault.{PathFault}
use Rattle.enip_adapter.specs.SendRRData.{Route as RouteDefined, Executes, by_service, is_manager}
use Rattle.enip_adapter.specs.declared.commands.requests.Route.{Route}
use Rattle.enip_adapter.specs.declared.commands.requests.Route.TheVariants.{Manager, Objects}

abbrev pub route_in : Route → RouteDefined
route_in (Manager service bytes) = by_service bytes.now (Some service)
route_in Objects = Executes

-- Whether the path that was read is the Connection Manager's.
abbrev pub is_path_of_manager : Result Path PathFault → Bool
is_path_of_manager (Err fault) = false
is_path_of_manager (Ok path) = is_manager path
