-- The extended statuses with which a router refuses to pass a request on (Volume 1, Connection Manager).
use Rattle.std.specs.Prelude.{ℕ, ◌==◌, find, List, [], ◌∷◌, Option, None, if◌then◌else◌}
use Rattle.cip_route.specs.declared.failure.RouteFailure.{RouteFailure}
use Rattle.cip_route.specs.declared.failure.RouteFailure.TheVariants.{TimedOut, Port, Link, Segment}

abbrev pub failure_number : RouteFailure → ℕ
failure_number TimedOut = 0x0204
failure_number Port = 0x0311
failure_number Link = 0x0312
failure_number Segment = 0x0315

abbrev pub FAILURES : List RouteFailure
FAILURES = TimedOut ∷ Port ∷ Link ∷ Segment ∷ []

-- The failure with this extended status, if the general status is 0x01, connection failure.
abbrev pub failure_of : ℕ → ℕ → Option RouteFailure
failure_of status extended =
    if status == 0x01 then find (λ failure. failure_number failure == extended) FAILURES else None
