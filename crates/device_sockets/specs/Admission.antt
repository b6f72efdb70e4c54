-- What the address of a client decides: whether it is admitted, what it may do, and for whom the shares count.
use Rattle.std.specs.Prelude.{ℕ, Option, Some, None}
use Rattle.enip_access.specs.declared.access.Access.{Access}
use Rattle.enip_access.specs.declared.access.Permission.{Permission}
use Rattle.enip_access.specs.declared.access.Permission.TheVariants as permission
use Rattle.enip_access.specs.Access.{permission_of}
use Rattle.enip_adapter.specs.declared.peer.Rights.{Rights}
use Rattle.enip_adapter.specs.declared.peer.Rights.TheVariants as rights
use Rattle.device_sockets.specs.declared.admission.Admission.{Admission}

abbrev pub rights_for : Permission → Rights
rights_for permission.Read = rights.Read
rights_for permission.Write = rights.Write

-- Each address is a group of its own.
abbrev pub admitted_with : ℕ → Option Permission → Option Admission
admitted_with address None = None
admitted_with address (Some permission) = Some (record { rights = rights_for permission; group = Some address })

-- Without rules everybody may write, and nobody has a share.
abbrev pub admitted : Option Access → ℕ → Option Admission
admitted None address = Some (record { rights = rights.Write; group = None })
admitted (Some access) address = admitted_with address (permission_of access address)
