-- The numbers of commands, services and statuses (Volume 2, encapsulation; Volume 1, Connection Manager, status codes).
use Rattle.std.specs.Prelude.{ℕ, ◌==◌, find, List, [], ◌∷◌, Option}
use Rattle.cip_bytes.specs.declared.protocol.Command.{Command}
use Rattle.cip_bytes.specs.declared.protocol.Command.TheVariants.{Nop, ListServices, ListIdentity, ListInterfaces}
use Rattle.cip_bytes.specs.declared.protocol.Command.TheVariants.{RegisterSession, UnRegisterSession, SendRRData}
use Rattle.cip_bytes.specs.declared.protocol.Command.TheVariants.{SendUnitData}
use Rattle.cip_bytes.specs.declared.protocol.ManagerService.{ManagerService}
use Rattle.cip_bytes.specs.declared.protocol.ManagerService.TheVariants.{ForwardClose, ForwardOpen, LargeForwardOpen}
use Rattle.cip_bytes.specs.declared.protocol.EncapsulationStatus.{EncapsulationStatus}
use Rattle.cip_bytes.specs.declared.protocol.EncapsulationStatus.TheVariants as encapsulation
use Rattle.cip_bytes.specs.declared.protocol.GeneralStatus.{GeneralStatus}
use Rattle.cip_bytes.specs.declared.protocol.GeneralStatus.TheVariants as general
use Rattle.cip_bytes.specs.declared.protocol.ExtendedStatus.{ExtendedStatus}
use Rattle.cip_bytes.specs.declared.protocol.ExtendedStatus.TheVariants as extended

-- Encapsulation commands.
abbrev pub command_number : Command → ℕ
command_number Nop = 0x0000
command_number ListServices = 0x0004
command_number ListIdentity = 0x0063
command_number ListInterfaces = 0x0064
command_number RegisterSession = 0x0065
command_number UnRegisterSession = 0x0066
command_number SendRRData = 0x006f
command_number SendUnitData = 0x0070

abbrev pub COMMANDS : List Command
COMMANDS =
    Nop ∷ ListServices ∷ ListIdentity ∷ ListInterfaces ∷ RegisterSession ∷ UnRegisterSession ∷ SendRRData
    ∷ SendUnitData ∷ []

-- The command with this number, if there is one.
abbrev pub command_of : ℕ → Option Command
command_of number = find (λ command. command_number command == number) COMMANDS

-- Services of the Connection Manager.
abbrev pub manager_service_number : ManagerService → ℕ
manager_service_number ForwardClose = 0x4e
manager_service_number ForwardOpen = 0x54
manager_service_number LargeForwardOpen = 0x5b

abbrev pub MANAGER_SERVICES : List ManagerService
MANAGER_SERVICES = ForwardClose ∷ ForwardOpen ∷ LargeForwardOpen ∷ []

-- The service with this number, if there is one.
abbrev pub manager_service_of : ℕ → Option ManagerService
manager_service_of number = find (λ service. manager_service_number service == number) MANAGER_SERVICES

-- Encapsulation statuses.
abbrev pub encapsulation_status_number : EncapsulationStatus → ℕ
encapsulation_status_number encapsulation.Success = 0x0000
encapsulation_status_number encapsulation.UnsupportedCommand = 0x0001
encapsulation_status_number encapsulation.PoorlyFormedData = 0x0003
encapsulation_status_number encapsulation.InvalidSession = 0x0064
encapsulation_status_number encapsulation.InvalidLength = 0x0065
encapsulation_status_number encapsulation.UnsupportedRevision = 0x0069

-- General statuses of a router reply.
abbrev pub general_status_number : GeneralStatus → ℕ
general_status_number general.Success = 0x00
general_status_number general.ConnectionFailure = 0x01
general_status_number general.PathSegmentError = 0x04
general_status_number general.PathDestinationUnknown = 0x05
general_status_number general.ServiceNotSupported = 0x08
general_status_number general.InvalidAttributeValue = 0x09
general_status_number general.AttributeListError = 0x0a
general_status_number general.AttributeNotSettable = 0x0e
general_status_number general.ReplyDataTooLarge = 0x11
general_status_number general.NotEnoughData = 0x13
general_status_number general.AttributeNotSupported = 0x14
general_status_number general.TooMuchData = 0x15
general_status_number general.InvalidParameter = 0x20
general_status_number general.PathSizeInvalid = 0x26
general_status_number general.InvalidMemberId = 0x28

-- Extended statuses of a refused connection.
abbrev pub extended_status_number : ExtendedStatus → ℕ
extended_status_number extended.DoubleOpen = 0x0100
extended_status_number extended.Transport = 0x0103
extended_status_number extended.ConnectionNotFound = 0x0107
extended_status_number extended.ConnectionParameter = 0x0108
extended_status_number extended.ConnectionSize = 0x0109
extended_status_number extended.Rpi = 0x0111
extended_status_number extended.OutOfConnections = 0x0113
extended_status_number extended.VendorOrProduct = 0x0114
extended_status_number extended.DeviceType = 0x0115
extended_status_number extended.Revision = 0x0116
extended_status_number extended.ApplicationPath = 0x0117
extended_status_number extended.PathSegment = 0x0315
