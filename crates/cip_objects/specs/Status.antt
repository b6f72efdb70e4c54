-- The general statuses of services that were performed, and of refusals (Volume 1, general status codes).
use Rattle.cip_application.specs.declared.attribute.SetFault.{SetFault}
use Rattle.cip_application.specs.declared.attribute.SetFault.TheVariants as faults
use Rattle.cip_bytes.specs.declared.protocol.GeneralStatus.{GeneralStatus}
use Rattle.cip_bytes.specs.declared.protocol.GeneralStatus.TheVariants as general
use Rattle.cip_objects.specs.declared.status.Completion.{Completion}
use Rattle.cip_objects.specs.declared.status.Completion.TheVariants.{Whole, Partial}
use Rattle.cip_objects.specs.declared.status.Refusal.{Refusal}
use Rattle.cip_objects.specs.declared.status.Refusal.TheVariants as refusals

-- A service that was performed answers success, or that an attribute of a list could not be read.
abbrev pub completion_status : Completion → GeneralStatus
completion_status Whole = general.Success
completion_status Partial = general.AttributeListError

-- A refusal has any other status.
abbrev pub refusal_status : Refusal → GeneralStatus
refusal_status refusals.PathSegmentError = general.PathSegmentError
refusal_status refusals.PathDestinationUnknown = general.PathDestinationUnknown
refusal_status refusals.ServiceNotSupported = general.ServiceNotSupported
refusal_status refusals.InvalidAttributeValue = general.InvalidAttributeValue
refusal_status refusals.AttributeNotSettable = general.AttributeNotSettable
refusal_status refusals.ReplyDataTooLarge = general.ReplyDataTooLarge
refusal_status refusals.NotEnoughData = general.NotEnoughData
refusal_status refusals.AttributeNotSupported = general.AttributeNotSupported
refusal_status refusals.TooMuchData = general.TooMuchData
refusal_status refusals.InvalidParameter = general.InvalidParameter
refusal_status refusals.PathSizeInvalid = general.PathSizeInvalid
refusal_status refusals.InvalidMemberId = general.InvalidMemberId

-- Why an attribute of an application object was not set, as a refusal of the service.
abbrev pub set_refusal : SetFault → Refusal
set_refusal faults.AttributeNotSupported = refusals.AttributeNotSupported
set_refusal faults.AttributeNotSettable = refusals.AttributeNotSettable
set_refusal faults.NotEnoughData = refusals.NotEnoughData
set_refusal faults.TooMuchData = refusals.TooMuchData
set_refusal faults.InvalidAttributeValue = refusals.InvalidAttributeValue
