-- The replies to a Forward_Open, a Large_Forward_Open and a Forward_Close (Volume 1, Connection Manager): whole
-- router replies.
use Rattle.std.specs.Prelude.{ℕ, List, [], ◌∷◌, ◌++◌}
use Rattle.cip_bytes.specs.declared.protocol.ManagerService.{ManagerService}
use Rattle.cip_bytes.specs.declared.protocol.ManagerService.TheVariants.{ForwardClose}
use Rattle.cip_bytes.specs.declared.protocol.GeneralStatus.{GeneralStatus}
use Rattle.cip_bytes.specs.declared.protocol.GeneralStatus.TheVariants.{Success, ConnectionFailure, NotEnoughData}
use Rattle.cip_bytes.specs.declared.protocol.GeneralStatus.TheVariants.{TooMuchData}
use Rattle.cip_bytes.specs.declared.protocol.ExtendedStatus.{ExtendedStatus}
use Rattle.cip_bytes.specs.Numbers.{le, number_at}
use Rattle.cip_bytes.specs.Protocol.{manager_service_number, general_status_number, extended_status_number}
use Rattle.cip_message.specs.Reply.{reply, reply_of_fields}
use Rattle.cip_message.specs.declared.open.LengthFault.{LengthFault}
use Rattle.cip_message.specs.declared.open.LengthFault.TheVariants.{Short, Long}
use Rattle.cip_message.specs.Reply.{reply_service}
use Rattle.cip_manager.specs.declared.connection.Triad.{Triad}

-- The reply to a service, with this general status, additional status words and data.
abbrev pub reply_of_service : ManagerService → GeneralStatus → List ℕ → List ℕ → List ℕ
reply_of_service service status additional content =
    reply (reply_of_fields (reply_service (manager_service_number service)) (general_status_number status) additional
    content)

-- Connection serial in 2 bytes, originator vendor in 2, originator serial in 4.
abbrev pub triad_bytes : Triad → List ℕ
triad_bytes triad = le 2 triad.connection_serial ++ le 2 triad.originator_vendor ++ le 4 triad.originator_serial

-- The data of a reply that refuses: the triad, remaining path size 0, reserved 0.
abbrev pub failure_data : Triad → List ℕ
failure_data triad = triad_bytes triad ++ 0 ∷ 0 ∷ []

-- The data of a reply to an opening that succeeds: O->T ID in 4 bytes, T->O ID in 4, the triad, O->T RPI in 4, T->O
-- RPI in 4, application reply size 0, reserved 0.
abbrev pub open_success_data : ℕ → ℕ → Triad → ℕ → ℕ → List ℕ
open_success_data o_to_t_id t_to_o_id triad o_to_t_rpi t_to_o_rpi =
    le 4 o_to_t_id ++ le 4 t_to_o_id ++ triad_bytes triad ++ le 4 o_to_t_rpi ++ le 4 t_to_o_rpi ++ 0 ∷ 0 ∷ []

-- The data of a reply to a Forward_Close that succeeds: the triad, application reply size 0, reserved 0.
abbrev pub close_success_data : Triad → List ℕ
close_success_data triad = triad_bytes triad ++ 0 ∷ 0 ∷ []

-- Data that are too short or too long.
abbrev pub length_status : LengthFault → GeneralStatus
length_status Short = NotEnoughData
length_status Long = TooMuchData

abbrev pub length_reply : ManagerService → LengthFault → List ℕ
length_reply service fault = reply_of_service service (length_status fault) [] []

-- General status 0x01 with an extended status.
abbrev pub failure_reply : ManagerService → ExtendedStatus → Triad → List ℕ
failure_reply service extended triad =
    reply_of_service service ConnectionFailure (extended_status_number extended ∷ []) (failure_data triad)

abbrev pub close_success : Triad → List ℕ
close_success triad = reply_of_service ForwardClose Success [] (close_success_data triad)

-- The general status of a reply that does not refuse.
abbrev pub SUCCESS : ℕ
SUCCESS = general_status_number Success

-- The O->T ID in the reply to an opening that succeeds, after the four bytes of its head.
abbrev pub o_to_t_id_in : List ℕ → ℕ
o_to_t_id_in reply = number_at 4 4 reply
