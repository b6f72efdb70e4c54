-- Worked examples: timeouts, deadlines, replies and shares.
use Rattle.std.specs.Prelude.{◌≡◌, ℕ, ◌-◌, ◌^◌, false, List, [], ◌∷◌, Option, Some, None, Ok, Err, refl}
use Rattle.cip_bytes.specs.declared.protocol.ManagerService.TheVariants.{ForwardOpen, LargeForwardOpen, ForwardClose}
use Rattle.cip_bytes.specs.declared.protocol.ExtendedStatus.TheVariants.{DoubleOpen, ConnectionNotFound}
use Rattle.cip_bytes.specs.declared.protocol.ExtendedStatus.TheVariants.{ConnectionSize, OutOfConnections}
use Rattle.cip_class3.specs.TargetRule.{target_at_opening}
use Rattle.cip_message.specs.declared.key.Device.{Device}
use Rattle.cip_message.specs.declared.open.LengthFault.TheVariants.{Short, Long}
use Rattle.cip_manager.specs.declared.connection.Triad.{Triad}
use Rattle.cip_manager.specs.declared.connection.Connection.{Connection}
use Rattle.cip_manager.specs.Connection.{timeout_of, deadline_at_opening, deadline_at_item, count_of_group}
use Rattle.cip_manager.specs.Manager.{ManagerState, no_connection, no_connection_with_share}
use Rattle.cip_manager.specs.Opening.{has_share_left, room_check}
use Rattle.cip_manager.specs.Replies.{length_reply, failure_reply, close_success}

-- An RPI of 2 seconds, with multipliers 0 and 7.
pub timeout-zero : timeout_of 2000000 0 ≡ 8000000
timeout-zero = refl

pub timeout-seven : timeout_of 2000000 7 ≡ 1024000000
timeout-seven = refl

-- 8 seconds are too few at the opening, but not later. No deadline is past the greatest moment.
pub deadline-opening : deadline_at_opening 0 8000000 ≡ 10000000
deadline-opening = refl

pub deadline-item : deadline_at_item 9999999 8000000 ≡ 17999999
deadline-item = refl

pub deadline-greatest : deadline_at_item (2 ^ 64 - 2) 8000000 ≡ 2 ^ 64 - 1
deadline-greatest = refl

-- Connection serial 1, originator vendor 0x42, originator serial 0x12345678.
abbrev triad : Triad
triad = record { connection_serial = 1; originator_vendor = 0x42; originator_serial = 0x12345678 }

pub open-twice : failure_reply ForwardOpen DoubleOpen triad
    ≡ 0xd4 ∷ 0 ∷ 1 ∷ 1 ∷ 0x00 ∷ 0x01 ∷ 0x01 ∷ 0x00 ∷ 0x42 ∷ 0x00 ∷ 0x78 ∷ 0x56 ∷ 0x34 ∷ 0x12 ∷ 0 ∷ 0 ∷ []
open-twice = refl

pub large-too-large : failure_reply LargeForwardOpen ConnectionSize (record triad { connection_serial = 6 })
    ≡ 0xdb ∷ 0 ∷ 1 ∷ 1 ∷ 0x09 ∷ 0x01 ∷ 0x06 ∷ 0x00 ∷ 0x42 ∷ 0x00 ∷ 0x78 ∷ 0x56 ∷ 0x34 ∷ 0x12 ∷ 0 ∷ 0 ∷ []
large-too-large = refl

pub close-foreign : failure_reply ForwardClose ConnectionNotFound triad
    ≡ 0xce ∷ 0 ∷ 1 ∷ 1 ∷ 0x07 ∷ 0x01 ∷ 0x01 ∷ 0x00 ∷ 0x42 ∷ 0x00 ∷ 0x78 ∷ 0x56 ∷ 0x34 ∷ 0x12 ∷ 0 ∷ 0 ∷ []
close-foreign = refl

pub close-done : close_success triad
    ≡ 0xce ∷ 0 ∷ 0 ∷ 0 ∷ 0x01 ∷ 0x00 ∷ 0x42 ∷ 0x00 ∷ 0x78 ∷ 0x56 ∷ 0x34 ∷ 0x12 ∷ 0 ∷ 0 ∷ []
close-done = refl

pub open-short : length_reply ForwardOpen Short ≡ 0xd4 ∷ 0 ∷ 0x13 ∷ 0 ∷ []
open-short = refl

pub open-long : length_reply ForwardOpen Long ≡ 0xd4 ∷ 0 ∷ 0x15 ∷ 0 ∷ []
open-long = refl

pub open-full : failure_reply ForwardOpen OutOfConnections triad
    ≡ 0xd4 ∷ 0 ∷ 1 ∷ 1 ∷ 0x13 ∷ 0x01 ∷ 0x01 ∷ 0x00 ∷ 0x42 ∷ 0x00 ∷ 0x78 ∷ 0x56 ∷ 0x34 ∷ 0x12 ∷ 0 ∷ 0 ∷ []
open-full = refl

-- A connection that session `session` opened for this group.
abbrev opened_by : ℕ → Option ℕ → Connection
opened_by session group = record {
  session = session;
  group = group;
  o_to_t_id = session;
  t_to_o_id = 1;
  triad = record triad { connection_serial = session };
  timeout = 8000000;
  deadline = 10000000;
  target = target_at_opening 500 500;
}

-- Sessions 1 and 3 opened for 192.0.2.7, as an IPv4-mapped address, session 2 for 192.0.2.8, session 4 for no group.
abbrev seven : ℕ
seven = 0xffffc0000207

abbrev eight : ℕ
eight = 0xffffc0000208

abbrev four_open : List Connection
four_open =
    opened_by 1 (Some seven) ∷ opened_by 2 (Some eight) ∷ opened_by 3 (Some seven) ∷ opened_by 4 None ∷ []

pub count-seven : count_of_group seven four_open ≡ 2
count-seven = refl

pub count-eight : count_of_group eight four_open ≡ 1
count-eight = refl

pub count-another : count_of_group 0 four_open ≡ 0
count-another = refl

-- A manager with these connections, this many slots and this share.
abbrev managing : ℕ → ℕ → Device → ManagerState
managing places share device =
    record (no_connection_with_share places share 5 device) { connections = four_open }

-- With a share of 2 a group with 2 connections gets no third one. Another group and no group do.
pub share-used : (device : Device) → has_share_left (managing 64 2 device) (Some seven) ≡ false
share-used device = refl

pub share-refused : (device : Device) → room_check (managing 64 2 device) (Some seven) ≡ Err OutOfConnections
share-refused device = refl

pub share-of-another : (device : Device) → room_check (managing 64 2 device) (Some eight) ≡ Ok tt
share-of-another device = refl

pub share-of-none : (device : Device) → room_check (managing 64 2 device) None ≡ Ok tt
share-of-none device = refl

-- A share of 3 leaves one, unless all slots are taken.
pub share-left : (device : Device) → room_check (managing 64 3 device) (Some seven) ≡ Ok tt
share-left device = refl

pub share-no-slot : (device : Device) → room_check (managing 4 3 device) (Some seven) ≡ Err OutOfConnections
share-no-slot device = refl

-- With a share of 0 no group opens a connection.
pub share-zero : (device : Device) → room_check (no_connection_with_share 64 0 1 device) (Some seven)
    ≡ Err OutOfConnections
share-zero device = refl

-- A manager that was given no share has one of all its slots.
pub share-of-all : (device : Device) → (no_connection 64 1 device).share ≡ 64
share-of-all device = refl
