-- What an answer to a discovery shows: where it came from, and what two answers have in common.
use Rattle.std.specs.Prelude.{ℕ, Bool, false, not, ◌==◌, ◌&&◌, List, [], ◌∷◌, ◌++◌, codes, slice_index}
use Rattle.std.specs.Net.Addr.{ipv4_octets}
use Rattle.std.specs.Net.Socket.{socket_ip}
use Rattle.std.specs.Net.Text.{socket_text}
use Rattle.std.specs.declared.net.ip_addr.IpAddr.{IpAddr}
use Rattle.std.specs.declared.net.ip_addr.IpAddr.TheVariants.{V4, V6}
use Rattle.std.specs.declared.net.socket_addr.SocketAddr.{SocketAddr}
use Rattle.serde_json.specs.Data.{Data, Members, boolean, string, object, put}
use Rattle.serde_json.specs.Written.{compact_text}
use Rattle.enip_client.specs.Identity.{Identity}
use Rattle.enip_commands.specs.Json.{identity_members}
use Rattle.enip_lines.specs.Lines.{with_newline}
use Rattle.enip_commands.specs.Listing.{device_text}
use Rattle.enip_commands.specs.declared.discovering.DiscoveryAnswer.{DiscoveryAnswer}
use Rattle.enip_commands.specs.declared.discovering.Remarks.{Remarks}

-- Two addresses of four octets are the same.
abbrev pub is_same_host : List ℕ → List ℕ → Bool
is_same_host a b =
    (slice_index a 0 == slice_index b 0) && (slice_index a 1 == slice_index b 1)
    && (slice_index a 2 == slice_index b 2) && (slice_index a 3 == slice_index b 3)

-- A device that reports 0.0.0.0 reports no address.
abbrev pub has_address : DiscoveryAnswer → Bool
has_address a = not (is_same_host a.address (0 ∷ 0 ∷ 0 ∷ 0 ∷ []))

-- Both addresses are loopback addresses, so they are of this machine.
abbrev pub are_loopback : List ℕ → List ℕ → Bool
are_loopback a b = (slice_index a 0 == 127) && (slice_index b 0 == 127)

-- The address that the answer came from is another one than the device reports, which has IPv4.
abbrev pub is_other_host : IpAddr → List ℕ → Bool
is_other_host (V4 ip) reported =
    not (is_same_host (ipv4_octets ip) reported) && not (are_loopback (ipv4_octets ip) reported)
is_other_host (V6 ip) reported = false

abbrev pub is_elsewhere : DiscoveryAnswer → Bool
is_elsewhere a = is_other_host (socket_ip a.source) a.address && has_address a

-- Both report the same address and port.
abbrev pub has_same_address : DiscoveryAnswer → DiscoveryAnswer → Bool
has_same_address a b = has_address a && is_same_host a.address b.address && (a.port == b.port)

-- Both report the same serial number of the same vendor.
abbrev pub has_same_serial : DiscoveryAnswer → DiscoveryAnswer → Bool
has_same_serial a b = (a.vendor == b.vendor) && (a.serial == b.serial)

-- The line of a device, with the address that its answer came from.
abbrev pub answer_line : SocketAddr → Identity → List ℕ
answer_line source i = with_newline (device_text i ++ codes " from " ++ socket_text source)

-- The members of an object, with the address that an answer came from, and what was noticed.
abbrev pub with_remarks : SocketAddr → Remarks → Members → Members
with_remarks source remarks members =
    put (codes "same_serial") (boolean remarks.same_serial)
    (put (codes "same_address") (boolean remarks.same_address)
    (put (codes "other_address") (boolean remarks.other_address)
    (put (codes "from") (string (socket_text source)) members)))

-- The object of a device: its identity, the address that its answer came from, and what was noticed.
abbrev pub answer_data : SocketAddr → Remarks → Identity → Data
answer_data source remarks i = object (with_remarks source remarks (identity_members i))

abbrev pub answer_object_line : SocketAddr → Remarks → Identity → List ℕ
answer_object_line source remarks i = with_newline (compact_text (answer_data source remarks i))
