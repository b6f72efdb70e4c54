-- The electronic key (Volume 1, appendix on segments: key segment, format 4), and the rule by which a device
-- accepts it (Volume 1, Connection Manager).
use Rattle.std.specs.Prelude.{◌≡◌, ◌⊎◌, ℕ, ◌+◌, ◌-◌, ◌<◌, ◌≤◌, ◌^◌, Bool, ◌&&◌, ◌||◌, ◌==◌, IsTrue, List, [], ◌∷◌, ◌++◌}
use Rattle.std.specs.Prelude.{length, slice_index, Option, Some, None, nat_lt, nat_le, if◌then◌else◌}
use Rattle.cip_bytes.specs.declared.protocol.ExtendedStatus.{ExtendedStatus}
use Rattle.cip_bytes.specs.declared.protocol.ExtendedStatus.TheVariants.{VendorOrProduct, DeviceType, Revision}
use Rattle.cip_bytes.specs.Numbers.{le, number_at}
use Rattle.cip_message.specs.declared.key.Key.{Key}
use Rattle.cip_message.specs.declared.key.Device.{Device}

-- The keys that have a spelling.
pub record IsKey (k : Key) : Type 0 where
  pub vendor : k.vendor < 2 ^ 16
  pub device_type : k.device_type < 2 ^ 16
  pub product_code : k.product_code < 2 ^ 16
  pub major : k.major < 2 ^ 7
  pub minor : k.minor < 2 ^ 8

-- The spelling of a key: segment type, key format, vendor, device type, product code, major revision with the
-- compatibility bit above it, minor revision.
abbrev pub key : Key → List ℕ
key k =
    0x34 ∷ 0x04 ∷ (le 2 k.vendor ++ le 2 k.device_type ++ le 2 k.product_code
    ++ (k.major + (if k.compatible then 128 else 0)) ∷ k.minor ∷ [])

-- A number meets what a key asks for: 0 asks for nothing, any other number for itself.
abbrev pub IsMet : ℕ → ℕ → Type 0
IsMet asked has = (asked ≡ 0) ⊎ (asked ≡ has)

-- A minor revision meets what a key asks for. With the compatibility bit, one up to the device's own is enough.
abbrev pub IsMinorMet : Bool → ℕ → ℕ → Type 0
IsMinorMet compatible asked has = IsMet asked has ⊎ (IsTrue compatible × (asked ≤ has))

-- The device meets the key in each of three tests: vendor and product code, device type, revision.
pub record MeetsVendor (d : Device) (k : Key) : Type 0 where
  pub vendor : IsMet k.vendor d.vendor
  pub product_code : IsMet k.product_code d.product_code

abbrev pub MeetsType : Device → Key → Type 0
MeetsType d k = IsMet k.device_type d.device_type

pub record MeetsRevision (d : Device) (k : Key) : Type 0 where
  pub major : IsMet k.major d.major
  pub minor : IsMinorMet k.compatible k.minor d.minor

-- The same test, computed.
abbrev pub is_met : ℕ → ℕ → Bool
is_met asked has = (asked == 0) || (asked == has)

-- The extended status that refuses the key: that of the first test that fails.
abbrev pub refusal : Device → Key → Option ExtendedStatus
refusal d k =
    if is_met k.vendor d.vendor && is_met k.product_code d.product_code then
    (if is_met k.device_type d.device_type then
    (if is_met k.major d.major && (is_met k.minor d.minor || (k.compatible && nat_le k.minor d.minor)) then None
    else Some Revision)
    else Some DeviceType)
    else Some VendorOrProduct

-- Reads all of the bytes as one key.
unfoldable pub key_of : List ℕ → Option Key
key_of b =
    if (length b == 10) && (slice_index b 0 == 0x34) && (slice_index b 1 == 0x04) then
    Some (record {
      vendor = number_at 2 2 b;
      device_type = number_at 4 2 b;
      product_code = number_at 6 2 b;
      major = (if nat_lt (slice_index b 8) 128 then slice_index b 8 else slice_index b 8 - 128);
      compatible = nat_le 128 (slice_index b 8);
      minor = slice_index b 9;
    })
    else None
