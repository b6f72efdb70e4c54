-- The items of ListIdentity (Volume 2, ListIdentity).
use Rattle.std.specs.Prelude.{ℕ, ◌≡◌, ◌<◌, ◌+◌, ◌^◌, ◌==◌, if◌then◌else◌, List, [], ◌∷◌, ◌++◌, length, take, drop}
use Rattle.std.specs.Prelude.{slice_index, slice_range, Option, Some, None}
use Rattle.byteorder.specs.Endian.{big_bytes, big_from}
use Rattle.cip_bytes.specs.Numbers.{le, number_at}
use Rattle.enip_client.specs.declared.identity.IdentityView.{IdentityView}

-- What an item says about a device: the protocol version, a socket address, and attributes 1 to 8 of its Identity
-- object.
pub record Identity : Type 0 where
  pub version : ℕ
  pub family : ℕ
  pub port : ℕ
  pub address : List ℕ
  pub vendor : ℕ
  pub device_type : ℕ
  pub product_code : ℕ
  pub major : ℕ
  pub minor : ℕ
  pub status : ℕ
  pub serial : ℕ
  pub name : List ℕ
  pub state : ℕ

-- Each field fits its size on the wire.
pub record IsIdentity (i : Identity) : Type 0 where
  pub version : i.version < 2 ^ 16
  pub family : i.family < 2 ^ 16
  pub port : i.port < 2 ^ 16
  pub address : length i.address ≡ 4
  pub vendor : i.vendor < 2 ^ 16
  pub device_type : i.device_type < 2 ^ 16
  pub product_code : i.product_code < 2 ^ 16
  pub major : i.major < 2 ^ 8
  pub minor : i.minor < 2 ^ 8
  pub status : i.status < 2 ^ 16
  pub serial : i.serial < 2 ^ 32
  pub name : length i.name < 2 ^ 8
  pub state : i.state < 2 ^ 8

-- A socket address, big-endian: family, port, address, and eight bytes of padding.
abbrev pub socket_with : List ℕ → Identity → List ℕ
socket_with filling i = big_bytes 2 i.family ++ big_bytes 2 i.port ++ i.address ++ filling

-- The spellings of an identity: version, socket address, vendor, device type, product code, revision, status, serial
-- number, length and bytes of the name, state.
abbrev pub identity_with : List ℕ → Identity → List ℕ
identity_with filling i =
    le 2 i.version ++ socket_with filling i ++ le 2 i.vendor ++ le 2 i.device_type ++ le 2 i.product_code
    ++ i.major ∷ i.minor ∷ [] ++ le 2 i.status ++ le 4 i.serial ++ length i.name ∷ [] ++ i.name ++ i.state ∷ []

-- The bytes spell this identity. The standard has zeros as padding; any bytes are accepted (ours).
pub record SpellsIdentity (i : Identity) (bytes : List ℕ) : Type 0 where
  pub filling : List ℕ
  pub eight : length filling ≡ 8
  pub is_identity : IsIdentity i
  pub spelled : bytes ≡ identity_with filling i

-- The identity in a view.
abbrev pub identity_in : IdentityView → Identity
identity_in v = record {
  version = v.version;
  family = v.family;
  port = v.port;
  address = v.address;
  vendor = v.vendor;
  device_type = v.device_type;
  product_code = v.product_code;
  major = v.major;
  minor = v.minor;
  status = v.status;
  serial = v.serial;
  name = v.name.now;
  state = v.state;
}

-- The rest states the same by numbers alone, for those who compute with it.

-- The fields, at their offsets.
unfoldable pub identity_fields : List ℕ → Identity
identity_fields b = record {
  version = number_at 0 2 b;
  family = big_from 2 2 b;
  port = big_from 4 2 b;
  address = slice_range b 6 10;
  vendor = number_at 18 2 b;
  device_type = number_at 20 2 b;
  product_code = number_at 22 2 b;
  major = slice_index b 24;
  minor = slice_index b 25;
  status = number_at 26 2 b;
  serial = number_at 28 4 b;
  name = take (slice_index b 32) (drop 33 b);
  state = slice_index (drop 33 b) (slice_index b 32);
}

-- The identity that the bytes spell, if any: 34 bytes, and the name, whose length is in byte 32.
unfoldable pub identity_of : List ℕ → Option Identity
identity_of b = if length b == 34 + slice_index b 32 then Some (identity_fields b) else None
