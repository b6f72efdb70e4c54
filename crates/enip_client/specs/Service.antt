-- The items of ListServices (Volume 2, ListServices).
use Rattle.std.specs.Prelude.{ℕ, ◌≡◌, ◌<◌, ◌^◌, ◌==◌, if◌then◌else◌, List, ◌++◌, length, drop, Option, Some, None}
use Rattle.std.specs.List.{before_first}
use Rattle.cip_bytes.specs.Numbers.{le, number_at}
use Rattle.enip_client.specs.declared.service.ServiceView.{ServiceView}

-- What an item says about a service: the protocol version, the capability flags, and its name.
pub record Service : Type 0 where
  pub version : ℕ
  pub flags : ℕ
  pub name : List ℕ

-- The name in a field of 16 bytes: what is before its first NUL byte, if it has one.
abbrev pub name_in : List ℕ → List ℕ
name_in field = before_first (λ byte. byte == 0) field

-- The bytes spell this service: version, capability flags, and the name field.
pub record SpellsService (s : Service) (bytes : List ℕ) : Type 0 where
  pub version : s.version < 2 ^ 16
  pub flags : s.flags < 2 ^ 16
  pub field : List ℕ
  pub sixteen : length field ≡ 16
  pub name : s.name ≡ name_in field
  pub spelled : bytes ≡ le 2 s.version ++ le 2 s.flags ++ field

-- The service in a view.
abbrev pub service_in : ServiceView → Service
service_in v = record { version = v.version; flags = v.flags; name = v.name.now }

-- The rest states the same by numbers alone, for those who compute with it.

-- The fields, at their offsets.
unfoldable pub service_fields : List ℕ → Service
service_fields b = record { version = number_at 0 2 b; flags = number_at 2 2 b; name = name_in (drop 4 b) }

-- The service that the bytes spell, if any: 20 bytes.
unfoldable pub service_of : List ℕ → Option Service
service_of b = if length b == 20 then Some (service_fields b) else None
