-- The key of an entry: the class, the instance and the attribute of what it holds, 16 bits each.
use Rattle.std.specs.Prelude.{ℕ, ◌+◌, ◌*◌, ◌/◌, ◌%◌, ◌^◌, nat_lt, if◌then◌else◌, Option, Some, None}
use Rattle.cip_application.specs.declared.object.AttributeName.{AttributeName}
use Rattle.cip_objects.specs.Kept.{name_of}

abbrev pub key_of : ℕ → ℕ → ℕ → ℕ
key_of class instance attribute = class * 2 ^ 32 + instance * 2 ^ 16 + attribute

-- The name in a key. None if the key has over 48 bits.
abbrev pub name_in : ℕ → Option AttributeName
name_in key =
    if nat_lt key (2 ^ 48) then Some (name_of (key / 2 ^ 32) (key / 2 ^ 16 % 2 ^ 16) (key % 2 ^ 16)) else None
