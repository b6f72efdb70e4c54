-- Who may connect, and who may change something.
use Rattle.std.specs.Prelude.{ℕ, Bool, true, List, Option, Some, None, option_map, if◌then◌else◌}
use Rattle.std.specs.List.{list_any}
use Rattle.arrayvec.specs.ArrayVec.{ArrayVec}
use Rattle.enip_access.specs.Prefix.{matches}
use Rattle.enip_access.specs.declared.access.Access.{Access}
use Rattle.enip_access.specs.declared.access.Permission.{Permission}
use Rattle.enip_access.specs.declared.access.Permission.TheVariants.{Read, Write}
use Rattle.enip_access.specs.declared.prefix.Prefix.{Prefix}

-- One of the rules has the address.
abbrev pub is_listed : List Prefix → ℕ → Bool
is_listed rules address = list_any (λ rule. matches rule address) rules

-- The same of a list that may be left out. It then has every address.
abbrev pub is_allowed : Option (List Prefix) → ℕ → Bool
is_allowed None address = true
is_allowed (Some rules) address = is_listed rules address

-- What an address may do, by the lists `read` and `write`. Without a list `write`, whoever may connect may change
-- something. An address of the list `write` may connect, whether or not it is in the list `read` too.
abbrev pub permission_by : Option (List Prefix) → Option (List Prefix) → ℕ → Option Permission
permission_by read None address = if is_allowed read address then Some Write else None
permission_by read (Some write) address =
    if is_listed write address then Some Write
    else if is_allowed read address then Some Read
    else None

-- The rules of a list that may be left out.
abbrev pub list_seen : Option (ArrayVec Prefix) → Option (List Prefix)
list_seen list = option_map (λ rules. rules.items) list

abbrev pub permission_of : Access → ℕ → Option Permission
permission_of access address =
    permission_by (list_seen access.read) (list_seen access.write) address

-- How many places an address may have at a time, and how many connections.
abbrev pub share_or : ℕ → Option ℕ → ℕ
share_or all None = all
share_or all (Some share) = share
