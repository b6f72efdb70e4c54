-- A rule: an address, or the addresses that share their first bits.
use Rattle.std.specs.Prelude.{◌≡◌, ℕ, ◌+◌, ◌-◌, ◌*◌, ◌/◌, ◌%◌, ◌^◌, ◌≤◌, Bool, ◌==◌, ◌&&◌, nat_le, if◌then◌else◌, List, [], ◌∷◌, ◌++◌, length, take, drop, codes, decimal, true, ◌<◌, ◌↔◌, ◌⊎◌}
use Rattle.std.specs.Prelude.{Option, Some, None, Result, Ok, Err}
use Rattle.std.specs.List.{position_or_len}
use Rattle.std.specs.Net.Grammar.{IsIpText}
use Rattle.std.specs.Net.Text.{ip_text}
use Rattle.std.specs.declared.net.ip_addr.IpAddr.{IpAddr}
use Rattle.std.specs.declared.net.ip_addr.IpAddr.TheVariants.{V4, V6}
use Rattle.enip_access.specs.Address.{number_of, address_of, address_in}
use Rattle.enip_access.specs.declared.prefix.Prefix.{Prefix}
use Rattle.enip_access.specs.declared.prefix.PrefixFault.{PrefixFault}
use Rattle.enip_access.specs.declared.prefix.PrefixFault.TheVariants as fault

-- The first bits of the address are those of the prefix.
abbrev pub matches : Prefix → ℕ → Bool
matches p address = address / 2 ^ (128 - p.bits) == p.first / 2 ^ (128 - p.bits)

-- The bits after the prefix, as a number.
abbrev pub bits_after : Prefix → ℕ
bits_after p = p.first % 2 ^ (128 - p.bits)

-- A prefix has at most 128 bits, and only zeros after them.
pub record IsPrefix (p : Prefix) : Type 0 where
  pub bits : p.bits ≤ 128
  pub after : bits_after p ≡ 0

-- How many bits an address has as it is written.
abbrev pub family_bits : IpAddr → ℕ
family_bits (V4 address) = 32
family_bits (V6 address) = 128

-- The first n bits of an address. Those before an IPv4 address count too.
abbrev pub prefix_at : IpAddr → ℕ → Prefix
prefix_at address n = record { first = number_of address; bits = 128 - family_bits address + n }

-- The same prefix with zeros after it.
abbrev pub cut : Prefix → Prefix
cut p = record { first = p.first - bits_after p; bits = p.bits }

abbrev pub checked : Prefix → Result Prefix PrefixFault
checked p = if bits_after p == 0 then Ok p else Err (fault.HostBits (cut p))

abbrev pub is_digit : ℕ → Bool
is_digit byte = nat_le 48 byte && nat_le byte 57

-- A digit from 1 to 9.
abbrev pub is_first_digit : ℕ → Bool
is_first_digit byte = nat_le 49 byte && nat_le byte 57

-- The decimal number that the text is: one to three digits, without leading zeros.
abbrev pub number_in : List ℕ → Option ℕ
number_in (a ∷ []) = if is_digit a then Some (a - 48) else None
number_in (a ∷ b ∷ []) = if is_first_digit a && is_digit b then Some (10 * (a - 48) + (b - 48)) else None
number_in (a ∷ b ∷ c ∷ []) =
    if is_first_digit a && is_digit b && is_digit c then Some (100 * (a - 48) + 10 * (b - 48) + (c - 48)) else None
number_in _ = None

-- A text is read as a number exactly if it is what is printed of it.
abbrev pub NumbersAreTexts : Type 0
NumbersAreTexts = (text : List ℕ) (n : ℕ) → (number_in text ≡ Some n) ↔ ((n < 1000) × (text ≡ decimal n))

-- The prefix of an address with the number after the slash.
abbrev pub counted : IpAddr → Option ℕ → Result Prefix PrefixFault
counted address None = Err fault.Length
counted address (Some n) = if nat_le n (family_bits address) then checked (prefix_at address n) else Err fault.Length

-- The index of the first slash, or the length.
abbrev pub slash_in : List ℕ → ℕ
slash_in text = position_or_len (λ byte. byte == 47) text

-- The prefix of a text, by the address before its slash. Without a slash it is the address alone.
abbrev pub prefix_by : Option IpAddr → List ℕ → Result Prefix PrefixFault
prefix_by None text = Err fault.Address
prefix_by (Some address) text =
    if slash_in text == length text then Ok (prefix_at address (family_bits address))
    else counted address (number_in (drop (slash_in text + 1) text))

-- The prefix of a text, or the first fault from the left.
unfoldable pub prefix_in : List ℕ → Result Prefix PrefixFault
prefix_in text = prefix_by (address_in (take (slash_in text) text)) text

-- The text is an address, and the prefix is this address alone.
abbrev pub IsAlone : List ℕ → IpAddr → Prefix → Type 0
IsAlone text address p = IsIpText text address × (p ≡ prefix_at address (family_bits address))

-- The text is an address, a slash and the number of bits that count. The others are 0.
pub record IsCounted (text : List ℕ) (of : IpAddr) (p : Prefix) : Type 0 where
  pub before : List ℕ
  pub n : ℕ
  pub spelled : text ≡ before ++ codes "/" ++ decimal n
  pub address : IsIpText before of
  pub within : n ≤ family_bits of
  pub value : p ≡ prefix_at of n
  pub zeros : bits_after p ≡ 0

abbrev pub IsRuleText : List ℕ → Prefix → Type 0
IsRuleText text p = (address : IpAddr) × (IsAlone text address p ⊎ IsCounted text address p)

-- A text is read as a prefix exactly if it is an address, alone or with the number of bits that count.
abbrev pub RulesAreTexts : Type 0
RulesAreTexts = (text : List ℕ) (p : Prefix) → (prefix_in text ≡ Ok p) ↔ IsRuleText text p

-- How many bits of a prefix are written: 96 fewer for IPv4.
abbrev pub written_bits : Prefix → ℕ
written_bits p = p.bits - (128 - family_bits (address_of p.first))

-- A prefix as text: its first address, then a slash and the number of bits, unless it is the address alone.
abbrev pub prefix_text : Prefix → List ℕ
prefix_text p =
    if p.bits == 128 then ip_text (address_of p.first)
    else ip_text (address_of p.first) ++ codes "/" ++ decimal (written_bits p)

-- The addresses of a prefix follow one another, from the first on.
abbrev pub AreBlocks : Type 0
AreBlocks =
    (p : Prefix) (address : ℕ) → IsPrefix p
    → (matches p address ≡ true) ↔ ((p.first ≤ address) × (address < p.first + 2 ^ (128 - p.bits)))
