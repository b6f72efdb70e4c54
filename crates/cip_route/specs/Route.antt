-- The text of a route (ours): hops such as 1/0 with a comma between each two. A hop is a port and a link, with a slash
-- between them.
use Rattle.std.specs.Prelude.{ℕ, ◌≡◌, ◌+◌, ◌-◌, ◌*◌, ◌≤◌, ◌%◌, ◌==◌, ◌&&◌, ◌||◌, Bool, not, List, [], ◌∷◌, ◌++◌, length, take, drop}
use Rattle.std.specs.Prelude.{Option, Some, None, Result, Ok, Err, nat_lt, nat_le, if◌then◌else◌}
use Rattle.std.specs.List.{position_or_len, slice_split, list_all}
use Rattle.cip_bytes.specs.Reading.{◌>>=◌}
use Rattle.cip_route.specs.declared.route.RouteFault.{RouteFault}
use Rattle.cip_route.specs.declared.route.RouteFault.TheVariants as fault
use Rattle.cip_route.specs.declared.route.TheConstants.{LONGEST_ROUTE}
use Rattle.cip_route.specs.Hop.{Hop, hop_bytes}

-- A route: the bytes of its hops, whole words and not too many.
pub record IsRoute (route : List ℕ) : Type 0 where
  pub whole_words : length route % 2 ≡ 0
  pub within : length route ≤ LONGEST_ROUTE

abbrev pub is_digit : ℕ → Bool
is_digit byte = nat_le 48 byte && nat_le byte 57

-- A letter, a digit, `.`, `-` or `:`.
abbrev pub is_address_byte : ℕ → Bool
is_address_byte byte =
    is_digit byte || (nat_le 65 byte && nat_le byte 90) || (nat_le 97 byte && nat_le byte 122) || (byte == 46)
    || (byte == 45) || (byte == 58)

-- A text of two such bytes or more that is not a number.
abbrev pub is_address : List ℕ → Bool
is_address text =
    nat_le 2 (length text) && nat_lt (length text) 256 && list_all is_address_byte text && not (list_all is_digit text)

-- The decimal number below 2^16 whose digits follow those of n.
abbrev pub number_after : ℕ → List ℕ → Option ℕ
number_after n [] = Some n
number_after n (byte ∷ text) =
    if is_digit byte && nat_lt (10 * n + (byte - 48)) 65536 then number_after (10 * n + (byte - 48)) text else None

-- The decimal number that the text is, if it is one below 2^16.
unfoldable pub number_in : List ℕ → Option ℕ
number_in [] = None
number_in (byte ∷ text) = number_after 0 (byte ∷ text)

-- A port: 1 to 65,535.
abbrev pub port_by : Option ℕ → Result ℕ RouteFault
port_by None = Err fault.Port
port_by (Some port) = if port == 0 then Err fault.Port else Ok port

abbrev pub port_in : List ℕ → Result ℕ RouteFault
port_in text = port_by (number_in text)

-- A link: a number up to 255, which is one byte, or the text of an address.
abbrev pub link_by : Option ℕ → List ℕ → Result (List ℕ) RouteFault
link_by (Some number) text = if nat_lt number 256 then Ok (number ∷ []) else Err fault.Link
link_by None text = if is_address text then Ok text else Err fault.Link

unfoldable pub link_in : List ℕ → Result (List ℕ) RouteFault
link_in text = link_by (number_in text) text

-- The route with a hop more, if it fits.
unfoldable pub with_hop : List ℕ → Hop → Result (List ℕ) RouteFault
with_hop route h =
    if nat_le (length route + length (hop_bytes h)) LONGEST_ROUTE then Ok (route ++ hop_bytes h) else Err fault.TooLong

-- The route with this port and the link of this text more.
unfoldable pub with_link : List ℕ → ℕ → List ℕ → Result (List ℕ) RouteFault
with_link route port text = link_in text >>= λ link. with_hop route (record { port = port; link = link })

-- The index of the first slash, or the length.
abbrev pub slash_in : List ℕ → ℕ
slash_in text = position_or_len (λ byte. byte == 47) text

-- The route with the hop of this text more.
unfoldable pub with_text : List ℕ → List ℕ → Result (List ℕ) RouteFault
with_text route text =
    if slash_in text == length text then Err fault.Form
    else port_in (take (slash_in text) text) >>= λ port. with_link route port (drop (slash_in text + 1) text)

-- The route with the hops of these texts more.
abbrev pub with_texts : List ℕ → List (List ℕ) → Result (List ℕ) RouteFault
with_texts route [] = Ok route
with_texts route (text ∷ texts) = with_text route text >>= λ longer. with_texts longer texts

-- The route of a text.
abbrev pub route_in : List ℕ → Result (List ℕ) RouteFault
route_in text = with_texts [] (slice_split (λ byte. byte == 44) text)

-- What a call made of a route.
abbrev pub changed : Result (Unit {0}) RouteFault → List ℕ → Result (List ℕ) RouteFault
changed (Ok done) route = Ok route
changed (Err why) route = Err why
