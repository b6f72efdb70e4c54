-- Names of classes, attributes and services.
use Rattle.std.specs.Prelude.{◌≡◌, ◌==◌, ℕ, Bool, List, Option, None, Some, bytes_eq, map, find}
use Rattle.std.specs.Option.{option_map}
use Rattle.std.specs.Char.{to_ascii_lowercase}
use Rattle.cip_names.specs.Numbers.{IsGiven}
use Rattle.std.specs.Borrow.{Bor}

-- The row has this name, in capitals or not.
abbrev pub has_name : List ℕ → Bor (List ℕ) × ℕ → Bool
has_name text row = bytes_eq (map to_ascii_lowercase row.0.now) (map to_ascii_lowercase text)

-- The number of the first row with this name.
abbrev pub number_of : List (Bor (List ℕ) × ℕ) → List ℕ → Option ℕ
number_of rows text = option_map (λ row. row.1) (find (has_name text) rows)

-- The name of the first row with this number.
abbrev pub name_of : List (Bor (List ℕ) × ℕ) → ℕ → Option (Bor (List ℕ))
name_of rows number = option_map (λ row. row.0) (find (λ row. row.1 == number) rows)

-- The first, or the second if there is no first.
abbrev pub or_else : Option ℕ → Option ℕ → Option ℕ
or_else (Some number) other = Some number
or_else None other = other

-- The number that the text gives, or else the number of the first row with this name.
abbrev pub IsNumberOrName : ℕ → List (Bor (List ℕ) × ℕ) → List ℕ → Option ℕ → Type 0
IsNumberOrName most rows text result =
    (given : Option ℕ) × IsGiven 0 most text given × (result ≡ or_else given (number_of rows text))
