-- Numbers as arguments give them.
use Rattle.std.specs.Prelude.{◌≡◌, ◌⊎◌, ◌≤◌, ℕ, List, ◌++◌, codes, Option, None, Some}
use Rattle.std.specs.Str.Parse.{IsNumeral, digits_value, without_leading_plus}

-- The text gives this number: decimal digits, perhaps after a plus sign, or `0x` and hexadecimal digits.
abbrev pub Gives : List ℕ → ℕ → Type 0
Gives text number =
    (IsNumeral 10 (without_leading_plus text) × (number ≡ digits_value 10 (without_leading_plus text)))
    ⊎ ((digits : List ℕ) × ((text ≡ codes "0x" ++ digits) × IsNumeral 16 digits × (number ≡ digits_value 16 digits)))

-- The same, and the number is in range.
abbrev pub GivesWithin : ℕ → ℕ → List ℕ → ℕ → Type 0
GivesWithin least most text number = Gives text number × (least ≤ number) × (number ≤ most)

-- What a text gives within a range: a number, or nothing if it gives none there.
abbrev pub IsGiven : ℕ → ℕ → List ℕ → Option ℕ → Type 0
IsGiven least most text None = (number : ℕ) → GivesWithin least most text number → ⊥
IsGiven least most text (Some number) = GivesWithin least most text number
