-- The texts that every section of an EDS is made of.
use Rattle.std.specs.Prelude.{ℕ, nat_le, true, false, List, [], ◌∷◌, ◌++◌, ◌+◌, ◌/◌, ◌%◌, ◌^◌, ◌-◌, codes, Option, Some, None, if◌then◌else◌}
use Rattle.std.specs.Borrow.{Bor}
use Rattle.std.specs.Fmt.{digits, padded_integral, format_spec}
use Rattle.cip_values.specs.Texts.{escaped, padded_decimal}
use Rattle.cip_values.specs.declared.calendar.Date.{Date}

-- A number as at least `count` hexadecimal digits, in capitals.
abbrev pub capitals : ℕ → ℕ → List ℕ
capitals count number = padded_integral (format_spec 32 0 4 count (2 ^ 64 - 1)) false [] (digits 16 true number)

-- A text in quotes. A quote in it and a backslash follow a backslash, and a byte that is not printable ASCII is `\xNN`.
abbrev pub quoted : List ℕ → List ℕ
quoted text = codes "\"" ++ escaped true text ++ codes "\""

-- A date as month, day and year.
abbrev pub date_text : Date → List ℕ
date_text date = padded_decimal 2 date.month ++ codes "-" ++ padded_decimal 2 date.day ++ codes "-" ++ padded_decimal 4 date.year

-- A segment of a path (Volume 1, logical segment): its kind and its number, in 8 bits or, if it is longer, in 16.
abbrev pub segment : ℕ → ℕ → List ℕ
segment kind number =
    if nat_le number 255 then capitals 2 kind ++ codes " " ++ capitals 2 number
    else capitals 2 (kind + 1) ++ codes " 00 " ++ capitals 2 (number % 256) ++ codes " " ++ capitals 2 (number / 256)

-- The bytes of a segment.
abbrev pub segment_size : ℕ → ℕ
segment_size number = if nat_le number 255 then 2 else 4

-- The path of an attribute in quotes: class, instance and attribute.
abbrev pub path : ℕ → ℕ → ℕ → List ℕ
path class instance attribute =
    codes "\"" ++ segment 0x20 class ++ codes " " ++ segment 0x24 instance ++ codes " " ++ segment 0x30 attribute ++ codes "\""

-- The bytes of such a path.
abbrev pub path_size : ℕ → ℕ → ℕ → ℕ
path_size class instance attribute = segment_size class + segment_size instance + segment_size attribute

-- Texts one after another.
abbrev pub joined : List (List ℕ) → List ℕ
joined [] = []
joined (text ∷ texts) = text ++ joined texts

-- A text of the code, if there is one.
abbrev pub text_in : Option (Bor (List ℕ)) → Option (List ℕ)
text_in None = None
text_in (Some text) = Some text.now
