-- The endings of lines.
use Rattle.std.specs.Prelude.{ℕ, List, ◌++◌, ◌-◌, ◌==◌, ◌&&◌, if◌then◌else◌, codes, slice_index, length, take, nat_lt}

-- A line with its newline.
abbrev pub with_newline : List ℕ → List ℕ
with_newline line = line ++ codes "\n"

-- A line without the carriage return at its end.
abbrev pub without_return : List ℕ → List ℕ
without_return text =
    if nat_lt 0 (length text) && slice_index text (length text - 1) == 13 then take (length text - 1) text else text
