-- What an EDS says of the elementary data types.
use Rattle.std.specs.Prelude.{ℕ, ◌==◌, if◌then◌else◌, List, [], codes, Option, Some, None}
use Rattle.cip_values.specs.declared.element.ElementaryType.{ElementaryType}
use Rattle.cip_values.specs.declared.element.ElementaryType.TheVariants as types

-- The code of a type (Volume 1, data type codes).
abbrev pub code_of : ElementaryType → ℕ
code_of types.Bool = 0xc1
code_of types.Sint = 0xc2
code_of types.Int = 0xc3
code_of types.Dint = 0xc4
code_of types.Lint = 0xc5
code_of types.Usint = 0xc6
code_of types.Uint = 0xc7
code_of types.Udint = 0xc8
code_of types.Ulint = 0xc9
code_of types.Real = 0xca
code_of types.Lreal = 0xcb
code_of types.Date = 0xcd
code_of types.TimeOfDay = 0xce
code_of types.DateAndTime = 0xcf
code_of types.String = 0xd0
code_of types.Byte = 0xd1
code_of types.Word = 0xd2
code_of types.Dword = 0xd3
code_of types.Lword = 0xd4
code_of types.String2 = 0xd5
code_of types.Ltime = 0xd7
code_of types.ShortString = 0xda
code_of types.Time = 0xdb
code_of types.Epath = 0xdc

-- The least value of a type. A floating-point number may be infinite, and a text has none.
abbrev pub least_of : ElementaryType → List ℕ
least_of types.Bool = codes "0"
least_of types.Sint = codes "-128"
least_of types.Int = codes "-32768"
least_of types.Dint = codes "-2147483648"
least_of types.Lint = codes "-9223372036854775808"
least_of types.Usint = codes "0"
least_of types.Uint = codes "0"
least_of types.Udint = codes "0"
least_of types.Ulint = codes "0"
least_of types.Byte = codes "0x00"
least_of types.Word = codes "0x0000"
least_of types.Dword = codes "0x00000000"
least_of types.Lword = codes "0x0000000000000000"
least_of types.Time = codes "-2147483648"
least_of types.Ltime = codes "-9223372036854775808"
least_of element = []

-- The greatest value of a type.
abbrev pub greatest_of : ElementaryType → List ℕ
greatest_of types.Bool = codes "1"
greatest_of types.Sint = codes "127"
greatest_of types.Int = codes "32767"
greatest_of types.Dint = codes "2147483647"
greatest_of types.Lint = codes "9223372036854775807"
greatest_of types.Usint = codes "255"
greatest_of types.Uint = codes "65535"
greatest_of types.Udint = codes "4294967295"
greatest_of types.Ulint = codes "18446744073709551615"
greatest_of types.Byte = codes "0xFF"
greatest_of types.Word = codes "0xFFFF"
greatest_of types.Dword = codes "0xFFFFFFFF"
greatest_of types.Lword = codes "0xFFFFFFFFFFFFFFFF"
greatest_of types.Time = codes "2147483647"
greatest_of types.Ltime = codes "9223372036854775807"
greatest_of element = []

-- The bit string of this many bytes, as which a member of an assembly is described.
abbrev pub bit_string : ℕ → Option ElementaryType
bit_string size =
    if size == 1 then Some types.Byte else (if size == 2 then Some types.Word
    else (if size == 4 then Some types.Dword else (if size == 8 then Some types.Lword else None)))
