-- FNV-1a with 64 bits: a checksum that notices faults of a medium, and no forgery.
use Rattle.std.specs.Prelude.{ℕ, ◌*◌, ◌%◌, ◌^◌, List, fold, bit_xor}

-- One byte: the exclusive or with it, then the product with the prime, modulo 2^64.
abbrev pub hashed : ℕ → ℕ → ℕ
hashed hash byte = (bit_xor hash byte * 0x100000001b3) % 2 ^ 64

-- Byte after byte, from the offset basis on.
unfoldable pub checksum : List ℕ → ℕ
checksum bytes = fold hashed 0xcbf29ce484222325 bytes
