-- The files of icons.
use Rattle.std.specs.Prelude.{◌≡◌, ◌≢◌, ◌≤◌, ◌⊎◌, ℕ, List, length, slice_index}

-- The bytes are an .ico file: a head of six bytes, which says that it has icons and at least one of them, and at least one
-- entry of its list of images. It has at most 64 KiB.
pub record IsIcon (bytes : List ℕ) : Type 0 where
  pub first : slice_index bytes 0 ≡ 0
  pub second : slice_index bytes 1 ≡ 0
  pub third : slice_index bytes 2 ≡ 1
  pub fourth : slice_index bytes 3 ≡ 0
  pub images : (slice_index bytes 4 ≢ 0) ⊎ (slice_index bytes 5 ≢ 0)
  pub least : 22 ≤ length bytes
  pub most : length bytes ≤ 65536
