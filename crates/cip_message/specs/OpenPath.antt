-- The path of a Forward_Open request (Volume 1, Connection Manager): an optional electronic key, then the path of
-- the object that is opened.
use Rattle.std.specs.Prelude.{◌≡◌, ℕ, ◌==◌, List, [], ◌++◌, length, slice_index, take, drop, Option, Some, None, Result}
use Rattle.std.specs.Prelude.{Ok, Err, IfSome, nat_lt, if◌then◌else◌}
use Rattle.cip_message.specs.declared.path.Path.{Path}
use Rattle.cip_message.specs.declared.path.PathFault.{PathFault}
use Rattle.cip_message.specs.declared.key.Key.{Key}
use Rattle.cip_message.specs.declared.open_path.OpenPath.{OpenPath}
use Rattle.cip_message.specs.Path.{IsPath}
use Rattle.cip_message.specs.PathReading.{path_of}
use Rattle.cip_message.specs.Key.{IsKey, key, key_of}

abbrev pub key_text : Option Key → List ℕ
key_text None = []
key_text (Some k) = key k

-- b spells the key, if there is one, and then the path.
pub record IsOpenPath (o : OpenPath) (b : List ℕ) : Type 0 where
  pub key : IfSome o.key IsKey
  pub rest : List ℕ
  pub path : IsPath o.path rest
  pub spelled : b ≡ key_text o.key ++ rest

-- The path that was read, with this key.
abbrev pub with_key : Option Key → Result Path PathFault → Option OpenPath
with_key k (Ok p) = Some (record { key = k; path = p })
with_key k (Err e) = None

-- Reads the path after a key.
abbrev pub path_after_key : Option Key → List ℕ → Option OpenPath
path_after_key None rest = None
path_after_key (Some k) rest = with_key (Some k) (path_of rest)

-- Reads an optional key and a path. The first byte of a key begins no path.
unfoldable pub open_path_of : List ℕ → Option OpenPath
open_path_of b =
    if slice_index b 0 == 0x34 then
    (if nat_lt (length b) 10 then None else path_after_key (key_of (take 10 b)) (drop 10 b))
    else with_key None (path_of b)
