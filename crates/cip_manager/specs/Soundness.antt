-- The invariants of a `Manager` and its `Table`.
use Rattle.std.specs.Prelude.{◌≡◌, ℕ, ◌≤◌, ◌^◌, List, length}
use Rattle.std.specs.List.{AllByRecursion}
use Rattle.slab.specs.Slab.{Slab, slab_len}
use Rattle.cip_manager.specs.declared.connection.Connection.{Connection}
use Rattle.cip_manager.specs.declared.index.Entry.{Entry}
use Rattle.cip_manager.specs.Table.{listed, Names, AreBelow, AreOpenUntil}

-- Each entry of the index names a connection of the slab, and the slab has no others. The slab has a slot for each
-- place, and no more connections than that are open. `earliest` is a lower bound on all deadlines.
pub record IsSound (places earliest : ℕ) (entries : List Entry) (slab : Slab Connection) : Type 0 where
  pub from : 1 ≤ places
  pub to : places ≤ 64
  pub named : AllByRecursion (Names slab) entries
  pub others : slab_len slab ≡ length entries
  pub taken : length entries ≤ places
  pub room : places ≤ slab.capacity
  pub until : AreOpenUntil earliest (listed slab entries)

-- IDs up to the greatest may have been used, and the next one is above those of the open connections.
pub record IsNumbered (next_id : ℕ) (connections : List Connection) : Type 0 where
  pub first : 1 ≤ next_id
  pub drawn : next_id ≤ 2 ^ 32
  pub below : AreBelow next_id connections
