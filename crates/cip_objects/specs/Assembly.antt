-- The invariant of an assembly: the size of its data is the sum of its member sizes.
use Rattle.std.specs.Prelude.{◌≡◌, ◌≤◌, sum}
use Rattle.std.specs.Box.{boxed_slice_items, boxed_slice_len}
use Rattle.cip_objects.specs.Limits.{LONGEST_DATA}
use Rattle.cip_objects.specs.declared.assembly.Assembly.TheInside.{Inside}

pub record IsWhole (a : Inside) : Type 0 where
  pub size : boxed_slice_len a.content ≡ sum (boxed_slice_items a.members)
  pub small : boxed_slice_len a.content ≤ LONGEST_DATA
  pub few : boxed_slice_len a.members ≤ 64
