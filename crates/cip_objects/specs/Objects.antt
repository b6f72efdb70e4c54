-- The invariant of the objects.
use Rattle.std.specs.Prelude.{◌≤◌, ◌<◌, ◌^◌, map}
use Rattle.std.specs.Box.{boxed_slice_items, boxed_slice_len}
use Rattle.cip_objects.specs.declared.objects.Objects.TheInside.{Inside}
use Rattle.cip_objects.specs.Entries.{NoneIsClass, object_shape_of, AreApart}

pub record AreObjects (o : Inside) : Type 0 where
  pub few : boxed_slice_len o.assemblies ≤ 16
  pub numbered : NoneIsClass (boxed_slice_items o.assemblies)
  pub free : AreApart o.counter.enabled (map object_shape_of o.application)
  pub value : o.counter.value < 2 ^ 32
  pub limit : o.counter.limit < 2 ^ 32
  pub additions : o.counter.additions < 2 ^ 32
