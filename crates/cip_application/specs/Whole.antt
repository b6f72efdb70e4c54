-- The invariants of what is in memory.
use Rattle.std.specs.Prelude.{◌≡◌, ◌≤◌, length}
use Rattle.std.specs.List.{All}
use Rattle.std.specs.Box.{boxed_slice_len}
use Rattle.cip_application.specs.declared.attribute.Attribute.TheInside as attribute
use Rattle.cip_application.specs.declared.application.ApplicationObjects.TheInside as objects
use Rattle.cip_application.specs.declared.config.ObjectConfig.{ObjectConfig}
use Rattle.cip_application.specs.declared.config.ServiceConfig.{ServiceConfig}
use Rattle.cip_application.specs.Values.{capacity}

-- The value fits, and there is space for the longest of its kind.
pub record IsWhole (a : attribute.Inside) : Type 0 where
  pub space : boxed_slice_len a.content ≡ capacity a.kind
  pub fits : a.size ≤ capacity a.kind
  pub short : capacity a.kind ≤ 500

-- The data of a service and of its reply are short.
pub record IsShort (s : ServiceConfig) : Type 0 where
  pub asked : s.most ≤ 480
  pub answered : s.reply ≤ 480

-- There are not too many objects.
pub record AreFew (o : objects.Inside) : Type 0 where
  pub few : boxed_slice_len o.objects ≤ 32

-- What an object of a configuration has that no check refuses.
pub record IsSound (o : ObjectConfig) : Type 0 where
  pub few : length o.attributes.items ≤ 32
  pub fit : All (λ a. length a.value.items ≤ capacity a.kind) o.attributes.items
  pub short : All (λ a. capacity a.kind ≤ 500) o.attributes.items
  pub services : All IsShort o.services.items
