-- The queued services of a configuration.
use Rattle.std.specs.Prelude.{ℕ, List, Option, None, Some, Bool, true, false, unwrap_or, if◌then◌else◌}
use Rattle.std.specs.List.{list_any}
use Rattle.cip_application.specs.declared.config.ObjectConfig.{ObjectConfig}
use Rattle.cip_application.specs.declared.config.ServiceConfig.{ServiceConfig}
use Rattle.cip_application.specs.declared.config.ServiceKind.{ServiceKind}
use Rattle.cip_application.specs.declared.config.ServiceKind.TheVariants as kinds
use Rattle.enip_config.specs.declared.configuration.Configuration.{Configuration}

abbrev pub is_queued_kind : ServiceKind → Bool
is_queued_kind kinds.Asked = false
is_queued_kind kinds.Queued = true
is_queued_kind kinds.Result = false

abbrev pub is_queued : ServiceConfig → Bool
is_queued service = is_queued_kind service.kind

abbrev pub has_queued_service : ObjectConfig → Bool
has_queued_service object = list_any is_queued object.services.items

-- whether any of these objects has a queued service
abbrev pub has_queued : List ObjectConfig → Bool
has_queued objects = list_any has_queued_service objects

-- how many queued commands can wait: if no service is queued, there is no queue
abbrev pub queue_limit : Configuration → Option ℕ
queue_limit c = if has_queued c.objects.objects.items then Some (unwrap_or c.queue 16) else None
