use Rattle.std.proofs.Common.{◌++◌, map, option_map, sym, ap, ◌∙◌}
use Rattle.cip_application.specs.Standard.{interface_seen}
use Rattle.enip_config.specs.Objects.{object_seen}
use Rattle.enip_config.specs.StandardObjects.{interface_objects}
use Rattle.enip_config.proofs.StandardLemmas.{interface_pushed}
use Rattle.enip_config.proofs.standard.push_interface.Goals as goal

pub returns-in_ok-push : goal.returns-in_ok-push
returns-in_ok-push c =
    interface_pushed c.args.objects.now.items c.push.new.self.items c.in_ok-object.field-0 (interface_seen c.in-Some.interface)
    c.in_ok-push.ensures.items c.in_ok-object.ensures
    ∙ ap (λ i. map object_seen c.args.objects.now.items ++ interface_objects (option_map interface_seen i)) (sym c.in-Some.is)
