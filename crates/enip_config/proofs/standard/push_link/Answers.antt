use Rattle.std.proofs.Common.{◌++◌, map, option_map, sym, ap, ◌∙◌}
use Rattle.cip_application.specs.Standard.{link_seen}
use Rattle.enip_config.specs.Objects.{object_seen}
use Rattle.enip_config.specs.StandardObjects.{link_objects}
use Rattle.enip_config.proofs.StandardLemmas.{link_pushed}
use Rattle.enip_config.proofs.standard.push_link.Goals as goal

pub returns-in_ok-push : goal.returns-in_ok-push
returns-in_ok-push c =
    link_pushed c.args.objects.now.items c.push.new.self.items c.in_ok-object.field-0 (link_seen c.in-Some.link)
    c.in_ok-push.ensures.items c.in_ok-object.ensures
    ∙ ap (λ l. map object_seen c.args.objects.now.items ++ link_objects (option_map link_seen l)) (sym c.in-Some.is)
