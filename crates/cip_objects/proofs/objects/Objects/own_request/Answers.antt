use Rattle.std.proofs.Common.{length, sym, ◌∙◌}
use Rattle.cip_message.specs.Request.{view}
use Rattle.cip_objects.proofs.OwnRequests.{no_objects, none_of, unread_request, unread_path, other_request, read_at}
use Rattle.cip_objects.proofs.objects.Objects.own_request.Goals as goal

pub returns-then-not-has_application_objects-clause-asked :
    goal.returns-then-not-has_application_objects-clause-asked
returns-then-not-has_application_objects-clause-asked c =
    sym (no_objects c.args.self.now c.args.request.now
    (none_of (length c.args.self.now.shapes.objects) (sym c.has_application_objects.ensures ∙ c.if-not-has_application_objects.true)))

pub returns-in_default-clause-asked : goal.returns-in_default-clause-asked
returns-in_default-clause-asked c =
    sym (unread_request c.args.self.now c.args.request.now c.in_default.field-0 c.in_default.ensures.exact)

pub returns-then-not-is_asked_service-clause-asked :
    goal.returns-then-not-is_asked_service-clause-asked
returns-then-not-is_asked_service-clause-asked c =
    sym (other_request c.args.self.now c.args.request.now (view c.in-Ok.view) c.in-Ok.ensures.exact
    (sym c.is_asked_service.ensures ∙ c.if-not-is_asked_service.true))

pub returns-in_default-read_path-clause-asked : goal.returns-in_default-read_path-clause-asked
returns-in_default-read_path-clause-asked c =
    sym (unread_path c.args.self.now c.args.request.now (view c.in-Ok.view) c.in_default-read_path.field-0 c.in-Ok.ensures.exact
    (sym c.in_default-read_path.ensures.exact))

pub returns-clause-asked : goal.returns-clause-asked
returns-clause-asked c =
    c.asked_of.ensures.asked
    ∙ sym (read_at c.args.self.now c.args.request.now (view c.in-Ok.view) c.in-Ok-read_path.path c.in-Ok.ensures.exact
    (sym c.in-Ok-read_path.ensures.exact))
