use Rattle.std.proofs.Common.{option_map, ap, ◌∙◌, sym}
use Rattle.cip_bytes.specs.Reading.{map_ok}
use Rattle.cip_message.specs.Request.{view}
use Rattle.cip_objects.specs.OwnRequests.{asked_in}
use Rattle.cip_objects.proofs.OwnRequests.{nothing_asked}
use Rattle.cip_objects.proofs.objects.Objects.asked_of.Goals as goal

pub returns-in_err-object_index-clause-asked : goal.returns-in_err-object_index-clause-asked
returns-in_err-object_index-clause-asked c =
    ap (option_map (map_ok asked_in)) c.from_residual.ensures
    ∙ sym (nothing_asked c.args.self.now (view c.args.request) c.args.path c.in_err-object_index.ensures)
