use Rattle.std.proofs.Common.{ap, ◌∙◌}
use Rattle.cip_bytes.proofs.Bytes.{number_behind, rest_slice}
use Rattle.enip_client.specs.Service.{service_fields, name_in}
use Rattle.enip_client.proofs.ServiceLemmas.{same_service}
use Rattle.enip_client.proofs.service.fields_at.Goals as goal

pub returns : goal.returns
unfolding service_fields
returns c =
    let b = c.args.bytes.now in
    same_service (service_fields b) _ _ _ (c.read_u16.ensures ∙ number_behind 2 0 b) (c.read_u16-2.ensures ∙ number_behind 2 2 b)
    (c.before_nul.ensures ∙ ap name_in (rest_slice 4 b))
