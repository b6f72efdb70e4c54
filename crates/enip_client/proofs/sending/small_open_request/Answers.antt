use Rattle.std.proofs.Common.{◌≡◌, ◌++◌, length, ap, ap₂, ◌∙◌, arith}
use Rattle.cip_message.specs.Open.{small, view, «open»}
use Rattle.cip_message.specs.declared.parameters.Parameters.{Parameters}
use Rattle.enip_client.specs.Frames.{manager_request, open_service_in, asked_on, open_asked_on}
use Rattle.enip_client.proofs.SendingLemmas.{where_ok}
use Rattle.enip_client.proofs.sending.small_open_request.Goals as goal

pub returns : goal.returns
returns c =
    let asked : view c.asked-asked.result ≡ open_asked_on c.args.path.now c.args.wants.now
    = c.asked-asked.ensures.asked (λ (p : Parameters). p.bits)
    ∙ ap₂ (λ x y. asked_on c.args.path.now x y c.args.wants.now) c.parameters.ensures c.parameters-2.ensures in
    let written = c.write.ensures in
    let size = ap (λ o. length («open» o)) asked in
    where_ok c.write.result (written.fits.1 (omega (arith, size, c.begin_manager_request-request.ensures.size))) written.ok
    ∙ (ap (λ t. t ++ «open» (view c.asked-asked.result)) c.begin_manager_request-request.ensures.text
    ∙ ap (λ o. manager_request (open_service_in small) («open» o)) asked)
