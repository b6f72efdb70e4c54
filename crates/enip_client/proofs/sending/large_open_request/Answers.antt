use Rattle.std.proofs.Common.{◌≡◌, ◌++◌, length, ap, ap₂, ◌∙◌, arith}
use Rattle.cip_message.specs.Open.{large, large_view, large_open}
use Rattle.cip_message.specs.declared.parameters.LargeParameters.{LargeParameters}
use Rattle.enip_client.specs.Frames.{manager_request, open_service_in, asked_on, large_asked_on}
use Rattle.enip_client.proofs.SendingLemmas.{where_ok}
use Rattle.enip_client.proofs.sending.large_open_request.Goals as goal

pub returns : goal.returns
returns c =
    let asked : large_view c.asked-asked.result ≡ large_asked_on c.args.path.now c.args.wants.now
    = c.asked-asked.ensures.asked (λ (p : LargeParameters). p.bits)
    ∙ ap₂ (λ x y. asked_on c.args.path.now x y c.args.wants.now) c.large_parameters.ensures c.large_parameters-2.ensures in
    let written = c.write_large.ensures in
    let size = ap (λ o. length (large_open o)) asked in
    where_ok c.write_large.result (written.fits.1 (omega (arith, size, c.begin_manager_request-request.ensures.size))) written.ok
    ∙ (ap (λ t. t ++ large_open (large_view c.asked-asked.result)) c.begin_manager_request-request.ensures.text
    ∙ ap (λ o. manager_request (open_service_in large) (large_open o)) asked)
