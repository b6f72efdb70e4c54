use Rattle.std.proofs.Common.{◌≡◌, Some, None, refl}
use Rattle.enip_c.specs.ExplainCalls.{first_queued}
use Rattle.enip_c.proofs.ExplainLemmas.{service_printed}
use Rattle.enip_c.proofs.explained.explain_to.Goals as goal

pub returns-in-Some : goal.returns-in-Some
returns-in-Some c =
    let first : first_queued c.in-Ok.configuration.objects.objects.items ≡ Some c.in-Some.service =
    cc (c.first_queued.ensures, c.deref.ensures.value, c.in-Some.is) in
    service_printed c.args.text.now c.args.buffer.now c.print_to-in-Some.new.buffer c.print_to-in-Some.result c.in-Ok.configuration c.in-Some.service
    c.in-Ok.ensures.read first c.print_to-in-Some.ensures

pub returns : goal.returns
returns c =
    let first : first_queued c.in-Ok.configuration.objects.objects.items ≡ None =
    cc (c.first_queued.ensures, c.deref.ensures.value, c.in-None.is) in (
      (c.in-Ok.configuration, (c.in-Ok.ensures.read, first)),
      refl,
    )
