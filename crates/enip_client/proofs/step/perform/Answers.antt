use Rattle.std.proofs.Common.{◌≡◌, refl, Result, Ok, Err}
use Rattle.std.proofs.lemmas.Result.{err_from_is_err_and}
use Rattle.std.proofs.KnownBytes.{Appends-nil}
use Rattle.enip_client.specs.Calls.{Lent, bytes_lent, submits}
use Rattle.enip_client.proofs.step.perform.Goals as goal

err_lent : {E : Type 0} (r : Result Lent E) (fault : E) → Err fault ≡ bytes_lent r → r ≡ Err fault
err_lent (Ok lent) fault is = cc
err_lent (Err why) fault is = cc

pub returns-in_err-frame-in-Request-clause-performed : goal.returns-in_err-frame-in-Request-clause-performed
returns-in_err-frame-in-Request-clause-performed g c =
    let p = err_from_is_err_and c.from_residual-in_err-frame-in-Request.result c.from_residual-in_err-frame-in-Request.ensures.1 in
    let refused = err_lent (submits c.args.client.now.state c.args.asked.request.now) c.in_err-frame-in-Request.field-0.0 c.in_err-frame-in-Request.ensures.lent in
    rw (c.in-Request.is, c.if-asked.true, refused, p.1, p.2) (refl, Appends-nil (g.W.Sink.written c.args.writer.now))
