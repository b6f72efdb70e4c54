use Rattle.std.proofs.Common.{◌≡◌, ◌+◌, ◌-◌, ◌++◌, length, take, drop, sym, ap, subst, ◌∙◌, arith, length-drop}
use Rattle.std.proofs.Math.Seq.{take-add}
use Rattle.std.proofs.KnownBytes.{Appends-trans}
use Rattle.std.specs.Io.KnownBytes.{Appends}
use Rattle.cip_bytes.proofs.Bytes.{rest_slice}
use Rattle.enip_wire.proofs.device.write_all.Goals as goal

pub loop-sent-preserved : goal.loop-sent-preserved
loop-sent-preserved g c =
    let rest : take (length c.args.text.now - c.loop-sent.sent) (drop c.loop-sent.sent c.args.text.now) ≡ drop c.loop-sent.sent c.args.text.now
    = rest_slice c.loop-sent.sent c.args.text.now in
    let more : take (c.loop-sent.sent + c.in_ok-sent.field-0) c.args.text.now
    ≡ take c.loop-sent.sent c.args.text.now
    ++ take c.in_ok-sent.field-0 (take (length c.args.text.now - c.loop-sent.sent) (drop c.loop-sent.sent c.args.text.now))
    = take-add c.loop-sent.sent c.in_ok-sent.field-0 c.args.text.now
    ∙ ap (λ r. take c.loop-sent.sent c.args.text.now ++ take c.in_ok-sent.field-0 r) (sym rest) in (
      omega (arith, c.in_ok-sent.ensures.count, ap length rest, length-drop c.loop-sent.sent c.args.text.now, c.loop-sent.invariant.0),
      subst (Appends (g.W.Sink.written c.args.sink.now) (g.W.Sink.written c.write.new.self)) (sym more)
          (Appends-trans _ _ _ _ _ c.loop-sent.invariant.1 c.in_ok-sent.ensures.bytes),
      omega (arith, c.in_ok-sent.ensures.failures, c.loop-sent.invariant.2),
    )
