use Rattle.std.proofs.Common.{◌≡◌, ◌+◌, ◌-◌, ◌∙◌, suc, Result, Ok, Err, sym, ap, arith}
use Rattle.std.specs.Prelude.{IsErrAnd}
use Rattle.cip_objects.specs.declared.status.Refusal.{Refusal}
use Rattle.cip_objects.specs.ObjectRef.{class_at, instance_at}
use Rattle.cip_objects.specs.SetLists.{first_seen, settings_of, read_to_end}
use Rattle.cip_objects.proofs.ListSets.{rest_read, front_unread}
use Rattle.cip_objects.proofs.objects.Objects.check_list.Goals as goal

same_fault : (r : Result (Unit {0}) Refusal) (s : Refusal) → IsErrAnd r (λ e. e ≡ s) → r ≡ Err s
same_fault (Ok x) s e = absurd e
same_fault (Err t) s e = ap Err e

pub returns-in_err-rest : goal.returns-in_err-rest
returns-in_err-rest c =
    let shapes = c.args.self.now.shapes in
    let class = class_at shapes c.args.resolved.object in
    let instance = instance_at shapes c.args.resolved.object in
    let n = c.args.count - (c.loop.counter + 1) in
    let more : c.args.count - c.loop.counter ≡ suc n = omega (arith, c.loop-test.true) in
    same_fault c.from_residual.result c.in_err-rest.field-0.0 c.from_residual.ensures.1
    ∙ sym (ap read_to_end (front_unread shapes class instance n c.loop.rest.now c.in_err-rest.field-0.0 (sym c.in_err-rest.ensures)))
    ∙ ap (λ k. read_to_end (settings_of shapes class instance k c.loop.rest.now)) (sym more)
    ∙ c.loop.invariant

pub loop-preserved : goal.loop-preserved
loop-preserved c =
    let shapes = c.args.self.now.shapes in
    let class = class_at shapes c.args.resolved.object in
    let instance = instance_at shapes c.args.resolved.object in
    let n = c.args.count - (c.loop.counter + 1) in
    let more : c.args.count - c.loop.counter ≡ suc n = omega (arith, c.loop-test.true) in
    rest_read shapes class instance n c.loop.rest.now (first_seen c.in_ok-rest.field-0) (sym c.in_ok-rest.ensures)
    ∙ ap (λ k. read_to_end (settings_of shapes class instance k c.loop.rest.now)) (sym more)
    ∙ c.loop.invariant
