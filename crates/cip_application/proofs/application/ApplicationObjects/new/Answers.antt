use Rattle.std.proofs.Common.{length, sym, ap, arith}
use Rattle.std.proofs.lemmas.List.{length-map}
use Rattle.cip_application.specs.Configuration.{object_of_config}
use Rattle.cip_application.proofs.Sound.{sound}
use Rattle.cip_application.proofs.application.ApplicationObjects.new.Goals as goal

pub objects_of-requires : goal.objects_of-requires
objects_of-requires c = (sound c.args.counter c.args.configs.now (sym c.in_default.ensures)).sound

pub invariant_of-result : goal.invariant_of-result
invariant_of-result c =
    let s = sound c.args.counter c.args.configs.now (sym c.in_default.ensures) in
    record { few = omega (arith, s.few, ap length c.in_ok-objects_of.ensures, length-map c.args.configs.now object_of_config) }

pub returns-clause-own : goal.returns-clause-own
returns-clause-own c =
    let s = sound c.args.counter c.args.configs.now (sym c.in_default.ensures) in
    rw c.in_ok-objects_of.ensures s.own

pub returns-clause-in_order : goal.returns-clause-in_order
returns-clause-in_order c =
    let s = sound c.args.counter c.args.configs.now (sym c.in_default.ensures) in
    rw c.in_ok-objects_of.ensures s.in_order

pub returns-clause-values : goal.returns-clause-values
returns-clause-values c =
    let s = sound c.args.counter c.args.configs.now (sym c.in_default.ensures) in
    rw c.in_ok-objects_of.ensures s.allowed
