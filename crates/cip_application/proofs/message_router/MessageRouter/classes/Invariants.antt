use Rattle.std.proofs.Common.{◌≡◌, ◌≤◌, ◌+◌, map, drop, length}
use Rattle.cip_application.specs.MessageRouter.{classes_of, with_classes}
use Rattle.cip_application.proofs.message_router.MessageRouter.classes.Given as goal

abbrev pub invariant-loop-object : goal.invariant-loop-object
invariant-loop-object l = record {
  put : with_classes l.classes.items (map (λ o. o.class) (drop l.object-index l.others))
      ≡ classes_of l.self.counter l.self.ledger (map (λ o. o.class) l.others);
  few : length l.classes.items ≤ l.object-index + 6;
}
