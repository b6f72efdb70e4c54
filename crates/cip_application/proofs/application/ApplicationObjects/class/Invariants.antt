use Rattle.std.proofs.Common.{◌≡◌, ◌≤◌, ◌+◌, drop, max, length}
use Rattle.cip_application.specs.Objects.{instances_of, greatest_of}
use Rattle.cip_application.proofs.application.ApplicationObjects.class.Given as goal

abbrev pub invariant-loop-object : goal.invariant-loop-object
invariant-loop-object l = record {
  greatest : max l.greatest (greatest_of (instances_of l.class (drop l.object-index l.object-items))) ≡ greatest_of (instances_of l.class l.object-items);
  counted : l.instances + length (instances_of l.class (drop l.object-index l.object-items)) ≡ length (instances_of l.class l.object-items);
  few : l.instances ≤ l.object-index;
}
