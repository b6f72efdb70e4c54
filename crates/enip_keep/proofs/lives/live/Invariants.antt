use Rattle.std.proofs.Common.{◌≡◌, ◌≤◌, length, IsTrue}
use Rattle.enip_keep.specs.Kept.{Kept}
use Rattle.enip_keep.specs.Server.{IsReady}
use Rattle.enip_keep.specs.Lives.{AreAfter, IsKeptAfter}
use Rattle.enip_keep.proofs.lives.live.Given as goal

-- the same of the events so far
abbrev pub invariant-loop-event : goal.invariant-loop-event
invariant-loop-event g l =
    let d = g.D.Device in
    let k = g.K.Keeper in
    record {
      can_next : (goal.iterator-loop-event g).can_next l.event-iterator;
      is_finite : (goal.iterator-loop-event g).is_finite l.event-iterator;
      count : length l.went.items ≡ length l.yielded;
      ready : IsReady k.doubt k.is_up k.kept d.contents d.known_kept d.kept_part l.server;
      doubt : k.doubt l.fn.server.keeper ≤ k.doubt l.server.keeper;
      kept : k.doubt l.server.keeper ≡ 0 → (c : Kept) → k.may_leave l.server.keeper c → IsKeptAfter d.brings d.executed d.kept_part d.started l.yielded l.went.items (d.contents l.fn.server.device) c;
      contents : k.doubt l.server.keeper ≡ 0 → IsTrue l.server.is_serving → AreAfter d.brings d.executed d.kept_part d.started l.yielded l.went.items (d.contents l.fn.server.device) (d.contents l.server.device);
    }
