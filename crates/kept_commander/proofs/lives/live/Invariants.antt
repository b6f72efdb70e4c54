use Rattle.std.proofs.Common.{◌≡◌, ◌≤◌}
use Rattle.cip_commander.specs.CommanderRule.{CommanderState}
use Rattle.kept_commander.specs.Calls.{IsReady}
use Rattle.kept_commander.specs.Lives.{IsRun, IsNeverDropped}
use Rattle.kept_commander.proofs.lives.live.Given as goal

-- the events so far have a run, and one to each commander that a crash may leave
abbrev pub invariant-loop-event : goal.invariant-loop-event
invariant-loop-event g l =
    let k = g.K.CommandKeeper in
    record {
      can_next : (goal.iterator-loop-event g).can_next l.event-iterator;
      is_finite : (goal.iterator-loop-event g).is_finite l.event-iterator;
      ready : IsReady k.doubt k.is_up k.kept l.client;
      doubt : k.doubt l.fn.client.keeper ≤ k.doubt l.client.keeper;
      one : k.doubt l.client.keeper ≡ 0 → (c : CommanderState) × IsRun l.yielded l.sent.items l.fn.client.is_serving l.fn.client.commander l.client.is_serving c;
      never_dropped : k.doubt l.client.keeper ≡ 0 → (c : CommanderState) → k.may_leave l.client.keeper c → IsNeverDropped l.yielded l.sent.items c;
      run : k.doubt l.client.keeper ≡ 0 → (c : CommanderState) → k.may_leave l.client.keeper c → IsRun l.yielded l.sent.items l.fn.client.is_serving l.fn.client.commander l.client.is_serving c;
    }
