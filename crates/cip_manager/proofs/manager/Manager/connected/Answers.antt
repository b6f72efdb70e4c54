use Rattle.std.proofs.Common.{ap, subst, sym}
use Rattle.cip_manager.specs.Table.{AreBelow}
use Rattle.cip_manager.proofs.TableLemmas.{AreBelow-received}
use Rattle.cip_manager.proofs.manager.Manager.connected.Goals as goal

-- the IDs are still below the next one
pub invariant_of-self : goal.invariant_of-self
invariant_of-self g c = record {
  first = c.self.invariant.first;
  drawn = c.self.invariant.drawn;
  below =
      subst (AreBelow c.self.inside.next_id) (sym (ap (λ t. t.connections) (c.receive.follows.holds-at-none).0))
      (AreBelow-received g.R.Router.after g.R.Router.answer c.self.inside.next_id c.self.inside.table.connections
      c.args.now c.args.session c.args.id c.args.item.now c.args.router.now c.self.invariant.below);
}
