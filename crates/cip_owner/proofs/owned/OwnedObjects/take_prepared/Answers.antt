use Rattle.std.proofs.Common.{refl}
use Rattle.cip_objects.specs.OwnRequests.{own_request}
use Rattle.cip_owner.proofs.OwnedLemmas.{taken}
use Rattle.cip_owner.proofs.owned.OwnedObjects.take_prepared.Goals as goal

pub returns-then-is_some : goal.returns-then-is_some
returns-then-is_some c = record {
  taken =
      taken c.args.self.now c.args.max_size c.args.request.now c.args.reply.now.items
      (own_request c.args.self.now.objects c.args.request.now) c.execute_own.result c.execute_own.new.self
      c.execute_own.new.reply.items refl c.execute_own.ensures.own c.execute_own.ensures.done;
}
