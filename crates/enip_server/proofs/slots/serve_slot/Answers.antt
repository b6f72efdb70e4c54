use Rattle.enip_server.proofs.RoundLemmas.{place_goes_on, place_ended}
use Rattle.enip_server.proofs.WatchLemmas.{seen_ended}
use Rattle.enip_server.proofs.slots.serve_slot.Goals as goal

pub returns-then-serve-clause-served : goal.returns-then-serve-clause-served
returns-then-serve-clause-served g c =
    place_goes_on g.W.Wire.left g.W.Wire.written g.W.Wire.known g.W.Wire.counts g.O.Owner.answer g.O.Owner.after c.args.now
    c.args.idle_timeout c.args.owner.now c.args.adapter.now c.args.slot.now c.in-Some.io c.serve.new.self c.serve.new.owner
    c.serve.new.adapter c.serve.result c.in-Some.is c.serve.ensures.served c.if-serve.true

pub returns-clause-served : goal.returns-clause-served
returns-clause-served g c =
    place_ended g.W.Wire.left g.W.Wire.written g.W.Wire.known g.W.Wire.counts g.O.Owner.answer g.O.Owner.after c.args.now
    c.args.idle_timeout c.args.owner.now c.args.adapter.now c.args.slot.now c.in-Some.io c.serve.new.self c.serve.new.owner
    c.serve.new.adapter c.end.new.self c.serve.result c.in-Some.is c.serve.ensures.served
    c.if-serve.false c.end.ensures

pub returns-clause-watched : goal.returns-clause-watched
returns-clause-watched g c = λ seen.
    seen_ended g.T.Watcher.has_seen c.serve.new.watcher c.serve.new.adapter c.end.new.self c.serve.new.self.peer
    c.end.ensures (c.serve.ensures.watched seen)
