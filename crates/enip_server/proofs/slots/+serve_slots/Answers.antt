use Rattle.enip_server.proofs.RoundLemmas.{places_more}
use Rattle.enip_server.proofs.slots.+serve_slots.Goals as goal

pub returns-clause-served : goal.returns-clause-served
returns-clause-served g t c =
    places_more g.W.Wire.left g.W.Wire.written g.W.Wire.known g.W.Wire.counts g.O.Owner.answer g.O.Owner.after c.args.now
    c.args.idle_timeout c.args.owner.now c.args.adapter.now c.args.places.now c.in-Some.slot.now c.in-Some.others.now
    c.serve_slot-ended.new.owner c.serve_slots.new.owner c.serve_slot-ended.new.adapter c.serve_slots.new.adapter
    c.serve_slot-ended.new.slot c.serve_slots.new.places c.in-Some.ensures.cases.0
    c.serve_slot-ended.ensures.served c.serve_slots.ensures.served

pub returns-clause-watched : goal.returns-clause-watched
returns-clause-watched g t c = λ seen. c.serve_slots.ensures.watched (c.serve_slot-ended.ensures.watched seen)
