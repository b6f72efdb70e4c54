use Rattle.std.proofs.Common.{rules, ◌≡◌, true, false}
use Rattle.std.specs.List.{list_any}
use Rattle.enip_server.specs.Rounds.{is_ready}
use Rattle.enip_server.proofs.AdmissionLemmas.{slots_more, ready_first, ready_others}
use Rattle.enip_server.proofs.admissions.+admit_slots.Goals as goal

pub returns-then-admit_slots-clause-shown : goal.returns-then-admit_slots-clause-shown
returns-then-admit_slots-clause-shown g t c =
    slots_more g.W.GatedWire.waiting g.W.GatedWire.admitted g.G.Gate.shows c.args.now c.args.gate.now c.admit_slot-ready.new.gate c.admit_slots.new.gate
    c.args.adapter.now c.admit_slot-ready.new.adapter c.admit_slots.new.adapter c.args.slots.now c.in-Some.slot.now
    c.in-Some.others.now c.admit_slot-ready.new.slot c.admit_slots.new.slots c.in-Some.ensures.cases.0
    c.admit_slot-ready.ensures.shown c.admit_slots.ensures.shown

pub returns-then-admit_slots-clause-ready : goal.returns-then-admit_slots-clause-ready
returns-then-admit_slots-clause-ready g t c =
    let is : c.admit_slots.result ≡ true = search rules in
    ready_others c.admit_slots.result (is_ready c.admit_slot-ready.new.slot) (list_any is_ready c.admit_slots.new.slots) is
    c.admit_slots.ensures.ready

pub returns-else-admit_slots-clause-shown : goal.returns-else-admit_slots-clause-shown
returns-else-admit_slots-clause-shown g t c =
    slots_more g.W.GatedWire.waiting g.W.GatedWire.admitted g.G.Gate.shows c.args.now c.args.gate.now c.admit_slot-ready.new.gate c.admit_slots.new.gate
    c.args.adapter.now c.admit_slot-ready.new.adapter c.admit_slots.new.adapter c.args.slots.now c.in-Some.slot.now
    c.in-Some.others.now c.admit_slot-ready.new.slot c.admit_slots.new.slots c.in-Some.ensures.cases.0
    c.admit_slot-ready.ensures.shown c.admit_slots.ensures.shown

pub returns-else-admit_slots-clause-ready : goal.returns-else-admit_slots-clause-ready
returns-else-admit_slots-clause-ready g t c =
    let none : c.admit_slots.result ≡ false = search rules in
    ready_first c.admit_slot-ready.result (is_ready c.admit_slot-ready.new.slot)
    (list_any is_ready c.admit_slots.new.slots) c.admit_slots.result none c.admit_slots.ensures.ready
    c.admit_slot-ready.ensures.ready
