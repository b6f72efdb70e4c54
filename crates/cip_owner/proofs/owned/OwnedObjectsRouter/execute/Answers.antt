use Rattle.std.proofs.Common.{◌≡◌, ◌≤◌, length, true, false, sym, subst, refl, ◌∙◌}
use Rattle.cip_objects.specs.PacketLaws.{exec_routed_begins}
use Rattle.cip_message.specs.Router.{general_status}
use Rattle.cip_owner.specs.Owned.{OwnedState, is_left, is_reset}
use Rattle.cip_owner.specs.OwnedLaws.{exec_owned_within}
use Rattle.cip_owner.specs.Reset.{reset_data}
use Rattle.cip_owner.proofs.OwnedLemmas.{AreExecuted, left_executed, other_executed, taken_executed, reset_taken, reset_not_taken, neither_taken}
use Rattle.cip_owner.proofs.owned.OwnedObjectsRouter.execute.Goals as goal

-- the device is reset
reset : (c : goal.Then-take_reset) → AreExecuted c.args.self.now c.args.max_size c.args.request.now c.take_reset.new.self c.take_reset.new.reply.items
reset c =
    reset_taken c.args.self.now c.args.max_size c.args.request.now c.args.self.now.reset (reset_data c.args.request.now)
    c.take_reset.result c.take_reset.new.self c.take_reset.new.reply.items refl refl c.take_reset.ensures c.if-take_reset.true

pub returns-then-take_reset-clause-state : goal.returns-then-take_reset-clause-state
returns-then-take_reset-clause-state c = (reset c).state

pub returns-then-take_reset-clause-reply : goal.returns-then-take_reset-clause-reply
returns-then-take_reset-clause-reply c = (reset c).reply

pub returns-then-take_reset-clause-fits : goal.returns-then-take_reset-clause-fits
returns-then-take_reset-clause-fits c =
    subst (λ r. length r ≤ c.args.max_size) (sym (reset c).reply)
    (exec_owned_within c.args.self.now c.args.max_size c.args.request.now c.requires.max_size_from)

-- the prepared reply is given
first : (c : goal.Then-take_prepared) → AreExecuted c.args.self.now c.args.max_size c.args.request.now c.take_prepared.new.self c.take_prepared.new.reply.items
first c =
    subst (λ (w : OwnedState). AreExecuted w c.args.max_size c.args.request.now c.take_prepared.new.self c.take_prepared.new.reply.items)
    (reset_not_taken c.args.self.now c.args.request.now c.args.self.now.reset (reset_data c.args.request.now) c.take_reset.result
    c.take_reset.new.self c.take_reset.new.reply.items refl refl c.take_reset.ensures c.if-take_reset.false).0
    (taken_executed c.take_reset.new.self c.args.max_size c.args.request.now c.take_prepared.result c.take_prepared.new.self
    c.take_prepared.new.reply.items c.take_prepared.ensures.taken c.if-take_prepared.true)

pub returns-then-take_prepared-clause-state : goal.returns-then-take_prepared-clause-state
returns-then-take_prepared-clause-state c = (first c).state

pub returns-then-take_prepared-clause-reply : goal.returns-then-take_prepared-clause-reply
returns-then-take_prepared-clause-reply c = (first c).reply

pub returns-then-take_prepared-clause-fits : goal.returns-then-take_prepared-clause-fits
returns-then-take_prepared-clause-fits c =
    subst (λ r. length r ≤ c.args.max_size) (sym (first c).reply)
    (exec_owned_within c.args.self.now c.args.max_size c.args.request.now c.requires.max_size_from)

pub may_be_to_owner-requires : goal.may_be_to_owner-requires
may_be_to_owner-requires c =
    subst (λ r. 4 ≤ length r) (sym (c.as_slice.ensures.value ∙ c.execute.ensures.reply))
    (exec_routed_begins c.take_prepared.new.self.objects c.args.max_size c.args.request.now).head

left : (c : goal.After-execute_own) → AreExecuted c.args.self.now c.args.max_size c.args.request.now c.execute_own.new.self c.execute_own.new.reply.items
left c =
    let same = neither_taken c.args.self.now c.args.max_size c.args.request.now c.take_reset.result c.take_prepared.result
    c.take_reset.new.self c.take_prepared.new.self c.take_reset.new.reply.items c.take_prepared.new.reply.items
    c.take_reset.ensures c.if-take_reset.false c.take_prepared.ensures.taken c.if-take_prepared.false in
    subst (λ (w : OwnedState). AreExecuted w c.args.max_size c.args.request.now c.execute_own.new.self c.execute_own.new.reply.items)
    same.0
    (left_executed c.take_prepared.new.self c.args.max_size c.args.request.now c.execute.new.self c.execute.new.reply.items
    c.execute_own.new.self c.execute_own.new.reply.items
    (subst (λ (w : OwnedState). is_reset w c.args.request.now ≡ false) (sym same.0) same.1)
    c.execute.ensures.state c.execute.ensures.reply
    (subst (λ r. is_left (general_status r) ≡ true) c.as_slice.ensures.value (sym c.may_be_to_owner.ensures ∙ c.if-may_be_to_owner.true))
    c.execute_own.ensures.done)

other : (c : goal.Else-may_be_to_owner) → AreExecuted c.args.self.now c.args.max_size c.args.request.now (record c.take_prepared.new.self { objects = c.execute.new.self }) c.execute.new.reply.items
other c =
    let same = neither_taken c.args.self.now c.args.max_size c.args.request.now c.take_reset.result c.take_prepared.result
    c.take_reset.new.self c.take_prepared.new.self c.take_reset.new.reply.items c.take_prepared.new.reply.items
    c.take_reset.ensures c.if-take_reset.false c.take_prepared.ensures.taken c.if-take_prepared.false in
    subst (λ (w : OwnedState). AreExecuted w c.args.max_size c.args.request.now (record c.take_prepared.new.self { objects = c.execute.new.self }) c.execute.new.reply.items)
    same.0
    (other_executed c.take_prepared.new.self c.args.max_size c.args.request.now c.execute.new.self c.execute.new.reply.items
    (subst (λ (w : OwnedState). is_reset w c.args.request.now ≡ false) (sym same.0) same.1)
    c.execute.ensures.state c.execute.ensures.reply
    (subst (λ r. is_left (general_status r) ≡ false) c.as_slice.ensures.value (sym c.may_be_to_owner.ensures ∙ c.if-may_be_to_owner.false)))

pub returns-then-may_be_to_owner-clause-state : goal.returns-then-may_be_to_owner-clause-state
returns-then-may_be_to_owner-clause-state c = (left c).state

pub returns-then-may_be_to_owner-clause-reply : goal.returns-then-may_be_to_owner-clause-reply
returns-then-may_be_to_owner-clause-reply c = (left c).reply

pub returns-else-may_be_to_owner-clause-state : goal.returns-else-may_be_to_owner-clause-state
returns-else-may_be_to_owner-clause-state c = (other c).state

pub returns-else-may_be_to_owner-clause-reply : goal.returns-else-may_be_to_owner-clause-reply
returns-else-may_be_to_owner-clause-reply c = (other c).reply
