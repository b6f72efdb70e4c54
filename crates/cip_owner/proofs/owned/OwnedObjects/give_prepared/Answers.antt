use Rattle.std.proofs.Common.{None, sym, ap, ◌∙◌, refl}
use Rattle.std.specs.Prelude.{option_copied}
use Rattle.cip_objects.specs.OwnRequests.{asked_in}
use Rattle.cip_owner.specs.Owned.{answer_with, after_reply}
use Rattle.cip_owner.proofs.OwnedLemmas.{given_fit, given_unfit}
use Rattle.cip_owner.proofs.owned.OwnedObjects.give_prepared.Goals as goal

pub returns-then-not-is_fit-clause-state : goal.returns-then-not-is_fit-clause-state
returns-then-not-is_fit-clause-state c =
    sym (ap (λ x. x.after) (given_unfit c.args.self.now c.args.service (asked_in c.args.own) c.in-Some.prepared.now
    (sym c.as_ref.ensures.value ∙ ap option_copied c.in-Some.is)
    (sym (c.is_fit.ensures (asked_in c.args.own) refl) ∙ c.if-not-is_fit.true)))

pub returns-then-not-is_fit-clause-reply : goal.returns-then-not-is_fit-clause-reply
returns-then-not-is_fit-clause-reply c =
    c.answer-then-not-is_fit.ensures
    ∙ sym (ap (λ x. x.answer) (given_unfit c.args.self.now c.args.service (asked_in c.args.own) c.in-Some.prepared.now
    (sym c.as_ref.ensures.value ∙ ap option_copied c.in-Some.is)
    (sym (c.is_fit.ensures (asked_in c.args.own) refl) ∙ c.if-not-is_fit.true)))

pub returns-clause-state : goal.returns-clause-state
returns-clause-state c =
    c.store_accepted.ensures
    ∙ ap (λ s. (record c.args.self.now { objects = after_reply c.args.self.now.objects (asked_in c.args.own) s; prepared = None })) c.status-status.ensures
    ∙ sym (ap (λ x. x.after) (given_fit c.args.self.now c.args.service (asked_in c.args.own) c.in-Some.prepared.now
    (sym c.as_ref.ensures.value ∙ ap option_copied c.in-Some.is)
    (sym (c.is_fit.ensures (asked_in c.args.own) refl) ∙ c.if-not-is_fit.false)))

pub returns-clause-reply : goal.returns-clause-reply
returns-clause-reply c =
    c.answer-2.ensures
    ∙ ap (λ s. answer_with c.args.service s c.«data».result.now) c.status-status.ensures
    ∙ ap (λ d. answer_with c.args.service c.in-Some.prepared.now.status d) c.«data».ensures.value
    ∙ sym (ap (λ x. x.answer) (given_fit c.args.self.now c.args.service (asked_in c.args.own) c.in-Some.prepared.now
    (sym c.as_ref.ensures.value ∙ ap option_copied c.in-Some.is)
    (sym (c.is_fit.ensures (asked_in c.args.own) refl) ∙ c.if-not-is_fit.false)))
