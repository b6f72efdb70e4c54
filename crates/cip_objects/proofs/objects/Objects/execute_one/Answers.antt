use Rattle.std.proofs.Common.{◌∙◌, [], ap, set, Ok, Err}
use Rattle.cip_objects.specs.Execution.{outcome_within, outcome, reply_to}
use Rattle.cip_bytes.specs.Protocol.{general_status_number}
use Rattle.cip_objects.proofs.Executed.{executed}
use Rattle.cip_objects.proofs.objects.Objects.execute_one.Goals as goal

pub returns-in-Ok-clause-state : goal.returns-in-Ok-clause-state
returns-in-Ok-clause-state c =
    (executed c.args.self.now c.args.max_size c.args.request.now c.perform_request.new.self (Ok c.in-Ok.completion) c.perform_request.new.reply.items tt
    (c.in-Ok.ensures.outcome ∙ ap (λ head. outcome_within c.args.max_size head (outcome c.args.self.now c.args.request.now)) c.begin.ensures)).0

pub returns-in-Ok-clause-reply : goal.returns-in-Ok-clause-reply
returns-in-Ok-clause-reply c =
    c.set_status.ensures
    ∙ ap (λ s. set c.perform_request.new.reply.items 2 (general_status_number s)) c.status.ensures
    ∙ (executed c.args.self.now c.args.max_size c.args.request.now c.perform_request.new.self (Ok c.in-Ok.completion) c.perform_request.new.reply.items tt
    (c.in-Ok.ensures.outcome ∙ ap (λ head. outcome_within c.args.max_size head (outcome c.args.self.now c.args.request.now)) c.begin.ensures)).1

pub returns-in-Err-clause-state : goal.returns-in-Err-clause-state
returns-in-Err-clause-state c =
    (executed c.args.self.now c.args.max_size c.args.request.now c.perform_request.new.self (Err c.in-Err.refusal) c.perform_request.new.reply.items c.in-Err.ensures.err
    (c.in-Err.ensures.outcome ∙ ap (λ head. outcome_within c.args.max_size head (outcome c.args.self.now c.args.request.now)) c.begin.ensures)).0

pub returns-in-Err-clause-reply : goal.returns-in-Err-clause-reply
returns-in-Err-clause-reply c =
    c.begin-in-Err.ensures
    ∙ ap (λ s. reply_to c.args.request.now s []) c.status-in-Err.ensures
    ∙ (executed c.args.self.now c.args.max_size c.args.request.now c.perform_request.new.self (Err c.in-Err.refusal) c.perform_request.new.reply.items c.in-Err.ensures.err
    (c.in-Err.ensures.outcome ∙ ap (λ head. outcome_within c.args.max_size head (outcome c.args.self.now c.args.request.now)) c.begin.ensures)).1
