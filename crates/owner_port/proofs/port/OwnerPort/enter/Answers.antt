use Rattle.std.proofs.Common.{rules, ◌≡◌, ◌-◌, ◌^◌, true}
use Rattle.cip_objects.specs.OwnRequests.{asked_in}
use Rattle.owner_port.specs.Questions.{IsCopied}
use Rattle.owner_port.specs.Sessions.{has_space}
use Rattle.owner_port.proofs.AskingLemmas.{entered_asked}
use Rattle.owner_port.proofs.port.OwnerPort.enter.Goals as goal

pub returns-in-Ok : goal.returns-in-Ok
returns-in-Ok c =
    let space : has_space c.args.self.now.session ≡ true = search rules in
    let left : c.args.self.now.questions.next ≡ 2 ^ 32 - 1 → ⊥ = search rules in
    let copied : IsCopied (asked_in c.args.request.now) c.in-Ok.copy = search rules in
    entered_asked c.args.peer c.args.by (asked_in c.args.request.now) c.args.is_numbered c.args.self.now c.ask.new.self
    c.in-Ok.copy c.if-is_numbered.false space left copied c.ask.ensures
