use Rattle.std.proofs.Common.{rules, ◌≡◌, true, false, sym, subst}
use Rattle.cip_objects.specs.OwnRequests.{asked_in}
use Rattle.owner_port.specs.Asking.{IsEntered, IsWaitingBy}
use Rattle.owner_port.proofs.AskingLemmas.{request_shown}
use Rattle.owner_port.proofs.port.OwnerPort.show_request.Goals.{then-not-show, else-not-show}
use Rattle.owner_port.proofs.port.OwnerPort.show_request.Goals as goal

pub returns : goal.returns
returns c =
    let old = c.args.self.now in
    let asked = asked_in c.args.request.now in
    let begun = record old { questions = c.show.new.self } in
    let waits : IsWaitingBy c.show.result c.args.peer c.args.by asked c.args.is_numbered begun c.if-not-show.self =
    elim c.if-not-show.branch [
      | then-not-show w ↦
          let is : c.show.result ≡ false = search rules in
          subst (λ b. IsWaitingBy b c.args.peer c.args.by asked c.args.is_numbered begun c.if-not-show.self) (sym is)
          (subst (λ p. IsEntered c.args.peer c.args.by asked c.args.is_numbered begun p) (sym w.self-is) w.enter.ensures)
      | else-not-show w ↦
          let is : c.show.result ≡ true = search rules in
          subst (λ b. IsWaitingBy b c.args.peer c.args.by asked c.args.is_numbered begun c.if-not-show.self) (sym is)
          w.self-is
    ] in
    request_shown c.args.peer c.args.by asked c.args.is_numbered old c.if-not-show.self c.show.new.self c.admit.new.self
    c.show.result c.admit.result c.show.ensures.list c.show.ensures.same c.show.ensures.known waits c.admit.ensures
