use Rattle.std.proofs.Common.{rules, ◌≡◌, ◌&&◌, true, refl, sym, subst}
use Rattle.cip_objects.specs.OwnRequests.{asked_in}
use Rattle.cip_owner.specs.Owned.{is_fit}
use Rattle.owner_port.specs.Questions.{is_same}
use Rattle.owner_port.proofs.prepared_reply.ReplyTo.is_to.Goals as goal

pub returns-then-is_same : goal.returns-then-is_same
returns-then-is_same c =
    let asked = asked_in c.args.request.now in
    let same : is_same c.args.self.now.request asked ≡ true = search rules in
    subst (λ b. c.is_fit.result ≡ (b && is_fit asked c.args.self.now.reply)) (sym same) (c.is_fit.ensures asked refl)
