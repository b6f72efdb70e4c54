use Rattle.std.proofs.Common.{ap, ◌∙◌}
use Rattle.cip_ledger.specs.Services.{get_attribute_list, reply_to}
use Rattle.cip_ledger.proofs.Turns.{forget_turn, list_turn}
use Rattle.cip_ledger.proofs.ledger.Ledger.serve_instance.Goals as goal

pub returns-in-77-clause-rule : goal.returns-in-77-clause-rule
returns-in-77-clause-rule g c =
    forget_turn g.R.Router.after g.R.Router.answer g.R.Target.standing c.args.self.now c.args.router.now c.args.request.service c.args.request.instance
    c.args.request.attribute c.args.request.data.now c.args.max_size c.in-77.is c.forget.new.self c.forget.new.reply.items c.forget.ensures.rule

pub returns-in-3-clause-rule : goal.returns-in-3-clause-rule
returns-in-3-clause-rule g c =
    list_turn g.R.Router.after g.R.Router.answer g.R.Target.standing c.args.self.now c.args.router.now c.args.request.service c.args.request.instance
    c.args.request.attribute c.args.request.data.now c.args.max_size c.in-3.is c.write_list.new.reply.items
    (c.write_list.ensures.reply
    ∙ ap (λ values. reply_to 3 (get_attribute_list values c.args.max_size c.args.request.data.now)) c.attributes-in-3.ensures)
