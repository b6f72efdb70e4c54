use Rattle.std.proofs.Common.{option_map, ap, sym, ◌∙◌}
use Rattle.cip_ledger.specs.Reaching.{listed}
use Rattle.cip_ledger.specs.Views.{command_in, request_in}
use Rattle.cip_ledger.proofs.ReachingLemmas.{kept_within, reached_none, reached_some}
use Rattle.cip_ledger.proofs.router.LedgerRouter.reaching.Goals as goal

pub returns-then-not-passes_on : goal.returns-then-not-passes_on
returns-then-not-passes_on g c =
    sym (reached_some g.R.Router.after g.R.Router.answer g.R.Target.standing c.args.self.now
    (c.args.max_size, c.args.request.now) c.in-Some.ledger (request_in c.in-Some-read.own)
    (command_in c.in_ok-command.command) c.in-Some.is (sym c.in-Some-read.ensures) (sym c.in_ok-command.ensures.command)
    ∙ ap (λ o. listed (option_map kept_within o)) (sym c.if-not-passes_on.ensures))

pub returns-in_err-command : goal.returns-in_err-command
returns-in_err-command g c =
    ap (λ o. listed (option_map (λ passed. (passed.1, passed.0.now)) o)) c.from_residual.ensures
    ∙ sym (reached_none g.R.Router.after g.R.Router.answer g.R.Target.standing c.args.self.now
    (c.args.max_size, c.args.request.now) c.in-Some.ledger (request_in c.in-Some-read.own) c.in-Some.is
    (sym c.in-Some-read.ensures) (sym c.in_err-command.ensures.command))

pub returns : goal.returns
returns g c =
    sym (reached_some g.R.Router.after g.R.Router.answer g.R.Target.standing c.args.self.now
    (c.args.max_size, c.args.request.now) c.in-Some.ledger (request_in c.in-Some-read.own)
    (command_in c.in_ok-command.command) c.in-Some.is (sym c.in-Some-read.ensures) (sym c.in_ok-command.ensures.command)
    ∙ ap (λ o. listed (option_map kept_within o)) (sym c.if-not-passes_on.ensures))
