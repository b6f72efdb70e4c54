use Rattle.std.proofs.Common.{sym, ◌∙◌}
use Rattle.cip_ledger.specs.Views.{command_in, request_in}
use Rattle.cip_ledger.proofs.ReachingLemmas.{command_none, command_some}
use Rattle.cip_ledger.proofs.router.LedgerRouter.executing.Goals as goal

pub returns-in_err-command : goal.returns-in_err-command
returns-in_err-command g c =
    c.from_residual.ensures
    ∙ sym (command_none g.R.Target.standing c.args.self.now.router c.args.self.now.ledger c.in-Some.ledger
    (c.args.max_size, c.args.request.now) (request_in c.in-Some-read.own) c.in-Some.is (sym c.in-Some-read.ensures)
    (sym c.in_err-command.ensures.command))

pub returns : goal.returns
returns g c =
    c.executed_by.ensures
    ∙ sym (command_some g.R.Target.standing c.args.self.now.router c.args.self.now.ledger c.in-Some.ledger
    (c.args.max_size, c.args.request.now) (request_in c.in-Some-read.own) (command_in c.in_ok-command.command)
    c.in-Some.is (sym c.in-Some-read.ensures) (sym c.in_ok-command.ensures.command))
