use Rattle.std.proofs.Common.{◌≡◌, rules, not, ◌==◌, ap, sym, ◌∙◌, subst}
use Rattle.std.proofs.lemmas.Fn.{filter_same}
use Rattle.std.specs.List.{AllByRecursion}
use Rattle.cip_owner.specs.Queue.{IsQueued, without_command}
use Rattle.cip_owner.specs.QueueViews.{WaitingState, waiting_of}
use Rattle.cip_owner.proofs.ListLemmas.{all-filter}
use Rattle.cip_owner.proofs.queue.waiting.Waiting.remove.Goals as goal

pub returns : goal.returns
returns c =
    ap (waiting_of c.self.inside.limit) (filter_same _ _ _ (λ x b f' k. search rules) _ _ c.retain.ensures.filtered)
    ∙ ap (λ (w : WaitingState). waiting_of w.limit (without_command c.args.ticket w.commands)) c.self.view_is

pub invariant_of-self : goal.invariant_of-self
invariant_of-self c =
    let old = c.self.invariant in
    let left : c.retain.new.self.items ≡ without_command c.args.ticket c.self.inside.commands.items =
    filter_same _ _ _ (λ x b f' k. search rules) _ _ c.retain.ensures.filtered in
    record {
      few = old.few;
      memory = search rules;
      within = search rules;
      sized = subst (AllByRecursion IsQueued) (sym left) (all-filter IsQueued (λ d. not (d.ticket == c.args.ticket)) c.self.inside.commands.items old.sized);
    }
