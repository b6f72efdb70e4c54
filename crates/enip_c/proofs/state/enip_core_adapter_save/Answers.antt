use Rattle.std.proofs.Common.{◌≡◌, ap, rules, ◌∙◌}
use Rattle.enip_adapter.specs.Executing.{executing}
use Rattle.enip_c.specs.StateCalls.{returned_state}
use Rattle.enip_c.proofs.StateLemmas.{entries_of_kept}
use Rattle.enip_c.proofs.state.enip_core_adapter_save.Goals as goal

pub returns-clause-returned : goal.returns-clause-returned
returns-clause-returned c =
    let kept = c.args.kept.now.value in
    let taken = c.take-adapter.result.value in
    let same : c.deref.result.now ≡ taken = search rules in
    let by : c.executing-doubt.result ≡ executing taken c.args.peer c.args.piece.now = search rules in
    let entries = entries_of_kept kept taken _ _ c.args.peer c.args.piece.now c.take-adapter.ensures.taken same by in
    c.save-status.ensures
    ∙ ap (λ e. returned_state e c.args.generation c.args.count.now c.args.buffer.now) entries
