use Rattle.std.proofs.Common.{◌≡◌, subst, rules}
use Rattle.enip_adapter.specs.Executing.{executing}
use Rattle.enip_c.specs.StateCalls.{ReturnsGeneration}
use Rattle.enip_c.proofs.StateLemmas.{entries_of_kept}
use Rattle.enip_c.proofs.state.enip_core_adapter_generation.Goals as goal

pub returns-clause-returned : goal.returns-clause-returned
returns-clause-returned c =
    let last = c.args.last.now in
    let kept = c.args.kept.now.value in
    let taken = c.take-adapter.result.value in
    let status = c.next_generation-status in
    let same : c.deref.result.now ≡ taken = search rules in
    let by : c.executing-doubt.result ≡ executing taken c.args.peer c.args.piece.now = search rules in
    let entries = entries_of_kept kept taken _ _ c.args.peer c.args.piece.now c.take-adapter.ensures.taken same by in
    subst (λ e. ReturnsGeneration last e c.args.next.now status.new.next status.result) entries status.ensures
