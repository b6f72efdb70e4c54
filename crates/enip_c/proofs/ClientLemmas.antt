-- From a call of a client to the call of a client that C keeps.
use Rattle.std.proofs.Common.{◌≡◌, ℕ, List, sym, subst}
use Rattle.std.specs.Prelude.{Option, Some}
use Rattle.enip_client.specs.Client.{ClientState}
use Rattle.enip_c.specs.ClientCalls.{Outcome, IsDone, IsDoneKept}

pub done_kept : (outcome : ClientState → ℕ → List ℕ → Outcome) (old new : Option ClientState) (before after : ClientState)
    (result count_old count_new : ℕ) (buffer_old buffer_new : List ℕ) → Some before ≡ old → new ≡ Some after
    → IsDone (outcome before count_old buffer_old) after result count_new buffer_new
    → IsDoneKept outcome old new result count_old count_new buffer_old buffer_new
done_kept outcome old new before after result count_old count_new buffer_old buffer_new is_old is_new done =
    subst (λ (o : Option ClientState). IsDoneKept outcome o new result count_old count_new buffer_old buffer_new) is_old
    (subst (λ (n : Option ClientState). IsDoneKept outcome (Some before) n result count_old count_new buffer_old buffer_new)
    (sym is_new) done)
