-- A retry is enough, whatever happened before.
use Rattle.std.proofs.Common.{ℕ, Option, List, [], ◌∷◌, ap, sym, ◌∙◌, subst, append-nil}
use Rattle.cip_bytes.specs.declared.protocol.TheConstants.{UNCONNECTED_LIMIT}
use Rattle.cip_commander.specs.CommanderRule.{CommanderState, message_of}
use Rattle.cip_commander.specs.Outcome.{Outcome, outcome_of_text}
use Rattle.enip_reconnect.specs.Worlds.{BothEnds}
use Rattle.cip_ledger.specs.Device.{Device, exec_device}
use Rattle.cip_owner.specs.Owned.{OwnedState}
use Rattle.enip_adapter.proofs.SoundLemmas.{IsSound, sound-calls, sound-shared}
use Rattle.enip_reconnect.specs.Events.{Event}
use Rattle.enip_reconnect.specs.Laws.{AmountsTo, AreOfOthers, message_ends}
use Rattle.enip_reconnect.specs.Retry.{retry, retry_law, IsAccepted}
use Rattle.enip_reconnect.specs.World.{Ends, device_at, ends_at, calls_at, ends_step, ends_run, ends_after}
use Rattle.enip_reconnect.proofs.Answering.{IsAnsweredDone, answered-done}
use Rattle.enip_reconnect.proofs.MessageRuns.{messages_come}
use Rattle.enip_reconnect.proofs.Retrying.{retried}

-- The adapter stays sound in a run.
sound-run : (events : List Event) (ends : Ends) → IsSound ends.adapter → IsSound (ends_run ends events).adapter
sound-run [] ends sound = sound
sound-run (event ∷ events) ends sound =
    sound-run events (ends_step ends event) (sound-calls ends.adapter (calls_at ends event) sound)

-- What the device would answer to the message of this request.
abbrev answer_by : Device → CommanderState → List ℕ → Outcome
answer_by device commander request =
    outcome_of_text (exec_device device UNCONNECTED_LIMIT (message_of commander request)).answer

pub retries : retry_law
retries opening events wants now peer request ledger range others pending small begins ledger_is life slot =
    let ends : Ends = ends_after opening events in
    let to = messages_come opening events [] range
    (subst (AreOfOthers opening.commander.originator (ends_at opening)) (sym (append-nil events)) others) in
    let amounts : AmountsTo opening events to.0 = to.1.1.0 in
    let both : BothEnds OwnedState = message_ends opening to.0 in
    let sound : IsSound ends.adapter =
    sound-run events (ends_at opening) (sound-shared (device_at opening) opening.listen opening.limits opening.shares) in
    let done : IsAnsweredDone both request =
    answered-done opening range to.0 amounts.others request ledger
    (ap (λ (c : CommanderState). c.pending) (sym amounts.commander) ∙ pending)
    (ap (λ (d : Device). d.ledger) (sym amounts.device) ∙ ledger_is) life slot in
    let Accepts : Option (List ℕ) → Type 0 = λ p.
    (let x : Ends = record ends { commander = record ends.commander { pending = p } } in
    IsAccepted x (ends_run x (retry wants now peer))) in
    subst Accepts (sym pending)
    (retried ends request peer now wants done.reply sound begins small
    (ap (λ device. answer_by device ends.commander request) amounts.device
    ∙ (ap (λ commander. answer_by both.device commander request) amounts.commander ∙ done.outcome)))
