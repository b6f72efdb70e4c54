-- No item of a connection is longer than the connection's sizes, so each fits a frame.
use Rattle.std.proofs.Common.{◌≡◌, ℕ, ◌-◌, ◌≤◌, Bool, true, false, cond, Option, Some, None, List, length, refl, subst, arith}
use Rattle.std.proofs.lemmas.Option.{same_Some}
use Rattle.cip_class3.proofs.Counts.{IsAllowed, first_refusal-none}
use Rattle.cip_class3.specs.Deliveries.{answer_to}
use Rattle.cip_bytes.specs.declared.protocol.TheConstants.{LARGEST_CONNECTION_SIZE}
use Rattle.cip_class3.specs.Item.{item, sequence_count_of, message_of}
use Rattle.cip_class3.specs.OriginatorRule.{OriginatorState, Phase, Idle, Waiting, GivenUp, is_waiting, form_refusal, submit_refusal, with_next_request, waiting_item, is_reply, idle_again, after_item, after_give_up}
use Rattle.cip_class3.specs.TargetRule.{TargetState, TargetStep, step_of, target_step, after_execution, kept_bytes, has_accepted_size, is_held}
use Rattle.cip_class3.specs.declared.target.Received.{Received}
use Rattle.cip_class3.specs.declared.target.Received.TheVariants.{Dropped, Repeated, Executed}
use Rattle.cip_ledger.specs.Device.{Device}
use Rattle.cip_ledger.proofs.Devices.{exec_device-within}
use Rattle.enip_bench.specs.Events.{with_any}
use Rattle.enip_bench.specs.ObjectsRun.{after_exec, exec_answer}
use Rattle.enip_bench.proofs.HeldLemmas.{IsOfForm, has_form}
use Rattle.enip_bench.proofs.PositionLemmas.{Each, each-push}

abbrev pub IsShort : List ℕ → Type 0
IsShort bytes = length bytes ≤ LARGEST_CONNECTION_SIZE

-- the originator's O->T size, and the pending item
pub record IsSmallOriginator (originator : OriginatorState) : Type 0 where
  pub o_to_t_to : originator.o_to_t_size ≤ LARGEST_CONNECTION_SIZE
  pub waiting : (bytes : List ℕ) → waiting_item originator.phase ≡ Some bytes → IsShort bytes

-- the target's T->O size, and the reply that is held
pub record IsSmallTarget (target : TargetState) : Type 0 where
  pub t_to_o_from : 10 ≤ target.t_to_o_size
  pub t_to_o_to : target.t_to_o_size ≤ LARGEST_CONNECTION_SIZE
  pub kept : IsShort (kept_bytes target.held)

pub each-any : (o : Option (List ℕ)) (xs : List (List ℕ)) → Each IsShort xs →
    ((x : List ℕ) → o ≡ Some x → IsShort x) → Each IsShort (with_any o xs)
each-any None xs each one = each
each-any (Some x) xs each one = each-push IsShort xs x each (one x refl)

-- a submitted item
-- a request that is not refused has a valid form
pub allowed-formed : (originator : OriginatorState) (request : List ℕ) → submit_refusal originator request ≡ None →
    form_refusal originator.o_to_t_size request ≡ None
allowed-formed originator request e =
    let is : IsAllowed originator.unaccepted (is_waiting originator.phase) (form_refusal originator.o_to_t_size request) =
    first_refusal-none originator.unaccepted (is_waiting originator.phase) (form_refusal originator.o_to_t_size request) e in
    is.formed

pub submitted-short : (originator : OriginatorState) (request : List ℕ) → IsSmallOriginator originator →
    form_refusal originator.o_to_t_size request ≡ None → IsShort (item originator.next request)
submitted-short originator request small e =
    let form : IsOfForm originator.o_to_t_size request = has_form originator.o_to_t_size request e in
    omega (arith, form.fits, small.o_to_t_to)

pub small-submit : (originator : OriginatorState) (request : List ℕ) → IsSmallOriginator originator →
    form_refusal originator.o_to_t_size request ≡ None → IsSmallOriginator (with_next_request originator request)
small-submit originator request small e = record {
  o_to_t_to = small.o_to_t_to;
  waiting = λ bytes f. subst IsShort (same_Some (item originator.next request) bytes f)
      (submitted-short originator request small e);
}

pub small-idle : (originator : OriginatorState) → IsSmallOriginator originator → IsSmallOriginator (idle_again originator)
small-idle originator small = record { o_to_t_to = small.o_to_t_to; waiting = λ bytes f. absurd (cc) }

pub small-item : (originator : OriginatorState) (bytes : List ℕ) → IsSmallOriginator originator →
    IsSmallOriginator (after_item originator bytes)
small-item originator bytes small = go (is_reply originator.t_to_o_size originator.phase bytes)
  where
    go : (b : Bool) → IsSmallOriginator (cond b (idle_again originator) originator)
    go true = small-idle originator small
    go false = small

pub small-give_up : (originator : OriginatorState) → IsSmallOriginator originator →
    IsSmallOriginator (after_give_up originator)
small-give_up originator small = go originator.phase small.waiting
  where
    go : (phase : Phase) → ((bytes : List ℕ) → waiting_item phase ≡ Some bytes → IsShort bytes) →
        IsSmallOriginator (after_give_up (record originator { phase = phase }))
    go Idle short = record { o_to_t_to = small.o_to_t_to; waiting = short }
    go (Waiting count request) short = record { o_to_t_to = small.o_to_t_to; waiting = λ bytes f. absurd (cc) }
    go GivenUp short = record { o_to_t_to = small.o_to_t_to; waiting = short }

-- the target after a step
pub small-step : (target : TargetState) (router : Device) (bytes : List ℕ) → IsSmallTarget target →
    IsSmallTarget (target_step after_exec exec_answer target router bytes).target
small-step target router bytes small =
    go (has_accepted_size target bytes) (is_held target.held (sequence_count_of bytes))
  where
    executed : IsSmallTarget (after_execution after_exec exec_answer target router bytes).target
    executed =
        let fits : length (exec_answer router (target.t_to_o_size - 2) (message_of bytes)) ≤ target.t_to_o_size - 2
        = exec_device-within router (target.t_to_o_size - 2) (message_of bytes) (omega (arith, small.t_to_o_from)) in
        record {
          t_to_o_from = small.t_to_o_from;
          t_to_o_to = small.t_to_o_to;
          kept = omega (arith, fits, small.t_to_o_from, small.t_to_o_to);
        }

    go : (sized held : Bool) →
        IsSmallTarget (cond sized (cond held (step_of Repeated target router)
        (after_execution after_exec exec_answer target router bytes)) (step_of Dropped target router)).target
    go true true = small
    go true false = executed
    go false held = small

-- the answer to an item
pub answer-short : (step : TargetStep Device) → IsSmallTarget step.target → (bytes : List ℕ) →
    answer_to step ≡ Some bytes → IsShort bytes
answer-short step small bytes e = go step.received e
  where
    go : (r : Received) → answer_to (record step { received = r }) ≡ Some bytes → IsShort bytes
    go Dropped f = absurd (cc)
    go Repeated f = subst IsShort (same_Some (kept_bytes step.target.held) bytes f) small.kept
    go Executed f = subst IsShort (same_Some (kept_bytes step.target.held) bytes f) small.kept
