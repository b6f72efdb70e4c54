-- A reply that was written in place is the reply of the execution.
use Rattle.std.proofs.Common.{◌≡◌, ℕ, Bool, true, false, cond, nat_lt, List, [], ◌++◌, length, set, Result, Ok, Err, OnErr, ap}
use Rattle.cip_bytes.specs.Reading.{◌>>=◌}
use Rattle.cip_objects.specs.declared.status.Completion.{Completion}
use Rattle.cip_objects.specs.declared.status.Refusal.{Refusal}
use Rattle.cip_objects.specs.declared.status.Refusal.TheVariants.{ReplyDataTooLarge}
use Rattle.cip_bytes.specs.declared.protocol.GeneralStatus.TheVariants.{Success}
use Rattle.cip_objects.specs.Contents.{Contents}
use Rattle.cip_objects.specs.Execution.{Outcome, outcome, outcome_result, outcome_within, reply_to, Executed, with_reply, or_refusal, exec}
use Rattle.cip_objects.specs.ExecutionLaws.{reply_of_outcome}
use Rattle.cip_bytes.specs.Protocol.{general_status_number}
use Rattle.cip_objects.specs.Status.{completion_status, refusal_status}

-- the reply after its status was set
abbrev pub finished : List ℕ → Result Completion Refusal → List ℕ → List ℕ
finished text (Ok completion) reply = set reply 2 (general_status_number (completion_status completion))
finished text (Err s) reply = reply_to text (refusal_status s) []

pub record IsExecuted (x : Executed) (text : List ℕ) (new : Contents) (result : Result Completion Refusal) (reply : List ℕ) : Type 0 where
  pub state : new ≡ x.after
  pub text_is : finished text result reply ≡ x.answer

same_err : (s t : Refusal) → ◌≡◌ {A = Result Outcome Refusal} (Err s) (Err t) → s ≡ t
same_err s t e = cc

same_ok : (o p : Outcome) → ◌≡◌ {A = Result Outcome Refusal} (Ok o) (Ok p) → o ≡ p
same_ok o p e = cc

-- an outcome whose bytes fit the maximum size, or do not
abbrev pub left_by : Bool → List ℕ → Outcome → Result Outcome Refusal
left_by over text o = cond {A = Result (List ℕ) Refusal} over (Err ReplyDataTooLarge) (Ok (reply_to text Success [] ++ o.content))
    >>= λ content. Ok (record { after = o.after; status = o.status; content = content })

-- an outcome with its reply, if that fits the maximum size
abbrev pub answered_by : Bool → List ℕ → Outcome → Result Executed Refusal
answered_by over text o = cond {A = Result (List ℕ) Refusal} over (Err ReplyDataTooLarge) (Ok (reply_of_outcome text o))
    >>= λ answer. Ok (record { after = o.after; answer = answer })

-- the maximum size was too small, or it was not
went : (over : Bool) (m : Contents) (text : List ℕ) (o : Outcome) (new : Contents) (result : Result Completion Refusal) (reply : List ℕ) → OnErr result (new ≡ m)
    → outcome_result new result reply ≡ left_by over text o
    → IsExecuted (or_refusal m text (answered_by over text o)) text new result reply
went true m text o new (Ok status) reply un e = absurd (cc)
went true m text o new (Err s) reply un e = record {
  state = un;
  text_is = ap (λ x. reply_to text (refusal_status x) []) (same_err s ReplyDataTooLarge e);
}
went false m text o new (Err s) reply un e = absurd (cc)
went false m text o new (Ok status) reply un e =
    let same = same_ok (record { after = new; status = status; content = reply }) (record { after = o.after; status = o.status; content = reply_to text Success [] ++ o.content }) e in
    record {
      state = ap (λ x. x.after) same;
      text_is = ap (λ x. set x.content 2 (general_status_number (completion_status x.status))) same;
    }

is_executed : (m : Contents) (max_size : ℕ) (text : List ℕ) (r : Result Outcome Refusal) (new : Contents) (result : Result Completion Refusal) (reply : List ℕ) → OnErr result (new ≡ m)
    → outcome_result new result reply ≡ outcome_within max_size (reply_to text Success []) r
    → IsExecuted (or_refusal m text (r >>= with_reply max_size text)) text new result reply
is_executed m max_size text (Err s) new (Ok status) reply un e = absurd (cc)
is_executed m max_size text (Err s) new (Err t) reply un e = record {
  state = un;
  text_is = ap (λ x. reply_to text (refusal_status x) []) (same_err t s e);
}
is_executed m max_size text (Ok o) new result reply un e =
    went (nat_lt max_size (length (reply_of_outcome text o))) m text o new result reply un e

pub executed : (m : Contents) (max_size : ℕ) (text : List ℕ) (new : Contents) (result : Result Completion Refusal) (reply : List ℕ) → OnErr result (new ≡ m) → outcome_result new result reply ≡ outcome_within max_size (reply_to text Success []) (outcome m text) → (new ≡ (exec m max_size text).after) × (finished text result reply ≡ (exec m max_size text).answer)
unfolding exec
executed m max_size text new result reply un e =
    let x = is_executed m max_size text (outcome m text) new result reply un e in
    (x.state, x.text_is)
