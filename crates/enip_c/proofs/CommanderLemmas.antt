-- The reply to an embedded request is no longer than the reply that contains it.
use Rattle.std.proofs.Common.{ℕ, ◌+◌, ◌*◌, ◌≤◌, ◌==◌, Bool, true, false, if◌then◌else◌, nat_lt, Option, Some, None, List, [], ◌∷◌}
use Rattle.std.proofs.Common.{length, drop, take, Ok, Err, arith}
use Rattle.std.proofs.lemmas.List.{length-drop}
use Rattle.cip_bytes.specs.Numbers.{words_of}
use Rattle.cip_message.specs.Reply.{Reply, reply_of, reply_service, reply_of_fields}
use Rattle.cip_message.specs.declared.reply.ReplyFault.TheVariants.{NotReply, Extra}
use Rattle.cip_message.specs.declared.ledger_services.TheConstants as services
use Rattle.cip_commander.specs.CommanderRule.{CommanderState, outcome_at, outcome_of, withdrawing_at, withdrawing_of}
use Rattle.cip_commander.specs.Withdrawing as withdrawing
use Rattle.cip_commander.specs.Withdrawing.{Withdrawing, withdrawing_of_data, withdrawing_refused, withdrawing_of_reply, withdrawing_of_text}
use Rattle.cip_commander.specs.Outcome.{Outcome, Done, StillPending, InDoubt, Withdrawn, Refused, Malformed, NotPending, outcome_of_data, outcome_of_reply, outcome_of_text}
use Rattle.enip_c.specs.CommanderCalls.{IsWithin, IsWithdrawingWithin}

within_choice : (size : ℕ) (is : Bool) (one other : Outcome) → IsWithin size one → IsWithin size other
    → IsWithin size (if is then one else other)
within_choice size true one other one_fits other_fits = one_fits
within_choice size false one other one_fits other_fits = other_fits

within_data : (size : ℕ) (bytes : List ℕ) → length bytes ≤ size → IsWithin size (outcome_of_data bytes)
within_data size [] fits = tt
within_data size (state ∷ reply) fits =
    within_choice size (state == 0) (Done reply)
    (if state == 1 then StillPending else (if state == 2 then InDoubt else (if state == 3 then Withdrawn else Malformed)))
    (omega (arith, fits))
    (within_choice size (state == 1) StillPending (if state == 2 then InDoubt else (if state == 3 then Withdrawn else Malformed)) tt
    (within_choice size (state == 2) InDoubt (if state == 3 then Withdrawn else Malformed) tt
    (within_choice size (state == 3) Withdrawn Malformed tt tt)))

within_reply : (size : ℕ) (is_request is_cut : Bool) (reply : Reply) → length reply.data ≤ size
    → IsWithin size (outcome_of_reply (if is_request then Err NotReply else (if is_cut then Err Extra else Ok reply)))
within_reply size true is_cut reply fits = tt
within_reply size false true reply fits = tt
within_reply size false false reply fits =
    within_choice size (reply.service == reply_service services.DO_ONCE)
    (if reply.status == 0 then outcome_of_data reply.data else Refused reply.status) Malformed
    (within_choice size (reply.status == 0) (outcome_of_data reply.data) (Refused reply.status)
    (within_data size reply.data fits) tt) tt

within_text : (text : List ℕ) → IsWithin (length text) (outcome_of_text text)
unfolding outcome_of_text reply_of
within_text [] = tt
within_text (service ∷ []) = tt
within_text (service ∷ reserved ∷ []) = tt
within_text (service ∷ reserved ∷ status ∷ []) = tt
within_text (service ∷ reserved ∷ status ∷ words ∷ rest) =
    within_reply (length (service ∷ reserved ∷ status ∷ words ∷ rest)) (nat_lt service 128)
    (nat_lt (length rest) (2 * words))
    (reply_of_fields service status (words_of (take (2 * words) rest)) (drop (2 * words) rest))
    (omega (arith, length-drop (2 * words) rest))

within_pending : (pending : Option (List ℕ)) (text : List ℕ) → IsWithin (length text) (outcome_at pending text)
within_pending None text = tt
within_pending (Some request) text = within_text text

within_size : (size other : ℕ) (outcome : Outcome) → size ≤ other → IsWithin size outcome → IsWithin other outcome
within_size size other (Done reply) fits is = omega (arith, fits, is)
within_size size other StillPending fits is = tt
within_size size other InDoubt fits is = tt
within_size size other Withdrawn fits is = tt
within_size size other (Refused status) fits is = tt
within_size size other Malformed fits is = tt
within_size size other NotPending fits is = tt

pub outcome_within : (c : CommanderState) (text : List ℕ) (size : ℕ) → length text ≤ size → IsWithin size (outcome_of c text)
outcome_within c text size fits =
    within_size (length text) size (outcome_of c text) fits (within_pending c.pending text)

-- ---- the same of a reply to Withdraw

withdrawing_choice : (size : ℕ) (is : Bool) (one other : Withdrawing) → IsWithdrawingWithin size one
    → IsWithdrawingWithin size other → IsWithdrawingWithin size (if is then one else other)
withdrawing_choice size true one other one_fits other_fits = one_fits
withdrawing_choice size false one other one_fits other_fits = other_fits

withdrawing_data : (size : ℕ) (bytes : List ℕ) → length bytes ≤ size → IsWithdrawingWithin size (withdrawing_of_data bytes)
withdrawing_data size [] fits = tt
withdrawing_data size (state ∷ reply) fits =
    let third : Withdrawing = if state == 3 then withdrawing.Withdrawn else withdrawing.Malformed in
    let second : Withdrawing = if state == 2 then withdrawing.InDoubt else third in
    let first : Withdrawing = if state == 1 then withdrawing.HandedOver else second in
    withdrawing_choice size (state == 0) (withdrawing.Done reply) first (omega (arith, fits))
    (withdrawing_choice size (state == 1) withdrawing.HandedOver second tt
    (withdrawing_choice size (state == 2) withdrawing.InDoubt third tt
    (withdrawing_choice size (state == 3) withdrawing.Withdrawn withdrawing.Malformed tt tt)))

withdrawing_status : (size status : ℕ) → IsWithdrawingWithin size (withdrawing_refused status)
withdrawing_status size status =
    let second : Withdrawing = if status == 0x10 then withdrawing.OtherLife else withdrawing.Refused status in
    withdrawing_choice size (status == 0x0c) withdrawing.Smaller second tt
    (withdrawing_choice size (status == 0x10) withdrawing.OtherLife (withdrawing.Refused status) tt tt)

withdrawing_reply : (size : ℕ) (is_request is_cut : Bool) (reply : Reply) → length reply.data ≤ size
    → IsWithdrawingWithin size (withdrawing_of_reply (if is_request then Err NotReply else (if is_cut then Err Extra else Ok reply)))
withdrawing_reply size true is_cut reply fits = tt
withdrawing_reply size false true reply fits = tt
withdrawing_reply size false false reply fits =
    withdrawing_choice size (reply.service == reply_service services.WITHDRAW)
    (if reply.status == 0 then withdrawing_of_data reply.data else withdrawing_refused reply.status) withdrawing.Malformed
    (withdrawing_choice size (reply.status == 0) (withdrawing_of_data reply.data) (withdrawing_refused reply.status)
    (withdrawing_data size reply.data fits) (withdrawing_status size reply.status)) tt

withdrawing_text : (text : List ℕ) → IsWithdrawingWithin (length text) (withdrawing_of_text text)
unfolding withdrawing_of_text reply_of
withdrawing_text [] = tt
withdrawing_text (service ∷ []) = tt
withdrawing_text (service ∷ reserved ∷ []) = tt
withdrawing_text (service ∷ reserved ∷ status ∷ []) = tt
withdrawing_text (service ∷ reserved ∷ status ∷ words ∷ rest) =
    withdrawing_reply (length (service ∷ reserved ∷ status ∷ words ∷ rest)) (nat_lt service 128)
    (nat_lt (length rest) (2 * words))
    (reply_of_fields service status (words_of (take (2 * words) rest)) (drop (2 * words) rest))
    (omega (arith, length-drop (2 * words) rest))

withdrawing_pending : (pending : Option (List ℕ)) (text : List ℕ) → IsWithdrawingWithin (length text) (withdrawing_at pending text)
withdrawing_pending None text = tt
withdrawing_pending (Some request) text = withdrawing_text text

withdrawing_size : (size other : ℕ) (outcome : Withdrawing) → size ≤ other → IsWithdrawingWithin size outcome → IsWithdrawingWithin other outcome
withdrawing_size size other withdrawing.Withdrawn fits is = tt
withdrawing_size size other withdrawing.HandedOver fits is = tt
withdrawing_size size other (withdrawing.Done reply) fits is = omega (arith, fits, is)
withdrawing_size size other withdrawing.InDoubt fits is = tt
withdrawing_size size other withdrawing.Smaller fits is = tt
withdrawing_size size other withdrawing.OtherLife fits is = tt
withdrawing_size size other (withdrawing.Refused status) fits is = tt
withdrawing_size size other withdrawing.Malformed fits is = tt
withdrawing_size size other withdrawing.NotPending fits is = tt

pub withdrawing_within : (c : CommanderState) (text : List ℕ) (size : ℕ) → length text ≤ size → IsWithdrawingWithin size (withdrawing_of c text)
withdrawing_within c text size fits =
    withdrawing_size (length text) size (withdrawing_of c text) fits (withdrawing_pending c.pending text)
