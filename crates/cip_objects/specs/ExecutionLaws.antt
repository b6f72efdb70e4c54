-- What holds of every execution: the laws of the trait `Router` for the objects.
use Rattle.std.specs.Prelude.{◌≡◌, ℕ, ◌≤◌, Bool, true, false, cond, nat_lt, List, length, Result, Ok, Err, refl}
use Rattle.std.proofs.Common.{sym, ap, subst, arith}
use Rattle.std.proofs.lemmas.Bool.Decides.{nat_tests}
use Rattle.cip_bytes.specs.Reading.{◌>>=◌}
use Rattle.cip_objects.specs.declared.status.Completion.{Completion}
use Rattle.cip_objects.specs.declared.status.Completion.TheVariants.{Whole, Partial}
use Rattle.cip_objects.specs.declared.status.Refusal.{Refusal}
use Rattle.cip_objects.specs.declared.status.Refusal.TheVariants.{ReplyDataTooLarge}
use Rattle.cip_objects.specs.Contents.{Contents}
use Rattle.cip_objects.specs.Execution.{Outcome, outcome, reply_to, Executed, with_reply, or_refusal, exec}
use Rattle.cip_message.specs.Router.{general_status, IsReplyTo, REPLY_TOO_LARGE}
use Rattle.cip_bytes.specs.Protocol.{general_status_number}
use Rattle.cip_objects.specs.Status.{completion_status}

-- The reply to an outcome.
abbrev pub reply_of_outcome : List ℕ → Outcome → List ℕ
reply_of_outcome text o = reply_to text (completion_status o.status) o.content

-- x is an outcome with its reply, which has at most `max_size` bytes.
pub record IsOutcome (max_size : ℕ) (text : List ℕ) (r : Result Outcome Refusal) (x : Executed) : Type 0 where
  pub made : Outcome
  pub is_made : r ≡ Ok made
  pub fits : length (reply_of_outcome text made) ≤ max_size
  pub after : x.after ≡ made.after
  pub answer : x.answer ≡ reply_of_outcome text made

same_ok : {A : Type 0} (x y : A) → ◌≡◌ {A = Result A Refusal} (Ok x) (Ok y) → x ≡ y
same_ok x y e = cc

by_test : (over : Bool) (max_size : ℕ) (text : List ℕ) (o : Outcome) (x : Executed)
    → nat_lt max_size (length (reply_of_outcome text o)) ≡ over
    → (cond {A = Result (List ℕ) Refusal} over (Err ReplyDataTooLarge) (Ok (reply_of_outcome text o))
    >>= λ answer. Ok (record { after = o.after; answer = answer }))
    ≡ Ok x → IsOutcome max_size text (Ok o) x
by_test true max_size text o x e f = absurd (cc)
by_test false max_size text o x e f =
    let same = same_ok (record { after = o.after; answer = reply_of_outcome text o }) x f in
    record {
      made = o;
      is_made = refl;
      fits = grind (arith, nat_tests);
      after = sym (ap (λ z. z.after) same);
      answer = sym (ap (λ z. z.answer) same);
    }

-- A request that is not refused has an outcome with its reply.
pub is_outcome : (max_size : ℕ) (text : List ℕ) (r : Result Outcome Refusal) (x : Executed)
    → (r >>= with_reply max_size text) ≡ Ok x → IsOutcome max_size text r x
is_outcome max_size text (Ok o) x e = by_test (nat_lt max_size (length (reply_of_outcome text o))) max_size text o x refl e
is_outcome max_size text (Err s) x e = absurd (cc)

not_too_large : (c : Completion) → general_status_number (completion_status c) ≡ REPLY_TOO_LARGE → ⊥
not_too_large Whole e = omega arith
not_too_large Partial e = omega arith

too_large : (m : Contents) (max_size : ℕ) (text : List ℕ) (r : Result Outcome Refusal) (q : Result Executed Refusal)
    → (r >>= with_reply max_size text) ≡ q → general_status (or_refusal m text q).answer ≡ REPLY_TOO_LARGE
    → (or_refusal m text q).after ≡ m
too_large m max_size text r (Err s) e f = refl
too_large m max_size text r (Ok x) e f =
    let p = is_outcome max_size text r x e in
    absurd (not_too_large p.made.status (subst (λ a. general_status a ≡ REPLY_TOO_LARGE) p.answer f))

-- If a reply is too large, the contents are unchanged.
pub exec_too_large : (m : Contents) (max_size : ℕ) (text : List ℕ)
    → general_status (exec m max_size text).answer ≡ REPLY_TOO_LARGE → (exec m max_size text).after ≡ m
unfolding exec
exec_too_large m max_size text e = too_large m max_size text (outcome m text) (outcome m text >>= with_reply max_size text) refl e

begins : (m : Contents) (max_size : ℕ) (text : List ℕ) (r : Result Outcome Refusal) (q : Result Executed Refusal)
    → (r >>= with_reply max_size text) ≡ q → IsReplyTo text (or_refusal m text q).answer
begins m max_size text r (Err s) e = record { head = omega arith; service = refl }
begins m max_size text r (Ok x) e =
    let p = is_outcome max_size text r x e in
    subst (IsReplyTo text) (sym p.answer) (record { head = omega arith; service = refl })

-- Each reply has a head, and answers the service of the request.
pub exec_begins : (m : Contents) (max_size : ℕ) (text : List ℕ) → IsReplyTo text (exec m max_size text).answer
unfolding exec
exec_begins m max_size text = begins m max_size text (outcome m text) (outcome m text >>= with_reply max_size text) refl

within : (m : Contents) (max_size : ℕ) (text : List ℕ) (r : Result Outcome Refusal) (q : Result Executed Refusal)
    → 8 ≤ max_size → (r >>= with_reply max_size text) ≡ q → length (or_refusal m text q).answer ≤ max_size
within m max_size text r (Err s) h e = omega arith
within m max_size text r (Ok x) h e =
    let p = is_outcome max_size text r x e in subst (λ a. length a ≤ max_size) (sym p.answer) p.fits

-- Each reply has at most `max_size` bytes.
pub exec_within : (m : Contents) (max_size : ℕ) (text : List ℕ) → 8 ≤ max_size → length (exec m max_size text).answer ≤ max_size
unfolding exec
exec_within m max_size text h = within m max_size text (outcome m text) (outcome m text >>= with_reply max_size text) h refl
