-- What is held, and what the replies are, as the log gives them.
use Rattle.std.proofs.Common.{◌≡◌, ℕ, ◌+◌, ◌-◌, ◌<◌, ◌≤◌, inl, inr, Bool, true, false, cond, ◌||◌, ◌==◌, Some, None, List, [], ◌∷◌, length, slice_get, slice_index, refl, ap, ap₂, sym, ◌∙◌, subst, arith, leb, ltb, leb-true, eqb-true, eq-eqb, ne_eqb}
use Rattle.std.proofs.lemmas.Bool.{or_left, or_from, both_ways, cases_order, cond-true, cond-false, and_parts}
use Rattle.cip_class3.specs.Item.{item}
use Rattle.cip_class3.specs.TargetRule.{is_held, kept_bytes}
use Rattle.cip_class3.specs.OriginatorRule.{form_refusal, is_request}
use Rattle.cip_class3.specs.declared.originator.Refused.{Refused}
use Rattle.cip_class3.specs.declared.originator.Refused.TheVariants.{TooLong, NoRequest}
use Rattle.cip_message.specs.Router.{IsReplyTo}
use Rattle.enip_adapter.specs.OwnWrites.{OwnWrite}
use Rattle.enip_bench.proofs.CountLemmas.{count_of, count_of-differs}
use Rattle.enip_bench.proofs.Image.{router_of, reply_of, held_of}
use Rattle.enip_bench.proofs.LogLemmas.{next_logged, Falls, IsSubmitted, AreSubmitted, logged_below, not_logged}
use Rattle.enip_bench.proofs.Soundness.{HaveForm}
use Rattle.enip_bench.proofs.TrackedWorld.{Own, Logged, OwnLogged, OtherLogged, WriteLogged, is_logged}

-- the limits that a valid form sets on a request's size
pub record IsOfForm (o_to_t_size : ℕ) (request : List ℕ) : Type 0 where
  pub least : 2 ≤ length request
  pub fits : length request + 2 ≤ o_to_t_size

form_parts : (a b : Bool) (long none : Refused) → cond a (cond b None (Some long)) (Some none) ≡ None →
    (a ≡ true) × (b ≡ true)
form_parts true true long none e = (refl, refl)
form_parts true false long none e = absurd (cc)
form_parts false true long none e = absurd (cc)
form_parts false false long none e = absurd (cc)

pub has_form : (o_to_t_size : ℕ) (request : List ℕ) → form_refusal o_to_t_size request ≡ None →
    IsOfForm o_to_t_size request
has_form o_to_t_size request e =
    let parts = form_parts (is_request request) (leb (length request + 2) o_to_t_size) TooLong NoRequest e in
    record {
      least = leb-true 2 (length request)
          ((and_parts (leb 2 (length request)) (ltb (slice_index request 0) 128) parts.0).0);
      fits = leb-true (length request + 2) o_to_t_size parts.1;
    }

-- the reply to a submit with this number, at this T->O size
pub record IsAnswered (t_to_o_size : ℕ) (submits : List (List ℕ)) (number : ℕ) (reply : List ℕ) : Type 0 where
  pub request : List ℕ
  pub submitted : slice_get submits number ≡ Some request
  pub answers : IsReplyTo request reply
  pub within : length reply ≤ t_to_o_size - 2

module _ {M : Type 0} (after : M → ℕ → List ℕ → M) (answer : M → ℕ → List ℕ → List ℕ)
    (written : OwnWrite → M → M) (first t_to_o_size : ℕ)
    (start : M) where
  -- Take a number that is not below the newest one, and less than 65,536 above it. Its count is the held one if and
  -- only if the number is in the log.
  pub held-logged : (log : List Logged) (number : ℕ) → Falls log → next_logged log ≤ number + 1 →
      number < next_logged log + 65535 →
      is_held (held_of after answer written first t_to_o_size start log) (count_of first number) ≡ is_logged number log
  held-logged [] number falls above near = refl
  held-logged (OwnLogged own ∷ log) number falls above near = elim (cases_order own.number number) [
    | inl same ↦ eq-eqb (count_of first own.number) (count_of first number) (ap (count_of first) same)
        ∙ sym (or_left (own.number == number) (is_logged number log) (eq-eqb own.number number same))
    | inr (inl below) ↦ ne_eqb (count_of first own.number) (count_of first number)
        (count_of-differs first own.number number below (omega arith))
        ∙ sym (or_from (own.number == number) (is_logged number log) (ne_eqb own.number number (omega arith))
        (not_logged log number falls.1 (omega (arith, falls.0))))
    | inr (inr beyond) ↦ absurd (omega arith)
  ]
  held-logged (OtherLogged request ∷ log) number falls above near = held-logged log number falls above near
  held-logged (WriteLogged write ∷ log) number falls above near = held-logged log number falls above near

  -- the item that is held is the newest number's, with its reply
  pub kept-newest : (log : List Logged) (number : ℕ) → Falls log → next_logged log ≤ number + 1 → is_logged number log
      ≡ true →
      kept_bytes (held_of after answer written first t_to_o_size start log)
      ≡ item (count_of first number) (reply_of after answer written first t_to_o_size start log number)
  kept-newest [] number falls above is = absurd (cc)
  kept-newest (OwnLogged own ∷ log) number falls above is =
      let same : own.number ≡ number = omega (arith, logged_below (OwnLogged own ∷ log) number falls is) in
      let reply = answer (router_of after answer written first t_to_o_size start log) (t_to_o_size - 2) own.request in
      ap₂ item (ap (count_of first) same)
      (sym (cond-true (own.number == number) reply (reply_of after answer written first t_to_o_size start log number)
      (eq-eqb own.number number same)))
  kept-newest (OtherLogged request ∷ log) number falls above is = kept-newest log number falls above is
  kept-newest (WriteLogged write ∷ log) number falls above is = kept-newest log number falls above is

  -- the reply to a request that is executed now
  pub reply-new : (log : List Logged) (own : Own) →
      reply_of after answer written first t_to_o_size start (OwnLogged own ∷ log) own.number
      ≡ answer (router_of after answer written first t_to_o_size start log) (t_to_o_size - 2) own.request
  reply-new log own = cond-true (own.number == own.number)
      (answer (router_of after answer written first t_to_o_size start log) (t_to_o_size - 2) own.request)
      (reply_of after answer written first t_to_o_size start log own.number) (eq-eqb own.number own.number refl)

  -- earlier replies don't change
  pub reply-kept : (log : List Logged) (own : Own) (number : ℕ) → is_logged own.number log ≡ false →
      is_logged number log ≡ true →
      reply_of after answer written first t_to_o_size start log number
      ≡ reply_of after answer written first t_to_o_size start (OwnLogged own ∷ log) number
  reply-kept log own number new old = sym (cond-false (own.number == number)
      (answer (router_of after answer written first t_to_o_size start log) (t_to_o_size - 2) own.request)
      (reply_of after answer written first t_to_o_size start log number)
      (ne_eqb own.number number (λ e. both_ways (is_logged number log) (subst (λ n. is_logged n log ≡ false) e new)
      old)))

module _ {M : Type 0} (after : M → ℕ → List ℕ → M) (answer : M → ℕ → List ℕ → List ℕ)
    (written : OwnWrite → M → M) (first t_to_o_size : ℕ)
    (start : M)
    (roomy : 10 ≤ t_to_o_size)
    (begins : (router : M) (room : ℕ) (request : List ℕ) → 8 ≤ room → 2 ≤ length request →
    IsReplyTo request (answer router room request))
    (within : (router : M) (room : ℕ) (request : List ℕ) → 8 ≤ room → 2 ≤ length request →
    length (answer router room request) ≤ room) where
  pub answered-now : (submits : List (List ℕ)) (router : M) (own : Own) → IsSubmitted submits own → 2 ≤ length own.request →
      IsAnswered t_to_o_size submits own.number (answer router (t_to_o_size - 2) own.request)
  answered-now submits router own is least = record {
    request = own.request;
    submitted = is;
    answers = begins router (t_to_o_size - 2) own.request (omega arith) least;
    within = within router (t_to_o_size - 2) own.request (omega arith) least;
  }

  by_test : (submits : List (List ℕ)) (log : List Logged) (own : Own) (number : ℕ) (is : Bool) →
      (own.number == number) ≡ is →
      IsAnswered t_to_o_size submits own.number
      (answer (router_of after answer written first t_to_o_size start log) (t_to_o_size - 2) own.request) →
      (is_logged number log ≡ true →
      IsAnswered t_to_o_size submits number (reply_of after answer written first t_to_o_size start log number)) →
      (is || is_logged number log) ≡ true →
      IsAnswered t_to_o_size submits number
      (cond is (answer (router_of after answer written first t_to_o_size start log) (t_to_o_size - 2) own.request)
      (reply_of after answer written first t_to_o_size start log number))
  by_test submits log own number true e now before is =
      subst (λ n. IsAnswered t_to_o_size submits n
      (answer (router_of after answer written first t_to_o_size start log) (t_to_o_size - 2) own.request))
      (eqb-true own.number number e) now
  by_test submits log own number false e now before is = before is

  -- each executed request has a reply to its submit, within the T->O size
  pub reply-answers : (o_to_t_size : ℕ) (submits : List (List ℕ)) (log : List Logged) (number : ℕ) →
      HaveForm o_to_t_size submits →
      AreSubmitted submits log → is_logged number log ≡ true →
      IsAnswered t_to_o_size submits number (reply_of after answer written first t_to_o_size start log number)
  reply-answers o_to_t_size submits [] number have are is = absurd (cc)
  reply-answers o_to_t_size submits (OwnLogged own ∷ log) number have are is =
      by_test submits log own number (own.number == number) refl
      (answered-now submits (router_of after answer written first t_to_o_size start log) own are.0
      ((has_form o_to_t_size own.request (have own.number own.request are.0)).least))
      (reply-answers o_to_t_size submits log number have are.1) is
  reply-answers o_to_t_size submits (OtherLogged request ∷ log) number have are is =
      reply-answers o_to_t_size submits log number have are is
  reply-answers o_to_t_size submits (WriteLogged write ∷ log) number have are is =
      reply-answers o_to_t_size submits log number have are is
