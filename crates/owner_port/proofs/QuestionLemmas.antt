-- Questions that are admitted, and replies that are given.
use Rattle.std.proofs.Common.{◌≡◌, ◌<◌, ℕ, zero, suc, ◌==◌, ◌&&◌, not, Bool, true, false, List, [], ◌∷◌, length, slice_index_or, remove, Option, Some, None, Vec, Global, refl, sym, ap, subst, arith}
use Rattle.std.specs.List.{position}
use Rattle.std.proofs.lemmas.Bool.{false≢true}
use Rattle.std.proofs.lemmas.Option.{none-some, same_Some}
use Rattle.cip_objects.specs.OwnRequests.{Asked}
use Rattle.cip_owner.specs.Owned.{is_fit}
use Rattle.cip_owner.specs.Replies.{Reply}
use Rattle.owner_port.specs.declared.fault.LineFault.{LineFault}
use Rattle.owner_port.specs.declared.prepared_reply.ReplyTo.{ReplyTo}
use Rattle.owner_port.specs.declared.questions.Question.{Question}
use Rattle.owner_port.specs.declared.questions.Questions.{Questions}
use Rattle.owner_port.specs.Questions.{IsTaken, IsAdmittedBy, IsAdmittedAt, IsAdmitted, is_at, is_settled, is_same, reply_of_question, answered_in, fault_in, is_question, limit_of, settled_by, unfit_fault, fits_reply, reply_if, left_after, given_once_law, given_to_asked_law}

-- ---- admitted or not

taken_waits : (peer index : ℕ) (old : Questions) (taken : Bool) → taken ≡ true
    → IsAdmittedBy (not taken && is_at peer old.list.items index) index old false old
taken_waits peer index old true is = (refl, refl)
taken_waits peer index old false is = absurd (false≢true is)

other_waits : (index : ℕ) (old : Questions) (taken here : Bool) → here ≡ false → IsAdmittedBy (not taken && here) index old false old
other_waits index old true here is = (refl, refl)
other_waits index old false true is = absurd (false≢true (sym is))
other_waits index old false false is = (refl, refl)

pub waits_taken : (peer index : ℕ) (old : Questions) → position is_settled old.list.items ≡ Some index → old.is_taken ≡ true
    → IsAdmitted peer old false old
waits_taken peer index old first taken =
    subst (λ p. IsAdmittedAt peer p old false old) (sym first) (taken_waits peer index old old.is_taken taken)

pub waits_other : (peer index : ℕ) (old : Questions) → position is_settled old.list.items ≡ Some index
    → is_at peer old.list.items index ≡ false → IsAdmitted peer old false old
waits_other peer index old first other =
    subst (λ p. IsAdmittedAt peer p old false old) (sym first)
    (other_waits index old old.is_taken (is_at peer old.list.items index) other)

pub is_admitted : (peer index : ℕ) (old new : Questions) → position is_settled old.list.items ≡ Some index
    → old.is_taken ≡ false → is_at peer old.list.items index ≡ true → IsTaken index old new → IsAdmitted peer old true new
is_admitted peer index old new first free here takes =
    subst (λ p. IsAdmittedAt peer p old true new) (sym first)
    (subst (λ t. IsAdmittedBy (not t && is_at peer old.list.items index) index old true new) (sym free)
    (subst (λ h. IsAdmittedBy (true && h) index old true new) (sym here) (refl, takes)))

pub takes : (index : ℕ) (old : Questions) (list : Vec Question Global) (question : Question) (prepared : Option ReplyTo)
    → question ≡ slice_index_or old.list.items index question → list.items ≡ remove old.list.items index
    → prepared ≡ reply_of_question question
    → IsTaken index old (record old { list = list; is_taken = true; prepared = prepared })
takes index old list question prepared there left is = record {
  question = question;
  there = there;
  list = left;
  same = ap (λ p. let q : Questions = record old { list = list; is_taken = true; prepared = p } in q) is;
}

-- the request at an index
pub at_index : (peer : ℕ) (qs : List Question) (index : ℕ) (q : Question) → index < length qs
    → q ≡ slice_index_or qs index q → is_at peer qs index ≡ (q.peer == peer)
at_index peer [] index q inside is = absurd (omega (arith, inside))
at_index peer (first ∷ qs) zero q inside is = ap (λ (x : Question). x.peer == peer) (sym is)
at_index peer (first ∷ qs) (suc index) q inside is = at_index peer qs index q (omega (arith, inside)) is

-- ---- an answer that is refused

settled_as : (q : Question) (reply : Reply) (why : LineFault) → unfit_fault (limit_of q.request) reply ≡ Some why
    → settled_by reply q ≡ q
settled_as q reply why is = rw is refl

refused_here : (q : Question) (qs : List Question) (number : ℕ) (reply : Reply) (why : LineFault) (here : Bool)
    → is_question number q ≡ here → fault_in number reply (q ∷ qs) ≡ Some why
    → (fault_in number reply qs ≡ Some why → answered_in number reply qs ≡ qs) → answered_in number reply (q ∷ qs) ≡ q ∷ qs
refused_here q qs number reply why true here is more =
    let unfit : unfit_fault (limit_of q.request) reply ≡ Some why = rw here at is in
    rw here (ap (λ x. x ∷ qs) (settled_as q reply why unfit))
refused_here q qs number reply why false here is more =
    let later : fault_in number reply qs ≡ Some why = rw here at is in
    rw here (ap (λ xs. q ∷ xs) (more later))

-- it changes nothing
pub refused_still : (qs : List Question) (number : ℕ) (reply : Reply) (why : LineFault)
    → fault_in number reply qs ≡ Some why → answered_in number reply qs ≡ qs
refused_still [] number reply why is = refl
refused_still (q ∷ qs) number reply why is =
    refused_here q qs number reply why (is_question number q) refl is (refused_still qs number reply why)

-- ---- the laws

given_left : (prepared : Option ReplyTo) (asked other : Asked) (reply : Reply) (fits : Bool)
    → (r : ReplyTo) → prepared ≡ Some r → fits_reply r asked ≡ fits → reply_if prepared asked ≡ Some reply
    → reply_if (left_after prepared asked) other ≡ None
given_left prepared asked other reply true r is fits given = rw (is, fits) refl
given_left prepared asked other reply false r is fits given = absurd (none-some reply (rw (is, fits) at given))

once_by : (prepared : Option ReplyTo) (asked other : Asked) (reply : Reply) → reply_if prepared asked ≡ Some reply
    → reply_if (left_after prepared asked) other ≡ None
once_by None asked other reply given = absurd (none-some reply given)
once_by (Some r) asked other reply given = given_left (Some r) asked other reply (fits_reply r asked) r refl refl given

pub given_once : given_once_law
given_once p asked other reply given = once_by p.prepared asked other reply given

both_true : (a b : Bool) → (a && b) ≡ true → (a ≡ true) × (b ≡ true)
both_true true b is = (refl, is)
both_true false b is = absurd (false≢true is)

abbrev IsGivenOf : Option ReplyTo → Asked → Reply → Type 0
IsGivenOf prepared asked reply = (r : ReplyTo) × (prepared ≡ Some r) × (is_same r.request asked ≡ true)
    × (is_fit asked reply ≡ true) × (r.reply ≡ reply)

given_fits : (r : ReplyTo) (asked : Asked) (reply : Reply) (fits : Bool) → fits_reply r asked ≡ fits
    → reply_if (Some r) asked ≡ Some reply → IsGivenOf (Some r) asked reply
given_fits r asked reply true fits given =
    let same : r.reply ≡ reply = same_Some r.reply reply (rw fits at given) in
    let both = both_true (is_same r.request asked) (is_fit asked r.reply) fits in
    (r, refl, both.0, subst (λ x. is_fit asked x ≡ true) same both.1, same)
given_fits r asked reply false fits given = absurd (none-some reply (rw fits at given))

asked_by : (prepared : Option ReplyTo) (asked : Asked) (reply : Reply) → reply_if prepared asked ≡ Some reply
    → IsGivenOf prepared asked reply
asked_by None asked reply given = absurd (none-some reply given)
asked_by (Some r) asked reply given = given_fits r asked reply (fits_reply r asked) refl given

pub given_to_asked : given_to_asked_law
given_to_asked p asked reply given = asked_by p.prepared asked reply given
