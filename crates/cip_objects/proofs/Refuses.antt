-- A refusal never answers success, nor that an attribute of a list is missing.
use Rattle.std.proofs.Common.{◌≡◌, ℕ, ◌⊎◌, inl, inr, eqb, Bool, true, false, ◌||◌, List, Result, Ok, Err, refl, arith}
use Rattle.std.proofs.lemmas.Bool.Decides.{nat_tests}
use Rattle.cip_bytes.specs.Reading.{◌>>=◌}
use Rattle.cip_objects.specs.declared.status.Refusal.{Refusal}
use Rattle.cip_objects.specs.declared.status.Refusal.TheVariants.{PathSegmentError, PathDestinationUnknown, ServiceNotSupported, InvalidAttributeValue, AttributeNotSettable, ReplyDataTooLarge, NotEnoughData, AttributeNotSupported, TooMuchData, InvalidParameter, PathSizeInvalid, InvalidMemberId}
use Rattle.cip_objects.specs.Contents.{Contents}
use Rattle.cip_objects.specs.Execution.{Outcome, outcome, Executed, with_reply, or_refusal, exec}
use Rattle.cip_objects.specs.ExecutionLaws.{IsOutcome, is_outcome}
use Rattle.cip_message.specs.Router.{general_status}
use Rattle.cip_bytes.specs.Protocol.{general_status_number}
use Rattle.cip_objects.specs.Status.{refusal_status}

-- success, or that an attribute of a list is missing
abbrev pub IsFine : ℕ → Type 0
IsFine n = (n ≡ 0x00) ⊎ (n ≡ 0x0a)

abbrev is_fine : Refusal → Bool
is_fine s = eqb (general_status_number (refusal_status s)) 0x00 || eqb (general_status_number (refusal_status s)) 0x0a

none_fine : (s : Refusal) → is_fine s ≡ false
none_fine PathSegmentError = refl
none_fine PathDestinationUnknown = refl
none_fine ServiceNotSupported = refl
none_fine InvalidAttributeValue = refl
none_fine AttributeNotSettable = refl
none_fine ReplyDataTooLarge = refl
none_fine NotEnoughData = refl
none_fine AttributeNotSupported = refl
none_fine TooMuchData = refl
none_fine InvalidParameter = refl
none_fine PathSizeInvalid = refl
none_fine InvalidMemberId = refl

neither : (a b : Bool) → a || b ≡ false → a ≡ false
neither true b e = absurd (cc)
neither false b e = refl

pub no_success : (s : Refusal) → eqb (general_status_number (refusal_status s)) 0 ≡ false
no_success s = neither (eqb (general_status_number (refusal_status s)) 0x00) (eqb (general_status_number (refusal_status s)) 0x0a) (none_fine s)

not_both : (n : ℕ) → (eqb n 0x00 || eqb n 0x0a) ≡ false → IsFine n → ⊥
not_both n h (inl e) = grind (arith, nat_tests)
not_both n h (inr e) = grind (arith, nat_tests)

by_refusal : (m : Contents) (max_size : ℕ) (text : List ℕ) (r : Result Outcome Refusal) (q : Result Executed Refusal)
    → (r >>= with_reply max_size text) ≡ q → IsFine (general_status (or_refusal m text q).answer)
    → IsOutcome max_size text r (or_refusal m text q)
by_refusal m max_size text r (Ok x) e f = is_outcome max_size text r x e
by_refusal m max_size text r (Err s) e f = absurd (not_both (general_status_number (refusal_status s)) (none_fine s) f)

-- a reply that says one of these is that of an outcome
pub exec_outcome : (m : Contents) (max_size : ℕ) (text : List ℕ) → IsFine (general_status (exec m max_size text).answer)
    → IsOutcome max_size text (outcome m text) (exec m max_size text)
unfolding exec
exec_outcome m max_size text f = by_refusal m max_size text (outcome m text) (outcome m text >>= with_reply max_size text) refl f

either : (m : Contents) (max_size : ℕ) (text : List ℕ) (r : Result Outcome Refusal) (q : Result Executed Refusal)
    → (r >>= with_reply max_size text) ≡ q
    → ((or_refusal m text q).after ≡ m) ⊎ ((o : Outcome) × (r ≡ Ok o) × ((or_refusal m text q).after ≡ o.after))
either m max_size text r (Ok x) e = let p = is_outcome max_size text r x e in inr (p.made, p.is_made, p.after)
either m max_size text r (Err s) e = inl refl

-- an execution does not change the contents, or leaves those of its outcome
pub exec_left : (m : Contents) (max_size : ℕ) (text : List ℕ)
    → ((exec m max_size text).after ≡ m) ⊎ ((o : Outcome) × (outcome m text ≡ Ok o) × ((exec m max_size text).after ≡ o.after))
unfolding exec
exec_left m max_size text = either m max_size text (outcome m text) (outcome m text >>= with_reply max_size text) refl
