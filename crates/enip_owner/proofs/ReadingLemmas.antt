-- What a line of an owner says, step by step.
use Rattle.std.proofs.Common.{◌≡◌, ℕ, ◌+◌, ◌<◌, ◌≤◌, ◌^◌, ◌&&◌, nat_lt, Bool, true, false, List, [], ◌∷◌, ◌++◌, length, take, drop, get_or, map, cond, ◌⊎◌, inl, inr}
use Rattle.std.proofs.Common.{Result, Ok, Err, Option, Some, None, Bor, refl, sym, ap, subst, ◌∙◌, append_assoc, append-nil, add-one, drop-cons, arith, rules}
use Rattle.std.proofs.lemmas.Bool.{lt-ltb, le-ltb, ltb-true, and_from, and_parts, and_right}
use Rattle.std.proofs.lemmas.Bool.Decides.{nat_tests}
use Rattle.std.proofs.lemmas.List.{drop_all, map-append}
use Rattle.std.proofs.lemmas.Option.{none-some, same_Some}
use Rattle.std.specs.Char.{is_digit}
use Rattle.std.specs.List.{list_all}
use Rattle.std.specs.Str.Parse.{IsNumeral, digits_value}
use Rattle.std.specs.declared.alloc.Global.{Global}
use Rattle.cip_values.proofs.ParsingLemmas.{digits-from_all, all-from_digits}
use Rattle.json.specs.Json.{Json}
use Rattle.json.specs.Strict.{HasUniqueKeys}
use Rattle.json.specs.Value.{value_view, items_view, members_view}
use Rattle.json.specs.Json as json
use Rattle.json.specs.declared.value.Value.{Value, Number, the_lemmas}
use Rattle.enip_owner.specs.declared.owner_fault.RequestKey.{RequestKey}
use Rattle.enip_owner.specs.declared.owner_fault.OwnerFault.{OwnerFault}
use Rattle.enip_owner.specs.declared.owner_fault.OwnerFault.TheVariants as faults
use Rattle.enip_owner.specs.declared.request.GivenValue.{GivenValue}
use Rattle.enip_owner.specs.Requests.{Given, given_in, Request, ◌>>=◌, is_numeral, number_spelled, value_given, items_given, is_known, are_known, member_in, only_member, request_of, Gives, Fails}
use Rattle.enip_owner.specs.Requests.{IsNotJson, IsJsonText, Says}

-- ---- numbers

pub view-Number : (text : Bor (List ℕ)) → value_view {A = Global} (Number text) ≡ json.number text.now
view-Number text = search (rules, the_lemmas)

numeral-from_digits : (text : List ℕ) → IsNumeral 10 text → is_numeral text ≡ true
numeral-from_digits text is =
    and_from (nat_lt 0 (length text)) (list_all (λ byte. is_digit byte 10) text) (lt-ltb 0 (length text) is.0) (all-from_digits 10 text is.1)

digits-from_numeral : (text : List ℕ) (some all : Bool) → nat_lt 0 (length text) ≡ some → list_all (λ byte. is_digit byte 10) text ≡ all
    → (some && all) ≡ true → IsNumeral 10 text
digits-from_numeral text true true some_is all_is both = (grind (arith, nat_tests, some_is), digits-from_all 10 text all_is)
digits-from_numeral text true false some_is all_is both = cc
digits-from_numeral text false all some_is all_is both = cc

pub in_range : (limit : ℕ) (key : RequestKey) (text bytes : List ℕ) (number : ℕ) → bytes ≡ text → IsNumeral 10 bytes
    → number ≡ digits_value 10 bytes → number < limit → number_spelled limit key text ≡ Ok number
in_range limit key text bytes number same is value below =
    subst (λ (t : List ℕ). number_spelled limit key t ≡ Ok number) same
    (rw (numeral-from_digits bytes is, lt-ltb (digits_value 10 bytes) limit (omega (arith, value, below))) (ap Ok (sym value)))

pub over_range : (limit : ℕ) (key : RequestKey) (text bytes : List ℕ) (number : ℕ) → bytes ≡ text
    → number ≡ digits_value 10 bytes → limit ≤ number → number_spelled limit key text ≡ Err (faults.OutOfRange key)
over_range limit key text bytes number same value over =
    subst (λ (t : List ℕ). number_spelled limit key t ≡ Err (faults.OutOfRange key)) same
    (rw (and_right (is_numeral bytes) (nat_lt (digits_value 10 bytes) limit) (le-ltb (digits_value 10 bytes) limit (omega (arith, value, over)))) refl)

unspelled : (limit : ℕ) (key : RequestKey) (text : List ℕ) (numeral below : Bool) → is_numeral text ≡ numeral
    → nat_lt (digits_value 10 text) limit ≡ below → ((numeral && below) ≡ true → ⊥) → number_spelled limit key text ≡ Err (faults.OutOfRange key)
unspelled limit key text true true numeral_is below_is never = absurd (never refl)
unspelled limit key text true false numeral_is below_is never = rw (numeral_is, below_is) refl
unspelled limit key text false below numeral_is below_is never = rw numeral_is refl

pub no_number : (limit : ℕ) (key : RequestKey) (text bytes : List ℕ) → bytes ≡ text → limit ≤ 2 ^ 64
    → (IsNumeral 10 bytes × (digits_value 10 bytes < 2 ^ 64) → ⊥) → number_spelled limit key text ≡ Err (faults.OutOfRange key)
no_number limit key text bytes same most never =
    subst (λ (t : List ℕ). number_spelled limit key t ≡ Err (faults.OutOfRange key)) same
    (unspelled limit key bytes (is_numeral bytes) (nat_lt (digits_value 10 bytes) limit) refl refl
    (λ both.
    let parts = and_parts (is_numeral bytes) (nat_lt (digits_value 10 bytes) limit) both in
    never (
      digits-from_numeral bytes (nat_lt 0 (length bytes)) (list_all (λ byte. is_digit byte 10) bytes) refl refl parts.0,
      omega (arith, most, ltb-true (digits_value 10 bytes) limit parts.1),
    )))

-- ---- keys

abbrev Member : Type 0
Member = Bor (List ℕ) × Value Global

pub member_step : (known : List RequestKey) (members : List Member) (index : ℕ) (default_ : Member) → index < length members
    → are_known known (members_view (drop index members))
    ≡ (is_known known (get_or members index default_).0.now && are_known known (members_view (drop (index + 1) members)))
member_step known members index default_ inside = rw (add-one, drop-cons members index default_) refl

pub no_members_left : (known : List RequestKey) (members : List Member) (index : ℕ) → length members ≤ index
    → are_known known (members_view (drop index members)) ≡ true
no_members_left known members index done = rw (drop_all index members done) refl

pub not_one_member : (members : List Member) → (length members ≡ 1 → ⊥) → only_member (members_view members) ≡ Err faults.NotRequest
not_one_member [] other = refl
not_one_member (member ∷ []) other = absurd (other refl)
not_one_member (member ∷ next ∷ members) other = refl

pub one_member : (members : List Member) (default_ : Member) → length members ≡ 1
    → only_member (members_view members) ≡ member_in (get_or members 0 default_).0.now (value_view (get_or members 0 default_).1)
one_member [] default_ one = absurd (omega (arith, one))
one_member (member ∷ []) default_ one = refl
one_member (member ∷ next ∷ members) default_ one = absurd (omega (arith, one))

-- ---- values

-- Values in front of those that follow.
abbrev pub in_front : List Given → Result (List Given) OwnerFault → Result (List Given) OwnerFault
in_front front rest = rest >>= (λ values. Ok (front ++ values))

pub nothing_in_front : (rest : Result (List Given) OwnerFault) → rest ≡ in_front [] rest
nothing_in_front (Ok values) = refl
nothing_in_front (Err fault) = refl

one_more : (front : List Given) (value : Given) (rest : Result (List Given) OwnerFault)
    → in_front front (rest >>= (λ values. Ok (value ∷ values))) ≡ in_front (front ++ value ∷ []) rest
one_more front value (Ok values) = ap Ok (sym (append_assoc front (value ∷ []) values))
one_more front value (Err fault) = refl

item_read : (items : List (Value Global)) (index : ℕ) (default_ : Value Global) → index < length items
    → items_given (items_view (drop index items))
    ≡ (value_given (value_view (get_or items index default_)) >>= (λ value. items_given (items_view (drop (index + 1) items)) >>= (λ values. Ok (value ∷ values))))
unfolding items_given
item_read items index default_ inside = rw (add-one, drop-cons items index default_) refl

pub item_step : (items : List (Value Global)) (index : ℕ) (default_ : Value Global) (front : List GivenValue) (value : GivenValue) → index < length items
    → value_given (value_view (get_or items index default_)) ≡ Ok (given_in value)
    → in_front (map given_in front) (items_given (items_view (drop index items)))
    ≡ in_front (map given_in (front ++ value ∷ [])) (items_given (items_view (drop (index + 1) items)))
item_step items index default_ front value inside is =
    ap (in_front (map given_in front)) (item_read items index default_ inside)
    ∙ ap (λ (r : Result Given OwnerFault). in_front (map given_in front)
    (r >>= (λ v. items_given (items_view (drop (index + 1) items)) >>= (λ values. Ok (v ∷ values))))) is
    ∙ one_more (map given_in front) (given_in value) (items_given (items_view (drop (index + 1) items)))
    ∙ ap (λ (l : List Given). in_front l (items_given (items_view (drop (index + 1) items)))) (sym (map-append given_in front (value ∷ [])))

pub item_fails : (items : List (Value Global)) (index : ℕ) (default_ : Value Global) (front : List Given) (fault : OwnerFault) → index < length items
    → value_given (value_view (get_or items index default_)) ≡ Err fault
    → in_front front (items_given (items_view (drop index items))) ≡ Err fault
item_fails items index default_ front fault inside is =
    ap (in_front front) (item_read items index default_ inside)
    ∙ ap (λ (r : Result Given OwnerFault). in_front front
    (r >>= (λ v. items_given (items_view (drop (index + 1) items)) >>= (λ values. Ok (v ∷ values))))) is

pub all_given : (items : List (Value Global)) (index : ℕ) (front : List Given) → length items ≤ index
    → in_front front (items_given (items_view (drop index items))) ≡ Ok front
unfolding items_given
all_given items index front done = rw (drop_all index items done) (ap Ok (append-nil front))

-- ---- refusals

-- If the first refusal is that of the definition, so is the second.
pub also_fails : {A B : Type 0} (fault : OwnerFault) (said : Result A OwnerFault) (other : Result B OwnerFault) → Fails fault said
    → (said ≡ Err fault → other ≡ Err fault) → Fails fault other
also_fails faults.Memory said other is more = tt
also_fails fault said other is more = more is

-- ---- one line says one thing

never_both : (line : List ℕ) (j : Json) → IsNotJson line → IsJsonText line j → ⊥
never_both line j (inl never) is = never is.0
never_both line j (inr none) is = none-some j (sym none ∙ is.1)

same_value : (line : List ℕ) (j k : Json) → IsJsonText line j → IsJsonText line k → j ≡ k
same_value line j k is too = same_Some j k (sym is.1 ∙ too.1)

pub one_reading : (line : List ℕ) → (one other : Result Request OwnerFault) → Says line one → Says line other → one ≡ other
one_reading line one other (inl is) (inl too) = is.1 ∙ sym too.1
one_reading line one other (inl is) (inr (inl too)) = absurd (never_both line too.0 is.0 too.1.0)
one_reading line one other (inl is) (inr (inr too)) = absurd (never_both line too.0 is.0 too.1.0)
one_reading line one other (inr (inl is)) (inl too) = absurd (never_both line is.0 too.0 is.1.0)
one_reading line one other (inr (inr is)) (inl too) = absurd (never_both line is.0 too.0 is.1.0)
one_reading line one other (inr (inl is)) (inr (inl too)) = is.1.2 ∙ sym too.1.2
one_reading line one other (inr (inl is)) (inr (inr too)) =
    absurd (is.1.1 (subst HasUniqueKeys (same_value line too.0 is.0 too.1.0 is.1.0) too.1.1))
one_reading line one other (inr (inr is)) (inr (inl too)) =
    absurd (too.1.1 (subst HasUniqueKeys (same_value line is.0 too.0 is.1.0 too.1.0) is.1.1))
one_reading line one other (inr (inr is)) (inr (inr too)) =
    is.1.2 ∙ ap request_of (same_value line is.0 too.0 is.1.0 too.1.0) ∙ sym too.1.2
