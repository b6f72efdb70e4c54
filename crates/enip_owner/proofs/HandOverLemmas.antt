-- Commands that are handed over, over every list of steps.
use Rattle.std.proofs.Common.{◌≡◌, ℕ, zero, suc, ◌+◌, ◌<◌, ◌≤◌, ◌==◌, ◌||◌, max, nat_lt, nat_le, Bool, true, false, not, List, [], ◌∷◌, ◌++◌, length, map}
use Rattle.std.proofs.Common.{Option, Some, None, refl, sym, ap, subst, ◌∙◌, ◌⊎◌, inl, inr, append_assoc, append-nil, arith}
use Rattle.std.specs.Prelude.{⊤, if◌then◌else◌}
use Rattle.std.specs.List.{filter, list_any, AllByRecursion}
use Rattle.std.specs.Option.{option_map}
use Rattle.std.proofs.lemmas.Bool.{eqb-true, eq-eqb, ne_eqb, or_cases, or_parts, or_from, or_left, or_right, lt-ltb, le-ltb, ltb-true, ltb-false, le-leb, lt-leb, leb-true, false≢true, cases_lt, cases_order}
use Rattle.std.proofs.lemmas.Option.{none-some, same_Some}
use Rattle.std.proofs.lemmas.List.{map-append}
use Rattle.std.proofs.lemmas.List.Folds.{list_any-append}
use Rattle.enip_owner.specs.declared.hand_over.HandOver.{HandOver}
use Rattle.enip_owner.specs.declared.hand_over.HandedOver.{HandedOver}
use Rattle.enip_owner.specs.HandOvers.{first_above, next_ticket, in_hand, handed_over, next_in, with_handed, after_next, with_new_session, Desk, DeskStep, Pushes, Finishes, Hands, Begins}
use Rattle.enip_owner.specs.HandOvers.{without, desk_after, as_list, handed_in, desk_after_all, all_handed, tickets, RisesAbove, AreBelow, IsDesk, IsOneSession}
use Rattle.enip_owner.specs.HandOvers.{hands, has_ticket, greatest_handed, order_law, none_skipped_law, again_law, done_law}

-- ---- lists of tickets

pub found_at : (ticket other : ℕ) (waiting : List ℕ) → has_ticket (other ∷ waiting) ticket ≡ true
    → (other ≡ ticket) ⊎ (has_ticket waiting ticket ≡ true)
found_at ticket other waiting is =
    elim (or_cases (other == ticket) (has_ticket waiting ticket) is) [
      | inl here ↦ inl (eqb-true other ticket here)
      | inr later ↦ inr later
    ]

pub above_all : (least ticket : ℕ) (waiting : List ℕ) → RisesAbove least waiting → has_ticket waiting ticket ≡ true → least < ticket
above_all least ticket [] rises is = absurd (false≢true is)
above_all least ticket (other ∷ waiting) rises is =
    elim (found_at ticket other waiting is) [
      | inl here ↦ omega (arith, here, rises.0)
      | inr later ↦ omega (arith, rises.0, above_all other ticket waiting rises.1 later)
    ]

pub below_all : (most ticket : ℕ) (waiting : List ℕ) → AreBelow most waiting → has_ticket waiting ticket ≡ true → ticket < most
below_all most ticket [] below is = absurd (false≢true is)
below_all most ticket (other ∷ waiting) below is =
    elim (found_at ticket other waiting is) [
      | inl here ↦ omega (arith, here, below.0)
      | inr later ↦ below_all most ticket waiting below.1 later
    ]

pub no_such : (most ticket : ℕ) (waiting : List ℕ) → AreBelow most waiting → most ≤ ticket → has_ticket waiting ticket ≡ false
no_such most ticket [] below over = refl
no_such most ticket (other ∷ waiting) below over =
    or_from (other == ticket) (has_ticket waiting ticket) (ne_eqb other ticket (λ same. omega (arith, same, below.0, over)))
    (no_such most ticket waiting below.1 over)

rises_from : (least lower : ℕ) (waiting : List ℕ) → lower ≤ least → RisesAbove least waiting → RisesAbove lower waiting
rises_from least lower [] under rises = tt
rises_from least lower (other ∷ waiting) under rises = (omega (arith, under, rises.0), rises.1)

rises_more : (least next : ℕ) (waiting : List ℕ) → RisesAbove least waiting → AreBelow next waiting → least < next
    → RisesAbove least (waiting ++ next ∷ [])
rises_more least next [] rises below under = (under, tt)
rises_more least next (other ∷ waiting) rises below under = (rises.0, rises_more other next waiting rises.1 below.1 below.0)

below_more : (next : ℕ) (waiting : List ℕ) → AreBelow next waiting → AreBelow (next + 1) (waiting ++ next ∷ [])
below_more next [] below = (omega arith, tt)
below_more next (other ∷ waiting) below = (omega (arith, below.0), below_more next waiting below.1)

pub below_wider : (next most : ℕ) (waiting : List ℕ) → next ≤ most → AreBelow next waiting → AreBelow most waiting
below_wider next most [] under below = tt
below_wider next most (other ∷ waiting) under below = (omega (arith, under, below.0), below_wider next most waiting under below.1)

pub below_joined : (most : ℕ) (front back : List ℕ) → AreBelow most front → AreBelow most back → AreBelow most (front ++ back)
below_joined most [] back below too = too
below_joined most (other ∷ front) back below too = (below.0, below_joined most front back below.1 too)

rises_without_at : (ticket other least : ℕ) (waiting : List ℕ) (same : Bool) → (other == ticket) ≡ same → RisesAbove least (other ∷ waiting)
    → ((lower : ℕ) → RisesAbove lower waiting → RisesAbove lower (without ticket waiting))
    → RisesAbove least (without ticket (other ∷ waiting))
rises_without_at ticket other least waiting true is rises more =
    rw is (more least (rises_from other least waiting (omega (arith, rises.0)) rises.1))
rises_without_at ticket other least waiting false is rises more = rw is (rises.0, more other rises.1)

rises_without : (ticket least : ℕ) (waiting : List ℕ) → RisesAbove least waiting → RisesAbove least (without ticket waiting)
rises_without ticket least [] rises = tt
rises_without ticket least (other ∷ waiting) rises =
    rises_without_at ticket other least waiting (other == ticket) refl rises (λ lower so. rises_without ticket lower waiting so)

below_without_at : (ticket other most : ℕ) (waiting : List ℕ) (same : Bool) → (other == ticket) ≡ same → AreBelow most (other ∷ waiting)
    → AreBelow most (without ticket waiting) → AreBelow most (without ticket (other ∷ waiting))
below_without_at ticket other most waiting true is below more = rw is more
below_without_at ticket other most waiting false is below more = rw is (below.0, more)

below_without : (ticket most : ℕ) (waiting : List ℕ) → AreBelow most waiting → AreBelow most (without ticket waiting)
below_without ticket most [] below = tt
below_without ticket most (other ∷ waiting) below =
    below_without_at ticket other most waiting (other == ticket) refl below (below_without ticket most waiting below.1)

kept_at : (gone ticket other : ℕ) (waiting : List ℕ) (same : Bool) → (other == gone) ≡ same
    → has_ticket (without gone (other ∷ waiting)) ticket ≡ true
    → (has_ticket (without gone waiting) ticket ≡ true → has_ticket waiting ticket ≡ true)
    → has_ticket (other ∷ waiting) ticket ≡ true
kept_at gone ticket other waiting true is has more =
    or_right (other == ticket) (has_ticket waiting ticket) (more (rw is at has))
kept_at gone ticket other waiting false is has more =
    let either : has_ticket (other ∷ without gone waiting) ticket ≡ true = rw is at has in
    elim (or_cases (other == ticket) (has_ticket (without gone waiting) ticket) either) [
      | inl here ↦ or_left (other == ticket) (has_ticket waiting ticket) here
      | inr later ↦ or_right (other == ticket) (has_ticket waiting ticket) (more later)
    ]

kept : (gone ticket : ℕ) (waiting : List ℕ) → has_ticket (without gone waiting) ticket ≡ true → has_ticket waiting ticket ≡ true
kept gone ticket [] has = has
kept gone ticket (other ∷ waiting) has = kept_at gone ticket other waiting (other == gone) refl has (kept gone ticket waiting)

gone_at : (gone other : ℕ) (waiting : List ℕ) (same : Bool) → (other == gone) ≡ same → has_ticket (without gone waiting) gone ≡ false
    → has_ticket (without gone (other ∷ waiting)) gone ≡ false
gone_at gone other waiting true is more = rw is more
gone_at gone other waiting false is more = rw (is, is) more

gone_from : (gone : ℕ) (waiting : List ℕ) → has_ticket (without gone waiting) gone ≡ false
gone_from gone [] = refl
gone_from gone (other ∷ waiting) = gone_at gone other waiting (other == gone) refl (gone_from gone waiting)

-- ---- the first ticket that is greater

pub record IsFirst (ticket : ℕ) (waiting : List ℕ) (first : ℕ) : Type 0 where
  pub over : ticket < first
  pub waits : has_ticket waiting first ≡ true

first_at : (ticket other first : ℕ) (waiting : List ℕ) (greater : Bool) → nat_lt ticket other ≡ greater
    → first_above ticket (other ∷ waiting) ≡ Some first → (first_above ticket waiting ≡ Some first → IsFirst ticket waiting first)
    → IsFirst ticket (other ∷ waiting) first
first_at ticket other first waiting true is found more =
    let same : other ≡ first = same_Some other first (rw is at found) in record {
      over = omega (arith, ltb-true ticket other is, same);
      waits = or_left (other == first) (has_ticket waiting first) (eq-eqb other first same);
    }
first_at ticket other first waiting false is found more =
    let later = more (rw is at found) in record {
      over = later.over;
      waits = or_right (other == first) (has_ticket waiting first) later.waits;
    }

pub first_is : (ticket : ℕ) (waiting : List ℕ) (first : ℕ) → first_above ticket waiting ≡ Some first → IsFirst ticket waiting first
first_is ticket [] first found = absurd (none-some first found)
first_is ticket (other ∷ waiting) first found =
    first_at ticket other first waiting (nat_lt ticket other) refl found (first_is ticket waiting first)

-- The ticket that is handed over next is the first one that is greater.
chosen : (may : Bool) (found : Option ℕ) (first : ℕ) → (if may then found else None) ≡ Some first → found ≡ Some first
chosen true found first is = is
chosen false found first is = absurd (none-some first is)

pub next_first : (h : HandOver) (waiting : List ℕ) (first : ℕ) → next_ticket h waiting ≡ Some first
    → first_above h.handed waiting ≡ Some first
next_first h waiting first is = chosen (nat_lt (in_hand h waiting) h.ahead) (first_above h.handed waiting) first is

-- A waiting ticket before the first one is not greater.
earlier_at : (ticket other first least one : ℕ) (waiting : List ℕ) (greater : Bool) → nat_lt ticket other ≡ greater
    → first_above ticket (other ∷ waiting) ≡ Some first → RisesAbove least (other ∷ waiting) → has_ticket (other ∷ waiting) one ≡ true → one < first
    → (first_above ticket waiting ≡ Some first → has_ticket waiting one ≡ true → one ≤ ticket) → one ≤ ticket
earlier_at ticket other first least one waiting true is found rises has before more =
    let same : other ≡ first = same_Some other first (rw is at found) in
    elim (found_at one other waiting has) [
      | inl here ↦ absurd (omega (arith, here, same, before))
      | inr later ↦ absurd (omega (arith, same, before, above_all other one waiting rises.1 later))
    ]
earlier_at ticket other first least one waiting false is found rises has before more =
    elim (found_at one other waiting has) [
      | inl here ↦ omega (arith, here, ltb-false ticket other is)
      | inr later ↦ more (rw is at found) later
    ]

earlier_waits : (ticket : ℕ) (waiting : List ℕ) (first least one : ℕ) → first_above ticket waiting ≡ Some first → RisesAbove least waiting
    → has_ticket waiting one ≡ true → one < first → one ≤ ticket
earlier_waits ticket [] first least one found rises has before = absurd (false≢true has)
earlier_waits ticket (other ∷ waiting) first least one found rises has before =
    earlier_at ticket other first least one waiting (nat_lt ticket other) refl found rises has before
    (λ so there. earlier_waits ticket waiting first other one so rises.1 there before)

-- ---- order

order_hand : (d : Desk) (first : Option ℕ) (steps : List DeskStep) → ((ticket : ℕ) → first ≡ Some ticket → d.hand_over.handed < ticket)
    → ((next : Desk) → RisesAbove next.hand_over.handed (tickets (all_handed next steps)))
    → RisesAbove d.hand_over.handed (tickets (as_list (option_map (handed_over d.hand_over) first)
    ++ all_handed (record d { hand_over = with_handed d.hand_over first }) steps))
order_hand d None steps over more = more (record d { hand_over = d.hand_over })
order_hand d (Some ticket) steps over more = (over ticket refl, more (record d { hand_over = record d.hand_over { handed = ticket } }))

pub in_order : order_law
in_order d [] one = tt
in_order d (Pushes ∷ steps) one = in_order (desk_after d Pushes) steps one
in_order d (Finishes ticket ∷ steps) one = in_order (desk_after d (Finishes ticket)) steps one
in_order d (Hands ∷ steps) one =
    order_hand d (next_ticket d.hand_over d.waiting) steps
    (λ ticket is. (first_is d.hand_over.handed d.waiting ticket (next_first d.hand_over d.waiting ticket is)).over)
    (λ next. in_order next steps one)
in_order d (Begins ∷ steps) one = absurd one

-- ---- a command that is done

hand_none : (h : HandOver) (ticket : ℕ) (first : Option ℕ) (others : List HandedOver) → ((one : ℕ) → first ≡ Some one → (one == ticket) ≡ false)
    → has_ticket (tickets others) ticket ≡ false
    → has_ticket (tickets (as_list (option_map (handed_over h) first) ++ others)) ticket ≡ false
hand_none h ticket None others other none = none
hand_none h ticket (Some one) others other none = or_from (one == ticket) (has_ticket (tickets others) ticket) (other one refl) none

not_pushed : (d : Desk) (ticket : ℕ) → ticket < d.next → has_ticket d.waiting ticket ≡ false
    → has_ticket (d.waiting ++ d.next ∷ []) ticket ≡ false
not_pushed d ticket old gone =
    list_any-append (λ other. other == ticket) d.waiting (d.next ∷ [])
    ∙ or_from (has_ticket d.waiting ticket) (has_ticket (d.next ∷ []) ticket) gone
    (or_from (d.next == ticket) false (ne_eqb d.next ticket (λ same. omega (arith, same, old))) refl)

not_kept : (gone ticket : ℕ) (waiting : List ℕ) (there : Bool) → has_ticket (without gone waiting) ticket ≡ there
    → has_ticket waiting ticket ≡ false → has_ticket (without gone waiting) ticket ≡ false
not_kept gone ticket waiting true is none = absurd (false≢true (sym none ∙ kept gone ticket waiting is))
not_kept gone ticket waiting false is none = is

not_handed : (d : Desk) (ticket one : ℕ) → has_ticket d.waiting ticket ≡ false → next_ticket d.hand_over d.waiting ≡ Some one
    → (one == ticket) ≡ false
not_handed d ticket one gone is =
    let waits = (first_is d.hand_over.handed d.waiting one (next_first d.hand_over d.waiting one is)).waits in
    ne_eqb one ticket (λ same. false≢true (sym gone ∙ ap (has_ticket d.waiting) (sym same) ∙ waits))

never_again : (d : Desk) (ticket : ℕ) (steps : List DeskStep) → ticket < d.next → has_ticket d.waiting ticket ≡ false
    → has_ticket (tickets (all_handed d steps)) ticket ≡ false
never_again d ticket [] old gone = refl
never_again d ticket (Pushes ∷ steps) old gone =
    never_again (desk_after d Pushes) ticket steps (omega (arith, old)) (not_pushed d ticket old gone)
never_again d ticket (Finishes other ∷ steps) old gone =
    never_again (desk_after d (Finishes other)) ticket steps old
    (not_kept other ticket d.waiting (has_ticket (without other d.waiting) ticket) refl gone)
never_again d ticket (Hands ∷ steps) old gone =
    hand_none d.hand_over ticket (next_ticket d.hand_over d.waiting) (all_handed (desk_after d Hands) steps)
    (λ one is. not_handed d ticket one gone is) (never_again (desk_after d Hands) ticket steps old gone)
never_again d ticket (Begins ∷ steps) old gone = never_again (desk_after d Begins) ticket steps old gone

pub none_after_done : done_law
none_after_done d ticket steps desk old = never_again (desk_after d (Finishes ticket)) ticket steps old (gone_from ticket d.waiting)

-- ---- which commands were handed over

-- A waiting command was handed over, among those of the past or by a ticket up to `greatest`, exactly if its ticket is
-- not greater than `reach`.
pub record IsKnown (greatest reach next : ℕ) (past waiting : List ℕ) : Type 0 where
  pub rises : RisesAbove 0 waiting
  pub below : AreBelow next waiting
  pub begun : greatest < next
  pub reached : reach < next
  pub before : AreBelow next past
  pub known : (ticket : ℕ) → has_ticket waiting ticket ≡ true → nat_le ticket reach ≡ (nat_le ticket greatest || has_ticket past ticket)

or_none : (b : Bool) → b ≡ (b || false)
or_none true = refl
or_none false = refl

pub nothing_yet : (greatest next : ℕ) (waiting : List ℕ) → RisesAbove 0 waiting → AreBelow next waiting → greatest < next
    → IsKnown greatest greatest next [] waiting
nothing_yet greatest next waiting rises below under = record {
  rises = rises;
  below = below;
  begun = under;
  reached = under;
  before = tt;
  known = λ ticket has. or_none (nat_le ticket greatest);
}

pushed_known : (greatest reach next ticket : ℕ) (past waiting : List ℕ) → IsKnown greatest reach next past waiting
    → has_ticket (waiting ++ next ∷ []) ticket ≡ true
    → nat_le ticket reach ≡ (nat_le ticket greatest || has_ticket past ticket)
pushed_known greatest reach next ticket past waiting k has =
    let either = sym (list_any-append (λ other. other == ticket) waiting (next ∷ [])) ∙ has in
    elim (or_cases (has_ticket waiting ticket) (has_ticket (next ∷ []) ticket) either) [
      | inl old ↦ k.known ticket old
      | inr new ↦ elim (or_cases (next == ticket) false new) [
        | inl here ↦
            let same : next ≡ ticket = eqb-true next ticket here in
            lt-leb ticket reach (omega (arith, same, k.reached))
            ∙ sym (or_from (nat_le ticket greatest) (has_ticket past ticket) (lt-leb ticket greatest (omega (arith, same, k.begun)))
            (no_such next ticket past k.before (omega (arith, same))))
        | inr never ↦ absurd (false≢true never)
      ]
    ]

known_push : (greatest reach next : ℕ) (past waiting : List ℕ) → IsKnown greatest reach next past waiting
    → IsKnown greatest reach (next + 1) past (waiting ++ next ∷ [])
known_push greatest reach next past waiting k = record {
  rises = rises_more 0 next waiting k.rises k.below (omega (arith, k.begun));
  below = below_more next waiting k.below;
  begun = omega (arith, k.begun);
  reached = omega (arith, k.reached);
  before = below_wider next (next + 1) past (omega arith) k.before;
  known = λ ticket has. pushed_known greatest reach next ticket past waiting k has;
}

known_finish : (greatest reach next gone : ℕ) (past waiting : List ℕ) → IsKnown greatest reach next past waiting
    → IsKnown greatest reach next past (without gone waiting)
known_finish greatest reach next gone past waiting k = record {
  rises = rises_without gone 0 waiting k.rises;
  below = below_without gone next waiting k.below;
  begun = k.begun;
  reached = k.reached;
  before = k.before;
  known = λ ticket has. k.known ticket (kept gone ticket waiting has);
}

-- One more was handed over.
more_handed : (ticket one : ℕ) (past : List ℕ) → has_ticket (past ++ one ∷ []) ticket ≡ (has_ticket past ticket || ((one == ticket) || false))
more_handed ticket one past = list_any-append (λ other. other == ticket) past (one ∷ [])

or_twice : (a b c : Bool) → b ≡ true → (a || (c || (b || false))) ≡ true
or_twice true b c is = refl
or_twice false b true is = refl
or_twice false b false is = rw is refl

or_kept : (a b c : Bool) → (a || b) ≡ true → (a || (b || (c || false))) ≡ true
or_kept true b c is = refl
or_kept false true c is = refl
or_kept false false c is = absurd (false≢true is)

or_same : (a b c : Bool) → c ≡ false → (a || b) ≡ (a || (b || (c || false)))
or_same true b c is = refl
or_same false true c is = refl
or_same false false c is = rw is refl

handed_known : (greatest reach next handed one ticket : ℕ) (past waiting : List ℕ) → IsKnown greatest reach next past waiting
    → handed ≤ reach → first_above handed waiting ≡ Some one → has_ticket waiting ticket ≡ true
    → nat_le ticket (max reach one) ≡ (nat_le ticket greatest || (has_ticket past ticket || ((one == ticket) || false)))
handed_known greatest reach next handed one ticket past waiting k under is has =
    elim (cases_order ticket one) [
      | inl same ↦
          le-leb ticket (max reach one) (omega (arith, same))
          ∙ sym (or_twice (nat_le ticket greatest) (one == ticket) (has_ticket past ticket) (eq-eqb one ticket (sym same)))
      | inr other ↦ elim other [
        | inl before ↦
            let early : ticket ≤ handed = earlier_waits handed waiting one 0 ticket is k.rises has before in
            let old : (nat_le ticket greatest || has_ticket past ticket) ≡ true =
            sym (k.known ticket has) ∙ le-leb ticket reach (omega (arith, early, under)) in
            le-leb ticket (max reach one) (omega (arith, before))
            ∙ sym (or_kept (nat_le ticket greatest) (has_ticket past ticket) (one == ticket) old)
        | inr after ↦
            let apart : (one == ticket) ≡ false = ne_eqb one ticket (λ same. omega (arith, same, after)) in
            same_reach ticket reach one after ∙ k.known ticket has
            ∙ or_same (nat_le ticket greatest) (has_ticket past ticket) (one == ticket) apart
      ]
    ]
  where
    same_reach : (ticket reach one : ℕ) → one < ticket → nat_le ticket (max reach one) ≡ nat_le ticket reach
    same_reach ticket reach one after = elim (cases_lt reach ticket) [
      | inl over ↦ lt-leb ticket (max reach one) (omega (arith, over, after)) ∙ sym (lt-leb ticket reach over)
      | inr within ↦ le-leb ticket (max reach one) (omega (arith, within)) ∙ sym (le-leb ticket reach within)
    ]

known_hand : (greatest reach next handed one : ℕ) (past waiting : List ℕ) → IsKnown greatest reach next past waiting
    → handed ≤ reach → first_above handed waiting ≡ Some one
    → IsKnown greatest (max reach one) next (past ++ one ∷ []) waiting
known_hand greatest reach next handed one past waiting k under is =
    let one_below : one < next = below_all next one waiting k.below (first_is handed waiting one is).waits in record {
      rises = k.rises;
      below = k.below;
      begun = k.begun;
      reached = omega (arith, k.reached, one_below);
      before = below_joined next past (one ∷ []) k.before (one_below, tt);
      known = λ ticket has. handed_known greatest reach next handed one ticket past waiting k under is has
          ∙ ap (λ (b : Bool). nat_le ticket greatest || b) (sym (more_handed ticket one past));
    }

-- ---- over every list of steps

-- What is known of a desk, by the greatest ticket that was handed over so far.
abbrev IsKnownEver : ℕ → List ℕ → Desk → Type 0
IsKnownEver greatest past d = IsKnown greatest (greatest_handed d.hand_over) d.next past d.waiting

-- The same, by the greatest ticket that was handed over in this session.
abbrev pub IsKnownNow : ℕ → List ℕ → Desk → Type 0
IsKnownNow greatest past d = IsKnown greatest d.hand_over.handed d.next past d.waiting

abbrev past_with : List ℕ → Option ℕ → List ℕ
past_with past None = past
past_with past (Some one) = past ++ one ∷ []

ever_hand : (greatest : ℕ) (past : List ℕ) (d : Desk) (first : Option ℕ) → next_ticket d.hand_over d.waiting ≡ first
    → IsKnownEver greatest past d → IsKnownEver greatest (past_with past first) (record d { hand_over = with_handed d.hand_over first })
ever_hand greatest past d None is k = k
ever_hand greatest past d (Some one) is k =
    let found : first_above d.hand_over.handed d.waiting ≡ Some one = next_first d.hand_over d.waiting one is in
    let over : d.hand_over.handed < one = (first_is d.hand_over.handed d.waiting one found).over in
    let reach : max (max d.hand_over.earlier d.hand_over.handed) one ≡ max d.hand_over.earlier one = omega (arith, over) in
    subst (λ (n : ℕ). IsKnown greatest n d.next (past ++ one ∷ []) d.waiting) reach
    (known_hand greatest (greatest_handed d.hand_over) d.next d.hand_over.handed one past d.waiting k (omega arith) found)

now_hand : (greatest : ℕ) (past : List ℕ) (d : Desk) (first : Option ℕ) → next_ticket d.hand_over d.waiting ≡ first
    → IsKnownNow greatest past d → IsKnownNow greatest (past_with past first) (record d { hand_over = with_handed d.hand_over first })
now_hand greatest past d None is k = k
now_hand greatest past d (Some one) is k =
    let found : first_above d.hand_over.handed d.waiting ≡ Some one = next_first d.hand_over d.waiting one is in
    let over : d.hand_over.handed < one = (first_is d.hand_over.handed d.waiting one found).over in
    let reach : max d.hand_over.handed one ≡ one = omega (arith, over) in
    subst (λ (n : ℕ). IsKnown greatest n d.next (past ++ one ∷ []) d.waiting) reach
    (known_hand greatest d.hand_over.handed d.next d.hand_over.handed one past d.waiting k (omega arith) found)

past_joined : (past : List ℕ) (h : HandOver) (first : Option ℕ) (others : List HandedOver)
    → past_with past first ++ tickets others ≡ past ++ tickets (as_list (option_map (handed_over h) first) ++ others)
past_joined past h None others = refl
past_joined past h (Some one) others = append_assoc past (one ∷ []) (tickets others)

known_ever : (greatest : ℕ) (past : List ℕ) (d : Desk) (steps : List DeskStep) → IsKnownEver greatest past d
    → IsKnownEver greatest (past ++ tickets (all_handed d steps)) (desk_after_all d steps)
known_ever greatest past d [] k = subst (λ (p : List ℕ). IsKnownEver greatest p d) (sym (append-nil past)) k
known_ever greatest past d (Pushes ∷ steps) k =
    known_ever greatest past (desk_after d Pushes) steps (known_push greatest (greatest_handed d.hand_over) d.next past d.waiting k)
known_ever greatest past d (Finishes gone ∷ steps) k =
    known_ever greatest past (desk_after d (Finishes gone)) steps
    (known_finish greatest (greatest_handed d.hand_over) d.next gone past d.waiting k)
known_ever greatest past d (Hands ∷ steps) k =
    let first : Option ℕ = next_ticket d.hand_over d.waiting in
    subst (λ (p : List ℕ). IsKnownEver greatest p (desk_after_all (desk_after d Hands) steps))
    (past_joined past d.hand_over first (all_handed (desk_after d Hands) steps))
    (known_ever greatest (past_with past first) (desk_after d Hands) steps (ever_hand greatest past d first refl k))
known_ever greatest past d (Begins ∷ steps) k =
    let reach : greatest_handed d.hand_over ≡ max (max d.hand_over.earlier d.hand_over.handed) 0 = omega arith in
    known_ever greatest past (desk_after d Begins) steps (subst (λ (n : ℕ). IsKnown greatest n d.next past d.waiting) reach k)

pub known_now : (greatest : ℕ) (past : List ℕ) (d : Desk) (steps : List DeskStep) → IsOneSession steps → IsKnownNow greatest past d
    → IsKnownNow greatest (past ++ tickets (all_handed d steps)) (desk_after_all d steps)
known_now greatest past d [] one k = subst (λ (p : List ℕ). IsKnownNow greatest p d) (sym (append-nil past)) k
known_now greatest past d (Pushes ∷ steps) one k =
    known_now greatest past (desk_after d Pushes) steps one (known_push greatest d.hand_over.handed d.next past d.waiting k)
known_now greatest past d (Finishes gone ∷ steps) one k =
    known_now greatest past (desk_after d (Finishes gone)) steps one
    (known_finish greatest d.hand_over.handed d.next gone past d.waiting k)
known_now greatest past d (Hands ∷ steps) one k =
    let first : Option ℕ = next_ticket d.hand_over d.waiting in
    subst (λ (p : List ℕ). IsKnownNow greatest p (desk_after_all (desk_after d Hands) steps))
    (past_joined past d.hand_over first (all_handed (desk_after d Hands) steps))
    (known_now greatest (past_with past first) (desk_after d Hands) steps one (now_hand greatest past d first refl k))
known_now greatest past d (Begins ∷ steps) one k = absurd one

pub none_skipped : none_skipped_law
none_skipped d steps ticket desk one has =
    let start : Desk = desk_after d Begins in
    let end : Desk = desk_after_all start steps in
    let k = known_now 0 [] start steps one (nothing_yet 0 d.next d.waiting desk.rises desk.below (omega (arith, desk.earlier))) in
    let positive : nat_le ticket 0 ≡ false = lt-leb ticket 0 (above_all 0 ticket end.waiting k.rises has) in
    sym (k.known ticket has ∙ ap (λ (b : Bool). b || has_ticket (tickets (all_handed start steps)) ticket) positive)

same_again : (earlier handed one : ℕ) → handed < one → nat_le one earlier ≡ nat_le one (max earlier handed)
same_again earlier handed one over = elim (cases_lt earlier one) [
  | inl less ↦ lt-leb one earlier less ∙ sym (lt-leb one (max earlier handed) (omega (arith, less, over)))
  | inr within ↦ le-leb one earlier within ∙ sym (le-leb one (max earlier handed) (omega (arith, within)))
]

record IsHanded (h : HandOver) (waiting : List ℕ) (handed : HandedOver) : Type 0 where
  found : first_above h.handed waiting ≡ Some handed.ticket
  again : handed.again ≡ nat_le handed.ticket h.earlier

handed_from : (h : HandOver) (waiting : List ℕ) (first : Option ℕ) (handed : HandedOver) → next_ticket h waiting ≡ first
    → option_map (handed_over h) first ≡ Some handed → IsHanded h waiting handed
handed_from h waiting None handed found is = absurd (none-some handed is)
handed_from h waiting (Some ticket) handed found is =
    let same : handed_over h ticket ≡ handed = same_Some (handed_over h ticket) handed is in
    subst (λ (x : HandedOver). IsHanded h waiting x) same (record { found = next_first h waiting ticket found; again = refl })

pub marked_again : again_law
marked_again d steps handed desk is =
    let end : Desk = desk_after_all d steps in
    let greatest : ℕ = greatest_handed d.hand_over in
    let k = known_ever greatest [] d steps
    (nothing_yet greatest d.next d.waiting desk.rises desk.below (omega (arith, desk.earlier, desk.handed))) in
    let h = handed_from end.hand_over end.waiting (next_ticket end.hand_over end.waiting) handed refl is in
    let first = first_is end.hand_over.handed end.waiting handed.ticket h.found in (
      first.waits,
      h.again ∙ same_again end.hand_over.earlier end.hand_over.handed handed.ticket first.over ∙ k.known handed.ticket first.waits,
    )
