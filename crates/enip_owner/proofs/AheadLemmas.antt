-- How many commands the owner has in hand, over every list of steps.
use Rattle.std.proofs.Common.{◌≡◌, ℕ, zero, suc, ◌+◌, ◌-◌, ◌<◌, ◌≤◌, ◌==◌, ◌||◌, nat_lt, nat_le, Bool, true, false, not, if◌then◌else◌, List, [], ◌∷◌, ◌++◌, length, map, take}
use Rattle.std.proofs.Common.{Option, Some, None, refl, sym, ap, subst, ◌∙◌, ◌⊎◌, inl, inr, append_assoc, arith}
use Rattle.std.specs.List.{filter, AllByRecursion}
use Rattle.std.specs.Option.{option_map}
use Rattle.std.proofs.lemmas.Bool.{eq-eqb, or_left, or_right, lt-ltb, le-ltb, ltb-true, ltb-false, le-leb, lt-leb, false≢true, cases_lt}
use Rattle.std.proofs.lemmas.Option.{none-some, same_Some}
use Rattle.enip_owner.specs.declared.hand_over.HandOver.{HandOver}
use Rattle.enip_owner.specs.declared.hand_over.HandedOver.{HandedOver}
use Rattle.enip_owner.specs.HandOvers.{first_above, next_ticket, in_hand, handed_over, with_handed, Desk, DeskStep, Pushes, Finishes, Hands, Begins}
use Rattle.enip_owner.specs.HandOvers.{without, desk_after, as_list, handed_in, desk_after_all, all_handed, tickets, RisesAbove, AreBelow, IsDesk, IsOneSession}
use Rattle.enip_owner.specs.HandOvers.{hands, has_ticket, in_hand_after, left_after, are_new, MarkedFirst, session_law, ahead_law, soon_law, marked_first_law}
use Rattle.enip_owner.proofs.HandOverLemmas.{above_all, below_joined, below_wider, first_is, next_first, IsKnown, IsKnownNow, known_now, nothing_yet}

-- ---- tickets up to one

-- Those of these tickets that are not greater than this one.
abbrev up_to : ℕ → List ℕ → List ℕ
up_to ticket waiting = filter (λ other. nat_le other ticket) waiting

none_up_to : (ticket least : ℕ) (waiting : List ℕ) → ticket ≤ least → RisesAbove least waiting → up_to ticket waiting ≡ []
none_up_to ticket least [] under rises = refl
none_up_to ticket least (other ∷ waiting) under rises =
    rw (lt-leb other ticket (omega (arith, under, rises.0)))
    (none_up_to ticket other waiting (omega (arith, under, rises.0)) rises.1)

-- The first ones are all of them.
front_up_to : (ticket : ℕ) (front back : List ℕ) → AreBelow (ticket + 1) front → up_to ticket back ≡ []
    → length (up_to ticket (front ++ back)) ≡ length front
front_up_to ticket [] back below none = ap length none
front_up_to ticket (other ∷ front) back below none =
    rw (le-leb other ticket (omega (arith, below.0))) (ap suc (front_up_to ticket front back below.1 none))

-- One more, if the first one that is greater is taken in.
one_more_at : (ticket other first least : ℕ) (waiting : List ℕ) (greater : Bool) → nat_lt ticket other ≡ greater
    → first_above ticket (other ∷ waiting) ≡ Some first → RisesAbove least (other ∷ waiting)
    → (first_above ticket waiting ≡ Some first → length (up_to first waiting) ≤ length (up_to ticket waiting) + 1)
    → length (up_to first (other ∷ waiting)) ≤ length (up_to ticket (other ∷ waiting)) + 1
one_more_at ticket other first least waiting true is found rises more =
    let same : other ≡ first = same_Some other first (rw is at found) in
    let over : ticket < other = ltb-true ticket other is in
    let no_other : up_to first waiting ≡ [] = none_up_to first other waiting (omega (arith, same)) rises.1 in
    rw (le-leb other first (omega (arith, same)), lt-leb other ticket over, no_other) (omega arith)
one_more_at ticket other first least waiting false is found rises more =
    let later : first_above ticket waiting ≡ Some first = rw is at found in
    let within : other ≤ ticket = ltb-false ticket other is in
    let over : ticket < first = (first_is ticket waiting first later).over in
    let some : length (up_to first waiting) ≤ length (up_to ticket waiting) + 1 = more later in
    rw (le-leb other first (omega (arith, within, over)), le-leb other ticket within) (omega (arith, some))

one_more : (ticket first least : ℕ) (waiting : List ℕ) → first_above ticket waiting ≡ Some first → RisesAbove least waiting
    → length (up_to first waiting) ≤ length (up_to ticket waiting) + 1
one_more ticket first least [] found rises = absurd (none-some first found)
one_more ticket first least (other ∷ waiting) found rises =
    one_more_at ticket other first least waiting (nat_lt ticket other) refl found rises
    (λ later. one_more ticket first other waiting later rises.1)

-- None more, if a greater one is put behind.
pushed_at : (ticket next other : ℕ) (waiting : List ℕ) (within : Bool) → nat_le other ticket ≡ within
    → up_to ticket (waiting ++ next ∷ []) ≡ up_to ticket waiting
    → up_to ticket ((other ∷ waiting) ++ next ∷ []) ≡ up_to ticket (other ∷ waiting)
pushed_at ticket next other waiting true is more = rw is (ap (λ (l : List ℕ). other ∷ l) more)
pushed_at ticket next other waiting false is more = rw is more

same_pushed : (ticket next : ℕ) (waiting : List ℕ) → ticket < next → up_to ticket (waiting ++ next ∷ []) ≡ up_to ticket waiting
same_pushed ticket next [] over = rw (lt-leb next ticket over) refl
same_pushed ticket next (other ∷ waiting) over =
    pushed_at ticket next other waiting (nat_le other ticket) refl (same_pushed ticket next waiting over)

-- None more, if one is gone.
fewer_at : (ticket gone other : ℕ) (waiting : List ℕ) (is_gone within : Bool) → (other == gone) ≡ is_gone → nat_le other ticket ≡ within
    → length (up_to ticket (without gone waiting)) ≤ length (up_to ticket waiting)
    → length (up_to ticket (without gone (other ∷ waiting))) ≤ length (up_to ticket (other ∷ waiting))
fewer_at ticket gone other waiting true true same is more = rw (same, is) (omega (arith, more))
fewer_at ticket gone other waiting true false same is more = rw (same, is) more
fewer_at ticket gone other waiting false true same is more = rw (same, is) (omega (arith, more))
fewer_at ticket gone other waiting false false same is more = rw (same, is) more

fewer : (ticket gone : ℕ) (waiting : List ℕ) → length (up_to ticket (without gone waiting)) ≤ length (up_to ticket waiting)
fewer ticket gone [] = omega arith
fewer ticket gone (other ∷ waiting) =
    fewer_at ticket gone other waiting (other == gone) (nat_le other ticket) refl refl (fewer ticket gone waiting)

-- ---- a new session

passes_front : (ticket next : ℕ) (front back : List ℕ) → AreBelow (ticket + 1) front → ticket < next
    → first_above ticket (front ++ next ∷ back) ≡ Some next
passes_front ticket next [] back up over = rw (lt-ltb ticket next over) refl
passes_front ticket next (other ∷ front) back up over =
    rw (le-ltb ticket other (omega (arith, up.0))) (passes_front ticket next front back up.1 over)

-- Nothing is handed over while there is no next one.
blocked : (d : Desk) (n : ℕ) → next_ticket d.hand_over d.waiting ≡ None → tickets (all_handed d (hands n)) ≡ []
blocked d zero none = refl
blocked d (suc n) none = rw none (blocked d n none)

none_may : (h : HandOver) (waiting : List ℕ) → h.ahead ≤ in_hand h waiting → next_ticket h waiting ≡ None
none_may h waiting many = rw (le-ltb (in_hand h waiting) h.ahead many) refl

one_may : (h : HandOver) (waiting : List ℕ) (first : ℕ) → in_hand h waiting < h.ahead → first_above h.handed waiting ≡ Some first
    → next_ticket h waiting ≡ Some first
one_may h waiting first few found = rw (lt-ltb (in_hand h waiting) h.ahead few) found

-- While so many more may be in hand, as many of those that are left are handed over.
hands_rest : (d : Desk) (front back : List ℕ) (more : ℕ) → length front + more ≡ d.hand_over.ahead → d.waiting ≡ front ++ back
    → AreBelow (d.hand_over.handed + 1) front → RisesAbove d.hand_over.handed back
    → tickets (all_handed d (hands (length back))) ≡ take more back
hands_rest d front back zero few is up rises =
    let none : up_to d.hand_over.handed back ≡ [] = none_up_to d.hand_over.handed d.hand_over.handed back (omega arith) rises in
    let count : in_hand d.hand_over d.waiting ≡ length front =
    ap (λ (w : List ℕ). length (up_to d.hand_over.handed w)) is ∙ front_up_to d.hand_over.handed front back up none in
    blocked d (length back) (none_may d.hand_over d.waiting (omega (arith, few, count)))
hands_rest d front [] (suc more) few is up rises = refl
hands_rest d front (next ∷ back) (suc more) few is up rises =
    let none : up_to d.hand_over.handed (next ∷ back) ≡ [] =
    none_up_to d.hand_over.handed d.hand_over.handed (next ∷ back) (omega arith) rises in
    let count : in_hand d.hand_over d.waiting ≡ length front =
    ap (λ (w : List ℕ). length (up_to d.hand_over.handed w)) is
    ∙ front_up_to d.hand_over.handed front (next ∷ back) up none in
    let found : first_above d.hand_over.handed d.waiting ≡ Some next =
    ap (first_above d.hand_over.handed) is ∙ passes_front d.hand_over.handed next front back up rises.0 in
    let chosen : next_ticket d.hand_over d.waiting ≡ Some next =
    one_may d.hand_over d.waiting next (omega (arith, few, count)) found in
    let after : Desk = record d { hand_over = record d.hand_over { handed = next } } in
    let parts : d.waiting ≡ (front ++ next ∷ []) ++ back = is ∙ sym (append_assoc front (next ∷ []) back) in
    let up_to_next : AreBelow (next + 1) (front ++ next ∷ []) =
    below_joined (next + 1) front (next ∷ [])
    (below_wider (d.hand_over.handed + 1) (next + 1) front (omega (arith, rises.0)) up) (omega arith, tt) in
    let longer : length (front ++ next ∷ []) + more ≡ d.hand_over.ahead = one_longer front next more ∙ few in
    rw chosen (ap (λ (ts : List ℕ). next ∷ ts) (hands_rest after (front ++ next ∷ []) back more longer parts up_to_next rises.1))
  where
    one_longer : (front : List ℕ) (next more : ℕ) → length (front ++ next ∷ []) + more ≡ length front + suc more
    one_longer [] next more = omega arith
    one_longer (other ∷ front) next more = let rest = one_longer front next more in omega (arith, rest)

pub session_gets_first : session_law
session_gets_first d is =
    hands_rest (desk_after d Begins) [] d.waiting d.hand_over.ahead (omega arith) refl tt is.rises

-- ---- at most so many

-- The same number may be in hand after each step.
same_ahead_hand : (h : HandOver) (first : Option ℕ) → (with_handed h first).ahead ≡ h.ahead
same_ahead_hand h None = refl
same_ahead_hand h (Some first) = refl

same_ahead : (d : Desk) (steps : List DeskStep) → (desk_after_all d steps).hand_over.ahead ≡ d.hand_over.ahead
same_ahead d [] = refl
same_ahead d (Pushes ∷ steps) = same_ahead (desk_after d Pushes) steps
same_ahead d (Finishes gone ∷ steps) = same_ahead (desk_after d (Finishes gone)) steps
same_ahead d (Hands ∷ steps) =
    same_ahead (desk_after d Hands) steps ∙ same_ahead_hand d.hand_over (next_ticket d.hand_over d.waiting)
same_ahead d (Begins ∷ steps) = same_ahead (desk_after d Begins) steps

-- Not too many are in hand.
abbrev IsWithin : Desk → Type 0
IsWithin d = in_hand d.hand_over d.waiting ≤ d.hand_over.ahead

few_in_hand : (may : Bool) (h : HandOver) (waiting : List ℕ) (first : ℕ) → nat_lt (in_hand h waiting) h.ahead ≡ may
    → (if may then first_above h.handed waiting else None) ≡ Some first → in_hand h waiting < h.ahead
few_in_hand true h waiting first is found = ltb-true (in_hand h waiting) h.ahead is
few_in_hand false h waiting first is found = absurd (none-some first found)

within_hand : (greatest : ℕ) (past : List ℕ) (d : Desk) (first : Option ℕ) → next_ticket d.hand_over d.waiting ≡ first
    → IsKnownNow greatest past d → IsWithin d → IsWithin (record d { hand_over = with_handed d.hand_over first })
within_hand greatest past d None is k within = within
within_hand greatest past d (Some first) is k within =
    let few : in_hand d.hand_over d.waiting < d.hand_over.ahead =
    few_in_hand (nat_lt (in_hand d.hand_over d.waiting) d.hand_over.ahead) d.hand_over d.waiting first refl is in
    let more : length (up_to first d.waiting) ≤ length (up_to d.hand_over.handed d.waiting) + 1 =
    one_more d.hand_over.handed first 0 d.waiting (next_first d.hand_over d.waiting first is) k.rises in
    omega (arith, few, more)

-- What is known after some steps of a session: the commands that were handed over, and how many are in hand.
within_all : (greatest : ℕ) (past : List ℕ) (d : Desk) (steps : List DeskStep) → IsOneSession steps → IsKnownNow greatest past d
    → IsWithin d → IsWithin (desk_after_all d steps)
within_all greatest past d [] one k within = within
within_all greatest past d (Pushes ∷ steps) one k within =
    let same : up_to d.hand_over.handed (d.waiting ++ d.next ∷ []) ≡ up_to d.hand_over.handed d.waiting =
    same_pushed d.hand_over.handed d.next d.waiting k.reached in
    within_all greatest (past ++ []) (desk_after d Pushes) steps one (known_now greatest past d (Pushes ∷ []) tt k)
    (rw same within)
within_all greatest past d (Finishes gone ∷ steps) one k within =
    within_all greatest (past ++ []) (desk_after d (Finishes gone)) steps one (known_now greatest past d (Finishes gone ∷ []) tt k)
    (let less = fewer d.hand_over.handed gone d.waiting in omega (arith, less, within))
within_all greatest past d (Hands ∷ steps) one k within =
    within_all greatest (past ++ tickets (all_handed d (Hands ∷ []))) (desk_after d Hands) steps one (known_now greatest past d (Hands ∷ []) tt k)
    (within_hand greatest past d (next_ticket d.hand_over d.waiting) refl k within)
within_all greatest past d (Begins ∷ steps) one k within = absurd one

-- A waiting command was handed over in the session exactly if its ticket is not greater than the last one that was.
was_handed : (past : List ℕ) (d : Desk) (ticket : ℕ) → IsKnownNow 0 past d → has_ticket d.waiting ticket ≡ true
    → has_ticket past ticket ≡ nat_le ticket d.hand_over.handed
was_handed past d ticket k has =
    let positive : nat_le ticket 0 ≡ false = lt-leb ticket 0 (above_all 0 ticket d.waiting k.rises has) in
    sym (k.known ticket has ∙ ap (λ (b : Bool). b || has_ticket past ticket) positive)

-- Two tests choose the same of these tickets, if they say the same of each.
same_at : (p q : ℕ → Bool) (other : ℕ) (waiting : List ℕ) (b : Bool) → p other ≡ b → q other ≡ b → filter p waiting ≡ filter q waiting
    → filter p (other ∷ waiting) ≡ filter q (other ∷ waiting)
same_at p q other waiting true one too more = rw (one, too) (ap (λ (l : List ℕ). other ∷ l) more)
same_at p q other waiting false one too more = rw (one, too) more

same_chosen : (p q : ℕ → Bool) (waiting : List ℕ) → ((ticket : ℕ) → has_ticket waiting ticket ≡ true → p ticket ≡ q ticket)
    → filter p waiting ≡ filter q waiting
same_chosen p q [] same = refl
same_chosen p q (other ∷ waiting) same =
    same_at p q other waiting (q other) (same other (or_left (other == other) (has_ticket waiting other) (eq-eqb other other refl))) refl
    (same_chosen p q waiting (λ ticket has. same ticket (or_right (other == ticket) (has_ticket waiting ticket) has)))

-- What is known at the end of some steps of a session.
record IsEnd (d : Desk) (steps : List DeskStep) (end : Desk) : Type 0 where
  within : IsWithin end
  ahead : end.hand_over.ahead ≡ d.hand_over.ahead
  held : in_hand_after d steps ≡ up_to end.hand_over.handed end.waiting
  left : left_after d steps ≡ filter (λ other. not (nat_le other end.hand_over.handed)) end.waiting

end_of : (d : Desk) (steps : List DeskStep) → IsDesk d → IsOneSession steps → IsEnd d steps (desk_after_all (desk_after d Begins) steps)
end_of d steps desk one =
    let start : Desk = desk_after d Begins in
    let end : Desk = desk_after_all start steps in
    let past : List ℕ = tickets (all_handed start steps) in
    let begun = nothing_yet 0 d.next d.waiting desk.rises desk.below (omega (arith, desk.earlier)) in
    let k : IsKnownNow 0 past end = known_now 0 [] start steps one begun in
    let none : up_to 0 d.waiting ≡ [] = none_up_to 0 0 d.waiting (omega arith) desk.rises in
    let free : IsWithin start = rw none (omega arith) in record {
      within = within_all 0 [] start steps one begun free;
      ahead = same_ahead start steps;
      held = same_chosen (has_ticket past) (λ other. nat_le other end.hand_over.handed) end.waiting
          (λ ticket has. was_handed past end ticket k has);
      left = same_chosen (λ other. not (has_ticket past other)) (λ other. not (nat_le other end.hand_over.handed)) end.waiting
          (λ ticket has. ap not (was_handed past end ticket k has));
    }

pub at_most_ahead : ahead_law
at_most_ahead d steps desk one =
    let e = end_of d steps desk one in
    let held : length (in_hand_after d steps) ≡ in_hand (desk_after_all (desk_after d Begins) steps).hand_over (desk_after_all (desk_after d Begins) steps).waiting =
    ap length e.held in
    omega (arith, held, e.within, e.ahead)

-- ---- as soon as it may

first_or : List ℕ → ℕ
first_or [] = 0
first_or (ticket ∷ tickets) = ticket

first_left : (handed ticket : ℕ) (waiting others : List ℕ) → filter (λ other. not (nat_le other handed)) waiting ≡ ticket ∷ others
    → first_above handed waiting ≡ Some ticket
unfolding first_or
first_left handed ticket [] others is = absurd (cc)
first_left handed ticket (other ∷ waiting) others is = elim (cases_lt handed other) [
  | inl over ↦
      let whole : other ∷ filter (λ one. not (nat_le one handed)) waiting ≡ ticket ∷ others = rw (lt-leb other handed over) at is in
      rw (lt-ltb handed other over) (ap (λ (l : List ℕ). Some (first_or l)) whole)
  | inr within ↦
      rw (le-ltb handed other within) (first_left handed ticket waiting others (rw (le-leb other handed within) at is))
]

pub handed_soon : soon_law
handed_soon d steps ticket others desk one few is =
    let end : Desk = desk_after_all (desk_after d Begins) steps in
    let e = end_of d steps desk one in
    let held : length (in_hand_after d steps) ≡ in_hand end.hand_over end.waiting = ap length e.held in
    let found : first_above end.hand_over.handed end.waiting ≡ Some ticket =
    first_left end.hand_over.handed ticket end.waiting others (sym e.left ∙ is) in
    let next : next_ticket end.hand_over end.waiting ≡ Some ticket =
    one_may end.hand_over end.waiting ticket (omega (arith, held, few, e.ahead)) found in
    rw next refl

-- ---- marked commands come first

new_hand : (d : Desk) (first : Option ℕ) (steps : List DeskStep) → next_ticket d.hand_over d.waiting ≡ first
    → d.hand_over.earlier ≤ d.hand_over.handed
    → ((next : Desk) → next.hand_over.earlier ≤ next.hand_over.handed → are_new (all_handed next steps))
    → are_new (as_list (option_map (handed_over d.hand_over) first) ++ all_handed (record d { hand_over = with_handed d.hand_over first }) steps)
new_hand d None steps is under more = more (record d { hand_over = d.hand_over }) under
new_hand d (Some ticket) steps is under more =
    let over : d.hand_over.handed < ticket = (first_is d.hand_over.handed d.waiting ticket (next_first d.hand_over d.waiting ticket is)).over in (
      lt-leb ticket d.hand_over.earlier (omega (arith, over, under)),
      more (record d { hand_over = record d.hand_over { handed = ticket } }) (omega (arith, over, under)),
    )

all_new : (d : Desk) (steps : List DeskStep) → IsOneSession steps → d.hand_over.earlier ≤ d.hand_over.handed → are_new (all_handed d steps)
all_new d [] one under = tt
all_new d (Pushes ∷ steps) one under = all_new (desk_after d Pushes) steps one under
all_new d (Finishes gone ∷ steps) one under = all_new (desk_after d (Finishes gone)) steps one under
all_new d (Hands ∷ steps) one under =
    new_hand d (next_ticket d.hand_over d.waiting) steps refl under (λ next so. all_new next steps one so)
all_new d (Begins ∷ steps) one under = absurd one

marked_hand : (d : Desk) (first : Option ℕ) (steps : List DeskStep) → IsOneSession steps
    → ((next : Desk) → MarkedFirst (all_handed next steps))
    → MarkedFirst (as_list (option_map (handed_over d.hand_over) first) ++ all_handed (record d { hand_over = with_handed d.hand_over first }) steps)
marked_hand d None steps one more = more (record d { hand_over = d.hand_over })
marked_hand d (Some ticket) steps one more =
    let after : Desk = record d { hand_over = record d.hand_over { handed = ticket } } in (
      λ new. all_new after steps one (is_under ticket d.hand_over.earlier new),
      more after,
    )
  where
    is_under : (ticket earlier : ℕ) → nat_le ticket earlier ≡ false → earlier ≤ ticket
    is_under ticket earlier new = elim (cases_lt earlier ticket) [
      | inl over ↦ omega (arith, over)
      | inr within ↦ absurd (false≢true (sym new ∙ le-leb ticket earlier within))
    ]

pub marked_first : marked_first_law
marked_first d [] one = tt
marked_first d (Pushes ∷ steps) one = marked_first (desk_after d Pushes) steps one
marked_first d (Finishes gone ∷ steps) one = marked_first (desk_after d (Finishes gone)) steps one
marked_first d (Hands ∷ steps) one =
    marked_hand d (next_ticket d.hand_over d.waiting) steps one (λ next. marked_first next steps one)
marked_first d (Begins ∷ steps) one = absurd one
