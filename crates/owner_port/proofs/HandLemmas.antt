-- Commands that are handed over.
use Rattle.std.proofs.Common.{◌≡◌, ◌++◌, drop, length, is_ok, Result, Ok, Err, ℕ, zero, suc, ◌+◌, ◌<◌, ◌≤◌, ◌==◌, nat_lt, Bool, true, false, if◌then◌else◌, List, [], ◌∷◌, map, Option, Some, None, refl, sym, ap, subst, ◌∙◌, append_assoc, arith}
use Rattle.std.specs.Prelude.{filter, nat_le, option_map, slice_get, OnOk}
use Rattle.std.proofs.lemmas.Bool.{false≢true, eq-eqb, eqb-true, ltb-true, ltb-false, lt-ltb, le-ltb}
use Rattle.std.proofs.lemmas.List.{append-nil}
use Rattle.std.proofs.lemmas.Option.{none-some, same_Some}
use Rattle.cip_owner.specs.Queue.{QueueState, QueuedCommand, command_of, command_ticket, is_handed, handed_commands}
use Rattle.cip_owner.proofs.ListLemmas.{first-number}
use Rattle.enip_owner.specs.declared.hand_over.HandOver.{HandOver}
use Rattle.enip_owner.specs.declared.hand_over.HandedOver.{HandedOver}
use Rattle.enip_owner.specs.HandOvers.{first_above, next_ticket, handed_over, next_in, after_next, with_handed}
use Rattle.enip_owner.proofs.HandOverLemmas.{next_first}
use Rattle.owner_port.specs.declared.senders.Sender.{Sender}
use Rattle.owner_port.specs.declared.session.Session.{Session}
use Rattle.owner_port.specs.Handing.{waits_law, if_marked, marked_tickets, AreAllHanded, NoneLeft, Hands, IsCommandSent}
use Rattle.owner_port.specs.Sessions.{has_space}

-- ---- what is handed over waits

-- The command with this ticket is among these.
abbrev IsAmong : List QueuedCommand → ℕ → Type 0
IsAmong commands ticket = (command : QueuedCommand) × (command_of ticket commands ≡ Some command)

found-by : (command : QueuedCommand) (commands : List QueuedCommand) (least first : ℕ) (above same : Bool)
    → nat_lt least command.ticket ≡ above → (command.ticket == first) ≡ same
    → first_above least (map command_ticket (command ∷ commands)) ≡ Some first
    → (first_above least (map command_ticket commands) ≡ Some first → IsAmong commands first)
    → IsAmong (command ∷ commands) first
found-by command commands least first above true over own is more = (command, rw own refl)
found-by command commands least first true false over own is more =
    let same : command.ticket ≡ first = same_Some command.ticket first (rw over at is) in
    absurd (false≢true (sym own ∙ eq-eqb command.ticket first same))
found-by command commands least first false false over own is more =
    let later = more (rw over at is) in (later.0, rw own later.1)

found-at : (commands : List QueuedCommand) (least first : ℕ) → first_above least (map command_ticket commands) ≡ Some first
    → IsAmong commands first
found-at [] least first is = absurd (none-some first is)
found-at (command ∷ commands) least first is =
    found-by command commands least first (nat_lt least command.ticket) (command.ticket == first) refl refl is
    (found-at commands least first)

first_of : (o : Option ℕ) (h : HandOver) (handed : HandedOver) → option_map (handed_over h) o ≡ Some handed → o ≡ Some handed.ticket
first_of None h handed is = absurd (none-some handed is)
first_of (Some ticket) h handed is =
    ap (λ (o : HandedOver). Some o.ticket) (same_Some (handed_over h ticket) handed is)

-- What is among the commands that pass a test is among all, and passes it. Two commands with the same ticket pass alike.
among_filter : (queue : QueueState) (commands : List QueuedCommand) (ticket : ℕ)
    → IsAmong (filter (is_handed queue) commands) ticket
    → (command : QueuedCommand) × (command_of ticket commands ≡ Some command) × (is_handed queue command ≡ true)
among_filter queue [] ticket is = absurd (none-some is.0 is.1)
among_filter queue (command ∷ commands) ticket is =
    go (is_handed queue command) (command.ticket == ticket) refl refl is (among_filter queue commands ticket)
  where
    same_mark : (a b : ℕ) (last : ℕ) → a ≡ b → nat_le a last ≡ nat_le b last
    same_mark a b last e = ap (λ n. nat_le n last) e

    go : (passes own : Bool) → is_handed queue command ≡ passes → (command.ticket == ticket) ≡ own
        → IsAmong (if passes then command ∷ filter (is_handed queue) commands else filter (is_handed queue) commands) ticket
        → (IsAmong (filter (is_handed queue) commands) ticket
        → (other : QueuedCommand) × (command_of ticket commands ≡ Some other) × (is_handed queue other ≡ true))
        → (other : QueuedCommand) × (command_of ticket (command ∷ commands) ≡ Some other) × (is_handed queue other ≡ true)
    go true true h e among later = (command, rw e refl, h)
    go true false h e among later =
        let rest = later (among.0, rw e at among.1) in (rest.0, rw e rest.1, rest.2)
    go false true h e among later =
        let rest = later among in
        let own : command.ticket ≡ ticket = eqb-true command.ticket ticket e in
        let other : rest.0.ticket ≡ ticket = first-number command_ticket ticket commands rest.0 rest.1 in
        absurd (false≢true (sym h ∙ same_mark command.ticket rest.0.ticket queue.handed (own ∙ sym other) ∙ rest.2))
    go false false h e among later = let rest = later among in (rest.0, rw e rest.1, rest.2)

pub waits : waits_law
waits queue h handed is =
    let marked = marked_tickets queue in
    let next : next_ticket h marked ≡ Some handed.ticket = first_of (next_ticket h marked) h handed is in
    among_filter queue queue.waiting handed.ticket
    (found-at (handed_commands queue) h.handed handed.ticket (next_first h marked handed.ticket next))

-- ---- each hand-over leaves fewer

-- How many of these tickets are above this one.
unfoldable pub left_above : ℕ → List ℕ → ℕ
left_above ticket [] = 0
left_above ticket (other ∷ waiting) = if nat_lt ticket other then suc (left_above ticket waiting) else left_above ticket waiting

fewer-at : (least first other : ℕ) (waiting : List ℕ) (over beyond : Bool) → nat_lt least other ≡ over → nat_lt first other ≡ beyond
    → least ≤ first → left_above first waiting ≤ left_above least waiting
    → left_above first (other ∷ waiting) ≤ left_above least (other ∷ waiting)
unfolding left_above
fewer-at least first other waiting true true over beyond above more = rw (over, beyond) (omega (arith, more))
fewer-at least first other waiting true false over beyond above more = rw (over, beyond) (omega (arith, more))
fewer-at least first other waiting false true over beyond above more =
    absurd (let a = ltb-true first other beyond in let b = ltb-false least other over in omega (arith, a, b, above))
fewer-at least first other waiting false false over beyond above more = rw (over, beyond) more

not_more : (least first : ℕ) (waiting : List ℕ) → least ≤ first → left_above first waiting ≤ left_above least waiting
unfolding left_above
not_more least first [] above = omega arith
not_more least first (other ∷ waiting) above =
    fewer-at least first other waiting (nat_lt least other) (nat_lt first other) refl refl above (not_more least first waiting above)

above_by : (least first other : ℕ) (waiting : List ℕ) (over : Bool) → nat_lt least other ≡ over
    → first_above least (other ∷ waiting) ≡ Some first → (first_above least waiting ≡ Some first → least < first) → least < first
above_by least first other waiting true over is more =
    let same : other ≡ first = same_Some other first (rw over at is) in
    let above : least < other = ltb-true least other over in
    omega (arith, same, above)
above_by least first other waiting false over is more = more (rw over at is)

above_at : (least first : ℕ) (waiting : List ℕ) → first_above least waiting ≡ Some first → least < first
above_at least first [] is = absurd (none-some first is)
above_at least first (other ∷ waiting) is =
    above_by least first other waiting (nat_lt least other) refl is (above_at least first waiting)

later_by : (least first other : ℕ) (waiting : List ℕ) (beyond : Bool) → nat_lt first other ≡ beyond → nat_lt least other ≡ false
    → least < first → left_above first waiting < left_above least waiting
    → left_above first (other ∷ waiting) < left_above least (other ∷ waiting)
unfolding left_above
later_by least first other waiting true beyond over above more =
    absurd (let a = ltb-true first other beyond in let b = ltb-false least other over in omega (arith, a, b, above))
later_by least first other waiting false beyond over above more = rw (beyond, over) more

fewer-by : (least first other : ℕ) (waiting : List ℕ) (over : Bool) → nat_lt least other ≡ over
    → first_above least (other ∷ waiting) ≡ Some first
    → (first_above least waiting ≡ Some first → left_above first waiting < left_above least waiting)
    → left_above first (other ∷ waiting) < left_above least (other ∷ waiting)
unfolding left_above
fewer-by least first other waiting true over is more =
    let same : other ≡ first = same_Some other first (rw over at is) in
    let above : least < other = ltb-true least other over in
    let own : nat_lt first other ≡ false = le-ltb first other (omega (arith, same)) in
    let rest : left_above first waiting ≤ left_above least waiting = not_more least first waiting (omega (arith, same, above)) in
    rw (own, over) (omega (arith, rest))
fewer-by least first other waiting false over is more =
    later_by least first other waiting (nat_lt first other) refl over (above_at least first waiting (rw over at is))
    (more (rw over at is))

pub fewer : (least first : ℕ) (waiting : List ℕ) → first_above least waiting ≡ Some first
    → left_above first waiting < left_above least waiting
fewer least first [] is = absurd (none-some first is)
fewer least first (other ∷ waiting) is =
    fewer-by least first other waiting (nat_lt least other) refl is (fewer least first waiting)

-- ---- a step

stays_by : (h : HandOver) (first : Option ℕ) → option_map (handed_over h) first ≡ None → with_handed h first ≡ h
stays_by h None is = refl
stays_by h (Some ticket) is = absurd (cc)

-- There is none that was not handed over in this session.
pub none_left : (queue : QueueState) (known : List Sender) (waiting : List ℕ) (h last : HandOver) (s : Session)
    (result : Option HandedOver) → result ≡ next_in h waiting → last ≡ after_next h waiting → result ≡ None
    → AreAllHanded queue known waiting h s last s
none_left queue known waiting h last s result next after is =
    let none : next_in h waiting ≡ None = sym next ∙ is in
    subst (λ (l : HandOver). AreAllHanded queue known waiting h s l s)
    (sym (after ∙ stays_by h (next_ticket h waiting) none)) (NoneLeft h s none)

-- One is handed over, and then the others.
pub one_more : (queue : QueueState) (known : List Sender) (waiting : List ℕ) (h after last : HandOver) (s between new : Session)
    (result : Option HandedOver) (handed : HandedOver) → has_space s ≡ true → result ≡ next_in h waiting → result ≡ Some handed
    → after ≡ after_next h waiting → IsCommandSent queue known handed s between
    → AreAllHanded queue known waiting after between last new → AreAllHanded queue known waiting h s last new
one_more queue known waiting h after last s between new result handed space next is later sent more =
    Hands h last s between new handed space (sym next ∙ is) sent
    (subst (λ (l : HandOver). AreAllHanded queue known waiting l between last new) later more)

fewer-from : (h : HandOver) (waiting : List ℕ) (first : Option ℕ) (handed : HandedOver) → next_ticket h waiting ≡ first
    → option_map (handed_over h) first ≡ Some handed
    → left_above (with_handed h first).handed waiting < left_above h.handed waiting
fewer-from h waiting None handed found is = absurd (none-some handed is)
fewer-from h waiting (Some first) handed found is = fewer h.handed first waiting (next_first h waiting first found)

-- So fewer are left.
pub fewer_left : (h after : HandOver) (waiting : List ℕ) (result : Option HandedOver) (handed : HandedOver)
    → result ≡ next_in h waiting → result ≡ Some handed → after ≡ after_next h waiting
    → left_above after.handed waiting < left_above h.handed waiting
fewer_left h after waiting result handed next is later =
    subst (λ (l : HandOver). left_above l.handed waiting < left_above h.handed waiting) (sym later)
    (fewer-from h waiting (next_ticket h waiting) handed refl (sym next ∙ is))

-- ---- tickets that are collected

drop-at : {X : Type 0} (xs : List X) (index : ℕ) (x : X) → slice_get xs index ≡ Some x → drop index xs ≡ x ∷ drop (index + 1) xs
drop-at [] index x is = absurd (none-some x is)
drop-at (y ∷ xs) zero x is = ap (λ a. a ∷ xs) (same_Some y x is)
drop-at (y ∷ xs) (suc index) x is =
    drop-at xs index x is ∙ ap (λ n. x ∷ drop n (y ∷ xs)) (let e : suc (index + 1) ≡ suc index + 1 = omega arith in e)

on_ok : {A E : Type 0} {P Q : Type 0} (r : Result A E) → (P → Q) → OnOk r P → OnOk r Q
on_ok (Ok x) f p = f p
on_ok (Err e) f p = tt

-- The commands from an index on, by the first of them.
abbrev from_index : QueueState → List QueuedCommand → ℕ → List ℕ
from_index queue waiting index = map command_ticket (filter (is_handed queue) (drop index waiting))

first_from : (queue : QueueState) (waiting : List QueuedCommand) (index : ℕ) (command : QueuedCommand)
    → slice_get waiting index ≡ Some command
    → from_index queue waiting index ≡ if_marked queue command.ticket ++ from_index queue waiting (index + 1)
first_from queue waiting index command is =
    ap (λ l. map command_ticket (filter (is_handed queue) l)) (drop-at waiting index command is)
    ∙ go (is_handed queue command) (filter (is_handed queue) (drop (index + 1) waiting))
  where
    go : (b : Bool) (later : List QueuedCommand) → map command_ticket (if b then command ∷ later else later)
        ≡ (if b then command.ticket ∷ [] else []) ++ map command_ticket later
    go true later = refl
    go false later = refl

drop-none : (waiting : List QueuedCommand) (index : ℕ) → slice_get waiting index ≡ None → drop index waiting ≡ []
drop-none [] zero is = refl
drop-none [] (suc index) is = refl
drop-none (command ∷ waiting) zero is = absurd (cc)
drop-none (command ∷ waiting) (suc index) is = drop-none waiting index is

-- There are none behind the last one.
pub none_from : (queue : QueueState) (index : ℕ) (old : List ℕ) → slice_get queue.waiting index ≡ None
    → old ≡ old ++ from_index queue queue.waiting index
none_from queue index old is =
    sym (ap (λ l. old ++ map command_ticket (filter (is_handed queue) l)) (drop-none queue.waiting index is)
    ∙ append-nil old)

-- The ticket of the first one, if it is marked, and then the others.
pub collected : {E : Type 0} (r : Result (Unit {0}) E) (queue : QueueState) (index : ℕ) (command : QueuedCommand)
    (old pushed new : List ℕ) → slice_get queue.waiting index ≡ Some command
    → pushed ≡ old ++ if_marked queue command.ticket
    → OnOk r (new ≡ pushed ++ from_index queue queue.waiting (index + 1))
    → OnOk r (new ≡ old ++ from_index queue queue.waiting index)
collected r queue index command old pushed new is pushes more =
    on_ok r (λ (e : new ≡ pushed ++ from_index queue queue.waiting (index + 1)).
    e ∙ ap (λ l. l ++ from_index queue queue.waiting (index + 1)) pushes
    ∙ append_assoc old (if_marked queue command.ticket) (from_index queue queue.waiting (index + 1))
    ∙ ap (λ l. old ++ l) (sym (first_from queue queue.waiting index command is))) more
