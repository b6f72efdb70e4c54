-- Which of the waiting commands an owner is handed next.
use Rattle.std.specs.Prelude.{◌≡◌, ◌<◌, ◌≤◌, ℕ, zero, suc, ◌+◌, ◌-◌, ◌^◌, ◌==◌, ◌||◌, max, min, nat_lt, nat_le, Bool, true, false, not, if◌then◌else◌, List, [], ◌∷◌, ◌++◌, length, map, take, ⊤}
use Rattle.std.specs.Prelude.{Option, Some, None}
use Rattle.std.specs.Option.{option_map}
use Rattle.std.specs.List.{find, filter, list_any, AllByRecursion}
use Rattle.enip_owner.specs.declared.hand_over.HandOver.{HandOver}
use Rattle.enip_owner.specs.declared.hand_over.HandedOver.{HandedOver}

-- The first of these tickets that is greater than this one.
abbrev pub first_above : ℕ → List ℕ → Option ℕ
first_above ticket waiting = find (λ other. nat_lt ticket other) waiting

-- A command that is handed over again has a ticket that is not greater than those of the earlier sessions.
abbrev pub handed_over : HandOver → ℕ → HandedOver
handed_over h ticket = record { ticket = ticket; again = nat_le ticket h.earlier }

-- How many commands the owner has in hand: they wait, and were handed over in this session, since tickets are handed over
-- in their order.
abbrev pub in_hand : HandOver → List ℕ → ℕ
in_hand h waiting = length (filter (λ ticket. nat_le ticket h.handed) waiting)

-- The ticket that is handed over next, of those that wait: none while the owner has `ahead` in hand.
abbrev pub next_ticket : HandOver → List ℕ → Option ℕ
next_ticket h waiting = if nat_lt (in_hand h waiting) h.ahead then first_above h.handed waiting else None

-- The command that is handed over next, of those that wait.
abbrev pub next_in : HandOver → List ℕ → Option HandedOver
next_in h waiting = option_map (handed_over h) (next_ticket h waiting)

abbrev pub with_handed : HandOver → Option ℕ → HandOver
with_handed h None = h
with_handed h (Some ticket) = record h { handed = ticket }

abbrev pub after_next : HandOver → List ℕ → HandOver
after_next h waiting = with_handed h (next_ticket h waiting)

abbrev pub with_new_session : HandOver → HandOver
with_new_session h = record { ahead = h.ahead; earlier = max h.earlier h.handed; handed = 0 }

-- ---- a queue, and sessions with owners

-- The tickets that wait, the next ticket, and what was handed over.
pub record Desk : Type 0 where
  pub next : ℕ
  pub waiting : List ℕ
  pub hand_over : HandOver

-- What can happen: a command is put into the queue, the owner finishes one, the owner is handed the next one, or another
-- session begins.
pub data DeskStep : Type 0 where
  Pushes : DeskStep
  Finishes : (ticket : ℕ) → DeskStep
  Hands : DeskStep
  Begins : DeskStep

abbrev pub without : ℕ → List ℕ → List ℕ
without ticket waiting = filter (λ other. not (other == ticket)) waiting

abbrev pub desk_after : Desk → DeskStep → Desk
desk_after d Pushes = record d { next = d.next + 1; waiting = d.waiting ++ d.next ∷ [] }
desk_after d (Finishes ticket) = record d { waiting = without ticket d.waiting }
desk_after d Hands = record d { hand_over = after_next d.hand_over d.waiting }
desk_after d Begins = record d { hand_over = with_new_session d.hand_over }

abbrev pub as_list : Option HandedOver → List HandedOver
as_list None = []
as_list (Some handed) = handed ∷ []

-- What a step hands over.
abbrev pub handed_in : Desk → DeskStep → List HandedOver
handed_in d Pushes = []
handed_in d (Finishes ticket) = []
handed_in d Hands = as_list (next_in d.hand_over d.waiting)
handed_in d Begins = []

abbrev pub desk_after_all : Desk → List DeskStep → Desk
desk_after_all d [] = d
desk_after_all d (step ∷ steps) = desk_after_all (desk_after d step) steps

-- What these steps hand over, in order.
abbrev pub all_handed : Desk → List DeskStep → List HandedOver
all_handed d [] = []
all_handed d (step ∷ steps) = handed_in d step ++ all_handed (desk_after d step) steps

abbrev pub tickets : List HandedOver → List ℕ
tickets handed = map (λ (h : HandedOver). h.ticket) handed

-- ---- what holds of a desk

-- Each ticket is greater than this one, and than those before it.
abbrev pub RisesAbove : ℕ → List ℕ → Type 0
RisesAbove ticket [] = ⊤
RisesAbove ticket (next ∷ others) = (ticket < next) × RisesAbove next others

abbrev pub AreBelow : ℕ → List ℕ → Type 0
AreBelow ticket waiting = AllByRecursion (λ other. other < ticket) waiting

-- The waiting tickets rise from 1 and are below the next one. So are those that were handed over.
pub record IsDesk (d : Desk) : Type 0 where
  pub rises : RisesAbove 0 d.waiting
  pub below : AreBelow d.next d.waiting
  pub earlier : d.hand_over.earlier < d.next
  pub handed : d.hand_over.handed < d.next

-- No step begins another session.
abbrev pub IsOneSession : List DeskStep → Type 0
IsOneSession [] = ⊤
IsOneSession (Begins ∷ steps) = ⊥
IsOneSession (step ∷ steps) = IsOneSession steps

-- So many hand-overs, one after the other.
abbrev pub hands : ℕ → List DeskStep
hands zero = []
hands (suc n) = Hands ∷ hands n

abbrev pub has_ticket : List ℕ → ℕ → Bool
has_ticket waiting ticket = list_any (λ other. other == ticket) waiting

-- ---- the laws

-- In a session the tickets that are handed over rise, so that each command is handed over once, in the order of the
-- tickets.
abbrev pub order_law : Type 0
order_law =
    (d : Desk) (steps : List DeskStep) → IsOneSession steps → RisesAbove d.hand_over.handed (tickets (all_handed d steps))

-- A new session is handed the first commands that wait, in order: as many as the owner may have in hand.
abbrev pub session_law : Type 0
session_law =
    (d : Desk) → IsDesk d
    → tickets (all_handed (desk_after d Begins) (hands (length d.waiting))) ≡ take d.hand_over.ahead d.waiting

-- The commands that wait and were handed over in a session, so far.
abbrev pub in_hand_after : Desk → List DeskStep → List ℕ
in_hand_after d steps =
    filter (has_ticket (tickets (all_handed (desk_after d Begins) steps))) (desk_after_all (desk_after d Begins) steps).waiting

-- In a session, of the commands that were handed over and are not done there are at most `ahead`.
abbrev pub ahead_law : Type 0
ahead_law =
    (d : Desk) (steps : List DeskStep) → IsDesk d → IsOneSession steps → length (in_hand_after d steps) ≤ d.hand_over.ahead

-- The commands that wait and were not handed over in a session, so far.
abbrev pub left_after : Desk → List DeskStep → List ℕ
left_after d steps =
    filter (λ ticket. not (has_ticket (tickets (all_handed (desk_after d Begins) steps)) ticket))
    (desk_after_all (desk_after d Begins) steps).waiting

-- In a session, the first command that waits and was not handed over is the next one, as soon as fewer than `ahead` are in
-- hand.
abbrev pub soon_law : Type 0
soon_law =
    (d : Desk) (steps : List DeskStep) (ticket : ℕ) (others : List ℕ) → IsDesk d → IsOneSession steps
    → length (in_hand_after d steps) < d.hand_over.ahead → left_after d steps ≡ ticket ∷ others
    → tickets (handed_in (desk_after_all (desk_after d Begins) steps) Hands) ≡ ticket ∷ []

-- No command that is handed over again comes behind one that is new.
abbrev pub are_new : List HandedOver → Type 0
are_new handed = AllByRecursion (λ (h : HandedOver). h.again ≡ false) handed

abbrev pub MarkedFirst : List HandedOver → Type 0
MarkedFirst [] = ⊤
MarkedFirst (h ∷ handed) = (h.again ≡ false → are_new handed) × MarkedFirst handed

-- In a session, commands that were handed over before, maybe before a restart, come first.
abbrev pub marked_first_law : Type 0
marked_first_law = (d : Desk) (steps : List DeskStep) → IsOneSession steps → MarkedFirst (all_handed d steps)

-- In a session, a waiting command was handed over exactly if its ticket is not greater than the last one that was. So no
-- command is skipped.
abbrev pub none_skipped_law : Type 0
none_skipped_law =
    (d : Desk) (steps : List DeskStep) (ticket : ℕ) → IsDesk d → IsOneSession steps
    → has_ticket (desk_after_all (desk_after d Begins) steps).waiting ticket ≡ true
    → has_ticket (tickets (all_handed (desk_after d Begins) steps)) ticket
    ≡ nat_le ticket (desk_after_all (desk_after d Begins) steps).hand_over.handed

-- The greatest ticket that was handed over so far.
abbrev pub greatest_handed : HandOver → ℕ
greatest_handed h = max h.earlier h.handed

-- What is handed over waits. It is handed over again exactly if it was handed over before: by these steps, or, by its
-- ticket, before them.
abbrev pub again_law : Type 0
again_law =
    (d : Desk) (steps : List DeskStep) (handed : HandedOver) → IsDesk d
    → next_in (desk_after_all d steps).hand_over (desk_after_all d steps).waiting ≡ Some handed
    → (has_ticket (desk_after_all d steps).waiting handed.ticket ≡ true)
    × (handed.again ≡ (nat_le handed.ticket (greatest_handed d.hand_over) || has_ticket (tickets (all_handed d steps)) handed.ticket))

-- A command that is done is not handed over after that.
abbrev pub done_law : Type 0
done_law =
    (d : Desk) (ticket : ℕ) (steps : List DeskStep) → IsDesk d → ticket < d.next
    → has_ticket (tickets (all_handed (desk_after d (Finishes ticket)) steps)) ticket ≡ false
