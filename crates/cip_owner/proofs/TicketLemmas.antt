-- The tickets of a queue: they rise, and each has at most one command and one result.
use Rattle.std.proofs.Common.{◌≡◌, ◌≢◌, ℕ, ◌+◌, ◌<◌, ◌≤◌, ◌==◌, Bool, true, false, not, if◌then◌else◌, max, nat_lt, nat_le, Option, Some, None, List, [], ◌∷◌, ◌++◌, length, drop, refl, ap, sym, subst, ◌∙◌, arith}
use Rattle.std.proofs.lemmas.Bool.{ne_eqb, eqb-true, eqb-false}
use Rattle.std.proofs.lemmas.Bool.Decides.{nat_tests}
use Rattle.std.specs.List.{AllByRecursion, filter}
use Rattle.cip_objects.specs.OwnRequests.{Asked}
use Rattle.cip_owner.specs.Queue.{QueueState, QueuedCommand, QueueResult, command_with, pushed, command_ticket, command_of, without_command, result_with, with_result, with_finished, with_handed, is_handed, after_push}
use Rattle.cip_owner.specs.QueueLaws.{TicketsRise, AreApart, HasTickets, tickets_law, handed_law}
use Rattle.cip_owner.specs.QueueRuns.{QueueStep, Pushes, Finishes, Marks, after_step, after_steps}
use Rattle.cip_owner.specs.Replies.{Reply}
use Rattle.cip_owner.proofs.ListLemmas.{all-append, all-filter, all-rest, all-weaker, all-both, first-number, first-all, first-behind}
use Rattle.cip_owner.proofs.QueueLemmas.{by_push, by_finish, by_mark, all-with_result}

pub rise-filter : (p : QueuedCommand → Bool) (cs : List QueuedCommand) (n : ℕ) → TicketsRise cs n → TicketsRise (filter p cs) n
rise-filter p [] n h = tt
rise-filter p (c ∷ cs) n h =
    elim (p c) as (λ is. TicketsRise (if is then c ∷ filter p cs else filter p cs) n) [
      | true ↦ (record { others = all-filter (λ d. c.ticket < d.ticket) p cs h.0.others; given = h.0.given }, rise-filter p cs n h.1)
      | false ↦ rise-filter p cs n h.1
    ]

pub rise-behind : (cs : List QueuedCommand) (c : QueuedCommand) (n : ℕ) → TicketsRise cs c.ticket → c.ticket < n → TicketsRise (cs ++ c ∷ []) n
rise-behind [] c n h below = (record { others = tt; given = below }, tt)
rise-behind (d ∷ cs) c n h below =
    let first = h.0.given in
    (record { others = all-append (λ e. d.ticket < e.ticket) cs (c ∷ []) h.0.others (first, tt); given = omega arith }, rise-behind cs c n h.1 below)

pub rise-below : (cs : List QueuedCommand) (n : ℕ) → TicketsRise cs n → AllByRecursion (λ c. c.ticket < n) cs
rise-below [] n h = tt
rise-below (c ∷ cs) n h = (h.0.given, rise-below cs n h.1)

-- the command that was taken away is not found, and the others are
pub gone : (ticket : ℕ) (cs : List QueuedCommand) → command_of ticket (without_command ticket cs) ≡ None
gone ticket [] = refl
gone ticket (c ∷ cs) = go (c.ticket == ticket) (gone ticket cs) refl
  where
    go : (is : Bool) → command_of ticket (without_command ticket cs) ≡ None → (c.ticket == ticket) ≡ is
        → command_of ticket (if not is then c ∷ without_command ticket cs else without_command ticket cs) ≡ None
    go true later h = later
    go false later h = rw h later

pub others_stay : (ticket n : ℕ) (cs : List QueuedCommand) → n ≢ ticket → command_of n (without_command ticket cs) ≡ command_of n cs
others_stay ticket n [] other = refl
others_stay ticket n (c ∷ cs) other = go (c.ticket == ticket) (others_stay ticket n cs other) refl
  where
    go : (is : Bool) → command_of n (without_command ticket cs) ≡ command_of n cs → (c.ticket == ticket) ≡ is
        → command_of n (if not is then c ∷ without_command ticket cs else without_command ticket cs) ≡ command_of n (c ∷ cs)
    go true later h =
        let own = eqb-true c.ticket ticket h in
        later ∙ sym (ap (λ is. if is then Some c else command_of n cs) (ne_eqb c.ticket n (λ e. other (sym e ∙ own))))
    go false later h = ap (λ found. if c.ticket == n then Some c else found) later

pub still_gone : (ticket n : ℕ) (cs : List QueuedCommand) → command_of n cs ≡ None → command_of n (without_command ticket cs) ≡ None
still_gone ticket n cs e = go (n == ticket) refl
  where
    go : (is : Bool) → (n == ticket) ≡ is → command_of n (without_command ticket cs) ≡ None
    go true h = ap (λ m. command_of m (without_command ticket cs)) (eqb-true n ticket h) ∙ gone ticket cs
    go false h = others_stay ticket n cs (eqb-false n ticket h) ∙ e

-- a ticket that was not given is no command's
pub not_given : (cs : List QueuedCommand) (n ticket : ℕ) → AllByRecursion (λ c. c.ticket < n) cs → n ≤ ticket → command_of ticket cs ≡ None
not_given [] n ticket h le = refl
not_given (c ∷ cs) n ticket h le =
    let below = h.0 in
    rw (ne_eqb c.ticket ticket (λ e. omega arith)) (not_given cs n ticket h.1 le)

-- a command put behind others is found by its own ticket alone
pub behind_others : (cs : List QueuedCommand) (c : QueuedCommand) (n : ℕ) → command_of n cs ≡ None → n ≢ c.ticket → command_of n (cs ++ c ∷ []) ≡ None
behind_others cs c n e other =
    first-behind command_ticket n cs (c ∷ []) e
    ∙ ap (λ is. if is then Some c else None) (ne_eqb c.ticket n (λ same. other (sym same)))

-- results that are apart
apart-behind : (rs : List QueueResult) (r : QueueResult) → AreApart rs → AllByRecursion (λ s. r.ticket ≢ s.ticket) rs → AreApart (rs ++ r ∷ [])
apart-behind [] r h others = (tt, tt)
apart-behind (s ∷ rs) r h others =
    (all-append (λ t. t.ticket ≢ s.ticket) rs (r ∷ []) h.0 (others.0, tt), apart-behind rs r h.1 others.1)

apart-rest : (rs : List QueueResult) → AreApart rs → AreApart (drop 1 rs)
apart-rest [] h = tt
apart-rest (r ∷ rs) h = h.1

apart-with_result : (rs : List QueueResult) (r : QueueResult) → AreApart rs → AllByRecursion (λ s. r.ticket ≢ s.ticket) rs → AreApart (with_result rs r)
apart-with_result rs r h others =
    elim (nat_lt (length rs) 256) as (λ is. AreApart ((if is then rs else drop 1 rs) ++ r ∷ [])) [
      | true ↦ apart-behind rs r h others
      | false ↦ apart-behind (drop 1 rs) r (apart-rest rs h) (all-rest (λ s. r.ticket ≢ s.ticket) rs others)
    ]

pub some_none : (c : QueuedCommand) → ◌≡◌ {A = Option QueuedCommand} (Some c) None → ⊥
some_none c e = cc

-- each step keeps the tickets
pushed_tickets : (q : QueueState) (asked : Asked) → HasTickets q → HasTickets (pushed q asked)
pushed_tickets q asked h = record {
  rising = rise-behind q.waiting (command_with q.next asked) (q.next + 1) h.rising (omega arith);
  apart = h.apart;
  given = all-weaker (λ r. r.ticket < q.next) (λ r. r.ticket < q.next + 1) (λ r below. omega arith) q.results h.given;
  finished = all-both (λ r. r.ticket < q.next) (λ r. command_of r.ticket q.waiting ≡ None)
      (λ r. command_of r.ticket (q.waiting ++ command_with q.next asked ∷ []) ≡ None)
      (λ r below none. behind_others q.waiting (command_with q.next asked) r.ticket none (λ e. omega arith)) q.results h.given h.finished;
  handed = (let below = h.handed in omega (arith, below));
}

pub ticket_given : (q : QueueState) (ticket : ℕ) (c : QueuedCommand) → HasTickets q → command_of ticket q.waiting ≡ Some c → (c.ticket ≡ ticket) × (ticket < q.next)
ticket_given q ticket c h e =
    let own : c.ticket ≡ ticket = first-number command_ticket ticket q.waiting c e in
    let below : c.ticket < q.next = first-all (λ d. d.ticket < q.next) command_ticket ticket q.waiting c (rise-below q.waiting q.next h.rising) e in
    (own, subst (λ n. n < q.next) own below)

-- no kept result has the ticket of a command that waits
pub no_result_yet : (q : QueueState) (ticket : ℕ) (c : QueuedCommand) → HasTickets q → command_of ticket q.waiting ≡ Some c → AllByRecursion (λ r. ticket ≢ r.ticket) q.results
no_result_yet q ticket c h e =
    all-weaker (λ r. command_of r.ticket q.waiting ≡ None) (λ r. ticket ≢ r.ticket)
    (λ r none same. some_none c (sym e ∙ ap (λ n. command_of n q.waiting) same ∙ none)) q.results h.finished

finished_tickets : (q : QueueState) (ticket : ℕ) (reply : Reply) (c : QueuedCommand) → HasTickets q → command_of ticket q.waiting ≡ Some c → HasTickets (with_finished q ticket c reply)
finished_tickets q ticket reply c h e =
    let own = ticket_given q ticket c h e in
    let r = result_with c reply in
    record {
      rising = rise-filter (λ d. not (d.ticket == ticket)) q.waiting q.next h.rising;
      apart = apart-with_result q.results r h.apart
          (subst (λ n. AllByRecursion (λ s. n ≢ s.ticket) q.results) (sym own.0) (no_result_yet q ticket c h e));
      given = all-with_result (λ s. s.ticket < q.next) q.results r h.given (subst (λ n. n < q.next) (sym own.0) own.1);
      finished = all-with_result (λ s. command_of s.ticket (without_command ticket q.waiting) ≡ None) q.results r
          (all-weaker (λ s. command_of s.ticket q.waiting ≡ None) (λ s. command_of s.ticket (without_command ticket q.waiting) ≡ None)
          (λ s none. still_gone ticket s.ticket q.waiting none) q.results h.finished)
          (subst (λ n. command_of n (without_command ticket q.waiting) ≡ None) (sym own.0) (gone ticket q.waiting));
      handed = h.handed;
    }

larger_below : (a b n : ℕ) → a < n → b < n → max a b < n
larger_below a b n one other = grind (arith)

pub marked_tickets : (q : QueueState) (ticket : ℕ) (c : QueuedCommand) → HasTickets q → command_of ticket q.waiting ≡ Some c
    → HasTickets (with_handed (max q.handed ticket) q)
marked_tickets q ticket c h e = record {
  rising = h.rising;
  apart = h.apart;
  given = h.given;
  finished = h.finished;
  handed = larger_below q.handed ticket q.next h.handed (ticket_given q ticket c h e).1;
}

pub step_tickets : (q : QueueState) (s : QueueStep) → HasTickets q → HasTickets (after_step q s)
step_tickets q (Pushes asked) h = by_push HasTickets q asked h (λ e. pushed_tickets q asked h)
step_tickets q (Finishes ticket reply) h =
    by_finish HasTickets q ticket reply h (λ c e f. finished_tickets q ticket reply c h e)
step_tickets q (Marks ticket) h = by_mark HasTickets q ticket h (λ c e. marked_tickets q ticket c h e)

tickets_stay : (q : QueueState) (steps : List QueueStep) → HasTickets q → HasTickets (after_steps q steps)
tickets_stay q [] h = h
tickets_stay q (s ∷ steps) h = tickets_stay (after_step q s) steps (step_tickets q s h)

pub tickets : tickets_law
tickets = (λ limit. record { rising = tt; apart = tt; given = tt; finished = tt; handed = omega arith }, tickets_stay)

-- ---- what was handed over

still_handed : (ticket handed other : ℕ) → nat_le ticket handed ≡ true → nat_le ticket (max handed other) ≡ true
still_handed ticket handed other e = grind (arith, nat_tests)

step_handed : (q : QueueState) (s : QueueStep) (c : QueuedCommand) → is_handed q c ≡ true → is_handed (after_step q s) c ≡ true
step_handed q (Pushes asked) c h = by_push (λ p. is_handed p c ≡ true) q asked h (λ e. h)
step_handed q (Finishes ticket reply) c h = by_finish (λ p. is_handed p c ≡ true) q ticket reply h (λ d e f. h)
step_handed q (Marks ticket) c h =
    by_mark (λ p. is_handed p c ≡ true) q ticket h (λ d e. still_handed c.ticket q.handed ticket h)

steps_handed : (q : QueueState) (steps : List QueueStep) (c : QueuedCommand) → is_handed q c ≡ true
    → is_handed (after_steps q steps) c ≡ true
steps_handed q [] c h = h
steps_handed q (s ∷ steps) c h = steps_handed (after_step q s) steps c (step_handed q s c h)

above_handed : (next handed : ℕ) → handed < next → nat_le next handed ≡ false
above_handed next handed below = grind (arith, nat_tests)

new_not_handed : (q : QueueState) (asked : Asked) → HasTickets q → is_handed (after_push q asked) (command_with q.next asked) ≡ false
new_not_handed q asked h =
    by_push (λ p. is_handed p (command_with q.next asked) ≡ false) q asked (above_handed q.next q.handed h.handed)
    (λ e. above_handed q.next q.handed h.handed)

pub handed : handed_law
handed = (steps_handed, new_not_handed)
