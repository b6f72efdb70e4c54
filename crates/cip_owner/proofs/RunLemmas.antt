-- The queue over any number of steps.
use Rattle.std.proofs.Common.{◌≡◌, ◌≢◌, ℕ, suc, ◌+◌, ◌-◌, ◌<◌, ◌≤◌, ◌==◌, Bool, true, false, not, ◌&&◌, ◌||◌, if◌then◌else◌, max, nat_lt, Option, Some, None, unwrap_or, List, [], ◌∷◌, ◌++◌, length, map, drop, append_assoc, refl, ap, sym, subst, ◌∙◌, arith}
use Rattle.std.proofs.lemmas.Bool.{eq-eqb, ne_eqb, eqb-true}
use Rattle.std.proofs.lemmas.Bool.Decides.{nat_tests}
use Rattle.std.proofs.lemmas.List.{append-nil, length-append}
use Rattle.std.proofs.lemmas.List.Elements.{filter-append}
use Rattle.std.specs.List.{AllByRecursion, list_any, range_with_len}
use Rattle.cip_objects.specs.OwnRequests.{Asked}
use Rattle.cip_owner.specs.Queue.{QueueState, QueuedCommand, QueueResult, Done, Unknown, takes, command_with, pushed, command_ticket, result_ticket, command_of, kept_result, without_command, can_be_reply, result_with, with_result, with_finished, with_handed, finished_by, outcome_by, outcome_of}
use Rattle.cip_owner.specs.QueueLaws.{AreApart, HasTickets, numbers_law, unfinished, waiting_law, last_results, results_law, IsResultOf, IsResultOfSome, once_law, finished_law}
use Rattle.cip_owner.specs.QueueRuns.{QueueStep, Pushes, Finishes, Marks, after_step, after_steps, result_of_reply, commands_in, results_in}
use Rattle.cip_owner.specs.Replies.{Reply}
use Rattle.cip_owner.proofs.ListLemmas.{all-rest, all-weaker, all-both, first-absent, first-number, first-front, first-behind}
use Rattle.cip_owner.proofs.QueueLemmas.{reply_is, finish_done, by_mark, length-with_result}
use Rattle.cip_owner.proofs.TicketLemmas.{marked_tickets, gone, still_gone, behind_others, ticket_given, no_result_yet, some_none, step_tickets}

-- what one step does to the commands and the results of a run
abbrev Run : QueueState → List QueuedCommand → List QueueResult → List QueueStep → (List QueuedCommand → List QueueResult → QueueState → Type 0) → Type 0
Run p commands results steps P = P (commands ++ commands_in p steps) (results ++ results_in p steps) (after_steps p steps)

-- a statement on a run whose first step is a push or a finish, by what the step does
by_first_push : (P : List QueuedCommand → List QueueResult → QueueState → Type 0) (q : QueueState) (asked : Asked) (steps : List QueueStep)
    → Run q [] [] steps P → (takes q asked ≡ true → Run (pushed q asked) (command_with q.next asked ∷ []) [] steps P)
    → P (commands_in q (Pushes asked ∷ steps)) (results_in q (Pushes asked ∷ steps)) (after_steps q (Pushes asked ∷ steps))
by_first_push P q asked steps same more = go (takes q asked) refl
  where
    go : (is : Bool) → takes q asked ≡ is
        → Run (if is then pushed q asked else q) (if is then command_with q.next asked ∷ [] else []) [] steps P
    go true e = more e
    go false e = same

by_first_finish : (P : List QueuedCommand → List QueueResult → QueueState → Type 0) (q : QueueState) (ticket : ℕ) (reply : Reply) (steps : List QueueStep)
    → Run q [] [] steps P
    → ((c : QueuedCommand) → command_of ticket q.waiting ≡ Some c → can_be_reply c reply ≡ true → Run (with_finished q ticket c reply) [] (result_with c reply ∷ []) steps P)
    → P (commands_in q (Finishes ticket reply ∷ steps)) (results_in q (Finishes ticket reply ∷ steps)) (after_steps q (Finishes ticket reply ∷ steps))
by_first_finish P q ticket reply steps same more = go (command_of ticket q.waiting) refl
  where
    if_given : (c : QueuedCommand) (is : Bool) → command_of ticket q.waiting ≡ Some c → can_be_reply c reply ≡ is
        → Run (unwrap_or (if is then Some (with_finished q ticket c reply) else None) q) [] (if is then result_with c reply ∷ [] else []) steps P
    if_given c true e f = more c e f
    if_given c false e f = same

    go : (found : Option QueuedCommand) → command_of ticket q.waiting ≡ found
        → Run (unwrap_or (finished_by q ticket reply found) q) [] (result_of_reply reply found) steps P
    go None e = same
    go (Some c) e = if_given c (can_be_reply c reply) e refl

by_first_mark : (P : List QueuedCommand → List QueueResult → QueueState → Type 0) (q : QueueState) (ticket : ℕ) (steps : List QueueStep)
    → Run q [] [] steps P
    → ((c : QueuedCommand) → command_of ticket q.waiting ≡ Some c → Run (with_handed (max q.handed ticket) q) [] [] steps P)
    → P (commands_in q (Marks ticket ∷ steps)) (results_in q (Marks ticket ∷ steps)) (after_steps q (Marks ticket ∷ steps))
by_first_mark P q ticket steps same more = by_mark (λ p. Run p [] [] steps P) q ticket same more

-- ---- the numbers of the tickets

numbered : (q : QueueState) (steps : List QueueStep)
    → (map command_ticket (commands_in q steps) ≡ range_with_len q.next (length (commands_in q steps)))
    × ((after_steps q steps).next ≡ q.next + length (commands_in q steps))
numbered q [] = (refl, omega arith)
numbered q (Pushes asked ∷ steps) =
    by_first_push (λ commands results p. (map command_ticket commands ≡ range_with_len q.next (length commands)) × (p.next ≡ q.next + length commands)) q asked steps
    (numbered q steps)
    (λ e. let later = numbered (pushed q asked) steps in
    let n : (after_steps (pushed q asked) steps).next ≡ (q.next + 1) + length (commands_in (pushed q asked) steps) = later.1 in
    (ap (λ ns. q.next ∷ ns) later.0, omega arith))
numbered q (Finishes ticket reply ∷ steps) =
    by_first_finish (λ commands results p. (map command_ticket commands ≡ range_with_len q.next (length commands)) × (p.next ≡ q.next + length commands)) q ticket reply steps
    (numbered q steps)
    (λ c e f. numbered (with_finished q ticket c reply) steps)
numbered q (Marks ticket ∷ steps) =
    by_first_mark (λ commands results p. (map command_ticket commands ≡ range_with_len q.next (length commands)) × (p.next ≡ q.next + length commands)) q ticket steps
    (numbered q steps) (λ c e. numbered (with_handed (max q.handed ticket) q) steps)

pub numbers : numbers_law
numbers = numbered

-- commands that are put in have the next tickets
pub from_next : (q : QueueState) (steps : List QueueStep) → AllByRecursion (λ c. q.next ≤ c.ticket) (commands_in q steps)
from_next q [] = tt
from_next q (Pushes asked ∷ steps) =
    by_first_push (λ commands results p. AllByRecursion (λ c. q.next ≤ c.ticket) commands) q asked steps
    (from_next q steps)
    (λ e. (omega arith, all-weaker (λ c. q.next + 1 ≤ c.ticket) (λ c. q.next ≤ c.ticket) (λ c le. omega arith) (commands_in (pushed q asked) steps) (from_next (pushed q asked) steps)))
from_next q (Finishes ticket reply ∷ steps) =
    by_first_finish (λ commands results p. AllByRecursion (λ c. q.next ≤ c.ticket) commands) q ticket reply steps
    (from_next q steps)
    (λ c e f. from_next (with_finished q ticket c reply) steps)
from_next q (Marks ticket ∷ steps) =
    by_first_mark (λ commands results p. AllByRecursion (λ c. q.next ≤ c.ticket) commands) q ticket steps
    (from_next q steps) (λ c e. from_next (with_handed (max q.handed ticket) q) steps)

-- ---- the commands that wait

nothing_finished : (cs : List QueuedCommand) → unfinished [] cs ≡ cs
nothing_finished [] = refl
nothing_finished (c ∷ cs) = ap (λ ds. c ∷ ds) (nothing_finished cs)

-- the first result takes its command away, and the others theirs
one_finished : (r : QueueResult) (results : List QueueResult) (cs : List QueuedCommand) → unfinished (r ∷ results) cs ≡ unfinished results (without_command r.ticket cs)
one_finished r results [] = refl
one_finished r results (c ∷ cs) = go (c.ticket == r.ticket) (one_finished r results cs)
  where
    any : Bool
    any = list_any (λ s. c.ticket == s.ticket) results

    go : (is : Bool) → unfinished (r ∷ results) cs ≡ unfinished results (without_command r.ticket cs)
        → (if not (is || any) then c ∷ unfinished (r ∷ results) cs else unfinished (r ∷ results) cs)
        ≡ unfinished results (if not is then c ∷ without_command r.ticket cs else without_command r.ticket cs)
    go true later = later
    go false later = ap (λ ds. if not any then c ∷ ds else ds) later

without_absent : (ticket : ℕ) (cs : List QueuedCommand) → AllByRecursion (λ c. c.ticket ≢ ticket) cs → without_command ticket cs ≡ cs
without_absent ticket [] h = refl
without_absent ticket (c ∷ cs) h =
    rw (ne_eqb c.ticket ticket h.0) (ap (λ ds. c ∷ ds) (without_absent ticket cs h.1))

-- the commands of later steps have other tickets than one that was given
others : (q : QueueState) (steps : List QueueStep) (ticket : ℕ) → ticket < q.next → AllByRecursion (λ c. c.ticket ≢ ticket) (commands_in q steps)
others q steps ticket below =
    all-weaker (λ c. q.next ≤ c.ticket) (λ c. c.ticket ≢ ticket) (λ c le e. omega arith) (commands_in q steps) (from_next q steps)

wait : (q : QueueState) (steps : List QueueStep) → HasTickets q → (after_steps q steps).waiting ≡ unfinished (results_in q steps) (q.waiting ++ commands_in q steps)
wait q [] h = sym (nothing_finished (q.waiting ++ []) ∙ append-nil q.waiting)
wait q (Pushes asked ∷ steps) h =
    by_first_push (λ commands results p. p.waiting ≡ unfinished results (q.waiting ++ commands)) q asked steps
    (wait q steps h)
    (λ e. (wait (pushed q asked) steps (subst HasTickets (taken e) (step_tickets q (Pushes asked) h)))
    ∙ ap (unfinished (results_in (pushed q asked) steps)) (append_assoc q.waiting (command_with q.next asked ∷ []) (commands_in (pushed q asked) steps)))
  where
    taken : takes q asked ≡ true → after_step q (Pushes asked) ≡ pushed q asked
    taken e = ap (λ is. if is then pushed q asked else q) e
wait q (Finishes ticket reply ∷ steps) h =
    by_first_finish (λ commands results p. p.waiting ≡ unfinished results (q.waiting ++ commands)) q ticket reply steps
    (wait q steps h) (λ c e f. done c e f (λ kept. wait (with_finished q ticket c reply) steps kept))
  where
    done : (c : QueuedCommand) → command_of ticket q.waiting ≡ Some c → can_be_reply c reply ≡ true
        → (HasTickets (with_finished q ticket c reply) → (after_steps (with_finished q ticket c reply) steps).waiting
        ≡ unfinished (results_in (with_finished q ticket c reply) steps) (without_command ticket q.waiting ++ commands_in (with_finished q ticket c reply) steps))
        → (after_steps (with_finished q ticket c reply) steps).waiting
        ≡ unfinished (result_with c reply ∷ results_in (with_finished q ticket c reply) steps) (q.waiting ++ commands_in (with_finished q ticket c reply) steps)
    done c e f later =
        let p = with_finished q ticket c reply in
        let own = ticket_given q ticket c h e in
        let kept : HasTickets p = subst HasTickets (ap (λ o. unwrap_or o q) (finish_done q ticket reply c e f)) (step_tickets q (Finishes ticket reply) h) in
        let commands = commands_in p steps in
        let results = results_in p steps in
        later kept
        ∙ ap (λ cs. unfinished results (without_command ticket q.waiting ++ cs)) (sym (without_absent ticket commands (others p steps ticket own.1)))
        ∙ ap (unfinished results) (sym (filter-append (λ d. not (d.ticket == ticket)) q.waiting commands))
        ∙ ap (λ n. unfinished results (without_command n (q.waiting ++ commands))) (sym own.0)
        ∙ sym (one_finished (result_with c reply) results (q.waiting ++ commands))
wait q (Marks ticket ∷ steps) h =
    by_first_mark (λ commands results p. p.waiting ≡ unfinished results (q.waiting ++ commands)) q ticket steps
    (wait q steps h) (λ c e. wait (with_handed (max q.handed ticket) q) steps (marked_tickets q ticket c h e))

pub waiting : waiting_law
waiting = wait

-- ---- the results that are kept

all_kept : (rs : List QueueResult) → length rs ≤ 256 → last_results rs ≡ rs
all_kept rs few = ap (λ n. drop n rs) none
  where
    none : length rs - 256 ≡ 0
    none = omega (arith, few)

-- one more result, and more behind it
rest_length : (ss more : List QueueResult) (r : QueueResult) → suc (length ss) ≡ 256 → length (ss ++ (r ∷ more)) - 256 ≡ length more
rest_length ss more r e = rw (length-append ss (r ∷ more)) (omega arith)

whole_length : (ss more : List QueueResult) (r : QueueResult) → suc (length ss) ≡ 256 → suc (length (ss ++ (r ∷ more))) - 256 ≡ suc (length more)
whole_length ss more r e = rw (length-append ss (r ∷ more)) (omega arith)

dropped : (ss more : List QueueResult) (r : QueueResult) → length ss ≡ 256 → last_results ((drop 1 ss ++ r ∷ []) ++ more) ≡ last_results (ss ++ (r ∷ more))
dropped [] more r e = absurd (omega arith)
dropped (s ∷ ss) more r e =
    ap last_results (append_assoc ss (r ∷ []) more)
    ∙ ap (λ n. drop n (ss ++ (r ∷ more))) (rest_length ss more r e)
    ∙ sym (ap (λ n. drop n (s ∷ (ss ++ (r ∷ more)))) (whole_length ss more r e))

full : (n : ℕ) → n ≤ 256 → nat_lt n 256 ≡ false → n ≡ 256
full n few e = grind (arith, nat_tests)

one_more : (rs more : List QueueResult) (r : QueueResult) → length rs ≤ 256 → last_results (with_result rs r ++ more) ≡ last_results (rs ++ (r ∷ more))
one_more rs more r few = by (nat_lt (length rs) 256) refl
  where
    by : (is : Bool) → nat_lt (length rs) 256 ≡ is → last_results (((if is then rs else drop 1 rs) ++ r ∷ []) ++ more) ≡ last_results (rs ++ (r ∷ more))
    by true e = ap last_results (append_assoc rs (r ∷ []) more)
    by false e = dropped rs more r (full (length rs) few e)

kept_few : (q : QueueState) (ticket : ℕ) (reply : Reply) (c : QueuedCommand) → length q.results ≤ 256 → length (with_result q.results (result_with c reply)) ≤ 256
kept_few q ticket reply c few = length-with_result q.results (result_with c reply) few

keep : (q : QueueState) (steps : List QueueStep) → length q.results ≤ 256 → (after_steps q steps).results ≡ last_results (q.results ++ results_in q steps)
keep q [] few = sym (ap last_results (append-nil q.results) ∙ all_kept q.results few)
keep q (Pushes asked ∷ steps) few =
    by_first_push (λ commands results p. p.results ≡ last_results (q.results ++ results)) q asked steps
    (keep q steps few)
    (λ e. keep (pushed q asked) steps few)
keep q (Finishes ticket reply ∷ steps) few =
    by_first_finish (λ commands results p. p.results ≡ last_results (q.results ++ results)) q ticket reply steps
    (keep q steps few)
    (λ c e f. keep (with_finished q ticket c reply) steps (kept_few q ticket reply c few)
    ∙ one_more q.results (results_in (with_finished q ticket c reply) steps) (result_with c reply) few)
keep q (Marks ticket ∷ steps) few =
    by_first_mark (λ commands results p. p.results ≡ last_results (q.results ++ results)) q ticket steps
    (keep q steps few) (λ c e. keep (with_handed (max q.handed ticket) q) steps few)

pub results : results_law
results = keep

-- ---- each command once

-- a ticket that was given and does not wait gets no result any more
never_again : (q : QueueState) (steps : List QueueStep) (ticket : ℕ) → ticket < q.next → command_of ticket q.waiting ≡ None → AllByRecursion (λ r. r.ticket ≢ ticket) (results_in q steps)
never_again q [] ticket below none = tt
never_again q (Pushes asked ∷ steps) ticket below none =
    by_first_push (λ commands results p. AllByRecursion (λ r. r.ticket ≢ ticket) results) q asked steps
    (never_again q steps ticket below none)
    (λ e. never_again (pushed q asked) steps ticket (omega arith) (behind_others q.waiting (command_with q.next asked) ticket none (λ same. omega arith)))
never_again q (Finishes given reply ∷ steps) ticket below none =
    by_first_finish (λ commands results p. AllByRecursion (λ r. r.ticket ≢ ticket) results) q given reply steps
    (never_again q steps ticket below none)
    (λ c e f. (
      λ same. some_none c (sym e ∙ ap (λ n. command_of n q.waiting) (sym (first-number command_ticket given q.waiting c e) ∙ same) ∙ none),
      never_again (with_finished q given c reply) steps ticket below (still_gone given ticket q.waiting none),
    ))
never_again q (Marks given ∷ steps) ticket below none =
    by_first_mark (λ commands results p. AllByRecursion (λ r. r.ticket ≢ ticket) results) q given steps
    (never_again q steps ticket below none) (λ c e. never_again (with_handed (max q.handed given) q) steps ticket below none)

apart : (q : QueueState) (steps : List QueueStep) → HasTickets q → AreApart (results_in q steps)
apart q [] h = tt
apart q (Pushes asked ∷ steps) h =
    by_first_push (λ commands results p. AreApart results) q asked steps
    (apart q steps h)
    (λ e. apart (pushed q asked) steps (subst HasTickets (ap (λ is. if is then pushed q asked else q) e) (step_tickets q (Pushes asked) h)))
apart q (Finishes ticket reply ∷ steps) h =
    by_first_finish (λ commands results p. AreApart results) q ticket reply steps
    (apart q steps h) (λ c e f. done c e f (λ kept. apart (with_finished q ticket c reply) steps kept))
  where
    done : (c : QueuedCommand) → command_of ticket q.waiting ≡ Some c → can_be_reply c reply ≡ true
        → (HasTickets (with_finished q ticket c reply) → AreApart (results_in (with_finished q ticket c reply) steps))
        → AreApart (result_with c reply ∷ results_in (with_finished q ticket c reply) steps)
    done c e f later =
        let p = with_finished q ticket c reply in
        let own = ticket_given q ticket c h e in
        let kept : HasTickets p = subst HasTickets (ap (λ o. unwrap_or o q) (finish_done q ticket reply c e f)) (step_tickets q (Finishes ticket reply) h) in (
          subst (λ n. AllByRecursion (λ r. r.ticket ≢ n) (results_in p steps)) (sym own.0) (never_again p steps ticket own.1 (gone ticket q.waiting)),
          later kept,
        )
apart q (Marks ticket ∷ steps) h =
    by_first_mark (λ commands results p. AreApart results) q ticket steps
    (apart q steps h) (λ c e. apart (with_handed (max q.handed ticket) q) steps (marked_tickets q ticket c h e))

-- a result is that of the command that has its ticket
abbrev Owned : List QueuedCommand → QueueResult → Type 0
Owned commands = λ r. IsResultOfSome r (command_of r.ticket commands)

-- a command that is put in behind others, before later ones
owned_push : (q : QueueState) (c : QueuedCommand) (more : List QueuedCommand) (r : QueueResult) → Owned ((q.waiting ++ c ∷ []) ++ more) r → Owned (q.waiting ++ (c ∷ more)) r
owned_push q c more r h = subst (λ cs. Owned cs r) (append_assoc q.waiting (c ∷ []) more) h

-- a result of another command than the one that was taken away
search_others : (cs more : List QueuedCommand) (ticket n : ℕ) → n ≢ ticket → command_of n (without_command ticket cs ++ more) ≡ command_of n (cs ++ more)
search_others [] more ticket n other = refl
search_others (c ∷ cs) more ticket n other = go (c.ticket == ticket) (search_others cs more ticket n other) refl
  where
    go : (is : Bool) → command_of n (without_command ticket cs ++ more) ≡ command_of n (cs ++ more) → (c.ticket == ticket) ≡ is
        → command_of n ((if not is then c ∷ without_command ticket cs else without_command ticket cs) ++ more) ≡ command_of n (c ∷ (cs ++ more))
    go true later h =
        let own = eqb-true c.ticket ticket h in
        later ∙ sym (ap (λ is. if is then Some c else command_of n (cs ++ more)) (ne_eqb c.ticket n (λ e. other (sym e ∙ own))))
    go false later h = ap (λ found. if c.ticket == n then Some c else found) later

owned : (q : QueueState) (steps : List QueueStep) → HasTickets q → AllByRecursion (Owned (q.waiting ++ commands_in q steps)) (results_in q steps)
owned q [] h = tt
owned q (Pushes asked ∷ steps) h =
    by_first_push (λ commands results p. AllByRecursion (Owned (q.waiting ++ commands)) results) q asked steps
    (owned q steps h)
    (λ e. all-weaker (Owned ((q.waiting ++ command_with q.next asked ∷ []) ++ commands_in (pushed q asked) steps))
    (Owned (q.waiting ++ (command_with q.next asked ∷ commands_in (pushed q asked) steps)))
    (λ r o. owned_push q (command_with q.next asked) (commands_in (pushed q asked) steps) r o) (results_in (pushed q asked) steps)
    (owned (pushed q asked) steps (subst HasTickets (ap (λ is. if is then pushed q asked else q) e) (step_tickets q (Pushes asked) h))))
owned q (Finishes ticket reply ∷ steps) h =
    by_first_finish (λ commands results p. AllByRecursion (Owned (q.waiting ++ commands)) results) q ticket reply steps
    (owned q steps h) (λ c e f. done c e f (λ kept. owned (with_finished q ticket c reply) steps kept))
  where
    done : (c : QueuedCommand) → command_of ticket q.waiting ≡ Some c → can_be_reply c reply ≡ true
        → (HasTickets (with_finished q ticket c reply)
        → AllByRecursion (Owned (without_command ticket q.waiting ++ commands_in (with_finished q ticket c reply) steps)) (results_in (with_finished q ticket c reply) steps))
        → AllByRecursion (Owned (q.waiting ++ commands_in (with_finished q ticket c reply) steps)) (result_with c reply ∷ results_in (with_finished q ticket c reply) steps)
    done c e f later =
        let p = with_finished q ticket c reply in
        let own = ticket_given q ticket c h e in
        let commands = commands_in p steps in
        let kept : HasTickets p = subst HasTickets (ap (λ o. unwrap_or o q) (finish_done q ticket reply c e f)) (step_tickets q (Finishes ticket reply) h) in
        let of_own : IsResultOf (result_with c reply) c = record { ticket = refl; class = refl; instance = refl; fits = (reply_is c reply f).fits } in
        let found : command_of c.ticket (q.waiting ++ commands) ≡ Some c
        = ap (λ n. command_of n (q.waiting ++ commands)) own.0 ∙ first-front command_ticket ticket q.waiting commands c e in (
          subst (IsResultOfSome (result_with c reply)) (sym found) of_own,
          all-both (λ r. r.ticket ≢ ticket) (Owned (without_command ticket q.waiting ++ commands)) (Owned (q.waiting ++ commands))
              (λ r other o. subst (IsResultOfSome r) (search_others q.waiting commands ticket r.ticket other) o) (results_in p steps)
              (never_again p steps ticket own.1 (gone ticket q.waiting)) (later kept),
        )
owned q (Marks ticket ∷ steps) h =
    by_first_mark (λ commands results p. AllByRecursion (Owned (q.waiting ++ commands)) results) q ticket steps
    (owned q steps h) (λ c e. owned (with_handed (max q.handed ticket) q) steps (marked_tickets q ticket c h e))

pub once : once_law
once q steps h = (apart q steps h, owned q steps h)

-- ---- the answer after a finish

result_behind : (rs : List QueueResult) (r : QueueResult) → AllByRecursion (λ s. s.ticket ≢ r.ticket) rs → kept_result r.ticket (rs ++ r ∷ []) ≡ Some r
result_behind rs r h =
    first-behind result_ticket r.ticket rs (r ∷ []) (first-absent result_ticket r.ticket rs h)
    ∙ ap (λ is. if is then Some r else None) (eq-eqb r.ticket r.ticket refl)

found_result : (rs : List QueueResult) (r : QueueResult) → AllByRecursion (λ s. s.ticket ≢ r.ticket) rs → kept_result r.ticket (with_result rs r) ≡ Some r
found_result rs r h =
    elim (nat_lt (length rs) 256) as (λ is. kept_result r.ticket ((if is then rs else drop 1 rs) ++ r ∷ []) ≡ Some r) [
      | true ↦ result_behind rs r h
      | false ↦ result_behind (drop 1 rs) r (all-rest (λ s. s.ticket ≢ r.ticket) rs h)
    ]

done_here : (r : QueueResult) (a b : Bool) → a ≡ true → b ≡ true → (if a && b then Done r else Unknown) ≡ Done r
done_here r a b e f = ap (λ x. if x && b then Done r else Unknown) e ∙ ap (λ x. if x then Done r else Unknown) f

same_after : (q p after : QueueState) → ◌≡◌ {A = Option QueueState} (Some p) (Some after) → p ≡ after
same_after q p after e = cc

none_some : (after : QueueState) → ◌≡◌ {A = Option QueueState} None (Some after) → ⊥
none_some after e = cc

answered : (q : QueueState) (ticket : ℕ) (reply : Reply) (c : QueuedCommand) → HasTickets q → command_of ticket q.waiting ≡ Some c
    → outcome_of (with_finished q ticket c reply) ticket c.class c.instance ≡ Done (result_with c reply)
answered q ticket reply c h e =
    let r = result_with c reply in
    let own = ticket_given q ticket c h e in
    let before : AllByRecursion (λ s. s.ticket ≢ r.ticket) q.results
    = all-weaker (λ s. ticket ≢ s.ticket) (λ s. s.ticket ≢ c.ticket) (λ s other same. other (sym own.0 ∙ sym same)) q.results (no_result_yet q ticket c h e) in
    let found : kept_result ticket (with_result q.results r) ≡ Some r
    = ap (λ n. kept_result n (with_result q.results r)) (sym own.0) ∙ found_result q.results r before in
    ap (λ o. outcome_by c.class c.instance o (kept_result ticket (with_result q.results r))) (gone ticket q.waiting)
    ∙ ap (outcome_by c.class c.instance None) found
    ∙ done_here r (c.class == c.class) (c.instance == c.instance) (eq-eqb c.class c.class refl) (eq-eqb c.instance c.instance refl)

by_reply : (q after : QueueState) (ticket : ℕ) (reply : Reply) (c : QueuedCommand) (is : Bool) → HasTickets q → command_of ticket q.waiting ≡ Some c
    → ◌≡◌ {A = Option QueueState} (if is then Some (with_finished q ticket c reply) else None) (Some after)
    → outcome_of after ticket c.class c.instance ≡ Done (result_with c reply)
by_reply q after ticket reply c true h e f =
    ap (λ p. outcome_of p ticket c.class c.instance) (sym (same_after q (with_finished q ticket c reply) after f)) ∙ answered q ticket reply c h e
by_reply q after ticket reply c false h e f = absurd (none_some after f)

pub answered_law : finished_law
answered_law q after ticket reply c h e f =
    by_reply q after ticket reply c (can_be_reply c reply) h e (sym (ap (finished_by q ticket reply) e) ∙ f)
