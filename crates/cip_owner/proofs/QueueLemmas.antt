-- What every step keeps of a queue, and what a step does by its tests.
use Rattle.std.proofs.Common.{◌≡◌, ℕ, ◌+◌, ◌<◌, ◌≤◌, ◌^◌, ◌==◌, Bool, true, false, ◌&&◌, not, if◌then◌else◌, max, nat_lt, nat_le, Option, Some, None, unwrap_or, is_some, List, [], ◌∷◌, ◌++◌, length, drop, refl, ap, subst, ◌∙◌, arith}
use Rattle.std.proofs.lemmas.Bool.Decides.{nat_tests}
use Rattle.std.proofs.lemmas.List.{length-append}
use Rattle.std.specs.List.{AllByRecursion}
use Rattle.cip_objects.specs.OwnRequests.{Asked}
use Rattle.cip_owner.specs.Queue.{QueueState, QueuedCommand, QueueResult, IsQueued, IsResult, IsQueue, has_room, has_widths, takes, next_ticket, command_with, pushed, after_push, command_ticket, command_of, without_command, can_be_reply, result_with, with_result, with_finished, finished_by, finished, with_handed, marked}
use Rattle.cip_owner.specs.QueueRuns.{QueueStep, Pushes, Finishes, Marks, after_step, after_steps}
use Rattle.cip_owner.specs.Replies.{Reply}
use Rattle.cip_owner.proofs.ListLemmas.{all-append, all-filter, all-rest, length-filter_at_most, first-all, first-number}

pub both_true : (a b : Bool) → a && b ≡ true → (a ≡ true) × (b ≡ true)
both_true true b e = (refl, e)
both_true false b e = absurd (cc)

less : (a b : ℕ) → nat_lt a b ≡ true → a < b
less a b e = grind (arith, nat_tests)

at_most : (a b : ℕ) → nat_le a b ≡ true → a ≤ b
at_most a b e = grind (arith, nat_tests)

-- a request that the queue takes
pub record IsTaken (q : QueueState) (asked : Asked) : Type 0 where
  pub place : length q.waiting < q.limit
  pub next : q.next < 2 ^ 32
  pub class : asked.class < 2 ^ 16
  pub instance : asked.instance < 2 ^ 32
  pub service : asked.service < 2 ^ 8
  pub content : length asked.content ≤ 500
  pub reply_limit : asked.reply_limit ≤ 476

pub taken_is : (q : QueueState) (asked : Asked) → takes q asked ≡ true → IsTaken q asked
taken_is q asked e =
    let a = both_true (has_room q) (has_widths asked) e in
    let room = both_true (nat_lt (length q.waiting) q.limit) (nat_lt q.next (2 ^ 32)) a.0 in
    let reply = both_true (((nat_lt asked.class (2 ^ 16) && nat_lt asked.instance (2 ^ 32)) && nat_lt asked.service (2 ^ 8)) && nat_le (length asked.content) 500) (nat_le asked.reply_limit 476) a.1 in
    let content = both_true ((nat_lt asked.class (2 ^ 16) && nat_lt asked.instance (2 ^ 32)) && nat_lt asked.service (2 ^ 8)) (nat_le (length asked.content) 500) reply.0 in
    let service = both_true (nat_lt asked.class (2 ^ 16) && nat_lt asked.instance (2 ^ 32)) (nat_lt asked.service (2 ^ 8)) content.0 in
    let object = both_true (nat_lt asked.class (2 ^ 16)) (nat_lt asked.instance (2 ^ 32)) service.0 in
    record {
      place = less (length q.waiting) q.limit room.0;
      next = less q.next (2 ^ 32) room.1;
      class = less asked.class (2 ^ 16) object.0;
      instance = less asked.instance (2 ^ 32) object.1;
      service = less asked.service (2 ^ 8) service.1;
      content = at_most (length asked.content) 500 content.1;
      reply_limit = at_most asked.reply_limit 476 reply.1;
    }

-- the ticket of a request that the queue takes, and of no other
ticket_if : (is : Bool) (next ticket : ℕ) → ◌≡◌ {A = Option ℕ} (if is then Some next else None) (Some ticket) → (is ≡ true) × (ticket ≡ next)
ticket_if true next ticket e = (refl, cc)
ticket_if false next ticket e = absurd (cc)

pub ticket_is : (q : QueueState) (asked : Asked) (ticket : ℕ) → next_ticket q asked ≡ Some ticket → (takes q asked ≡ true) × (ticket ≡ q.next)
ticket_is q asked ticket e = ticket_if (takes q asked) q.next ticket e

no_ticket_if : (is : Bool) (next : ℕ) → ◌≡◌ {A = Option ℕ} (if is then Some next else None) None → is ≡ false
no_ticket_if true next e = absurd (cc)
no_ticket_if false next e = refl

pub no_ticket : (q : QueueState) (asked : Asked) → next_ticket q asked ≡ None → takes q asked ≡ false
no_ticket q asked e = no_ticket_if (takes q asked) q.next e

pub push_taken : (q : QueueState) (asked : Asked) → takes q asked ≡ true → after_push q asked ≡ pushed q asked
push_taken q asked e = ap (λ is. if is then pushed q asked else q) e

pub push_passes : (q : QueueState) (asked : Asked) → takes q asked ≡ true → (after_step q (Pushes asked)).next ≡ q.next + 1
push_passes q asked e = ap (λ p. p.next) (push_taken q asked e)

pub finish_done : (q : QueueState) (ticket : ℕ) (reply : Reply) (c : QueuedCommand) → command_of ticket q.waiting ≡ Some c → can_be_reply c reply ≡ true → finished q ticket reply ≡ Some (with_finished q ticket c reply)
finish_done q ticket reply c e f =
    ap (finished_by q ticket reply) e ∙ ap (λ is. if is then Some (with_finished q ticket c reply) else None) f

-- a reply that can be given
pub record IsReply (c : QueuedCommand) (reply : Reply) : Type 0 where
  pub status : reply.status < 2 ^ 8
  pub fits : length reply.content ≤ c.reply_limit
  pub short : length reply.content ≤ 476

pub reply_is : (c : QueuedCommand) (reply : Reply) → can_be_reply c reply ≡ true → IsReply c reply
reply_is c reply e =
    let short = both_true ((not (reply.status == 0x11) && nat_lt reply.status (2 ^ 8)) && nat_le (length reply.content) c.reply_limit) (nat_le (length reply.content) 476) e in
    let fits = both_true (not (reply.status == 0x11) && nat_lt reply.status (2 ^ 8)) (nat_le (length reply.content) c.reply_limit) short.0 in
    let status = both_true (not (reply.status == 0x11)) (nat_lt reply.status (2 ^ 8)) fits.0 in
    record {
      status = less reply.status (2 ^ 8) status.1;
      fits = at_most (length reply.content) c.reply_limit fits.1;
      short = at_most (length reply.content) 476 short.1;
    }

-- results with one more
abbrev kept_by : Bool → List QueueResult → QueueResult → List QueueResult
kept_by is results r = (if is then results else drop 1 results) ++ r ∷ []

pub all-with_result : (P : QueueResult → Type 0) (results : List QueueResult) (r : QueueResult) → AllByRecursion P results → P r → AllByRecursion P (with_result results r)
all-with_result P results r h p =
    elim (nat_lt (length results) 256) as (λ is. AllByRecursion P (kept_by is results r)) [
      | true ↦ all-append P results (r ∷ []) h (p, tt)
      | false ↦ all-append P (drop 1 results) (r ∷ []) (all-rest P results h) (p, tt)
    ]

shorter : (results : List QueueResult) → length results ≤ 256 → length (drop 1 results) ≤ 255
shorter [] h = omega arith
shorter (r ∷ results) h = omega arith

pub length-with_result : (results : List QueueResult) (r : QueueResult) → length results ≤ 256 → length (with_result results r) ≤ 256
length-with_result results r h = by (nat_lt (length results) 256) refl
  where
    by : (is : Bool) → nat_lt (length results) 256 ≡ is → length (kept_by is results r) ≤ 256
    by true e =
        let few : length results < 256 = less (length results) 256 e in
        rw (length-append results (r ∷ [])) (omega arith)
    by false e =
        let few : length (drop 1 results) ≤ 255 = shorter results h in
        rw (length-append (drop 1 results) (r ∷ [])) (omega arith)

-- each step keeps the sizes
pushed_stays : (q : QueueState) (asked : Asked) → IsQueue q → IsTaken q asked → IsQueue (pushed q asked)
pushed_stays q asked h t = record {
  few = h.few;
  next = (let below = t.next in omega arith);
  handed = h.handed;
  within = (let place = t.place in rw (length-append q.waiting (command_with q.next asked ∷ [])) (omega arith));
  kept = h.kept;
  commands = all-append IsQueued q.waiting (command_with q.next asked ∷ []) h.commands (
    record {
      ticket = t.next;
      class = t.class;
      instance = t.instance;
      service = t.service;
      content = t.content;
      reply_limit = t.reply_limit;
    },
    tt,
  );
  done = h.done;
}

with_finished_stays : (q : QueueState) (ticket : ℕ) (reply : Reply) (c : QueuedCommand) → IsQueue q → command_of ticket q.waiting ≡ Some c → can_be_reply c reply ≡ true → IsQueue (with_finished q ticket c reply)
with_finished_stays q ticket reply c h e f =
    let own : IsQueued c = first-all IsQueued command_ticket ticket q.waiting c h.commands e in
    let can = reply_is c reply f in
    record {
      few = h.few;
      next = h.next;
      handed = h.handed;
      within = (let less : length (without_command ticket q.waiting) ≤ length q.waiting = length-filter_at_most (λ d. not (d.ticket == ticket)) q.waiting in let old = h.within in omega arith);
      kept = length-with_result q.results (result_with c reply) h.kept;
      commands = all-filter IsQueued (λ d. not (d.ticket == ticket)) q.waiting h.commands;
      done = all-with_result IsResult q.results (result_with c reply) h.done
          (record { ticket = own.ticket; class = own.class; instance = own.instance; status = can.status; content = can.short });
    }

-- P holds after a step if it holds after each that does something
pub by_push : (P : QueueState → Type 0) (q : QueueState) (asked : Asked) → P q → (takes q asked ≡ true → P (pushed q asked)) → P (after_push q asked)
by_push P q asked same more = go (takes q asked) refl
  where
    go : (is : Bool) → takes q asked ≡ is → P (if is then pushed q asked else q)
    go true e = more e
    go false e = same

pub by_finish : (P : QueueState → Type 0) (q : QueueState) (ticket : ℕ) (reply : Reply) → P q
    → ((c : QueuedCommand) → command_of ticket q.waiting ≡ Some c → can_be_reply c reply ≡ true → P (with_finished q ticket c reply))
    → P (unwrap_or (finished q ticket reply) q)
by_finish P q ticket reply same more = go (command_of ticket q.waiting) refl
  where
    if_given : (c : QueuedCommand) (is : Bool) → command_of ticket q.waiting ≡ Some c → can_be_reply c reply ≡ is
        → P (unwrap_or (if is then Some (with_finished q ticket c reply) else None) q)
    if_given c true e f = more c e f
    if_given c false e f = same

    go : (found : Option QueuedCommand) → command_of ticket q.waiting ≡ found → P (unwrap_or (finished_by q ticket reply found) q)
    go None e = same
    go (Some c) e = if_given c (can_be_reply c reply) e refl

pub by_mark : (P : QueueState → Type 0) (q : QueueState) (ticket : ℕ) → P q
    → ((c : QueuedCommand) → command_of ticket q.waiting ≡ Some c → P (with_handed (max q.handed ticket) q))
    → P (marked q ticket)
by_mark P q ticket same more = go (command_of ticket q.waiting) refl
  where
    go : (found : Option QueuedCommand) → command_of ticket q.waiting ≡ found
        → P (if is_some found then with_handed (max q.handed ticket) q else q)
    go None e = same
    go (Some c) e = more c e

larger_below : (a b n : ℕ) → a < n → b < n → max a b < n
larger_below a b n one other = grind (arith)

marked_stays : (q : QueueState) (ticket : ℕ) (c : QueuedCommand) → IsQueue q → command_of ticket q.waiting ≡ Some c
    → IsQueue (with_handed (max q.handed ticket) q)
marked_stays q ticket c h e =
    let own : IsQueued c = first-all IsQueued command_ticket ticket q.waiting c h.commands e in
    let named : c.ticket ≡ ticket = first-number command_ticket ticket q.waiting c e in
    record {
      few = h.few;
      next = h.next;
      handed = larger_below q.handed ticket (2 ^ 32) h.handed (subst (λ n. n < 2 ^ 32) named own.ticket);
      within = h.within;
      kept = h.kept;
      commands = h.commands;
      done = h.done;
    }

pub step_stays : (q : QueueState) (s : QueueStep) → IsQueue q → IsQueue (after_step q s)
step_stays q (Pushes asked) h = by_push IsQueue q asked h (λ e. pushed_stays q asked h (taken_is q asked e))
step_stays q (Finishes ticket reply) h = by_finish IsQueue q ticket reply h (λ c e f. with_finished_stays q ticket reply c h e f)
step_stays q (Marks ticket) h = by_mark IsQueue q ticket h (λ c e. marked_stays q ticket c h e)

pub queue_stays : (q : QueueState) (steps : List QueueStep) → IsQueue q → IsQueue (after_steps q steps)
queue_stays q [] h = h
queue_stays q (s ∷ steps) h = queue_stays (after_step q s) steps (step_stays q s h)

-- no step lowers the next ticket
pub step_rises : (q : QueueState) (s : QueueStep) → q.next ≤ (after_step q s).next
step_rises q (Pushes asked) = by_push (λ p. q.next ≤ p.next) q asked (omega arith) (λ e. omega arith)
step_rises q (Finishes ticket reply) = by_finish (λ p. q.next ≤ p.next) q ticket reply (omega arith) (λ c e f. omega arith)
step_rises q (Marks ticket) = by_mark (λ p. q.next ≤ p.next) q ticket (omega arith) (λ c e. omega arith)

pub next_rises : (q : QueueState) (steps : List QueueStep) → q.next ≤ (after_steps q steps).next
next_rises q [] = omega arith
next_rises q (s ∷ steps) =
    let a : q.next ≤ (after_step q s).next = step_rises q s in
    let b : (after_step q s).next ≤ (after_steps (after_step q s) steps).next = next_rises (after_step q s) steps in
    omega arith
