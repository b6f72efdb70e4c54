-- What follows from a run.
use Rattle.std.proofs.Common.{◌≡◌, ◌⊎◌, inl, inr, ℕ, Bool, true, false, ◌<◌, Option, None, Some, option_map, unwrap_or, List, [], ◌∷◌, ◌++◌, All, AllPairs, slice_index_or, refl, sym, ap, subst, subst₂, ◌∙◌, true≢false, arith}
use Rattle.std.specs.Prelude.{⊤}
use Rattle.std.proofs.lemmas.List.Elements.{All-cons, All-nil, All-head, All-tail}
use Rattle.std.proofs.lemmas.List.Kept.{AllPairs-cons}
use Rattle.cip_commander.specs.Outcome.{Outcome, Done, StillPending, InDoubt, Withdrawn, Refused, Malformed, NotPending, Settles, outcome_of_text}
use Rattle.cip_commander.specs.declared.refusal.CommandRefused.{CommandRefused}
use Rattle.cip_commander.specs.CommanderRule.{CommanderState, first_refusal, pending_message, outcome_at, after_outcome}
use Rattle.kept_commander.specs.declared.lives.CommandEvent.{CommandEvent}
use Rattle.kept_commander.specs.declared.lives.CommandEvent.TheVariants.{Give, Send, Accept, Abandon, Restart}
use Rattle.kept_commander.specs.declared.lives.Sent.{Sent}
use Rattle.kept_commander.specs.Lives.{IsMessageOf, IsOfPending, MayMake, IsStep, IsRun, IsLater, HasUsed, KeepsPending, IsNeverDropped}

-- ---- one more event

pub run-append : (es : List CommandEvent) (ms : List (Option Sent)) (e : CommandEvent) (m : Option Sent)
    (s t u : Bool) (first before last : CommanderState)
    → IsRun es ms s first t before → IsStep e m t before u last → IsRun (es ++ e ∷ []) (ms ++ m ∷ []) s first u last
run-append [] [] e m s t u first before last run step =
    (u, last, subst₂ (λ r c. IsStep e m r c u last) run.0 run.1 step, (refl, refl))
run-append [] (n ∷ ms) e m s t u first before last run step = absurd run
run-append (x ∷ es) [] e m s t u first before last run step = absurd run
run-append (x ∷ es) (n ∷ ms) e m s t u first before last run step =
    (run.0, run.1, run.2, run-append es ms e m run.0 t u run.1 before last run.3 step)

-- an event may be lost
may_be_lost : (e : CommandEvent) (c : CommanderState) → MayMake e None c c
may_be_lost (Give life request) c = inl (refl, refl)
may_be_lost Send c = (refl, tt)
may_be_lost (Accept reply) c = inl (refl, refl)
may_be_lost Abandon c = inl (refl, refl)
may_be_lost Restart c = (refl, refl)

lost_step : (e : CommandEvent) (m : Option Sent) (s : Bool) (c : CommanderState) → m ≡ None → IsStep e m s c false c
lost_step e m s c none = record {
  may = subst (λ n. MayMake e n c c) (sym none) (may_be_lost e c);
  does = λ serves. absurd (true≢false (sym serves));
}

-- one more event has a run: if the client serves after it, one to what is kept; else the event may be lost
pub one-more : (es : List CommandEvent) (ms : List (Option Sent)) (e : CommandEvent) (m : Option Sent) (s t u : Bool) (first : CommanderState)
    → (u ≡ false → m ≡ None) → (u ≡ true → (last : CommanderState) × IsRun (es ++ e ∷ []) (ms ++ m ∷ []) s first u last)
    → ((last : CommanderState) × IsRun es ms s first t last) → (last : CommanderState) × IsRun (es ++ e ∷ []) (ms ++ m ∷ []) s first u last
one-more es ms e m s t true first silent run before = run refl
one-more es ms e m s t false first silent run before =
    (before.0, run-append es ms e m s t false first before.0 before.0 before.1 (lost_step e m t before.0 (silent refl)))

-- ---- one event

-- Nothing changes, a number is taken, or no command is pending any more.
abbrev Moves : CommanderState → CommanderState → Type 0
Moves a b = (b ≡ a) ⊎ ((a.last_number < b.last_number) ⊎ ((b.last_number ≡ a.last_number) × (b.pending ≡ None)))

outcome_moves : (c : CommanderState) (o : Outcome) → Moves c (after_outcome c o)
outcome_moves c (Done reply) = inr (inr (refl, refl))
outcome_moves c StillPending = inl refl
outcome_moves c InDoubt = inl refl
outcome_moves c Withdrawn = inr (inr (refl, refl))
outcome_moves c (Refused status) = inl refl
outcome_moves c Malformed = inl refl
outcome_moves c NotPending = inl refl

step_moves : (e : CommandEvent) (m : Option Sent) (a b : CommanderState) → MayMake e m a b → Moves a b
step_moves (Give life request) m a b (inl lost) = inl lost.0
step_moves (Give life request) m a b (inr is) =
    inr (inl (subst (λ n. a.last_number < n) (sym (ap (λ c. c.last_number) is.taken)) (omega arith)))
step_moves Send m a b step = inl step.0
step_moves (Accept reply) m a b (inl lost) = inl lost.0
step_moves (Accept reply) m a b (inr is) = subst (Moves a) (sym is.0) (outcome_moves a (outcome_at a.pending reply.items))
step_moves Abandon m a b (inl lost) = inl lost.0
step_moves Abandon m a b (inr is) = subst (Moves a) (sym is.0) (inr (inr (refl, refl)))
step_moves Restart m a b step = inl step.0

of_nothing : (c : CommanderState) (m : Option Sent) → m ≡ None → IsOfPending c m
of_nothing c m none = subst (IsOfPending c) (sym none) tt

-- what an event hands out is of the command that is pending after it
step_sends : (e : CommandEvent) (m : Option Sent) (a b : CommanderState) → MayMake e m a b → IsOfPending b m
step_sends (Give life request) m a b (inl lost) = of_nothing b m lost.1
step_sends (Give life request) m a b (inr is) = is.message
step_sends Send m a b step = subst (λ c. IsOfPending c m) (sym step.0) step.1
step_sends (Accept reply) m a b (inl lost) = of_nothing b m lost.1
step_sends (Accept reply) m a b (inr is) = of_nothing b m is.1
step_sends Abandon m a b (inl lost) = of_nothing b m lost.1
step_sends Abandon m a b (inr is) = of_nothing b m is.1
step_sends Restart m a b step = of_nothing b m step.1

-- ---- no other command gets the number of a message

not_pending : (c : CommanderState) → c.pending ≡ None → pending_message c ≡ None
not_pending c none = ap (option_map _) none

no_message : {X : Type 0} {x : X} → None ≡ Some x → ⊥
no_message is = cc

used_after : (a b : CommanderState) (m : Option Sent) → Moves a b → HasUsed a m → HasUsed b m
used_after a b None moves used = tt
used_after a b (Some s) (inl same) used = subst (λ c. HasUsed c (Some s)) (sym same) used
used_after a b (Some s) (inr (inl less)) (inl lower) = inl (omega (arith, less, lower))
used_after a b (Some s) (inr (inl less)) (inr last) = inl (omega (arith, less, last.0))
used_after a b (Some s) (inr (inr ended)) (inl lower) = inl (omega (arith, ended.0, lower))
used_after a b (Some s) (inr (inr ended)) (inr last) =
    inr (last.0 ∙ sym ended.0, λ message is. absurd (no_message (sym (not_pending b ended.1) ∙ is)))

run-used : (es : List CommandEvent) (ms : List (Option Sent)) (p q : Bool) (a b : CommanderState) (m : Option Sent) → IsRun es ms p a q b → HasUsed a m → HasUsed b m
run-used [] [] p q a b m run used = subst (λ c. HasUsed c m) (sym run.1) used
run-used [] (s ∷ ms) p q a b m run used = absurd run
run-used (e ∷ es) [] p q a b m run used = absurd run
run-used (e ∷ es) (s ∷ ms) p q a b m run used =
    run-used es ms run.0 q run.1 b m run.3 (used_after a run.1 m (step_moves e s a run.1 run.2.may) used)

unwrapped : {X : Type 0} (x y : X) → Some x ≡ Some y → x ≡ y
unwrapped x y is = ap (λ o. unwrap_or o x) is

used_of_pending : (c : CommanderState) (m : Option Sent) → IsOfPending c m → HasUsed c m
used_of_pending c None is = tt
used_of_pending c (Some s) is =
    inr (is.number, λ message pending. unwrapped message s.message.items (sym pending ∙ is.message))

pub run-all_used : (es : List CommandEvent) (ms : List (Option Sent)) (p q : Bool) (a b : CommanderState) → IsRun es ms p a q b → All (HasUsed b) ms
run-all_used [] [] p q a b run = All-nil (HasUsed b)
run-all_used [] (s ∷ ms) p q a b run = absurd run
run-all_used (e ∷ es) [] p q a b run = absurd run
run-all_used (e ∷ es) (s ∷ ms) p q a b run =
    All-cons (HasUsed b) s ms
    (run-used es ms run.0 q run.1 b s run.3 (used_of_pending run.1 s (step_sends e s a run.1 run.2.may)))
    (run-all_used es ms run.0 q run.1 b run.3)

-- ---- of two messages, the later one has a greater number, or is the same

-- a message of the pending command, or of a later one
abbrev IsFrom : CommanderState → Option Sent → Type 0
IsFrom c None = ⊤
IsFrom c (Some s) = (c.last_number < s.number) ⊎ IsMessageOf c s

from_pending : (c : CommanderState) (m : Option Sent) → IsOfPending c m → IsFrom c m
from_pending c None is = tt
from_pending c (Some s) is = inr is

from_before : (a b : CommanderState) (m : Option Sent) → Moves a b → IsFrom b m → IsFrom a m
from_before a b None moves from = tt
from_before a b (Some s) (inl same) from = subst (λ c. IsFrom c (Some s)) same from
from_before a b (Some s) (inr (inl less)) (inl above) = inl (omega (arith, less, above))
from_before a b (Some s) (inr (inl less)) (inr last) = inl (omega (arith, less, last.number))
from_before a b (Some s) (inr (inr ended)) (inl above) = inl (omega (arith, ended.0, above))
from_before a b (Some s) (inr (inr ended)) (inr last) =
    absurd (no_message (sym (not_pending b ended.1) ∙ last.message))

run-all_from : (es : List CommandEvent) (ms : List (Option Sent)) (p q : Bool) (a b : CommanderState) → IsRun es ms p a q b → All (IsFrom a) ms
run-all_from [] [] p q a b run = All-nil (IsFrom a)
run-all_from [] (s ∷ ms) p q a b run = absurd run
run-all_from (e ∷ es) [] p q a b run = absurd run
run-all_from (e ∷ es) (s ∷ ms) p q a b run =
    let moves = step_moves e s a run.1 run.2.may in
    let others = run-all_from es ms run.0 q run.1 b run.3 in
    All-cons (IsFrom a) s ms
    (from_before a run.1 s moves (from_pending run.1 s (step_sends e s a run.1 run.2.may)))
    (λ k d below. from_before a run.1 (slice_index_or ms k d) moves (others k d below))

later : (c : CommanderState) (m n : Option Sent) → IsOfPending c m → IsFrom c n → IsLater m n
later c None n is from = tt
later c (Some s) None is from = tt
later c (Some s) (Some t) is (inl above) =
    (omega (arith, is.number, above), λ same. absurd (omega (arith, is.number, above, same)))
later c (Some s) (Some t) is (inr last) =
    (omega (arith, is.number, last.number), λ same. unwrapped s.message.items t.message.items (sym is.message ∙ last.message))

pub run-later : (es : List CommandEvent) (ms : List (Option Sent)) (p q : Bool) (a b : CommanderState) → IsRun es ms p a q b → AllPairs IsLater ms
run-later [] [] p q a b run = λ i j d less below. absurd (omega (arith, below))
run-later [] (s ∷ ms) p q a b run = absurd run
run-later (e ∷ es) [] p q a b run = absurd run
run-later (e ∷ es) (s ∷ ms) p q a b run =
    let sends = step_sends e s a run.1 run.2.may in
    let others = run-all_from es ms run.0 q run.1 b run.3 in
    AllPairs-cons IsLater s ms
    (λ k d below. later run.1 s (slice_index_or ms k d) sends (others k d below))
    (run-later es ms run.0 q run.1 b run.3)

-- ---- a pending command is not dropped

none_pending : (pending : Option (List ℕ)) (embedded number : Option CommandRefused) → first_refusal pending embedded number ≡ None → pending ≡ None
none_pending (Some request) embedded number is = absurd (no_message (sym is))
none_pending None embedded number is = refl

not_settled : (pending : Option (List ℕ)) (text : List ℕ) → (Settles (outcome_of_text text) → ⊥)
    → Settles (outcome_at pending text) → ⊥
not_settled None text other is = is
not_settled (Some request) text other is = other is

unchanged : (c : CommanderState) (o : Outcome) → (Settles o → ⊥) → after_outcome c o ≡ c
unchanged c (Done answer) other = absurd (other tt)
unchanged c StillPending other = refl
unchanged c InDoubt other = refl
unchanged c Withdrawn other = absurd (other tt)
unchanged c (Refused status) other = refl
unchanged c Malformed other = refl
unchanged c NotPending other = refl

-- only a reply that settles the command, or the caller, ends it
step_keeps : (e : CommandEvent) (m : Option Sent) (a b : CommanderState) (message : List ℕ)
    → MayMake e m a b → KeepsPending e → pending_message a ≡ Some message → b ≡ a
step_keeps (Give life request) m a b message (inl lost) keeps is = lost.0
step_keeps (Give life request) m a b message (inr taken) keeps is =
    absurd (no_message (sym (not_pending a (none_pending a.pending _ _ taken.allowed)) ∙ is))
step_keeps Send m a b message step keeps is = step.0
step_keeps (Accept reply) m a b message (inl lost) keeps is = lost.0
step_keeps (Accept reply) m a b message (inr taken) keeps is =
    taken.0 ∙ unchanged a (outcome_at a.pending reply.items) (not_settled a.pending reply.items keeps)
step_keeps Abandon m a b message step keeps is = absurd keeps
step_keeps Restart m a b message step keeps is = step.0

run-keeps : (es : List CommandEvent) (ms : List (Option Sent)) (p q : Bool) (a b : CommanderState) (m : Option Sent) → IsRun es ms p a q b → All KeepsPending es
    → IsOfPending a m → IsOfPending b m
run-keeps es ms p q a b None run keeps is = tt
run-keeps [] [] p q a b (Some s) run keeps is = subst (λ c. IsOfPending c (Some s)) (sym run.1) is
run-keeps [] (n ∷ ms) p q a b (Some s) run keeps is = absurd run
run-keeps (e ∷ es) [] p q a b (Some s) run keeps is = absurd run
run-keeps (e ∷ es) (n ∷ ms) p q a b (Some s) run keeps is =
    let same = step_keeps e n a run.1 s.message.items run.2.may (All-head KeepsPending e es keeps) is.message in
    run-keeps es ms run.0 q run.1 b (Some s) run.3 (All-tail KeepsPending e es keeps) (subst (λ c. IsOfPending c (Some s)) (sym same) is)

pub run-never_dropped : (es : List CommandEvent) (ms : List (Option Sent)) (p q : Bool) (a b : CommanderState) → IsRun es ms p a q b → IsNeverDropped es ms b
run-never_dropped [] [] p q a b run = tt
run-never_dropped [] (s ∷ ms) p q a b run = tt
run-never_dropped (e ∷ es) [] p q a b run = tt
run-never_dropped (e ∷ es) (s ∷ ms) p q a b run = (
  λ keeps. run-keeps es ms run.0 q run.1 b s run.3 keeps (step_sends e s a run.1 run.2.may),
  run-never_dropped es ms run.0 q run.1 b run.3,
)
