use Rattle.std.proofs.Common.{◌≡◌, ◌∙◌, ℕ, List, [], ◌∷◌, ◌++◌, Option, Some, None, refl, sym, ap, subst, append_assoc, append-nil}
use Rattle.std.proofs.KnownBytes.{Appends-nil, Appends-trans}
use Rattle.std.specs.Io.KnownBytes.{Appends, Keeps}
use Rattle.enip_bench.specs.CountingWorld.{CountingWorld, counting_run, counting_step}
use Rattle.enip_bench.specs.Events.{Event}
use Rattle.enip_bench.specs.EventResults.{event_result}
use Rattle.enip_lines.specs.InputLines.{AreRun}
use Rattle.enip_replay.specs.Drawing.{nothing}
use Rattle.enip_lines.specs.Lines.{with_newline}
use Rattle.enip_replay.specs.Outcome.{outcome, outcomes}
use Rattle.enip_replay.specs.Replay.{IsDone, IsRun}
use Rattle.enip_replay.specs.Script.{Means, Say}

-- Events are done one after the other.
pub counting_run-append : (world : CountingWorld) (first more : List Event)
    → counting_run world (first ++ more) ≡ counting_run (counting_run world first) more
counting_run-append world [] more = refl
counting_run-append world (event ∷ events) more = counting_run-append (counting_step world event) events more

-- What is printed for events is printed in their order.
pub record IsInOrder (prints : CountingWorld → List Event → List ℕ) : Type 0 where
  pub none : (world : CountingWorld) → prints world [] ≡ []
  pub more : (world : CountingWorld) (first more : List Event)
      → prints world (first ++ more) ≡ prints world first ++ prints (counting_run world first) more

outcomes-append : (world : CountingWorld) (first more : List Event)
    → outcomes world (first ++ more) ≡ outcomes world first ++ outcomes (counting_run world first) more
outcomes-append world [] more = refl
outcomes-append world (event ∷ events) more =
    let rest = outcomes-append (counting_step world event) events more in
    let line = with_newline (outcome event (event_result world event)) in
    let next = counting_step world event in
    ap (λ l. line ++ l) rest ∙ sym (append_assoc line (outcomes next events) (outcomes (counting_run next events) more))

pub outcomes_in_order : IsInOrder outcomes
outcomes_in_order = record { none = λ world. refl; more = outcomes-append }

pub nothing_in_order : IsInOrder nothing
nothing_in_order = record { none = λ world. refl; more = λ world first more. refl }

pub Keeps-appends : (a b : Option (List ℕ)) (bytes : List ℕ) → [] ≡ bytes → Keeps a b → Appends a b bytes
Keeps-appends None b bytes none kept = tt
Keeps-appends (Some x) None bytes none kept = absurd kept
Keeps-appends (Some x) (Some y) bytes none kept = kept ∙ sym (append-nil x) ∙ ap (λ l. x ++ l) none

pub Appends-before : (a b c : Option (List ℕ)) (bytes : List ℕ) → Keeps a b → Appends b c bytes → Appends a c bytes
Appends-before a b c bytes kept appended = Appends-trans a b c [] bytes (Keeps-appends a b [] refl kept) appended

-- Lines were run from one world to another.
pub record AreRunFrom (prints : CountingWorld → List Event → List ℕ) (lines : List (List ℕ)) (opened last : CountingWorld)
    (before after : Option (List ℕ)) : Type 0 where
  pub events : List Event
  pub said : Say lines events
  pub done : last ≡ counting_run opened events
  pub printed : Appends before after (prints opened events)

module _ {S : Type 0} (world : S → CountingWorld) (prints : CountingWorld → List Event → List ℕ) (in_order : IsInOrder prints) where
  abbrev Does : List ℕ → S → S → Option (List ℕ) → Option (List ℕ) → Type 0
  Does text old new before after = IsRun prints text (world old) (world new) before after

  printed-more : (opened between : CountingWorld) (first more : List Event) (before from to after : Option (List ℕ))
      → between ≡ counting_run opened first → Keeps before from → Appends from to (prints opened first) → Appends to after (prints between more)
      → Appends before after (prints opened (first ++ more))
  printed-more opened between first more before from to after done kept one rest =
      let next : Appends to after (prints (counting_run opened first) more) = subst (λ w. Appends to after (prints w more)) done rest in
      subst (Appends before after) (sym (in_order.more opened first more))
      (Appends-trans before to after (prints opened first) (prints (counting_run opened first) more) (Appends-before before from to _ kept one) next)

  -- What lines of a script do, all together.
  pub lines_run : (lines : List (List ℕ)) (old new : S) (before after : Option (List ℕ)) → AreRun Does lines old new before after
      → AreRunFrom prints lines (world old) (world new) before after
  lines_run [] old new before after run = record {
    events = [];
    said = refl;
    done = ap world run.0;
    printed = Keeps-appends before after _ (sym (in_order.none (world old))) run.1;
  }
  lines_run (line ∷ lines) old new before after run =
      let first = run.4 in
      let rest = lines_run lines run.0 new run.2 after run.5 in
      record {
        events = first.events ++ rest.events;
        said = (first.events, rest.events, first.said, rest.said, refl);
        done = rest.done ∙ ap (λ w. counting_run w rest.events) first.done ∙ sym (counting_run-append (world old) first.events rest.events);
        printed = printed-more (world old) (world run.0) first.events rest.events before run.1 run.2 after first.done run.3 first.printed rest.printed;
      }

pub run-event : (text : List ℕ) (event : Event) (old new : CountingWorld) (before after : Option (List ℕ)) → Means text event
    → IsDone event old new before after → IsRun outcomes text old new before after
run-event text event old new before after meant done = record {
  events = event ∷ [];
  said = meant;
  done = done.world;
  printed = subst (Appends before after) (sym (append-nil (with_newline (outcome event (event_result old event))))) done.printed;
}

pub silent-event : (text : List ℕ) (event : Event) (old new : CountingWorld) (output : Option (List ℕ)) → Means text event
    → new ≡ counting_step old event → IsRun nothing text old new output output
silent-event text event old new output meant done =
    record { events = event ∷ []; said = meant; done = done; printed = Appends-nil output }
