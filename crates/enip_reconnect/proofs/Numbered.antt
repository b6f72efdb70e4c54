-- The commands that the originator gives, and the replies that it accepts, over every list of events.
use Rattle.std.proofs.Common.{◌≡◌, ℕ, inl, ◌+◌, ◌<◌, ◌≤◌, ◌==◌, Bool, true, false, if◌then◌else◌, Option, Some, None, List, [], ◌∷◌, ◌++◌, map, refl, sym, subst, arith}
use Rattle.std.specs.Prelude.{⊤, MatchOption, is_some, fold}
use Rattle.std.specs.List.{slice_get, AllByRecursion}
use Rattle.std.proofs.lemmas.Bool.{and_parts}
use Rattle.std.proofs.lemmas.List.{append-nil, map-append}
use Rattle.cip_ledger.specs.declared.target.Standing.{Standing}
use Rattle.cip_commander.specs.declared.refusal.CommandRefused.{CommandRefused}
use Rattle.cip_commander.specs.CommanderRule.{CommanderState, command_refusal, with_command, abandoned}
use Rattle.enip_reconnect.specs.Worlds.{Event, NewCommand, Abandon, Send, Reach, Back, Other, Opening, gives, sends, awaits}
use Rattle.cip_commander.specs.CommanderRule.{after_given}
use Rattle.enip_reconnect.specs.NumberedWorld.{Own, Another, Said, IsDone, IsRefused, Device, device_after, NumberedWorld, world_at, world_step, world_reach, world_back, world_after, said_of, Arrival, Appended, Answered, arrived}
use Rattle.enip_reconnect.specs.CommanderLaws.{Rises, IsAmong, WasGiven}
use Rattle.enip_reconnect.proofs.Rising.{all_at, all_append, all_map, rises_snoc, among_first, among_last, was_given-first}

abbrev number_of : ℕ × List ℕ → ℕ
number_of command = command.0

all_numbers : (P : ℕ → Type 0) (commands : List (ℕ × List ℕ)) → AllByRecursion (λ (c : ℕ × List ℕ). P c.0) commands →
    AllByRecursion P (map number_of commands)
all_numbers P [] all = tt
all_numbers P (command ∷ commands) all = (all.0, all_numbers P commands all.1)

numbers-rise : (commands : List (ℕ × List ℕ)) (number : ℕ) (bytes : List ℕ) → Rises (map number_of commands) →
    AllByRecursion (λ (c : ℕ × List ℕ). c.0 < number) commands → Rises (map number_of (commands ++ (number, bytes) ∷ []))
numbers-rise commands number bytes rises below =
    subst Rises (sym (map-append number_of commands ((number, bytes) ∷ [])))
    (rises_snoc (map number_of commands) number rises (all_numbers (λ n. n < number) commands below))

-- ---- the commands that were given

abbrev PendsGiven : List (ℕ × List ℕ) → ℕ → Option (List ℕ) → Type 0
PendsGiven given number pending = MatchOption pending ⊤ (λ request. IsAmong given number request)

pub record IsGiven (given : List (ℕ × List ℕ)) (commander : CommanderState) : Type 0 where
  pub rises : Rises (map number_of given)
  pub below : AllByRecursion (λ (c : ℕ × List ℕ). c.0 ≤ commander.last_number) given
  pub pending : PendsGiven given commander.last_number commander.pending

command-given : (given : List (ℕ × List ℕ)) (commander : CommanderState) (request : List ℕ) (refusal : Option CommandRefused) →
    IsGiven given commander →
    IsGiven (given ++ gives commander request refusal) (after_given commander request refusal)
command-given given commander request None is =
    let number = commander.last_number + 1 in
    let self : number ≤ number = omega arith in
    record {
      rises =
          numbers-rise given number request is.rises
          (all_map (λ (c : ℕ × List ℕ). c.0 ≤ commander.last_number) (λ (c : ℕ × List ℕ). c.0 < number) given (λ c under. omega arith) is.below);
      below =
          all_append (λ (c : ℕ × List ℕ). c.0 ≤ number) given ((number, request) ∷ [])
          (all_map (λ (c : ℕ × List ℕ). c.0 ≤ commander.last_number) (λ (c : ℕ × List ℕ). c.0 ≤ number) given (λ c under. omega arith) is.below)
          (self, tt);
      pending = among_last given number request;
    }
command-given given commander request (Some why) is = rw append-nil is

abandoned-given : (given : List (ℕ × List ℕ)) (commander : CommanderState) → IsGiven given commander → IsGiven given (abandoned commander)
abandoned-given given commander is = record { rises = is.rises; below = is.below; pending = tt }

abbrev AreGiven : List (ℕ × List ℕ) → List (ℕ × List ℕ) → Type 0
AreGiven given sent = AllByRecursion (λ (m : ℕ × List ℕ). IsAmong given m.0 m.1) sent

sends-given : (given : List (ℕ × List ℕ)) (commander : CommanderState) (pending : Option (List ℕ)) →
    PendsGiven given commander.last_number pending → AreGiven given (sends commander pending)
sends-given given commander None is = tt
sends-given given commander (Some request) is = (is, tt)

-- ---- the accepted replies

-- no reply to this number is accepted any more
abbrev IsPast : CommanderState → ℕ → Type 0
IsPast commander number = (number ≤ commander.last_number) × (is_some commander.pending ≡ true → number < commander.last_number)

abbrev ArePast : CommanderState → List (ℕ × List ℕ) → Type 0
ArePast commander accepted = AllByRecursion (λ (a : ℕ × List ℕ). IsPast commander a.0) accepted

past-given : (commander : CommanderState) (accepted : List (ℕ × List ℕ)) (request : List ℕ) (refusal : Option CommandRefused) →
    ArePast commander accepted → ArePast (after_given commander request refusal) accepted
past-given commander accepted request None past =
    all_map (λ (a : ℕ × List ℕ). IsPast commander a.0) (λ (a : ℕ × List ℕ). IsPast (with_command commander request) a.0) accepted
    (λ a is. (omega (arith, is.0), λ pending. omega (arith, is.0))) past
past-given commander accepted request (Some why) past = past

past-abandoned : (commander : CommanderState) (accepted : List (ℕ × List ℕ)) → ArePast commander accepted →
    ArePast (abandoned commander) accepted
past-abandoned commander accepted past =
    all_map (λ (a : ℕ × List ℕ). IsPast commander a.0) (λ (a : ℕ × List ℕ). IsPast (abandoned commander) a.0) accepted
    (λ a is. (is.0, λ pending. absurd (cc))) past

-- ---- the world

module _ {M : Type 0} (after : M → ℕ → List ℕ → M) (answer : M → ℕ → List ℕ → List ℕ) (standing : M → List ℕ → Standing)
    (opening : Opening M) where
  pub record IsNumbered (world : NumberedWorld) : Type 0 where
    pub given : IsGiven world.given world.commander
    pub sent : AreGiven world.given world.sent
    pub log : AllByRecursion (WasGiven world.given) world.log
    pub rises : Rises (map number_of world.accepted)
    pub past : ArePast world.commander world.accepted

  arrived-numbered : (world : NumberedWorld) (device : Device M) (number : ℕ) (request : List ℕ) (what : Arrival) → IsNumbered world →
      IsAmong world.given number request → IsNumbered (arrived after answer standing what world device number request)
  arrived-numbered world device number request Appended is among = record {
    given = is.given;
    sent = is.sent;
    log = all_append (WasGiven world.given) world.log (Own number request ∷ []) is.log (among, tt);
    rises = is.rises;
    past = is.past;
  }
  arrived-numbered world device number request (Answered said) is among =
      record { given = is.given; sent = is.sent; log = is.log; rises = is.rises; past = is.past }

  reach-numbered : (world : NumberedWorld) (position max_size : ℕ) (found : Option (ℕ × List ℕ)) → IsNumbered world →
      slice_get world.sent position ≡ found → IsNumbered (world_reach after answer standing opening world max_size found)
  reach-numbered world position max_size None is found = is
  reach-numbered world position max_size (Some message) is found =
      arrived-numbered world (device_after after answer standing opening world.log) message.0 message.1 _ is
      (all_at (λ (m : ℕ × List ℕ). IsAmong world.given m.0 m.1) world.sent position message is.sent found)

  said-numbered : (world : NumberedWorld) (said : Said) → IsNumbered world → is_some world.commander.pending ≡ true →
      IsNumbered (said_of said world)
  said-numbered world (IsDone reply) is pending =
      let number = world.commander.last_number in
      record {
        given = abandoned-given world.given world.commander is.given;
        sent = is.sent;
        log = is.log;
        rises =
            numbers-rise world.accepted number reply is.rises
            (all_map (λ (a : ℕ × List ℕ). IsPast world.commander a.0) (λ (a : ℕ × List ℕ). a.0 < number) world.accepted
            (λ a past. past.1 pending) is.past);
        past =
            let self : number ≤ number = omega arith in
            all_append (λ (a : ℕ × List ℕ). IsPast (abandoned world.commander) a.0) world.accepted ((number, reply) ∷ [])
            (past-abandoned world.commander world.accepted is.past) ((self, λ pending. absurd (cc)), tt);
      }
  said-numbered world (IsRefused status) is pending = is

  back-numbered : (world : NumberedWorld) (found : Option (ℕ × Said)) → IsNumbered world → IsNumbered (world_back world found)
  back-numbered world None is = is
  back-numbered world (Some said) is = go (awaits world.commander said.0) refl
    where
      go : (its : Bool) → awaits world.commander said.0 ≡ its → IsNumbered (if its then said_of said.1 world else world)
      go true awaited =
          said-numbered world said.1 is
          (and_parts (is_some world.commander.pending) (world.commander.last_number == said.0) awaited).0
      go false awaited = is

  step-numbered : (world : NumberedWorld) (event : Event) → IsNumbered world →
      IsNumbered (world_step after answer standing opening world event)
  step-numbered world (NewCommand request) is =
      let refusal = command_refusal world.commander request in
      let more = gives world.commander request refusal in
      record {
        given = command-given world.given world.commander request refusal is.given;
        sent =
            all_map (λ (m : ℕ × List ℕ). IsAmong world.given m.0 m.1) (λ (m : ℕ × List ℕ). IsAmong (world.given ++ more) m.0 m.1) world.sent
            (λ m among. among_first world.given more m.0 m.1 among) is.sent;
        log =
            all_map (WasGiven world.given) (WasGiven (world.given ++ more)) world.log
            (λ entry was. was_given-first world.given more entry was) is.log;
        rises = is.rises;
        past = past-given world.commander world.accepted request refusal is.past;
      }
  step-numbered world Abandon is = record {
    given = abandoned-given world.given world.commander is.given;
    sent = is.sent;
    log = is.log;
    rises = is.rises;
    past = past-abandoned world.commander world.accepted is.past;
  }
  step-numbered world Send is = record {
    given = is.given;
    sent =
        all_append (λ (m : ℕ × List ℕ). IsAmong world.given m.0 m.1) world.sent _ is.sent
        (sends-given world.given world.commander world.commander.pending is.given.pending);
    log = is.log;
    rises = is.rises;
    past = is.past;
  }
  step-numbered world (Reach position max_size) is =
      reach-numbered world position max_size (slice_get world.sent position) is refl
  step-numbered world (Back position) is = back-numbered world (slice_get world.back position) is
  step-numbered world (Other max_size request) is = record {
    given = is.given;
    sent = is.sent;
    log = all_append (WasGiven world.given) world.log (Another max_size request ∷ []) is.log (tt, tt);
    rises = is.rises;
    past = is.past;
  }

  run-numbered : (events : List Event) (world : NumberedWorld) → IsNumbered world →
      IsNumbered (fold (world_step after answer standing opening) world events)
  run-numbered [] world is = is
  run-numbered (event ∷ events) world is =
      run-numbered events (world_step after answer standing opening world event) (step-numbered world event is)

  opening-given : (commander : CommanderState) (pending : Option (List ℕ)) →
      IsGiven (sends commander pending) (record commander { pending = pending })
  opening-given commander None = record { rises = tt; below = tt; pending = tt }
  opening-given commander (Some request) =
      let self : commander.last_number ≤ commander.last_number = omega arith in
      record { rises = (tt, tt); below = (self, tt); pending = inl refl }

  pub after-numbered : (events : List Event) → IsNumbered (world_after after answer standing opening events)
  after-numbered events =
      run-numbered events (world_at opening) (record {
        given = opening-given opening.commander opening.commander.pending;
        sent = tt;
        log = tt;
        rises = tt;
        past = tt;
      })
