-- What the log of the numbered world has, over every list of events.
use Rattle.std.proofs.Common.{◌≡◌, ℕ, ◌+◌, ◌<◌, ◌≤◌, ◌==◌, nat_lt, Bool, true, false, not, if◌then◌else◌, Option, Some, None, List, [], ◌∷◌, ◌++◌, length, append_assoc, refl, ap, sym, ◌∙◌, subst, arith}
use Rattle.std.specs.Prelude.{⊤, is_some, fold}
use Rattle.std.specs.List.{slice_get, AllByRecursion}
use Rattle.std.proofs.lemmas.Bool.{and_parts, ltb-false, eqb-true, eqb-false}
use Rattle.std.proofs.lemmas.List.{append-nil}
use Rattle.std.proofs.lemmas.List.Sums.{fold-append}
use Rattle.cip_ledger.specs.declared.target.Standing.{Standing}
use Rattle.cip_ledger.specs.Ledger.{LedgerState}
use Rattle.cip_ledger.specs.Services.{HEAD_SIZE}
use Rattle.cip_ledger.specs.Turn.{embedded_reply}
use Rattle.enip_reconnect.specs.Worlds.{Event, NewCommand, Abandon, Send, Reach, Back, Other, Opening, awaits}
use Rattle.enip_reconnect.specs.NumberedWorld.{Entry, Own, Another, Said, IsDone, IsRefused, Device, device_after, NumberedWorld, world_at, world_step, world_reach, world_back, world_after, said_of, Arrival, Appended, Answered, arrival, arrival_by, new_number, arrived}
use Rattle.enip_reconnect.specs.CommanderLaws.{numbers_in, Rises, IsExecutedOnce, GrowsAbove}
use Rattle.enip_reconnect.proofs.Rising.{all_at, all_append, all_map, all_second, rises_snoc, rises_smaller, rises_greater, numbers_in-append, device-after}

module _ {M : Type 0} (after : M → ℕ → List ℕ → M) (answer : M → ℕ → List ℕ → List ℕ) (standing : M → List ℕ → Standing)
    (opening : Opening M) where
  abbrev device_of : List Entry → Device M
  device_of log = device_after after answer standing opening log

  -- the number is in the log, and this is the reply of its execution there
  pub record IsExecuted (log : List Entry) (number : ℕ) (reply : List ℕ) : Type 0 where
    pub earlier : List Entry
    pub request : List ℕ
    pub later : List Entry
    pub place : log ≡ earlier ++ Own number request ∷ later
    pub reply_is : reply ≡ embedded_reply after answer (device_of earlier).router request

  executed-grows : (log more : List Entry) (number : ℕ) (reply : List ℕ) → IsExecuted log number reply →
      IsExecuted (log ++ more) number reply
  executed-grows log more number reply is = record {
    earlier = is.earlier;
    request = is.request;
    later = is.later ++ more;
    place = ap (λ all. all ++ more) is.place ∙ append_assoc is.earlier (Own number is.request ∷ is.later) more;
    reply_is = is.reply_is;
  }

  executed-new : (log : List Entry) (number : ℕ) (request : List ℕ) →
      IsExecuted (log ++ Own number request ∷ []) number (embedded_reply after answer (device_of log).router request)
  executed-new log number request =
      record { earlier = log; request = request; later = []; place = refl; reply_is = refl }

  -- the last number of the device is that of the log
  abbrev IsLast : Option (ℕ × List ℕ) → List Entry → Type 0
  IsLast None log = numbers_in log ≡ []
  IsLast (Some last) log = IsExecuted log last.0 last.1 × AllByRecursion (λ other. other ≤ last.0) (numbers_in log)

  abbrev IsSo : List Entry → ℕ → Said → Type 0
  IsSo log number (IsDone reply) = IsExecuted log number reply
  IsSo log number (IsRefused status) = ⊤

  so-grows : (log more : List Entry) (number : ℕ) (said : Said) → IsSo log number said → IsSo (log ++ more) number said
  so-grows log more number (IsDone reply) is = executed-grows log more number reply is
  so-grows log more number (IsRefused status) is = tt

  pub record IsLogged (world : NumberedWorld) : Type 0 where
    pub rises : Rises (numbers_in world.log)
    pub last : IsLast (device_of world.log).last world.log
    pub back : AllByRecursion (λ (said : ℕ × Said). IsSo world.log said.0 said.1) world.back
    pub accepted : AllByRecursion (λ (accepted : ℕ × List ℕ). IsExecuted world.log accepted.0 accepted.1) world.accepted

  -- ---- an arrival

  abbrev Means : List Entry → ℕ → Arrival → Type 0
  Means log number Appended = AllByRecursion (λ other. other < number) (numbers_in log)
  Means log number (Answered said) = IsSo log number said

  means_if : (log : List Entry) (number : ℕ) (is : Bool) (a b : Arrival) → (is ≡ true → Means log number a) →
      (is ≡ false → Means log number b) → Means log number (if is then a else b)
  means_if log number true a b if_true if_false = if_true refl
  means_if log number false a b if_true if_false = if_false refl

  new-means : (log : List Entry) (number max_size : ℕ) → AllByRecursion (λ other. other < number) (numbers_in log) →
      Means log number (new_number max_size)
  new-means log number max_size below = means_if log number (nat_lt max_size 485) _ _ (λ is. tt) (λ is. below)

  by-means : (log : List Entry) (number max_size : ℕ) (ledger : LedgerState) (last : Option (ℕ × List ℕ)) → IsLast last log →
      Means log number (arrival_by ledger max_size number last)
  by-means log number max_size ledger None last =
      means_if log number (nat_lt (length ledger.taken) ledger.slots) _ _
      (λ is. new-means log number max_size (subst (AllByRecursion (λ other. other < number)) (sym last) tt))
      (λ is. tt)
  by-means log number max_size ledger (Some kept) last =
      means_if log number (nat_lt number kept.0) _ _ (λ is. tt)
      (λ least. means_if log number (number == kept.0) _ _
      (λ same.
      means_if log number (nat_lt max_size (HEAD_SIZE + (length kept.1 + 1))) _ _ (λ is. tt)
      (λ is. subst (λ n. IsExecuted log n kept.1) (sym (eqb-true number kept.0 same)) last.0))
      (λ other.
      new-means log number max_size
      (all_map (λ o. o ≤ kept.0) (λ o. o < number) (numbers_in log)
      (λ o under.
      let from = ltb-false number kept.0 least in
      let apart = eqb-false number kept.0 other in
      omega arith)
      last.1)))

  arrival-means : (log : List Entry) (number max_size life : ℕ) (device : Device M) → IsLast device.last log →
      Means log number (arrival life device max_size number)
  arrival-means log number max_size life device last =
      means_if log number (not (life == device.ledger.life)) _ _ (λ is. tt)
      (λ is. by-means log number max_size device.ledger device.last last)

  -- ---- the log grows

  back-grows : (log more : List Entry) (back : List (ℕ × Said)) → AllByRecursion (λ (said : ℕ × Said). IsSo log said.0 said.1) back →
      AllByRecursion (λ (said : ℕ × Said). IsSo (log ++ more) said.0 said.1) back
  back-grows log more back all =
      all_map (λ (said : ℕ × Said). IsSo log said.0 said.1) (λ (said : ℕ × Said). IsSo (log ++ more) said.0 said.1) back
      (λ said is. so-grows log more said.0 said.1 is) all

  accepted-grows : (log more : List Entry) (accepted : List (ℕ × List ℕ)) →
      AllByRecursion (λ (a : ℕ × List ℕ). IsExecuted log a.0 a.1) accepted →
      AllByRecursion (λ (a : ℕ × List ℕ). IsExecuted (log ++ more) a.0 a.1) accepted
  accepted-grows log more accepted all =
      all_map (λ (a : ℕ × List ℕ). IsExecuted log a.0 a.1) (λ (a : ℕ × List ℕ). IsExecuted (log ++ more) a.0 a.1) accepted
      (λ a is. executed-grows log more a.0 a.1 is) all

  arrived-logged : (world : NumberedWorld) (number : ℕ) (request : List ℕ) (what : Arrival) → IsLogged world →
      Means world.log number what → IsLogged (arrived after answer standing what world (device_of world.log) number request)
  arrived-logged world number request Appended logged below =
      let grown = numbers_in-append world.log (Own number request ∷ []) in
      record {
        rises = subst Rises (sym grown) (rises_snoc (numbers_in world.log) number logged.rises below);
        last =
            let P : Device M → Type 0 = λ device. IsLast device.last (world.log ++ Own number request ∷ []) in
            let Q : List ℕ → Type 0 = λ numbers. AllByRecursion (λ other. other ≤ number) numbers in
            let under : Q (numbers_in world.log) =
            all_map (λ o. o < number) (λ o. o ≤ number) (numbers_in world.log) (λ o less. omega arith) below in
            let self : number ≤ number = omega arith in
            subst P (sym (device-after after answer standing opening world.log (Own number request))) (
              executed-new world.log number request,
              subst Q (sym grown) (all_append (λ o. o ≤ number) (numbers_in world.log) (number ∷ []) under (self, tt)),
            );
        back =
            all_append _ world.back _ (back-grows world.log (Own number request ∷ []) world.back logged.back)
            (executed-new world.log number request, tt);
        accepted = accepted-grows world.log (Own number request ∷ []) world.accepted logged.accepted;
      }
  arrived-logged world number request (Answered said) logged so = record {
    rises = logged.rises;
    last = logged.last;
    back = all_append (λ (b : ℕ × Said). IsSo world.log b.0 b.1) world.back ((number, said) ∷ []) logged.back (so, tt);
    accepted = logged.accepted;
  }

  reach-logged : (world : NumberedWorld) (max_size : ℕ) (found : Option (ℕ × List ℕ)) → IsLogged world →
      IsLogged (world_reach after answer standing opening world max_size found)
  reach-logged world max_size None logged = logged
  reach-logged world max_size (Some message) logged =
      arrived-logged world message.0 message.1 _ logged
      (arrival-means world.log message.0 max_size opening.commander.life (device_of world.log) logged.last)

  last-another : (last : Option (ℕ × List ℕ)) (log : List Entry) (max_size : ℕ) (request : List ℕ) → IsLast last log →
      IsLast last (log ++ Another max_size request ∷ [])
  last-another None log max_size request is =
      numbers_in-append log (Another max_size request ∷ []) ∙ append-nil (numbers_in log) ∙ is
  last-another (Some last) log max_size request is =
      let Q : List ℕ → Type 0 = λ numbers. AllByRecursion (λ other. other ≤ last.0) numbers in (
        executed-grows log (Another max_size request ∷ []) last.0 last.1 is.0,
        subst Q (sym (numbers_in-append log (Another max_size request ∷ []) ∙ append-nil (numbers_in log))) is.1,
      )

  said-logged : (world : NumberedWorld) (said : Said) → IsLogged world → IsSo world.log world.commander.last_number said →
      IsLogged (said_of said world)
  said-logged world (IsDone reply) logged so = record {
    rises = logged.rises;
    last = logged.last;
    back = logged.back;
    accepted =
        all_append (λ (a : ℕ × List ℕ). IsExecuted world.log a.0 a.1) world.accepted ((world.commander.last_number, reply) ∷ [])
        logged.accepted (so, tt);
  }
  said-logged world (IsRefused status) logged so = logged

  back-logged : (world : NumberedWorld) (position : ℕ) (found : Option (ℕ × Said)) → IsLogged world →
      slice_get world.back position ≡ found → IsLogged (world_back world found)
  back-logged world position None logged is = logged
  back-logged world position (Some said) logged is = go (awaits world.commander said.0) refl
    where
      go : (its : Bool) → awaits world.commander said.0 ≡ its → IsLogged (if its then said_of said.1 world else world)
      go true awaited =
          let parts = and_parts (is_some world.commander.pending) (world.commander.last_number == said.0) awaited in
          said-logged world said.1 logged
          (subst (λ number. IsSo world.log number said.1) (sym (eqb-true world.commander.last_number said.0 parts.1))
          (all_at (λ (b : ℕ × Said). IsSo world.log b.0 b.1) world.back position said logged.back is))
      go false awaited = logged

  step-logged : (world : NumberedWorld) (event : Event) → IsLogged world →
      IsLogged (world_step after answer standing opening world event)
  step-logged world (NewCommand request) logged =
      record { rises = logged.rises; last = logged.last; back = logged.back; accepted = logged.accepted }
  step-logged world Abandon logged =
      record { rises = logged.rises; last = logged.last; back = logged.back; accepted = logged.accepted }
  step-logged world Send logged =
      record { rises = logged.rises; last = logged.last; back = logged.back; accepted = logged.accepted }
  step-logged world (Reach position max_size) logged = reach-logged world max_size (slice_get world.sent position) logged
  step-logged world (Back position) logged = back-logged world position (slice_get world.back position) logged refl
  step-logged world (Other max_size request) logged =
      let more = Another max_size request ∷ [] in
      record {
        rises = subst Rises (sym (numbers_in-append world.log more ∙ append-nil (numbers_in world.log))) logged.rises;
        last =
            let P : Device M → Type 0 = λ device. IsLast device.last (world.log ++ more) in
            subst P (sym (device-after after answer standing opening world.log (Another max_size request)))
            (last-another (device_of world.log).last world.log max_size request logged.last);
        back = back-grows world.log more world.back logged.back;
        accepted = accepted-grows world.log more world.accepted logged.accepted;
      }

  run-logged : (events : List Event) (world : NumberedWorld) → IsLogged world →
      IsLogged (fold (world_step after answer standing opening) world events)
  run-logged [] world logged = logged
  run-logged (event ∷ events) world logged =
      run-logged events (world_step after answer standing opening world event) (step-logged world event logged)

  pub after-logged : (events : List Event) → IsLogged (world_after after answer standing opening events)
  after-logged events = run-logged events (world_at opening) (record { rises = tt; last = refl; back = tt; accepted = tt })

  -- ---- executed exactly once

  pub once : (log : List Entry) (number : ℕ) (reply : List ℕ) → Rises (numbers_in log) → IsExecuted log number reply →
      IsExecutedOnce after answer standing opening log number reply
  once log number reply rises is =
      let numbers : numbers_in log ≡ numbers_in is.earlier ++ number ∷ numbers_in is.later =
      ap numbers_in is.place ∙ numbers_in-append is.earlier (Own number is.request ∷ is.later) in
      let all = subst Rises numbers rises in
      record {
        earlier = is.earlier;
        request = is.request;
        later = is.later;
        place = is.place;
        smaller = rises_smaller (numbers_in is.earlier) (numbers_in is.later) number all;
        greater = rises_greater (numbers_in is.earlier) (numbers_in is.later) number all;
        reply_is = is.reply_is;
      }

  -- ---- and never again

  pub record Grows (old new : List Entry) : Type 0 where
    pub more : List Entry
    pub grown : new ≡ old ++ more

  stays : (log : List Entry) → Grows log log
  stays log = record { more = []; grown = sym (append-nil log) }

  arrived-grows : (world : NumberedWorld) (number : ℕ) (request : List ℕ) (what : Arrival) →
      Grows world.log (arrived after answer standing what world (device_of world.log) number request).log
  arrived-grows world number request Appended = record { more = Own number request ∷ []; grown = refl }
  arrived-grows world number request (Answered said) = stays world.log

  reach-grows : (world : NumberedWorld) (max_size : ℕ) (found : Option (ℕ × List ℕ)) →
      Grows world.log (world_reach after answer standing opening world max_size found).log
  reach-grows world max_size None = stays world.log
  reach-grows world max_size (Some message) = arrived-grows world message.0 message.1 _

  said-stays : (world : NumberedWorld) (said : Said) → (said_of said world).log ≡ world.log
  said-stays world (IsDone reply) = refl
  said-stays world (IsRefused status) = refl

  pub back-stays : (world : NumberedWorld) (found : Option (ℕ × Said)) → (world_back world found).log ≡ world.log
  back-stays world None = refl
  back-stays world (Some said) = go (awaits world.commander said.0)
    where
      go : (its : Bool) → (if its then said_of said.1 world else world).log ≡ world.log
      go true = said-stays world said.1
      go false = refl

  step-grows : (world : NumberedWorld) (event : Event) → Grows world.log (world_step after answer standing opening world event).log
  step-grows world (NewCommand request) = stays world.log
  step-grows world Abandon = stays world.log
  step-grows world Send = stays world.log
  step-grows world (Reach position max_size) = reach-grows world max_size (slice_get world.sent position)
  step-grows world (Back position) =
      record { more = []; grown = back-stays world (slice_get world.back position) ∙ sym (append-nil world.log) }
  step-grows world (Other max_size request) = record { more = Another max_size request ∷ []; grown = refl }

  run-grows : (events : List Event) (world : NumberedWorld) →
      Grows world.log (fold (world_step after answer standing opening) world events).log
  run-grows [] world = stays world.log
  run-grows (event ∷ events) world =
      let first = step-grows world event in
      let rest = run-grows events (world_step after answer standing opening world event) in
      record {
        more = first.more ++ rest.more;
        grown = rest.grown ∙ ap (λ log. log ++ rest.more) first.grown ∙ append_assoc world.log first.more rest.more;
      }

  above : (log more : List Entry) (number : ℕ) (reply : List ℕ) → IsExecuted log number reply → Rises (numbers_in (log ++ more)) →
      AllByRecursion (λ other. number < other) (numbers_in more)
  unfolding once executed-grows
  above log more number reply is rises =
      let grown = once (log ++ more) number reply rises (executed-grows log more number reply is) in
      all_second (λ other. number < other) (numbers_in is.later) (numbers_in more)
      (subst (AllByRecursion (λ other. number < other)) (numbers_in-append is.later more) grown.greater)

  pub grows_above : (events later : List Event) (number : ℕ) (reply : List ℕ) →
      IsExecuted (world_after after answer standing opening events).log number reply →
      GrowsAbove number (world_after after answer standing opening events).log (world_after after answer standing opening (events ++ later)).log
  grows_above events later number reply is =
      let world = world_after after answer standing opening events in
      let joined = fold-append (world_step after answer standing opening) (world_at opening) events later in
      let grows = run-grows later world in
      let grown = ap (λ (w : NumberedWorld). w.log) joined ∙ grows.grown in
      record {
        more = grows.more;
        grown = grown;
        greater =
            above world.log grows.more number reply is
            (subst (λ log. Rises (numbers_in log)) grown (after-logged (events ++ later)).rises);
      }
