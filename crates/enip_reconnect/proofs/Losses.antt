-- A client that crashes is one whose events may be lost.
use Rattle.std.proofs.Common.{◌≡◌, inl, inr, ℕ, true, Option, None, Some, List, [], ◌∷◌, ◌++◌, fold, is_some, ◌&&◌, ◌==◌, if◌then◌else◌, eq-eqb, append-nil, refl, sym, ap, ◌∙◌, subst}
use Rattle.std.proofs.lemmas.List.Sums.{fold-append}
use Rattle.cip_ledger.specs.declared.target.Standing.{Standing}
use Rattle.cip_commander.specs.declared.refusal.CommandRefused.{CommandRefused}
use Rattle.cip_commander.specs.CommanderRule.{CommanderState, command_refusal, pending_message, outcome_at, abandoned}
use Rattle.cip_commander.specs.Outcome.{NotPending}
use Rattle.enip_reconnect.specs.Worlds as worlds
use Rattle.enip_reconnect.specs.Worlds.{Event, NewCommand, Reach, Back, Other, BothEnds, sends, awaits, heard, ends_back, ends_step, ends_at, Opening, ends_after}
use Rattle.cip_commander.specs.CommanderRule.{after_given}
use Rattle.kept_commander.specs.declared.lives.CommandEvent.{CommandEvent}
use Rattle.kept_commander.specs.declared.lives.CommandEvent.TheVariants.{Give, Send, Accept, Abandon, Restart}
use Rattle.kept_commander.specs.declared.lives.Sent.{Sent}
use Rattle.kept_commander.specs.Kept.{given}
use Rattle.kept_commander.specs.Lives.{IsMessageOf, IsOfPending, IsGiven}
use Rattle.enip_reconnect.specs.Crashes.{Happening, OfClient, Reaches, OfAnother, handed_over, ends_with, IsOfClient, Happens, AllHappens}

-- what is sent of the pending command is what was handed out
sends_handed : (c : CommanderState) (s : Sent) → IsMessageOf c s → sends c (pending_message c) ≡ handed_over (Some s)
sends_handed c s is = ap (sends c) is.message ∙ ap (λ n. (n, s.message.items) ∷ []) (sym is.number)

same_number : (n : ℕ) → (n == n) ≡ true
same_number n = eq-eqb n n refl

module _ {M : Type 0} where
  -- nothing handed out
  with_nothing : (ends : BothEnds M) (c : CommanderState) → ends_with ends c None ≡ record ends { commander = c }
  with_nothing ends c = ap (λ sent. record ends { commander = c; sent = sent }) (append-nil ends.sent)

  -- an event that is lost changes nothing
  with_lost : (ends : BothEnds M) (c : CommanderState) (m : Option Sent) → c ≡ ends.commander → m ≡ None → ends_with ends c m ≡ ends
  with_lost ends c m same none = ap (λ d. ends_with ends d m) same ∙ ap (ends_with ends ends.commander) none ∙ with_nothing ends ends.commander

  -- a reply to no pending command
  heard_nothing : (ends : BothEnds M) → heard ends NotPending ≡ ends
  heard_nothing ends = ap (λ accepted. record ends { accepted = accepted }) (append-nil ends.accepted)

  -- the answer to the last command is taken by the pending command, if there is one
  taken_back : (ends : BothEnds M) (pending : Option (List ℕ)) (reply : List ℕ)
      → (if is_some pending && (ends.commander.last_number == ends.commander.last_number) then heard ends (outcome_at pending reply) else ends)
      ≡ heard ends (outcome_at pending reply)
  taken_back ends None reply = sym (heard_nothing ends)
  taken_back ends (Some request) reply =
      ap (λ b. if b then heard ends (outcome_at (Some request) reply) else ends) (same_number ends.commander.last_number)

module _ {M : Type 0} (after : M → ℕ → List ℕ → M) (answer : M → ℕ → List ℕ → List ℕ)
    (standing : M → List ℕ → Standing) where
  abbrev run : BothEnds M → List Event → BothEnds M
  run ends events = fold (ends_step after answer standing) ends events

  -- some events lead from these ends to those
  abbrev Leads : BothEnds M → BothEnds M → Type 0
  Leads ends next = (events : List Event) × (next ≡ run ends events)

  stays : (ends next : BothEnds M) → next ≡ ends → Leads ends next
  stays ends next same = ([], same)

  -- the message is sent, if it was handed out
  sent_leads : (ends : BothEnds M) (m : Option Sent) → IsOfPending ends.commander m → Leads ends (ends_with ends ends.commander m)
  sent_leads ends None is = ([], with_nothing ends ends.commander)
  sent_leads ends (Some s) is =
      (worlds.Send ∷ [], ap (λ more. record ends { sent = ends.sent ++ more }) (sym (sends_handed ends.commander s is)))

  leads_on : (ends middle next : BothEnds M) (e : Event) → ends_step after answer standing ends e ≡ middle → Leads middle next → Leads ends next
  leads_on ends middle next e step leads = (e ∷ leads.0, leads.1 ∙ ap (λ x. run x leads.0) (sym step))

  given_step : (c : CommanderState) (life : ℕ) (request : List ℕ) (refusal : Option CommandRefused) → refusal ≡ None → life ≡ c.life
      → after_given c request refusal ≡ given c life request
  given_step c life request refusal allowed same = ap (after_given c request) allowed ∙ ap (λ l. given c l request) (sym same)

  give_leads : (ends : BothEnds M) (life : ℕ) (request : List ℕ) (m : Option Sent) (c : CommanderState) → life ≡ ends.commander.life
      → IsGiven ends.commander life request m c → Leads ends (ends_with ends c m)
  give_leads ends life request m c same is =
      let taken : after_given ends.commander request (command_refusal ends.commander request) ≡ c =
      given_step ends.commander life request (command_refusal ends.commander request) is.allowed same ∙ sym is.taken in
      leads_on ends (record ends { commander = c }) (ends_with ends c m) (NewCommand request)
      (ap (λ d. record ends { commander = d }) taken)
      (sent_leads (record ends { commander = c }) m is.message)

  made_leads : (event : CommandEvent) (m : Option Sent) (ends next : BothEnds M) → IsOfClient event m ends next → Leads ends next
  made_leads (Give life request) m ends next (same, (c, inl lost, is)) = stays ends next (is ∙ with_lost ends c m lost.0 lost.1)
  made_leads (Give life request) m ends next (same, (c, inr taken, is)) =
      subst (Leads ends) (sym is) (give_leads ends life request.items m c same taken)
  made_leads Send m ends next made =
      subst (Leads ends) (sym (made.2 ∙ ap (λ c. ends_with ends c m) made.1.0)) (sent_leads ends m made.1.1)
  made_leads (Accept reply) m ends next (none, inl lost) = stays ends next lost
  made_leads (Accept reply) m ends next (none, inr taken) = (
    Back taken.0 ∷ [],
    taken.2 ∙ sym (ap (ends_back ends) taken.1 ∙ taken_back ends ends.commander.pending reply.items),
  )
  made_leads Abandon m ends next (c, inl lost, is) = stays ends next (is ∙ with_lost ends c m lost.0 lost.1)
  made_leads Abandon m ends next (c, inr ended, is) = (
    worlds.Abandon ∷ [],
    is ∙ ap (λ d. ends_with ends d m) ended.0 ∙ ap (ends_with ends (abandoned ends.commander)) ended.1 ∙ with_nothing ends (abandoned ends.commander),
  )
  made_leads Restart m ends next made = stays ends next (made.2 ∙ with_lost ends made.0 m made.1.0 made.1.1)

  leads : (happening : Happening) (ends next : BothEnds M) → Happens after answer standing happening ends next → Leads ends next
  leads (OfClient event sent) ends next happens = made_leads event sent ends next happens
  leads (Reaches position max_size) ends next happens = (Reach position max_size ∷ [], happens)
  leads (OfAnother max_size request) ends next happens = (Other max_size request ∷ [], happens)

  all_lead : (happenings : List Happening) (ends last : BothEnds M) → AllHappens after answer standing happenings ends last → Leads ends last
  all_lead [] ends last happens = stays ends last happens
  all_lead (first ∷ others) ends last happens =
      let begins = leads first ends happens.0 happens.1 in
      let goes_on = all_lead others happens.0 last happens.2 in (
        begins.0 ++ goes_on.0,
        goes_on.1 ∙ ap (λ x. run x goes_on.0) begins.1 ∙ sym (fold-append (ends_step after answer standing) ends begins.0 goes_on.0),
      )

  pub amount_to_losses : (opening : Opening M) (happenings : List Happening) (last : BothEnds M)
      → AllHappens after answer standing happenings (ends_at opening) last
      → (events : List Event) × (last ≡ ends_after after answer standing opening events)
  amount_to_losses opening happenings last happens = all_lead happenings (ends_at opening) last happens
