use Rattle.std.proofs.Common.{rules, ◌≡◌, ℕ, true, if◌then◌else◌, List, Option, ap, sym, ◌∙◌}
use Rattle.std.specs.Prelude.{filter, option_map}
use Rattle.std.proofs.lemmas.Fn.{filter_same}
use Rattle.cip_owner.specs.Queue.{QueueState}
use Rattle.enip_adapter.specs.QueueLaws.{is_waiting}
use Rattle.owner_port.specs.declared.senders.Sender.{Sender}
use Rattle.owner_port.specs.Senders.{is_full, still_known}
use Rattle.owner_port.proofs.senders.keep_waiting.Goals as goal

-- the senders that stay known
those : (next : ℕ) (queue : Option QueueState) (known new : List Sender) → is_full next queue known ≡ true
    → new ≡ filter (λ (sender : Sender). is_waiting sender.ticket queue) known → new ≡ still_known next queue known
those next queue known new full is =
    is ∙ ap (λ t. if t then filter (λ (sender : Sender). is_waiting sender.ticket queue) known else known) (sym full)

pub returns-then-is_full : goal.returns-then-is_full
returns-then-is_full c =
    let queue = option_map (λ q. q.now) c.args.queue in
    those c.args.next queue c.args.known.now.items c.retain.new.self.items
    (ap (is_full c.args.next queue) (sym c.as_slice.ensures.value) ∙ (sym c.is_full.ensures ∙ c.if-is_full.true))
    (filter_same _ _ _ (λ x b f' k. search rules) _ _ c.retain.ensures.filtered)
