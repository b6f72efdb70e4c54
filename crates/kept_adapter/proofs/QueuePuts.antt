-- An entry that is put back into a queue, as the code does it.
use Rattle.std.proofs.Common.{◌≡◌, ℕ, true, false, if◌then◌else◌, Option, Some, None, is_some, unwrap_or, List, ap, sym, ◌∙◌}
use Rattle.cip_owner.specs.Queue.{QueueState}
use Rattle.device_state.specs.QueueEntries.{queue_put}
use Rattle.kept_adapter.specs.declared.queue_progress.QueueProgress.{QueueProgress}
use Rattle.kept_adapter.specs.Keys.{is_queue_key, queue_number}
use Rattle.kept_adapter.specs.Started.{queue_progressed, entry_to_queue, put_queue_back}

by_after : (p : QueueProgress) (before new : QueueState) (after : Option QueueState) → p.queue ≡ Some before
    → new ≡ unwrap_or after before → is_some after ≡ true → record p { queue = Some new } ≡ queue_progressed p after
by_after p before new None own is some = absurd (cc)
by_after p before new (Some after) own is some = ap (λ q. record p { queue = Some q }) is

pub was_put : (p : QueueProgress) (before new : QueueState) (number : ℕ) (content : List ℕ) → p.queue ≡ Some before
    → new ≡ unwrap_or (queue_put before number content) before
    → is_some (queue_put before number content) ≡ true
    → record p { queue = Some new } ≡ entry_to_queue p number content p.queue
was_put p before new number content own is some =
    by_after p before new (queue_put before number content) own is some
    ∙ sym (ap (entry_to_queue p number content) own)

by_none : (p : QueueProgress) (before new : QueueState) (after : Option QueueState) → p.queue ≡ Some before
    → new ≡ unwrap_or after before → is_some after ≡ false
    → record p { queue = Some new; has_lost = true } ≡ queue_progressed p after
by_none p before new None own is none =
    ap (λ q. record p { queue = q; has_lost = true }) (ap (λ q. Some q) is ∙ sym own)
by_none p before new (Some after) own is none = absurd (cc)

pub was_lost : (p : QueueProgress) (before new : QueueState) (number : ℕ) (content : List ℕ) → p.queue ≡ Some before
    → new ≡ unwrap_or (queue_put before number content) before
    → is_some (queue_put before number content) ≡ false
    → record p { queue = Some new; has_lost = true } ≡ entry_to_queue p number content p.queue
was_lost p before new number content own is none =
    by_none p before new (queue_put before number content) own is none
    ∙ sym (ap (entry_to_queue p number content) own)

-- An entry whose key is one of the queue.
pub to_queue : (p : QueueProgress) (key number : ℕ) (content other : List ℕ) → is_queue_key key ≡ true
    → number ≡ queue_number key → content ≡ other
    → entry_to_queue p number content p.queue ≡ put_queue_back p (key, other)
to_queue p key number content other own number_is same =
    ap (λ n. entry_to_queue p n content p.queue) number_is
    ∙ ap (λ c. entry_to_queue p (queue_number key) c p.queue) same
    ∙ sym (ap (λ t. if t then entry_to_queue p (queue_number key) other p.queue else p) own)
