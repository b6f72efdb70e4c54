use Rattle.std.proofs.Common.{◌∙◌, sym}
use Rattle.kept_adapter.proofs.CompareLemmas.{free_is_empty}
use Rattle.kept_adapter.proofs.comparing.is_of_queue.Goals as goal

pub returns-then-is_free : goal.returns-then-is_free
returns-then-is_free c =
    rw (free_is_empty c.args.queue.now c.args.number (sym c.is_free.ensures ∙ c.if-is_free.true), sym c.queue_key.ensures.key)
    c.is_entry.ensures
