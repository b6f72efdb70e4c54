use Rattle.std.proofs.Common.{ap, ◌∙◌}
use Rattle.enip_keep.specs.Kept.{pairs_of}
use Rattle.kept_server.specs.Changes.{are_small}
use Rattle.kept_adapter.proofs.SavingLemmas.{take_pairs, saved_all}
use Rattle.kept_adapter.proofs.starting.AdapterStartKeptDevice.save.Goals as goal

pub returns-clause-saved : goal.returns-clause-saved
returns-clause-saved c =
    ap pairs_of c.truncate.ensures.items
    ∙ take_pairs c.save_queue_if_any.new.into.items c.in_ok-count.count
    ∙ saved_all c.objects-objects.ensures c.ledger-ledger.ensures c.queue-queue.ensures
    c.needs_version_2-is_version_2.ensures c.in_ok-values.ensures.entries
    c.in_ok-behind.ensures.entries c.in_ok-count.ensures.entries

pub returns-clause-small : goal.returns-clause-small
returns-clause-small c =
    ap (λ xs. are_small (pairs_of xs)) c.truncate.ensures.items
    ∙ ap are_small (take_pairs c.save_queue_if_any.new.into.items c.in_ok-count.count)
    ∙ c.in_ok-count.ensures.small
