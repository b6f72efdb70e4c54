use Rattle.std.proofs.Common.{◌≡◌, ap, ◌∙◌}
use Rattle.enip_keep.specs.Kept.{Kept, pairs_of, set_all}
use Rattle.kept_adapter.specs.Preparing.{ledger_in_later_life}
use Rattle.device_start.proofs.kept_start.prepare_later.Goals as goal

pub returns-clause-prepared : goal.returns-clause-prepared
returns-clause-prepared c =
    let kept : Kept = pairs_of c.args.entries.now.items in
    let changes = c.in_ok-prepared.ensures.changes in
    record {
      wanted = changes.0;
      drops = changes.1;
      accepts = changes.2;
      resets = changes.3;
      changed = c.in_ok-prepared.ensures.made ∙ ap (λ (entries : Kept). set_all entries kept) changes.4;
      lossless = c.in_ok-prepared.ensures.lossless;
      objects = c.in_later_life-start.ensures.objects;
      ledger = c.in_later_life-start.ensures.ledger
          ∙ ap (λ es. ledger_in_later_life c.args.start.ledger (pairs_of es)) c.deref.ensures.value;
      queue = c.in_later_life-start.ensures.queue;
      begins = c.in_later_life-start.ensures.begins;
      reset = c.in_later_life-start.ensures.reset;
      listen = c.in_later_life-start.ensures.listen;
      limits = c.in_later_life-start.ensures.limits;
      shares = c.in_later_life-start.ensures.shares;
      idle = c.in_later_life-start.ensures.idle;
    }
