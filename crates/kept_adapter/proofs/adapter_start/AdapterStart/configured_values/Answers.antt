use Rattle.std.proofs.Common.{false, ap, ◌∙◌}
use Rattle.enip_keep.specs.Kept.{pairs_of}
use Rattle.kept_adapter.specs.Saved.{versioned_objects}
use Rattle.kept_adapter.proofs.SavingLemmas.{take_pairs}
use Rattle.kept_adapter.proofs.adapter_start.AdapterStart.configured_values.Goals as goal

pub returns : goal.returns
returns c =
    ap pairs_of c.truncate.ensures.items
    ∙ take_pairs c.save_objects.new.into.items c.in_ok-count.count
    ∙ c.in_ok-count.ensures.entries
    ∙ ap (λ m. versioned_objects m false) c.in_ok-objects.ensures
