use Rattle.std.proofs.Common.{filter, rules, ap, ◌∙◌}
use Rattle.std.proofs.lemmas.Fn.{filter_same}
use Rattle.cip_objects.specs.Configuration.{contents_of_config}
use Rattle.device_state.specs.Saved.{state_of}
use Rattle.enip_keep.specs.Kept.{pairs_of}
use Rattle.kept_adapter.specs.Keys.{is_value_key}
use Rattle.kept_adapter.specs.Started.{beginning, unused_keys}
use Rattle.kept_adapter.proofs.starting.AdapterStartKeptDevice.waiting.Goals as goal

pub returns : goal.returns
returns c =
    filter_same _ _ _ (λ x b f' k. search rules) _ _ c.retain.ensures.filtered
    ∙ ap (filter is_value_key)
    (c.in_ok-keys.ensures
    ∙ ap (λ p. unused_keys p (pairs_of c.args.entries.now))
    (c.new.ensures ∙ ap (λ m. beginning (state_of m c.in_ok-ledger.ledger)) c.in_ok-objects.ensures
    ∙ ap (λ l. beginning (state_of (contents_of_config c.args.self.now.objects) l)) c.in_ok-ledger.ensures))
