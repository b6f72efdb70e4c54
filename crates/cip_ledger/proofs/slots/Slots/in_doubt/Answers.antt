use Rattle.std.proofs.Common.{◌≡◌, ◌∙◌, Option, Some, None, refl, sym, ap, rules, tests}
use Rattle.std.specs.Prelude.{option_map, map, filter}
use Rattle.std.specs.List.{slice_get}
use Rattle.std.proofs.lemmas.Iterator.{YieldsList-from_slice, YieldsList-from_map}
use Rattle.std.proofs.lemmas.Iterator.Consumers.{nth_from_yields_List, YieldsList-at, YieldsList-from_filter}
use Rattle.cip_ledger.specs.Doubt.{is_doubtful, command_name}
use Rattle.cip_ledger.specs.Slots.{SlotsState}
use Rattle.cip_ledger.proofs.slots.Slots.in_doubt.Goals as goal

option_same : {A : Type 0} (o : Option A) → option_map (λ a. a) o ≡ o
option_same None = refl
option_same (Some a) = refl

pub returns : goal.returns
returns c =
    sym (option_same c.nth.result)
    ∙ nth_from_yields_List c.nth.result c.nth.new.self c.args.place c.nth.ensures.ran
    (YieldsList-from_map _ command_name
    (YieldsList-at c.map.ensures.source
    (YieldsList-from_filter _ is_doubtful (YieldsList-at c.filter.ensures.source (YieldsList-from_slice c.self.inside.taken.items cc))
    c.filter.ensures.closure (λ x r q k. search (rules, tests))))
    c.map.ensures.closure (λ x r q k. search rules))
    ∙ ap (λ (s : SlotsState). slice_get (map command_name (filter is_doubtful s.taken)) c.args.place) c.self.view_is
