use Rattle.std.proofs.Common.{◌≡◌, length, rules, sym, ◌∙◌}
use Rattle.enip_owner.proofs.ValueLemmas.{all_read}
use Rattle.enip_owner.proofs.written_values.latin_bytes.Goals as goal

pub returns : goal.returns
returns c =
    let none : length c.loop-rest.rest.now ≡ 0 = search rules in
    sym (all_read c.loop-rest.bytes.items c.loop-rest.rest.now none) ∙ c.loop-rest.invariant
