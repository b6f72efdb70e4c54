use Rattle.std.proofs.Common.{arith}
use Rattle.enip_commands.proofs.LayoutJsonLemmas.{more_items}
use Rattle.enip_commands.proofs.json_text.fields.+add_items.Goals as goal

pub returns : goal.returns
returns t c =
    more_items c.add_items.result c.args.fields.now c.args.index c.index-fields-index.result c.args.values.now c.split_values.result.0.now
    c.split_values.result.1.now c.in_ok-field_json.field-0 c.args.items.now.items c.push.new.self.items c.add_items.new.items.items
    (omega (arith, c.if-index-fields.false)) c.index-fields-index.is
    (record { count = c.values.result; counts = c.values.ensures.count; front = c.split_values.ensures.front; back = c.split_values.ensures.back })
    c.in_ok-field_json.ensures c.in_ok-push.ensures.items c.add_items.ensures
