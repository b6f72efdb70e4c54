use Rattle.std.proofs.Common.{arith}
use Rattle.serde_json.specs.View.{members_view}
use Rattle.enip_commands.proofs.LayoutJsonLemmas.{more_members}
use Rattle.enip_commands.proofs.json_text.fields.+add_members.Goals as goal

pub returns : goal.returns
returns t c =
    more_members c.add_members.result c.args.fields.now c.args.index c.index-fields-index.result c.args.values.now c.split_values.result.0.now
    c.split_values.result.1.now (members_view c.args.members.now.entries) (members_view c.add_member.new.members.entries)
    (members_view c.add_members.new.members.entries) (omega (arith, c.if-index-fields.false)) c.index-fields-index.is
    (record { count = c.values.result; counts = c.values.ensures.count; front = c.split_values.ensures.front; back = c.split_values.ensures.back })
    c.in_ok-add_member.ensures c.add_members.ensures
