use Rattle.std.proofs.Common.{sym, ap, ◌∙◌, ◌&&◌, Bool}
use Rattle.json.specs.Value.{members_view}
use Rattle.std.proofs.Common.{drop, ◌+◌}
use Rattle.enip_owner.specs.Requests.{are_known}
use Rattle.enip_owner.proofs.ReadingLemmas.{member_step, no_members_left}
use Rattle.enip_owner.proofs.reading.are_known.Goals as goal

pub loop-member-preserved : goal.loop-member-preserved
loop-member-preserved c =
    c.loop-member.invariant
    ∙ member_step c.args.known.now c.args.members.now c.loop-member.member-index c.member-item.result c.loop-member-test.true
    ∙ ap (λ (b : Bool). b && are_known c.args.known.now (members_view (drop (c.loop-member.member-index + 1) c.args.members.now)))
    (sym (rw (← c.member-item.is) c.is_known.ensures) ∙ c.if-not-is_known.false)

pub returns-then-not-is_known : goal.returns-then-not-is_known
returns-then-not-is_known c =
    sym (c.loop-member.invariant
    ∙ member_step c.args.known.now c.args.members.now c.loop-member.member-index c.member-item.result c.loop-member-test.true
    ∙ ap (λ (b : Bool). b && are_known c.args.known.now (members_view (drop (c.loop-member.member-index + 1) c.args.members.now)))
    (sym (rw (← c.member-item.is) c.is_known.ensures) ∙ c.if-not-is_known.true))

pub returns : goal.returns
returns c =
    sym (c.loop-member.invariant ∙ no_members_left c.args.known.now c.args.members.now c.loop-member.member-index c.loop-member-test.false)
