use Rattle.enip_owner.proofs.ReadingLemmas.{not_one_member, one_member}
use Rattle.enip_owner.proofs.reading.only_member.Goals as goal

pub returns-then-members-ne1 : goal.returns-then-members-ne1
returns-then-members-ne1 c = not_one_member c.args.members.now c.if-members-ne1.true

pub returns : goal.returns
returns c =
    rw (one_member c.args.members.now c.index-members-0.result c.if-members-ne1.false)
    (rw c.index-members-0.is at c.member_of.ensures)
