use Rattle.owner_port.proofs.SessionLemmas.{reported_more, counted_more}
use Rattle.owner_port.proofs.sending.+report_sets.Goals as goal

pub returns-clause-reported : goal.returns-clause-reported
returns-clause-reported t c =
    reported_more c.args.types.now c.args.adapter.now c.args.by c.args.counts.now c.in-Some.count.now c.take-sets.new.self
    c.in-Some.others.now c.report_sets.new.counts c.take-sets.result c.args.session.now c.send_sets.new.session c.report_sets.new.session
    c.in-Some.ensures.cases.0 c.take-sets.ensures.sets c.take-sets.ensures.reported c.send_sets.ensures c.report_sets.ensures.reported

pub returns-clause-counted : goal.returns-clause-counted
returns-clause-counted t c =
    counted_more c.args.adapter.now c.in-Some.count.now c.take-sets.new.self c.report_sets.new.counts c.take-sets.ensures.reported
    c.report_sets.ensures.counted
