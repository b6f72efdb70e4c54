use Rattle.std.proofs.Common.{◌≡◌, ◌+◌, ◌-◌, refl, subst, sym, arith}
use Rattle.owner_port.specs.Senders.{AreNoted}
use Rattle.owner_port.proofs.SessionLemmas.{noted_more}
use Rattle.owner_port.proofs.senders.note_tickets.Goals as goal

pub loop-ticket-init : goal.loop-ticket-init
loop-ticket-init c =
    let none : c.args.from - c.args.from ≡ 0 = omega arith in record {
      within = omega arith;
      noted = subst (λ n. AreNoted n c.args.from c.args.by c.args.known.now.items c.args.known.now.items) (sym none) refl;
    }

pub loop-ticket-preserved : goal.loop-ticket-preserved
loop-ticket-preserved c = record {
  within = omega (arith, c.loop-ticket.auto.ticket, c.loop-ticket-test.true);
  noted =
      noted_more c.args.from c.loop-ticket.ticket c.args.by c.args.known.now.items c.loop-ticket.known.items
      c.note_ticket.new.known.items c.loop-ticket.auto.ticket c.loop-ticket.invariant.noted c.note_ticket.ensures;
}

pub returns : goal.returns
returns c =
    let same : c.args.to - c.args.from ≡ c.loop-ticket.ticket - c.args.from =
    omega (arith, c.loop-ticket-test.false, c.loop-ticket.auto.ticket, c.loop-ticket.invariant.within) in
    subst (λ n. AreNoted n c.args.from c.args.by c.args.known.now.items c.loop-ticket.known.items) (sym same)
    c.loop-ticket.invariant.noted
