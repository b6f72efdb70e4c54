use Rattle.std.proofs.Common.{refl, ap, sym, ◌∙◌}
use Rattle.cip_ledger.specs.Reaching.{listed}
use Rattle.enip_adapter.proofs.AskLemmas.{asked_by_feed, ticked_asks, ticked_at}
use Rattle.enip_adapter.proofs.NothingAskedLemmas.{unasked_feed}
use Rattle.enip_adapter.proofs.adapter.Adapter.asked.Goals as goal

-- there is no application object
pub returns-then-not-has_application_objects : goal.returns-then-not-has_application_objects
returns-then-not-has_application_objects c =
    let nothing = unasked_feed c.self.inside.places.limit c.self.inside.next_handle c.self.inside.shared c.advance.new.self
    c.self.inside.places.taken c.args.now c.args.peer.now c.args.piece.now c.args.self.now c.self.view_is
    c.advance.ensures (sym c.has_application_objects.ensures ∙ c.if-not-has_application_objects.true) in (
      (
        refl,
        (λ _. tt),
        ticked_at c.self.inside.places c.self.inside.places c.self.inside.next_handle c.self.inside.shared c.advance.new.self
            c.args.now c.args.self.now c.self.view_is c.advance.ensures refl,
      ),
      record {
        state = tt;
        asked = nothing;
        ticked = nothing ∙ sym (ticked_asks c.args.self.now c.args.now c.args.peer.now c.args.piece.now);
      },
    )

pub returns : goal.returns
returns c =
    let asks = ap listed (c.lend_asked.ensures ∙ c.copy_asked-head.ensures)
    ∙ (c.asked.ensures.asked
    ∙ (c.peek-seen.ensures.seen c.self.inside.next_handle c.advance.new.self
    ∙ asked_by_feed c.self.inside.places.limit c.self.inside.next_handle c.self.inside.shared c.advance.new.self
    c.self.inside.places.taken c.args.now c.peer.inside.handle c.args.peer.now c.args.piece.now c.args.self.now
    c.self.view_is c.advance.ensures c.peer.view_is)) in (
      (
        refl,
        (λ _. tt),
        ticked_at c.self.inside.places c.peek-seen.follows.lender-at-none c.self.inside.next_handle c.self.inside.shared
            c.advance.new.self c.args.now c.args.self.now c.self.view_is c.advance.ensures c.peek-seen.follows.holds-at-none,
      ),
      record {
        state = tt;
        asked = asks;
        ticked = asks ∙ sym (ticked_asks c.args.self.now c.args.now c.args.peer.now c.args.piece.now);
      },
    )
