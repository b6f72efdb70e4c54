use Rattle.std.proofs.Common.{◌≡◌, set, Some, refl, sym, ap, ◌∙◌}
use Rattle.std.proofs.lemmas.List.{set-get_or}
use Rattle.enip_wire.specs.Stream.{held_and_taken, parsed}
use Rattle.enip_adapter.specs.Asks.{asks_at, asks_by_parsed}
use Rattle.enip_adapter.specs.Executing.{executing_at, executing_parsed}
use Rattle.enip_adapter.specs.Withdrawing.{requests_at, requests_by_parsed}
use Rattle.enip_adapter.specs.PeerSlots.{PeerSlotsState, peer_slots_in}
use Rattle.enip_adapter.proofs.AskLemmas.{asks_nowhere, asks_closed, asks_open}
use Rattle.enip_adapter.proofs.ExecutingLemmas.{executing_nowhere, executing_closed, executing_open}
use Rattle.enip_adapter.proofs.RequestedLemmas.{requests_nowhere, requests_closed, requests_open}
use Rattle.enip_adapter.proofs.FeedLemmas.{finds, alive_there}
use Rattle.enip_adapter.proofs.peer_slots.PeerSlots.peek.Goals as goal

-- the peer holds no slot
pub returns-in_default : goal.returns-in_default
returns-in_default c = (
  (refl, (λ _. tt), c.self.view_is),
  record {
    state = tt;
    seen = λ next_handle shared.
        asks_nowhere c.self.inside.limit next_handle shared c.self.inside.taken.items c.args.handle c.args.piece.now
        (ap (finds c.args.handle) (sym c.deref.ensures.value) ∙ sym c.index_of.ensures ∙ c.in_default.is)
        ∙ ap (λ (p : PeerSlotsState). asks_at p.limit next_handle shared p.taken c.args.handle c.args.piece.now) c.self.view_is;
    executing = λ next_handle shared.
        executing_nowhere c.self.inside.limit next_handle shared c.self.inside.taken.items c.args.handle c.args.piece.now
        (ap (finds c.args.handle) (sym c.deref.ensures.value) ∙ sym c.index_of.ensures ∙ c.in_default.is)
        ∙ ap (λ (p : PeerSlotsState). executing_at p.limit next_handle shared p.taken c.args.handle c.args.piece.now) c.self.view_is;
    requests = λ next_handle shared.
        requests_nowhere c.self.inside.limit next_handle shared c.self.inside.taken.items c.args.handle c.args.piece.now
        (ap (finds c.args.handle) (sym c.deref.ensures.value) ∙ sym c.index_of.ensures ∙ c.in_default.is)
        ∙ ap (λ (p : PeerSlotsState). requests_at p.limit next_handle shared p.taken c.args.handle c.args.piece.now) c.self.view_is;
  },
)

-- it is closed
pub returns-then-index : goal.returns-then-index
returns-then-index c = (
  (refl, (λ _. tt), c.self.view_is),
  record {
    state = tt;
    seen = λ next_handle shared.
        asks_closed c.self.inside.limit next_handle shared c.self.inside.taken.items c.args.handle c.in-Some.index c.args.piece.now
        c.index.result.now
        (ap (finds c.args.handle) (sym c.deref.ensures.value) ∙ sym c.index_of.ensures ∙ c.in-Some.is)
        (ap (λ p. p.session.closed) (sym c.index.ensures) ∙ c.if-index.true)
        ∙ ap (λ (p : PeerSlotsState). asks_at p.limit next_handle shared p.taken c.args.handle c.args.piece.now) c.self.view_is;
    executing = λ next_handle shared.
        executing_closed c.self.inside.limit next_handle shared c.self.inside.taken.items c.args.handle c.in-Some.index c.args.piece.now
        c.index.result.now
        (ap (finds c.args.handle) (sym c.deref.ensures.value) ∙ sym c.index_of.ensures ∙ c.in-Some.is)
        (ap (λ p. p.session.closed) (sym c.index.ensures) ∙ c.if-index.true)
        ∙ ap (λ (p : PeerSlotsState). executing_at p.limit next_handle shared p.taken c.args.handle c.args.piece.now) c.self.view_is;
    requests = λ next_handle shared.
        requests_closed c.self.inside.limit next_handle shared c.self.inside.taken.items c.args.handle c.in-Some.index c.args.piece.now
        c.index.result.now
        (ap (finds c.args.handle) (sym c.deref.ensures.value) ∙ sym c.index_of.ensures ∙ c.in-Some.is)
        (ap (λ p. p.session.closed) (sym c.index.ensures) ∙ c.if-index.true)
        ∙ ap (λ (p : PeerSlotsState). requests_at p.limit next_handle shared p.taken c.args.handle c.args.piece.now) c.self.view_is;
  },
)

pub returns : goal.returns
returns c =
    let items = c.self.inside.taken.items in
    let index = c.in-Some.index in
    let there : finds c.args.handle items ≡ Some index
    = ap (finds c.args.handle) (sym c.deref.ensures.value) ∙ sym c.index_of.ensures ∙ c.in-Some.is in
    let kept : set items index c.peek.follows.lender-at-none ≡ items
    = ap (set items index) (c.peek.follows.holds-at-none ∙ c.index_mut.ensures.value)
    ∙ set-get_or items index c.index_mut.result.now in (
      (refl, (λ _. tt), ap (peer_slots_in c.self.inside.limit) kept ∙ c.self.view_is),
      record {
        state = tt;
        seen = λ next_handle shared.
            c.peek.ensures.seen shared
            ∙ (ap (λ p. asks_by_parsed shared p.session (parsed (held_and_taken p.reader c.args.piece.now))) c.index_mut.ensures.value
            ∙ (asks_open c.self.inside.limit next_handle shared items c.args.handle index c.args.piece.now
            c.index_mut.result.now there
            (alive_there items c.args.handle index c.index.result.now c.index_mut.result.now there
            (ap (λ p. p.session.closed) (sym c.index.ensures) ∙ c.if-index.false))
            ∙ ap (λ (p : PeerSlotsState). asks_at p.limit next_handle shared p.taken c.args.handle c.args.piece.now) c.self.view_is));
        executing = λ next_handle shared.
            c.peek.ensures.executing shared
            ∙ (ap (λ p. executing_parsed shared p.session (parsed (held_and_taken p.reader c.args.piece.now))) c.index_mut.ensures.value
            ∙ (executing_open c.self.inside.limit next_handle shared items c.args.handle index c.args.piece.now
            c.index_mut.result.now there
            (alive_there items c.args.handle index c.index.result.now c.index_mut.result.now there
            (ap (λ p. p.session.closed) (sym c.index.ensures) ∙ c.if-index.false))
            ∙ ap (λ (p : PeerSlotsState). executing_at p.limit next_handle shared p.taken c.args.handle c.args.piece.now) c.self.view_is));
        requests = λ next_handle shared.
            c.peek.ensures.requests shared
            ∙ (ap (λ p. requests_by_parsed shared p.session (parsed (held_and_taken p.reader c.args.piece.now))) c.index_mut.ensures.value
            ∙ (requests_open c.self.inside.limit next_handle shared items c.args.handle index c.args.piece.now
            c.index_mut.result.now there
            (alive_there items c.args.handle index c.index.result.now c.index_mut.result.now there
            (ap (λ p. p.session.closed) (sym c.index.ensures) ∙ c.if-index.false))
            ∙ ap (λ (p : PeerSlotsState). requests_at p.limit next_handle shared p.taken c.args.handle c.args.piece.now) c.self.view_is));
      },
    )
