use Rattle.std.proofs.Common.{ap, sym, ◌∙◌}
use Rattle.std.specs.Prelude.{is_some}
use Rattle.enip_adapter.specs.Calls.{AdapterState}
use Rattle.enip_adapter.proofs.RequestedLemmas.{requests_adapter, found_adapter, found_nothing, withdrawing_as}
use Rattle.enip_adapter.proofs.adapter.Adapter.withdraw_asked.Goals as goal

-- there is no ledger
pub returns-then-is_none-clause-state : goal.returns-then-is_none-clause-state
returns-then-is_none-clause-state c =
    found_nothing c.args.self.now c.args.peer.now c.args.piece.now
    (ap (λ (a : AdapterState). is_some a.state.shared.objects.ledger) (sym c.self.view_is) ∙ c.if-is_none.ensures)

pub returns-clause-state : goal.returns-clause-state
returns-clause-state c =
    let requests = c.peek-seen.ensures.requests c.self.inside.next_handle c.self.inside.shared
    ∙ requests_adapter c.self.inside.places.limit c.self.inside.next_handle c.self.inside.shared
    c.self.inside.places.taken c.peer.inside.handle c.args.peer.now c.args.piece.now c.args.self.now c.self.view_is
    c.peer.view_is in
    found_adapter c.self.inside.places c.peek-seen.follows.lender-at-none c.self.inside.next_handle c.self.inside.shared
    c.withdraw.new.shared c.args.peer.now c.args.piece.now c.args.self.now _ c.self.view_is c.withdraw.ensures.state
    requests c.peek-seen.follows.holds-at-none

pub returns-clause-told : goal.returns-clause-told
returns-clause-told c =
    c.withdraw.ensures.result
    ∙ withdrawing_as c.self.inside.shared.objects c.args.self.now.state.shared.objects _ _
    (ap (λ (a : AdapterState). a.state.shared.objects) c.self.view_is)
    (c.peek-seen.ensures.requests c.self.inside.next_handle c.self.inside.shared
    ∙ requests_adapter c.self.inside.places.limit c.self.inside.next_handle c.self.inside.shared
    c.self.inside.places.taken c.peer.inside.handle c.args.peer.now c.args.piece.now c.args.self.now c.self.view_is
    c.peer.view_is)
