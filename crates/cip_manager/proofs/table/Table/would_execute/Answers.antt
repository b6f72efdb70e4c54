use Rattle.std.proofs.Common.{◌≡◌, ◌<◌, true, false, Some, None, get_or, length, ap, subst, sym, ◌∙◌}
use Rattle.std.specs.List.{position}
use Rattle.std.proofs.lemmas.Bool.{eq-eqb, ne_eqb}
use Rattle.slab.specs.Slab.{ContainsKey}
use Rattle.cip_manager.specs.Connection.{is_named}
use Rattle.cip_manager.specs.Items.{execution_limit_by}
use Rattle.cip_manager.specs.Table.{listed}
use Rattle.cip_manager.proofs.FindLemmas.{found-listed, found-within, named-none, found-named}
use Rattle.cip_manager.proofs.Places.{none_found, first_at}
use Rattle.cip_manager.proofs.SlotLemmas.{has-key, listed-at}
use Rattle.cip_manager.proofs.table.Table.would_execute.Goals as goal

-- no connection has the ID
pub returns-in_default-clause-limit : goal.returns-in_default-clause-limit
returns-in_default-clause-limit c =
    let cs = listed c.self.inside.connections c.self.inside.index in
    let none = found-listed c.self.inside.connections c.self.inside.index c.args.id c.position_of.result c.self.invariant.named c.position_of.ensures.found ∙ c.in_default.is in
    let named : position (is_named c.args.session c.args.id) c.args.self.now.connections ≡ None =
    ap (λ t. position (is_named c.args.session c.args.id) t.connections) (sym c.self.view_is) ∙ named-none c.args.session c.args.id cs none in
    sym (ap (λ o. execution_limit_by o c.args.item.now) (none_found (is_named c.args.session c.args.id) c.args.self.now.connections named))

pub at-connection-requires : goal.at-connection-requires
at-connection-requires c =
    subst (ContainsKey c.self.inside.connections) (sym c.key-key.ensures.key)
    (has-key c.self.inside.connections c.self.inside.index c.in-Some.position c.self.invariant.named
    (found-within c.self.inside.index c.args.id c.in-Some.position (sym c.position_of.ensures.found ∙ c.in-Some.is)))

-- the session opened it
pub returns-then-connection-session-clause-limit : goal.returns-then-connection-session-clause-limit
returns-then-connection-session-clause-limit c =
    let slab = c.self.inside.connections in
    let entries = c.self.inside.index in
    let cs = c.args.self.now.connections in
    let i = c.in-Some.position in
    let old = c.at-connection.result.now in
    let found = sym c.position_of.ensures.found ∙ c.in-Some.is in
    let before : listed slab entries ≡ cs = ap (λ t. t.connections) c.self.view_is in
    let inside : i < length entries = found-within entries c.args.id i found in
    let e : position (is_named c.args.session c.args.id) cs ≡ Some i =
    ap (position (is_named c.args.session c.args.id)) (sym before)
    ∙ found-named slab entries c.args.session c.args.id i c.key-key.result old c.self.invariant.named c.key-key.ensures.rising found c.key-key.ensures.key c.at-connection.ensures
    true (eq-eqb old.session c.args.session c.if-connection-session.true) in
    let value : get_or cs i old ≡ old = ap (λ xs. get_or xs i old) (sym before) ∙ listed-at slab entries i c.key-key.result old old c.self.invariant.named inside c.key-key.ensures.key c.at-connection.ensures in
    c.would_execute.ensures.limit
    ∙ sym (ap (λ o. execution_limit_by o c.args.item.now) ((first_at (is_named c.args.session c.args.id) cs i e).found old ∙ ap Some value))

-- another session opened it
pub returns-else-connection-session-clause-limit : goal.returns-else-connection-session-clause-limit
returns-else-connection-session-clause-limit c =
    let named : position (is_named c.args.session c.args.id) c.args.self.now.connections ≡ None =
    ap (λ t. position (is_named c.args.session c.args.id) t.connections) (sym c.self.view_is)
    ∙ found-named c.self.inside.connections c.self.inside.index c.args.session c.args.id c.in-Some.position c.key-key.result c.at-connection.result.now
    c.self.invariant.named c.key-key.ensures.rising (sym c.position_of.ensures.found ∙ c.in-Some.is) c.key-key.ensures.key c.at-connection.ensures
    false (ne_eqb c.at-connection.result.now.session c.args.session c.if-connection-session.false) in
    sym (ap (λ o. execution_limit_by o c.args.item.now) (none_found (is_named c.args.session c.args.id) c.args.self.now.connections named))
