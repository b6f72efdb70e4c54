use Rattle.std.proofs.Common.{◌≡◌, ◌-◌, ◌<◌, not, ap, subst, sym, ◌∙◌, arith}
use Rattle.std.specs.Prelude.{All}
use Rattle.std.proofs.lemmas.List.Elements.{All-filter}
use Rattle.cip_manager.specs.declared.connection.Connection.{Connection}
use Rattle.cip_manager.specs.Table.{is_in}
use Rattle.cip_manager.proofs.WalkLemmas.{IsKeptFrom, IsKeptFrom-kept, IsKeptFrom-removed, IsKeptFrom-done}
use Rattle.cip_manager.proofs.table.Table.end.Goals as goal

-- a selected connection is removed
pub loop-position-preserved-then-has : goal.loop-position-preserved-then-has
loop-position-preserved-then-has c =
    let ends = ap (λ x. not (is_in c.args.selection.now x)) (sym (c.at.ensures c.at.result.now)) ∙ ap not (sym c.has.ensures ∙ c.if-has.true) in (
      ap (λ t. t.places) c.remove.ensures ∙ c.loop-position.invariant.0,
      subst (λ t. IsKeptFrom (λ x. not (is_in c.args.selection.now x)) c.args.self.now.connections t.connections (c.loop-position.position - 1)) (sym c.remove.ensures)
          (IsKeptFrom-removed (λ x. not (is_in c.args.selection.now x)) c.args.self.now.connections c.loop-position.self.connections c.loop-position.position c.at.result.now (omega arith) ends c.loop-position.invariant.1),
    )

-- another one stays
pub loop-position-preserved : goal.loop-position-preserved
loop-position-preserved c =
    let stays = ap (λ x. not (is_in c.args.selection.now x)) (sym (c.at.ensures c.at.result.now)) ∙ ap not (sym c.has.ensures ∙ c.if-has.false) in (
      c.loop-position.invariant.0,
      IsKeptFrom-kept (λ x. not (is_in c.args.selection.now x)) c.args.self.now.connections c.loop-position.self.connections c.loop-position.position c.at.result.now (omega arith) stays c.loop-position.invariant.1,
    )

pub returns-clause-below : goal.returns-clause-below
returns-clause-below c =
    let done : c.loop-position.position ≡ 0 = omega arith in
    let p = λ (x : Connection). not (is_in c.args.selection.now x) in
    let left = IsKeptFrom-done p c.args.self.now.connections c.loop-position.self.connections
    (subst (λ i. IsKeptFrom p c.args.self.now.connections c.loop-position.self.connections i) done c.loop-position.invariant.1) in
    λ n below. subst (λ cs. All (λ (x : Connection). x.o_to_t_id < n) cs) (sym left) (All-filter p (λ x. x.o_to_t_id < n) c.args.self.now.connections below)
