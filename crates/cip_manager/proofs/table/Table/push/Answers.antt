use Rattle.std.proofs.Common.{◌+◌, ◌<◌, Some, [], ◌∷◌, ◌++◌, length, refl, ap, subst, sym, ◌∙◌, arith}
use Rattle.std.specs.List.{AllByRecursion}
use Rattle.std.proofs.lemmas.List.{length_push}
use Rattle.std.proofs.lemmas.List.Elements.{All-push, All-weaker}
use Rattle.cip_manager.specs.Index.{ids}
use Rattle.cip_manager.specs.Table.{listed, Names, AreBelow, AreOpenUntil}
use Rattle.cip_manager.proofs.DeadlineLemmas.{AreOpenUntil-push}
use Rattle.cip_manager.proofs.SlotLemmas.{leaves-position, ids-below, Shows-push}
use Rattle.cip_manager.proofs.table.Table.push.Goals as goal

pub insert-key-requires : goal.insert-key-requires
insert-key-requires c =
    let left = leaves-position c.self.inside.connections c.self.inside.index c.args.self.now.connections c.args.self.now.places c.self.invariant.named (ap (λ t. t.connections) c.self.view_is) c.requires.position in
    omega (arith, left, ap (λ t. t.places) c.self.view_is, c.self.invariant.others, c.self.invariant.room)

pub push-requires-clause-room : goal.push-requires-clause-room
push-requires-clause-room c =
    let left = leaves-position c.self.inside.connections c.self.inside.index c.args.self.now.connections c.args.self.now.places c.self.invariant.named (ap (λ t. t.connections) c.self.view_is) c.requires.position in
    omega (arith, left, ap (λ t. t.places) c.self.view_is, c.self.invariant.to)

pub push-requires-clause-above : goal.push-requires-clause-above
push-requires-clause-above c =
    subst (λ n. AllByRecursion (λ other. other < n) (ids c.self.inside.index)) (sym c.requires.id)
    (ids-below c.self.inside.connections c.args.connection.o_to_t_id c.self.inside.index c.self.invariant.named
    (subst (λ t. AreBelow c.args.connection.o_to_t_id t.connections) (sym c.self.view_is) c.requires.above))

-- the new entry names the new connection
pub invariant_of-self : goal.invariant_of-self
invariant_of-self c =
    let put = c.insert-key in
    let pushed = c.push.ensures ∙ ap (λ n. c.self.inside.index ++ record { id = n; key = put.result } ∷ []) c.requires.id in
    let shows = Shows-push c.self.inside.connections put.new.self put.result (Some c.args.connection) put.ensures.updates c.self.inside.index c.args.connection put.ensures.was_vacant refl c.self.invariant.named in
    let longer = ap length pushed ∙ length_push c.self.inside.index (record { id = c.args.connection.o_to_t_id; key = put.result }) in
    let left = leaves-position c.self.inside.connections c.self.inside.index c.args.self.now.connections c.args.self.now.places c.self.invariant.named (ap (λ t. t.connections) c.self.view_is) c.requires.position in
    record {
      from = c.self.invariant.from;
      to = c.self.invariant.to;
      named = subst (AllByRecursion (Names put.new.self)) (sym pushed) shows.named;
      others = omega (arith, longer, put.ensures.len, c.self.invariant.others);
      taken = omega (arith, longer, left, ap (λ t. t.places) c.self.view_is);
      room = omega (arith, put.ensures.capacity, c.self.invariant.room);
      until =
          subst (AreOpenUntil c.min-self-inside.result) (sym (ap (listed put.new.self) pushed ∙ shows.connections))
          (AreOpenUntil-push c.min-self-inside.result c.self.inside.earliest (listed c.self.inside.connections c.self.inside.index) c.args.connection
          (omega (arith, c.min-self-inside.ensures)) (omega (arith, c.min-self-inside.ensures)) c.self.invariant.until);
    }

pub returns-clause-pushed : goal.returns-clause-pushed
returns-clause-pushed c =
    let put = c.insert-key in
    let pushed = c.push.ensures ∙ ap (λ n. c.self.inside.index ++ record { id = n; key = put.result } ∷ []) c.requires.id in
    let shows = Shows-push c.self.inside.connections put.new.self put.result (Some c.args.connection) put.ensures.updates c.self.inside.index c.args.connection put.ensures.was_vacant refl c.self.invariant.named in
    let after = ap (listed put.new.self) pushed ∙ (shows.connections ∙ ap (λ t. t.connections ++ c.args.connection ∷ []) c.self.view_is) in
    λ j. record { places = ap (λ t. t.places) c.self.view_is j; connections = after j }

pub returns-clause-below : goal.returns-clause-below
returns-clause-below c =
    let id = c.args.connection.o_to_t_id in
    subst (λ t. AreBelow (id + 1) t.connections) (sym (returns-clause-pushed c))
    (
    All-push (λ x. x.o_to_t_id < id + 1) c.args.self.now.connections c.args.connection
    (All-weaker (λ x. x.o_to_t_id < id) (λ x. x.o_to_t_id < id + 1) (λ x h. omega arith) c.args.self.now.connections c.requires.above)
    (omega arith)
    )
