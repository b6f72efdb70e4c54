use Rattle.std.proofs.Common.{None, length, ap, subst, sym, ◌∙◌, arith}
use Rattle.std.specs.List.{AllByRecursion, remove}
use Rattle.std.proofs.lemmas.List.Edits.{length-remove}
use Rattle.slab.specs.Slab.{ContainsKey}
use Rattle.cip_manager.specs.Table.{listed, Names, AreOpenUntil}
use Rattle.cip_manager.proofs.DeadlineLemmas.{AreOpenUntil-remove}
use Rattle.cip_manager.proofs.SlotLemmas.{within, has-key, Shows-remove}
use Rattle.cip_manager.proofs.table.Table.remove.Goals as goal

pub remove-key-requires : goal.remove-key-requires
remove-key-requires c =
    within c.self.inside.connections c.self.inside.index c.args.self.now.connections c.args.position c.self.invariant.named (ap (λ t. t.connections) c.self.view_is) c.requires

pub remove-requires : goal.remove-requires
remove-requires c =
    let inside = within c.self.inside.connections c.self.inside.index c.args.self.now.connections c.args.position c.self.invariant.named (ap (λ t. t.connections) c.self.view_is) c.requires in
    subst (ContainsKey c.self.inside.connections) (sym c.remove-key.ensures.key)
    (has-key c.self.inside.connections c.self.inside.index c.args.position c.self.invariant.named inside)

-- the other entries name the same connections as before
pub invariant_of-self : goal.invariant_of-self
invariant_of-self c =
    let entries = c.self.inside.index in
    let inside = within c.self.inside.connections c.self.inside.index c.args.self.now.connections c.args.position c.self.invariant.named (ap (λ t. t.connections) c.self.view_is) c.requires in
    let shows = Shows-remove c.self.inside.connections c.remove.new.self c.remove-key.result None c.remove.ensures.updates entries c.args.position inside c.remove-key.ensures.key c.remove-key.ensures.rising c.self.invariant.named in
    let shorter = ap length c.remove-key.ensures.removed in
    let one = length-remove entries c.args.position inside in
    record {
      from = c.self.invariant.from;
      to = c.self.invariant.to;
      named = subst (AllByRecursion (Names c.remove.new.self)) (sym c.remove-key.ensures.removed) shows.named;
      others = omega (arith, shorter, one, c.remove.ensures.len, c.self.invariant.others);
      taken = omega (arith, shorter, one, c.self.invariant.taken);
      room = omega (arith, c.remove.ensures.capacity, c.self.invariant.room);
      until =
          subst (AreOpenUntil c.self.inside.earliest) (sym (ap (listed c.remove.new.self) c.remove-key.ensures.removed ∙ shows.connections))
          (AreOpenUntil-remove c.self.inside.earliest (listed c.self.inside.connections entries) c.args.position c.self.invariant.until);
    }

pub returns : goal.returns
returns c =
    let entries = c.self.inside.index in
    let inside = within c.self.inside.connections c.self.inside.index c.args.self.now.connections c.args.position c.self.invariant.named (ap (λ t. t.connections) c.self.view_is) c.requires in
    let shows = Shows-remove c.self.inside.connections c.remove.new.self c.remove-key.result None c.remove.ensures.updates entries c.args.position inside c.remove-key.ensures.key c.remove-key.ensures.rising c.self.invariant.named in
    let after = ap (listed c.remove.new.self) c.remove-key.ensures.removed ∙ (shows.connections ∙ ap (λ t. remove t.connections c.args.position) c.self.view_is) in
    λ j. record { places = ap (λ t. t.places) c.self.view_is j; connections = after j }
