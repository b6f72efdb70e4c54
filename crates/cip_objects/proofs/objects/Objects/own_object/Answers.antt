use Rattle.std.proofs.Common.{◌≡◌, ℕ, MatchOption, Option, Some, None, sym}
use Rattle.std.specs.Box.{boxed_slice_items}
use Rattle.cip_application.specs.Objects.{position_of}
use Rattle.cip_objects.specs.Counter.{counter_values}
use Rattle.cip_objects.specs.OwnRequests.{own_object, IsOwnAt}
use Rattle.cip_objects.proofs.OwnRequests.{own_none, own_some}
use Rattle.cip_objects.proofs.objects.Objects.own_object.Goals as goal

by_position : (P : Type 0) (Q : ℕ → Type 0) (r p : Option ℕ) → r ≡ p → (p ≡ None → P) → ((k : ℕ) → p ≡ Some k → Q k) → MatchOption r P Q
by_position P Q None p e f g = f (sym e)
by_position P Q (Some k) p e f g = g k (sym e)

pub returns : goal.returns
returns c =
    let o = c.self.inside in
    let m = c.args.self.now in
    by_position (own_object m.shapes c.args.class c.args.instance ≡ None) (IsOwnAt m.shapes c.args.class c.args.instance)
    c.position.result (position_of c.args.class c.args.instance o.application) c.position.ensures.position
    (λ e. own_none o.identity (boxed_slice_items o.assemblies) (counter_values o.counter) o.application m c.args.class c.args.instance c.self.view_is e)
    (λ k e. own_some o.identity (boxed_slice_items o.assemblies) (counter_values o.counter) o.application m c.args.class c.args.instance k
    c.self.view_is c.self.invariant.free e)
