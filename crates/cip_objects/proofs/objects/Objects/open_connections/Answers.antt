use Rattle.std.proofs.Common.{sym, ap, ◌∙◌, Some, option_map}
use Rattle.std.specs.Box.{boxed_slice_items}
use Rattle.byteorder.specs.Endian.{little_number}
use Rattle.cip_objects.specs.Counter.{counter_values}
use Rattle.cip_objects.proofs.ObjectLemmas.{router_read}
use Rattle.cip_objects.proofs.objects.Objects.open_connections.Goals as goal

pub returns-in-Some : goal.returns-in-Some
returns-in-Some c =
    let o = c.self.inside in
    ap Some c.uint_in.ensures
    ∙ ap (option_map (little_number 2)) (c.in-Some.ensures.value
    ∙ sym (router_read o.identity (boxed_slice_items o.assemblies) (counter_values o.counter) o.application
    c.args.self.now 3 c.self.view_is c.self.invariant.numbered c.self.invariant.free))

pub returns-in-None : goal.returns-in-None
returns-in-None c =
    let o = c.self.inside in
    ap (option_map (little_number 2)) (c.in-None.ensures.value
    ∙ sym (router_read o.identity (boxed_slice_items o.assemblies) (counter_values o.counter) o.application
    c.args.self.now 3 c.self.view_is c.self.invariant.numbered c.self.invariant.free))
