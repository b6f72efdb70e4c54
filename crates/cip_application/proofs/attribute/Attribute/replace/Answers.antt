use Rattle.std.proofs.Common.{◌≡◌, drop, length, arith}
use Rattle.std.specs.Box.{boxed_slice_items, boxed_slice_len}
use Rattle.cip_application.proofs.Contents.{refill, replaced}
use Rattle.cip_application.proofs.attribute.Attribute.replace.Goals as goal

pub returns : goal.returns
returns c =
    let content = c.self.inside.content in
    let x = c.put.new.content in
    let whole : boxed_slice_len content ≡ length x = omega (arith, c.put.auto.content, c.deref_mut.ensures.len) in
    replaced _ c.args.self.now _ x c.args.value.now _ c.self.view_is
    (refill (boxed_slice_len content) x (drop (length x) (boxed_slice_items content)) whole) c.put.ensures
