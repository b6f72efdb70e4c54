use Rattle.std.proofs.Common.{◌≡◌, ◌≤◌, ◌+◌, length, take, drop, refl, ap, arith}
use Rattle.std.specs.Box.{boxed_slice_items, boxed_slice_len}
use Rattle.std.proofs.lemmas.List.{length-take}
use Rattle.cip_application.proofs.Contents.{refill, overwritten}
use Rattle.cip_application.proofs.attribute.Attribute.overwrite.Goals as goal

pub returns : goal.returns
returns c =
    let i = c.self.inside in
    let s = i.size in
    let content = boxed_slice_items i.content in
    let bytes = c.args.bytes.now in
    let v : length (take s content) ≡ length c.args.self.now.value = ap (λ a. length a.value) c.self.view_is in
    let t = length-take s content in
    let e = ap length c.deref_mut.ensures.value in
    let inside : c.args.offset + length bytes ≤ length c.args.self.now.value = c.requires in
    let le : c.args.offset + length bytes ≤ s = omega (arith, v, t, inside) in
    let within : s ≤ length content = omega (arith, e, c.deref_mut.ensures.len, c.self.invariant.space, c.self.invariant.fits) in
    let x = c.put.new.content in
    let whole : boxed_slice_len i.content ≡ length x = omega (arith, c.put.auto.content, c.deref_mut.ensures.len) in
    overwritten _ c.args.self.now s c.args.offset content c.deref_mut.result.now _ x bytes
    c.self.view_is refl c.deref_mut.ensures.value (refill (boxed_slice_len i.content) x (drop (length x) content) whole)
    c.put.ensures le within
