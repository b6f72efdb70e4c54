use Rattle.std.proofs.Common.{◌≡◌, [], drop, length, arith}
use Rattle.std.specs.Box.{boxed_slice_items, boxed_slice_len}
use Rattle.cip_application.specs.Attributes.{AttributeValues}
use Rattle.cip_application.proofs.Contents.{refill, new_value}
use Rattle.cip_application.proofs.attribute.Attribute.new.Goals as goal

pub returns : goal.returns
returns c =
    let a : AttributeValues = record {
      number = c.args.number;
      kind = c.args.kind;
      settable = c.args.settable;
      checked = c.args.checked;
      value = [];
      changes = 0;
    } in
    let content = c.into_boxed_slice-content.result in
    let x = c.put.new.content in
    let whole : boxed_slice_len content ≡ length x = omega (arith, c.put.auto.content, c.deref_mut.ensures.len) in
    new_value a _ x c.args.value.now _ (refill (boxed_slice_len content) x (drop (length x) (boxed_slice_items content)) whole) c.put.ensures
