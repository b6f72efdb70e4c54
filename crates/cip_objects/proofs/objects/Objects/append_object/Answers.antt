use Rattle.std.proofs.Common.{◌+◌, ◌++◌, ◌∙◌, Some, drop, sym, ap, arith, append_assoc}
use Rattle.std.proofs.lemmas.List.{append-nil, length-map}
use Rattle.std.specs.List.{flat_map}
use Rattle.cip_objects.specs.declared.object_ref.ObjectRef.TheVariants as object_refs
use Rattle.cip_objects.specs.ObjectRef.{bytes_to, object_in}
use Rattle.cip_objects.specs.ReadServices.{numbers_of}
use Rattle.cip_objects.proofs.Words.{number_step, number_end}
use Rattle.cip_objects.proofs.objects.Objects.append_object.Goals as goal

pub loop-index-preserved : goal.loop-index-preserved
loop-index-preserved c =
    let m = c.args.self.now in
    let value = bytes_to m (object_refs.Application c.args.object_index) in
    let shape = object_in m.shapes c.args.object_index in
    let ns = numbers_of (Some shape) in
    let k = c.loop-index.index in
    let later = flat_map value (drop (k + 1) ns) in
    let old = c.loop-index.reply.items in
    let e = number_step k ns (omega (arith, length-map shape.attributes (λ a. a.number))) in
    record {
      text = ap (λ t. t ++ later) c.in_ok-append.ensures.1
          ∙ append_assoc old c.value_by_index.result.now later
          ∙ ap (λ v. old ++ (v ++ later)) c.value_by_index.ensures
          ∙ ap (λ w. old ++ flat_map value w) (sym e)
          ∙ c.loop-index.invariant.text;
      fits = rw c.in_ok-append.ensures.1 c.in_ok-append.ensures.0;
    }

pub returns : goal.returns
returns c =
    let m = c.args.self.now in
    let value = bytes_to m (object_refs.Application c.args.object_index) in
    let shape = object_in m.shapes c.args.object_index in
    let ns = numbers_of (Some shape) in
    let e = number_end c.loop-index.index ns (omega (arith, length-map shape.attributes (λ a. a.number))) in
    let whole = sym (append-nil c.loop-index.reply.items) ∙ ap (λ w. c.loop-index.reply.items ++ flat_map value w) (sym e) ∙ c.loop-index.invariant.text in
    (rw (← whole) c.loop-index.invariant.fits, whole)
