use Rattle.std.proofs.Common.{◌<◌, ◌∙◌, Some, length, slice_get, ap, arith}
use Rattle.enip_bench.specs.Frames.{FramesState, part_of}
use Rattle.enip_bench.proofs.FramesLemmas.{lies_at, got}
use Rattle.enip_bench.proofs.frames.Frames.get.Goals as goal

pub part-requires-clause-rises : goal.part-requires-clause-rises
part-requires-clause-rises c =
    let spans = c.self.inside.spans in
    let below : c.args.position < length spans.items = omega (arith, spans.ok.0) in
    (lies_at c.self.inside.block.items spans.items c.args.position c.index.result.now c.self.invariant below
    c.index.ensures).0

pub part-requires-clause-within : goal.part-requires-clause-within
part-requires-clause-within c =
    let spans = c.self.inside.spans in
    let below : c.args.position < length spans.items = omega (arith, spans.ok.0) in
    omega (
      arith,
      ap length c.deref.ensures.value,
      (lies_at c.self.inside.block.items spans.items c.args.position c.index.result.now c.self.invariant below
          c.index.ensures).1,
    )

pub returns : goal.returns
returns c =
    let block = c.self.inside.block.items in
    let spans = c.self.inside.spans in
    let span = c.index.result.now in
    let below : c.args.position < length spans.items = omega (arith, spans.ok.0) in
    ap Some (c.part.ensures ∙ ap (λ b. part_of b span) c.deref.ensures.value)
    ∙ (got (part_of block) spans.items c.args.position span below c.index.ensures
    ∙ ap (λ (s : FramesState). slice_get s.frames c.args.position) c.self.view_is)
