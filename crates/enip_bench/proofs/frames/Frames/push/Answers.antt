use Rattle.std.proofs.Common.{◌≡◌, ◌+◌, ◌++◌, ◌∷◌, [], ◌∙◌, length, map, ap, subst, sym, arith}
use Rattle.std.proofs.lemmas.List.{length-append}
use Rattle.enip_bench.specs.Frames.{FramesState, part_of, LieWithin}
use Rattle.enip_bench.specs.declared.frames.Span.{Span}
use Rattle.enip_bench.proofs.FramesLemmas.{frame_put, within_put}
use Rattle.enip_bench.proofs.frames.Frames.push.Goals as goal

pub invariant_of-self : goal.invariant_of-self
invariant_of-self c =
    let block = c.self.inside.block in
    let all = c.append.new.block in
    let frame = c.args.frame.now in
    let span : Span = record { start = c.len-start.result; end = c.len-end.result } in
    let start : c.len-start.result ≡ length block.items = omega (arith, c.len-start.ensures, block.ok.0) in
    let end : c.len-end.result ≡ length block.items + length frame
    = omega (arith, c.len-end.ensures, all.ok.0, ap length c.append.ensures, length-append block.items frame) in
    subst (LieWithin all.items) (sym c.push_reserved.ensures.items)
    (within_put block.items frame all.items c.self.inside.spans.items span c.self.invariant c.append.ensures start end)

pub returns : goal.returns
returns c =
    let block = c.self.inside.block in
    let all = c.append.new.block in
    let frame = c.args.frame.now in
    let span : Span = record { start = c.len-start.result; end = c.len-end.result } in
    let start : c.len-start.result ≡ length block.items = omega (arith, c.len-start.ensures, block.ok.0) in
    let end : c.len-end.result ≡ length block.items + length frame
    = omega (arith, c.len-end.ensures, all.ok.0, ap length c.append.ensures, length-append block.items frame) in
    ap (map (part_of all.items)) c.push_reserved.ensures.items
    ∙ (frame_put block.items frame all.items c.self.inside.spans.items span c.self.invariant c.append.ensures start end
    ∙ ap (λ (s : FramesState). s.frames ++ frame ∷ []) c.self.view_is)
