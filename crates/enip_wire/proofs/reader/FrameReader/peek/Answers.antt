use Rattle.std.proofs.Common.{◌≡◌, ◌+◌, ◌++◌, length, take, drop, refl, sym, ap, subst, ◌∙◌, arith}
use Rattle.std.specs.Box.{boxed_slice_items, boxed_slice_len}
use Rattle.enip_wire.specs.Stream.{IsAtMostOneFrame, Shows, bytes_taken, held_and_taken, parsed}
use Rattle.enip_wire.proofs.ParseFrameLemmas.{placed, kept_before}
use Rattle.enip_wire.proofs.reader.FrameReader.peek.Goals as goal

-- the bytes that are laid behind those that are held leave them
pub invariant_of-self-2 : goal.invariant_of-self-2
invariant_of-self-2 c =
    let items = boxed_slice_items c.self.inside.buffer in
    let size : length items ≡ 65535 = sym c.self.inside.buffer.items.ok.0 ∙ c.self.invariant.0 in
    let laid : take (c.self.inside.len + length (take c.taken_size-more.result c.args.piece.now)) c.copy_behind.new.buffer
    ≡ take c.self.inside.len (boxed_slice_items c.self.inside.buffer) ++ take c.taken_size-more.result c.args.piece.now
    = c.copy_behind.ensures ∙ ap (λ xs. take c.self.inside.len xs ++ take c.taken_size-more.result c.args.piece.now) c.deref_mut.ensures.value in
    let kept = kept_before c.self.inside.len c.taken_size-more.result (boxed_slice_len c.self.inside.buffer) items c.copy_behind.new.buffer
    c.args.piece.now (drop (length c.copy_behind.new.buffer) items) c.taken_size-more.ensures.takes.within
    (c.copy_behind.auto.buffer ∙ c.deref_mut.ensures.len) (omega (arith, size, c.self.invariant.1)) laid in
    (c.self.invariant.0, c.self.invariant.1, subst IsAtMostOneFrame (sym kept) c.self.invariant.2)

-- the bytes are laid behind those that are held
laid : (c : goal.After-parse_frame)
    → take (c.self.inside.len + length (take c.taken_size-more.result c.args.piece.now)) c.copy_behind.new.buffer
    ≡ take c.self.inside.len (boxed_slice_items c.self.inside.buffer) ++ take c.taken_size-more.result c.args.piece.now
laid c = c.copy_behind.ensures ∙ ap (λ xs. take c.self.inside.len xs ++ take c.taken_size-more.result c.args.piece.now) c.deref_mut.ensures.value

-- and the held ones are the same as before
kept : (c : goal.After-parse_frame)
    → take c.self.inside.len
    (take (boxed_slice_len c.self.inside.buffer) (c.copy_behind.new.buffer ++ drop (length c.copy_behind.new.buffer) (boxed_slice_items c.self.inside.buffer)))
    ≡ take c.self.inside.len (boxed_slice_items c.self.inside.buffer)
kept c =
    let items = boxed_slice_items c.self.inside.buffer in
    let size : length items ≡ 65535 = sym c.self.inside.buffer.items.ok.0 ∙ c.self.invariant.0 in
    kept_before c.self.inside.len c.taken_size-more.result (boxed_slice_len c.self.inside.buffer) items c.copy_behind.new.buffer
    c.args.piece.now (drop (length c.copy_behind.new.buffer) items) c.taken_size-more.ensures.takes.within
    (c.copy_behind.auto.buffer ∙ c.deref_mut.ensures.len) (omega (arith, size, c.self.invariant.1)) (laid c)

-- what is parsed is what `next` parses
parses : (c : goal.After-parse_frame)
    → take (c.self.inside.len + c.taken_size-more.result) c.deref-2.result.now ≡ held_and_taken c.args.self.now c.args.piece.now
parses c =
    let items = boxed_slice_items c.self.inside.buffer in
    let piece = c.args.piece.now in
    let number : c.taken_size-more.result ≡ bytes_taken c.args.self.now piece
    = c.taken_size-more.ensures.number ∙ ap (λ xs. bytes_taken (take c.self.inside.len xs) piece) c.deref.ensures.value
    ∙ ap (λ h. bytes_taken h piece) c.self.view_is in
    ap (take (c.self.inside.len + c.taken_size-more.result)) c.deref-2.ensures.value
    ∙ placed c.self.inside.len c.taken_size-more.result (boxed_slice_len c.self.inside.buffer) items c.copy_behind.new.buffer
    piece (drop (length c.copy_behind.new.buffer) items) c.taken_size-more.ensures.takes.within
    (c.copy_behind.auto.buffer ∙ c.deref_mut.ensures.len) (laid c)
    ∙ ap (λ h. h ++ take c.taken_size-more.result piece) c.self.view_is
    ∙ ap (λ n. c.args.self.now ++ take n piece) number

pub returns : goal.returns
returns c = (
  (refl, (λ _. tt), kept c ∙ c.self.view_is),
  record {
    unchanged = tt;
    shown = subst (λ bytes. Shows bytes c.parse_frame.result) (parses c) c.parse_frame.ensures.shown;
    kind = c.parse_frame.ensures.kind ∙ ap parsed (parses c);
  },
)
