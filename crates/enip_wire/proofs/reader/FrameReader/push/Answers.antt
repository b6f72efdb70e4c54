use Rattle.std.proofs.Common.{◌≡◌, ◌+◌, ◌≤◌, ◌++◌, length, take, drop, sym, ap, subst, ◌∙◌, arith, length-take}
use Rattle.std.specs.Box.{boxed_slice_items, boxed_slice_len}
use Rattle.enip_wire.specs.Stream.{IsAtMostOneFrame, Takes}
use Rattle.enip_wire.proofs.ParseFrameLemmas.{placed}
use Rattle.enip_wire.proofs.TakeLemmas.{IsAtMostOneFrame-after}
use Rattle.enip_wire.proofs.reader.FrameReader.push.Goals as goal

held : (c : goal.After-self-2-1)
    → take (c.self.inside.len + c.taken_size-taken.result)
    (take (boxed_slice_len c.self.inside.buffer) (c.copy_behind.new.buffer ++ drop (length c.copy_behind.new.buffer) (boxed_slice_items c.self.inside.buffer)))
    ≡ take c.self.inside.len (boxed_slice_items c.self.inside.buffer) ++ take c.taken_size-taken.result c.args.piece.now
held c =
    placed c.self.inside.len c.taken_size-taken.result (boxed_slice_len c.self.inside.buffer) (boxed_slice_items c.self.inside.buffer) c.copy_behind.new.buffer
    c.args.piece.now (drop (length c.copy_behind.new.buffer) (boxed_slice_items c.self.inside.buffer)) c.taken_size-taken.ensures.takes.within
    (c.copy_behind.auto.buffer ∙ c.deref_mut.ensures.len)
    (
    c.copy_behind.ensures
    ∙ ap (λ xs. take c.self.inside.len xs ++ take c.taken_size-taken.result c.args.piece.now) c.deref_mut.ensures.value
    )

takes : (c : goal.After-self-2-1)
    → Takes (take c.self.inside.len (boxed_slice_items c.self.inside.buffer)) c.args.piece.now c.taken_size-taken.result
takes c =
    subst (λ xs. Takes (take c.self.inside.len xs) c.args.piece.now c.taken_size-taken.result) c.deref.ensures.value
    c.taken_size-taken.ensures.takes

fresh : (c : goal.After-self-2-1)
    → IsAtMostOneFrame (take c.self.inside.len (boxed_slice_items c.self.inside.buffer) ++ take c.taken_size-taken.result c.args.piece.now)
fresh c = IsAtMostOneFrame-after (take c.self.inside.len (boxed_slice_items c.self.inside.buffer)) c.args.piece.now c.taken_size-taken.result c.self.invariant.2 (takes c)

within : (c : goal.After-self-2-1) → c.self.inside.len + c.taken_size-taken.result ≤ 65535
within c =
    let bound : length (take c.self.inside.len c.deref.result.now) + c.taken_size-taken.result ≤ 65535
    = c.taken_size-taken.ensures.bound in
    let size : length c.deref.result.now ≡ 65535 = c.deref.ensures.len ∙ c.self.invariant.0 in
    omega (arith, length-take c.self.inside.len c.deref.result.now, c.self.invariant.1)

pub invariant_of-self : goal.invariant_of-self
invariant_of-self c = (c.self.invariant.0, within c, subst IsAtMostOneFrame (sym (held c)) (fresh c))

pub returns-clause-held : goal.returns-clause-held
returns-clause-held c = held c ∙ ap (λ h. h ++ take c.taken_size-taken.result c.args.piece.now) c.self.view_is

pub returns-clause-fresh : goal.returns-clause-fresh
returns-clause-fresh c = subst IsAtMostOneFrame (sym (held c)) (fresh c)
