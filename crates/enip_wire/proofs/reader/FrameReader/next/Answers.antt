use Rattle.std.proofs.Common.{◌≡◌, ◌≤◌, ◌++◌, [], length, take, refl, sym, ap, subst, ◌∙◌, arith, length-append, length-take}
use Rattle.std.specs.Box.{boxed_slice_items}
use Rattle.enip_wire.specs.Stream.{bytes_taken, held_and_taken, Shows, parsed, held_after_parse}
use Rattle.enip_wire.proofs.NextLemmas.{of_none, no_frame, some_held, held_after_next-pushed}
use Rattle.enip_wire.proofs.reader.FrameReader.next.Goals as goal
use Rattle.enip_wire.proofs.reader.FrameReader.next.Goals.{then-self-eq0+in_default, else-self-eq0}

-- what `push` leaves is kept: it is not a frame, or a byte was held before
kept : (c : goal.After-state)
    → held_after_parse c.args.self.now c.push-taken.new.self (parsed c.push-taken.new.self) ≡ c.push-taken.new.self
kept c =
    elim c.if-self-eq0.branch [
      | then-self-eq0+in_default w ↦
          let empty : c.args.self.now ≡ [] = sym c.self.view_is ∙ ap (λ n. take n (boxed_slice_items c.self.inside.buffer)) w.if-self-eq0.true in
          let bytes : c.push-taken.new.self ≡ held_and_taken [] c.args.piece.now
          = c.push-taken.ensures.held ∙ ap (λ h. h ++ take c.push-taken.result c.args.piece.now) empty
          ∙ ap (λ n. take n c.args.piece.now) (c.push-taken.ensures.number ∙ ap (λ h. bytes_taken h c.args.piece.now) empty) in
          no_frame c.args.self.now c.push-taken.new.self (parsed c.push-taken.new.self)
          (λ f e. of_none w.first_frame.result w.in_default.not-Some w.first_frame.ensures.none f (sym (ap parsed bytes) ∙ e))
      | else-self-eq0 w ↦
          some_held c.args.self.now c.push-taken.new.self (parsed c.push-taken.new.self) (
          λ empty.
          let none : length (take c.self.inside.len (boxed_slice_items c.self.inside.buffer)) ≡ 0 = ap length (c.self.view_is ∙ empty) in
          let some : c.self.inside.len ≡ 0 → ⊥ = w.if-self-eq0.false in
          let size : length (boxed_slice_items c.self.inside.buffer) ≡ 65535 = sym c.self.inside.buffer.items.ok.0 ∙ c.self.invariant.0 in
          let within : c.self.inside.len ≤ 65535 = c.self.invariant.1 in
          omega (arith, length-take c.self.inside.len (boxed_slice_items c.self.inside.buffer))
          )
    ]

pub returns : goal.returns
returns c = (
  (
    refl,
    (λ _. tt),
    held_after_next-pushed c.args.self.now c.args.piece.now c.push-taken.new.self c.push-taken.result c.push-taken.ensures.number c.push-taken.ensures.held (kept c),
  ),
  record {
    after = tt;
    taken = c.push-taken.ensures.taken;
    number = c.push-taken.ensures.number;
    shown = subst (λ bytes. Shows bytes c.state.result) c.push-taken.ensures.held c.state.ensures.shown;
    kind = c.state.ensures.kind ∙ ap parsed c.push-taken.ensures.held;
    bound =
        let size : length c.push-taken.new.self ≡ length (c.args.self.now ++ take c.push-taken.result c.args.piece.now)
        = ap length c.push-taken.ensures.held in
        omega (
          arith,
          c.push-taken.ensures.bound,
          c.push-taken.ensures.taken.within,
          length-append c.args.self.now (take c.push-taken.result c.args.piece.now),
          length-take c.push-taken.result c.args.piece.now,
        );
  },
)
