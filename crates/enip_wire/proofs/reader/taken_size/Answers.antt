use Rattle.std.proofs.Common.{◌≡◌, ◌+◌, ◌-◌, ◌≤◌, ◌++◌, min, length, ap, ◌∙◌, arith}
use Rattle.cip_bytes.specs.Numbers.{number_at}
use Rattle.enip_wire.specs.Frames.{end_after}
use Rattle.enip_wire.proofs.FrameLemmas.{end_after-most}
use Rattle.enip_wire.proofs.TakeLemmas.{Takes-short, Takes-count, bound-count}
use Rattle.enip_wire.proofs.reader.taken_size.Goals as goal
use Rattle.enip_wire.proofs.reader.taken_size.Goals.{else-held-lt-SIZE-via-then-held-lt-SIZE+else-piece-held, else-held-lt-SIZE-via-else-held-lt-SIZE}

pub returns-then-piece-held-clause-takes : goal.returns-then-piece-held-clause-takes
returns-then-piece-held-clause-takes c = Takes-short c.args.held.now c.args.piece.now (omega arith)

pub returns-clause-takes : goal.returns-clause-takes
returns-clause-takes c =
    let header : 24 ≤ length c.args.held.now + length c.args.piece.now
    = elim c.else-held-lt-SIZE.branch [
      | else-held-lt-SIZE-via-then-held-lt-SIZE+else-piece-held w ↦ omega arith
      | else-held-lt-SIZE-via-else-held-lt-SIZE w ↦ omega arith
    ] in
    let end : c.end_after-end.result ≡ end_after (number_at 2 2 (c.args.held.now ++ c.args.piece.now))
    = c.end_after-end.ensures ∙ ap end_after c.length_in.ensures in
    Takes-count c.args.held.now c.args.piece.now c.min.result (λ i. omega (arith, c.type_inv.held i)) (λ i. omega (arith, c.type_inv.piece i)) c.requires header
    (c.min.ensures ∙ ap (λ n. min n (length c.args.piece.now)) c.saturating_sub.ensures
    ∙ ap (λ e. min (e - length c.args.held.now) (length c.args.piece.now)) end)

pub returns-clause-bound : goal.returns-clause-bound
returns-clause-bound c =
    let end : c.end_after-end.result ≡ end_after (number_at 2 2 (c.args.held.now ++ c.args.piece.now))
    = c.end_after-end.ensures ∙ ap end_after c.length_in.ensures in
    bound-count c.args.held.now c.args.piece.now c.min.result (end_after (number_at 2 2 (c.args.held.now ++ c.args.piece.now)))
    (λ i. omega (arith, c.type_inv.held i)) c.requires
    (c.min.ensures ∙ ap (λ n. min n (length c.args.piece.now)) c.saturating_sub.ensures
    ∙ ap (λ e. min (e - length c.args.held.now) (length c.args.piece.now)) end)
    (end_after-most (number_at 2 2 (c.args.held.now ++ c.args.piece.now)))
