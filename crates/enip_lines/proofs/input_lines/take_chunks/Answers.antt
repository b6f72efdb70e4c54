use Rattle.std.proofs.Common.{List, ℕ, take, sym, subst}
use Rattle.std.proofs.lemmas.Result.{err_from_is_err_and}
use Rattle.enip_lines.specs.InputLines.{AreTaken}
use Rattle.enip_lines.proofs.InputLemmas.{none_more, more_read, reading_stops}
use Rattle.enip_lines.proofs.input_lines.take_chunks.Goals as goal

pub returns-then-count-eq0 : goal.returns-then-count-eq0
returns-then-count-eq0 g c =
    c.take_last.ensures (g.R.Read.remaining c.args.input.now) (g.R.Read.remaining c.read_chunk.new.input) c.loop.invariant.bytes c.args.taker.now
    (g.W.Write.contents c.args.output.now)
    (none_more (g.R.Read.remaining c.args.input.now) (g.R.Read.remaining c.loop.input) (g.R.Read.remaining c.read_chunk.new.input)
    c.loop.invariant.bytes c.read_chunk.new.chunk c.in_ok-count.count c.if-count-eq0.true c.loop.invariant.consumed c.in_ok-count.ensures.read)
    (c.in_ok-count.ensures.end c.if-count-eq0.true)
    (subst (λ (line : List ℕ). AreTaken g.T.TakeLines.does c.loop.invariant.bytes line c.loop.number c.args.taker.now c.loop.taker
    (g.W.Write.contents c.args.output.now) (g.W.Write.contents c.loop.output)) (sym c.as_slice.ensures.value) c.loop.invariant.taken)

pub returns-in_err-number : goal.returns-in_err-number
returns-in_err-number g c =
    let p = err_from_is_err_and c.from_residual-in_err-number.result c.from_residual-in_err-number.ensures.1 in
    rw (p.1, p.2)
    (reading_stops g.T.TakeLines.does g.T.TakeLines.refuses (g.R.Read.remaining c.args.input.now) (g.R.Read.remaining c.loop.input)
    (g.R.Read.remaining c.read_chunk.new.input) c.loop.line.items c.take_chunk.new.line.items (take c.in_ok-count.count c.read_chunk.new.chunk)
    c.loop.number c.args.taker.now c.loop.taker c.take_chunk.new.taker (g.W.Write.contents c.args.output.now) (g.W.Write.contents c.loop.output)
    (g.W.Write.contents c.take_chunk.new.output) c.in_err-number.field-0.0 c.loop.invariant c.in_ok-count.ensures.read c.in_err-number.ensures)

pub loop-preserved : goal.loop-preserved
loop-preserved g c =
    more_read g.T.TakeLines.does g.T.TakeLines.refuses (g.R.Read.remaining c.args.input.now) (g.R.Read.remaining c.loop.input)
    (g.R.Read.remaining c.read_chunk.new.input) c.loop.line.items c.take_chunk.new.line.items (take c.in_ok-count.count c.read_chunk.new.chunk)
    c.loop.number c.in_ok-number.number c.args.taker.now c.loop.taker c.take_chunk.new.taker (g.W.Write.contents c.args.output.now)
    (g.W.Write.contents c.loop.output) (g.W.Write.contents c.take_chunk.new.output) (g.W.Write.contents c.flush.new.self) c.loop.invariant
    c.in_ok-count.ensures.read c.in_ok-number.ensures c.flush.ensures.bytes
