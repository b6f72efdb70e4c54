use Rattle.std.proofs.Common.{◌≡◌, length, take, refl, sym, subst, arith}
use Rattle.std.proofs.lemmas.Result.{err_from_is_err_and}
use Rattle.enip_client.proofs.AskedLemmas.{size_read}
use Rattle.enip_client.proofs.ListingLemmas.{Came, none_came, more_came, gathered, not_gathered}
use Rattle.enip_client.proofs.listing.gather.Goals as goal

pub loop-reader-init : goal.loop-reader-init
loop-reader-init g c = record {
  failures = refl;
  came = subst (Came (g.R.Source.left c.args.reader.now) (g.R.Source.left c.args.reader.now)) (sym c.clear.ensures)
      (none_came (g.R.Source.left c.args.reader.now));
}

pub read-requires : goal.read-requires
read-requires g c = omega (arith, c.requires, c.loop-reader.invariant.failures)

pub returns-in_err-size-clause-gathered : goal.returns-in_err-size-clause-gathered
returns-in_err-size-clause-gathered g c =
    let p = err_from_is_err_and c.from_residual.result c.from_residual.ensures.1 in
    rw (p.1, p.2)
    (not_gathered (g.R.Source.left c.args.reader.now) (g.R.Source.left c.loop-reader.reader) (g.R.Source.left c.read.new.reader)
    (g.R.Source.reads c.loop-reader.reader) (g.R.Source.reads c.read.new.reader) c.read.new.into c.loop-reader.frames c.in_err-size.field-0.0
    c.loop-reader.invariant.came c.in-More.ensures.shown c.in_err-size.ensures.bytes)

pub returns-in_err-size-clause-failures : goal.returns-in_err-size-clause-failures
returns-in_err-size-clause-failures g c =
    let p = err_from_is_err_and c.from_residual.result c.from_residual.ensures.1 in
    rw (p.1, p.2) (omega (arith, c.in_err-size.ensures.failures, c.loop-reader.invariant.failures))

pub loop-reader-smaller : goal.loop-reader-smaller
loop-reader-smaller g c = omega (arith, c.in_ok-size.ensures.counted, c.in_ok-size.ensures.bytes.2)

pub loop-reader-preserved : goal.loop-reader-preserved
loop-reader-preserved g c =
    let piece = take c.in_ok-size.size c.read.new.into in
    let long : length piece ≡ c.in_ok-size.size = size_read c.in_ok-size.size c.read.new.into c.in_ok-size.ensures.within c.in_ok-size.ensures.room in
    record {
      failures = omega (arith, c.in_ok-size.ensures.failures, c.loop-reader.invariant.failures);
      came = more_came (g.R.Source.left c.args.reader.now) (g.R.Source.left c.loop-reader.reader) (g.R.Source.left c.read.new.reader) c.loop-reader.frames
          piece c.push.new.self c.push.result c.loop-reader.invariant.came c.in-More.ensures.shown c.in_ok-size.ensures.bytes.0
          (omega (arith, long, c.in_ok-size.ensures.within)) c.push.ensures.taken c.push.ensures.held c.push.ensures.fresh;
    }

pub returns : goal.returns
returns g c = record {
  gathered = gathered (g.R.Source.left c.args.reader.now) (g.R.Source.left c.loop-reader.reader) c.loop-reader.frames c.state.result
      c.loop-reader.invariant.came c.state.ensures.shown c.in_default.not-More;
  not_written = refl;
  failures = omega (arith, c.loop-reader.invariant.failures);
}
