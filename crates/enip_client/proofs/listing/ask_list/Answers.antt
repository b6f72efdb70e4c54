use Rattle.std.proofs.Common.{◌∙◌, subst, Ok, Err}
use Rattle.std.proofs.lemmas.Result.{err_from_is_err_and}
use Rattle.std.specs.Io.KnownBytes.{Appends}
use Rattle.enip_client.specs.Lists.{entries_left}
use Rattle.enip_client.specs.Listing.{list_state}
use Rattle.enip_client.proofs.ListingLemmas.{not_sent, not_answered, answered}
use Rattle.enip_client.proofs.listing.ask_list.Goals as goal

pub returns-in_err-send-clause-listed : goal.returns-in_err-send-clause-listed
returns-in_err-send-clause-listed g c =
    let p = err_from_is_err_and c.from_residual.result c.from_residual.ensures.1 in
    rw (p.1, p.2)
    (not_sent c.args.command (g.R.Source.left c.args.reader.now) (g.R.Source.reads c.args.reader.now) (g.W.Sink.written c.args.writer.now) (g.W.Sink.written c.send.new.writer)
    c.as_slice.result.now c.in_err-send.field-0.0 (c.as_slice.ensures.value ∙ c.write_list.ensures) c.in_err-send.ensures.written)

pub returns-in_err-gather-clause-listed : goal.returns-in_err-gather-clause-listed
returns-in_err-gather-clause-listed g c =
    let p = err_from_is_err_and c.from_residual-in_err-gather.result c.from_residual-in_err-gather.ensures.1 in
    let sent = subst (Appends (g.W.Sink.written c.args.writer.now) (g.W.Sink.written c.send.new.writer)) (c.as_slice.ensures.value ∙ c.write_list.ensures) c.in_ok-send.ensures.written in
    rw (p.1, p.2)
    (not_answered c.args.command
    (list_state (g.R.Source.left c.args.reader.now) (g.R.Source.reads c.args.reader.now) (g.W.Sink.written c.args.writer.now))
    (list_state (g.R.Source.left c.gather.new.reader) (g.R.Source.reads c.gather.new.reader) (g.W.Sink.written c.send.new.writer))
    c.gather.new.frames c.in_err-gather.field-0.0 sent c.in_err-gather.ensures.gathered)

pub returns-in_err-read_list-clause-listed : goal.returns-in_err-read_list-clause-listed
returns-in_err-read_list-clause-listed g c =
    let p = err_from_is_err_and c.from_residual-in_err-read_list.result c.from_residual-in_err-read_list.ensures.1 in
    let sent = subst (Appends (g.W.Sink.written c.args.writer.now) (g.W.Sink.written c.send.new.writer)) (c.as_slice.ensures.value ∙ c.write_list.ensures) c.in_ok-send.ensures.written in
    rw (p.1, p.2)
    (answered c.args.command
    (list_state (g.R.Source.left c.args.reader.now) (g.R.Source.reads c.args.reader.now) (g.W.Sink.written c.args.writer.now))
    (list_state (g.R.Source.left c.gather.new.reader) (g.R.Source.reads c.gather.new.reader) (g.W.Sink.written c.send.new.writer))
    c.gather.new.frames c.bytes.result.now (Err c.in_err-read_list.field-0.0) sent c.in_ok-gather.ensures.gathered c.bytes.ensures.lent c.in_err-read_list.ensures.exact)

pub returns-clause-listed : goal.returns-clause-listed
returns-clause-listed g c =
    let sent = subst (Appends (g.W.Sink.written c.args.writer.now) (g.W.Sink.written c.send.new.writer)) (c.as_slice.ensures.value ∙ c.write_list.ensures) c.in_ok-send.ensures.written in
    answered c.args.command
    (list_state (g.R.Source.left c.args.reader.now) (g.R.Source.reads c.args.reader.now) (g.W.Sink.written c.args.writer.now))
    (list_state (g.R.Source.left c.gather.new.reader) (g.R.Source.reads c.gather.new.reader) (g.W.Sink.written c.send.new.writer))
    c.gather.new.frames c.bytes.result.now (Ok (entries_left c.in_ok-read_list.field-0)) sent c.in_ok-gather.ensures.gathered c.bytes.ensures.lent c.in_ok-read_list.ensures.exact
