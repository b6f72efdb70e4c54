use Rattle.std.proofs.Common.{rules, sym, ap, subst, ◌∙◌, arith}
use Rattle.cip_bytes.specs.Numbers.{AreBytes}
use Rattle.enip_wire.specs.Stream.{held_after_next}
use Rattle.enip_client.proofs.BetweenLemmas.{bytes_left}
use Rattle.enip_client.proofs.FeedLemmas.{told_by}
use Rattle.enip_client.proofs.client.process.Goals as goal

pub returns-clause-outcome : goal.returns-clause-outcome
returns-clause-outcome c =
    told_by c.args.state.now c.process_next.new.state c.args.reader.now c.drop_processed.new.reader c.args.piece.now c.process_next.new.reader
    c.process_next.result (search rules) c.drop_processed.ensures.cleared c.process_next.ensures.state c.process_next.ensures.reader
    c.process_next.ensures.taken c.process_next.ensures.part c.process_next.ensures.heard_event c.process_next.ensures.within

pub returns-clause-bytes : goal.returns-clause-bytes
returns-clause-bytes c =
    subst AreBytes
    (sym (c.process_next.ensures.reader ∙ ap (λ h. held_after_next h c.args.piece.now) c.drop_processed.ensures.cleared))
    (bytes_left c.args.reader.now c.args.piece.now c.requires.bytes (λ i. omega (arith, c.type_inv.piece i)))
