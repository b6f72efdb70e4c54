use Rattle.std.proofs.Common.{sym}
use Rattle.cip_values.specs.Texts.{Start, More}
use Rattle.cip_values.proofs.text.unescaped.Goals as goal

pub loop-rest-init : goal.loop-rest-init
loop-rest-init c = rw c.new-bytes.ensures.items Start

pub loop-rest-preserved : goal.loop-rest-preserved
loop-rest-preserved c = rw (c.in_ok-append_number.ensures, c.piece_size.ensures.is, c.from.ensures) (More c.loop-rest.invariant (sym c.in-Some.ensures.is))
