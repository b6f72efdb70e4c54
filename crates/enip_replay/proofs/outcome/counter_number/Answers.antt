use Rattle.std.proofs.Common.{◌∙◌, ap, arith}
use Rattle.byteorder.specs.Endian.{little_number}
use Rattle.enip_replay.proofs.OutcomeLemmas.{counter_number-known}
use Rattle.enip_replay.proofs.outcome.counter_number.Goals as goal

pub returns-in-Some : goal.returns-in-Some
returns-in-Some c =
    c.read_u32.ensures ∙ ap (little_number 4) c.as_slice.ensures.value
    ∙ counter_number-known c.args.objects.now c.args.attribute c.in-Some.bytes.items c.in-Some.ensures.value (omega arith)
