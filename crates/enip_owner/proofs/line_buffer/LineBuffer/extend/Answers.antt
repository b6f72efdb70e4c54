use Rattle.std.proofs.Common.{◌≡◌, ◌+◌, ◌<◌, ◌≤◌, Bool, true, false, length, ap, sym, ◌∙◌, arith, cond, is_ok}
use Rattle.enip_owner.specs.declared.line_buffer.TheConstants.{LINE_LIMIT}
use Rattle.enip_owner.specs.Streams.{BufferedLine}
use Rattle.enip_owner.proofs.StreamLemmas.{long_stays, short_grows, grows_long}
use Rattle.enip_owner.proofs.line_buffer.LineBuffer.extend.Goals as goal

pub returns-then-self : goal.returns-then-self
returns-then-self c =
    sym (long_stays c.args.self.now c.args.bytes.now (ap (λ (b : BufferedLine). b.is_long) (sym c.self.view_is) ∙ c.if-self.true))

pub returns-then-bytes-len : goal.returns-then-bytes-len
returns-then-bytes-len c =
    let line : BufferedLine =
    record { text = c.self.inside.text.items; is_long = c.self.inside.is_long; has_ended = c.self.inside.has_ended } in
    let short : length c.self.inside.text.items ≤ LINE_LIMIT = omega (arith, c.self.inside.text.ok.0, c.self.invariant.0) in
    let over : LINE_LIMIT < length c.self.inside.text.items + length c.args.bytes.now =
    omega (arith, c.self.inside.text.ok.0, c.len.ensures, c.if-bytes-len.true) in
    rw (← c.self.view_is, c.clear.ensures.items) (sym (grows_long line c.args.bytes.now c.if-self.false short over))

pub returns : goal.returns
returns c =
    let line : BufferedLine =
    record { text = c.self.inside.text.items; is_long = c.self.inside.is_long; has_ended = c.self.inside.has_ended } in
    let fits : length c.self.inside.text.items + length c.args.bytes.now ≤ LINE_LIMIT =
    omega (arith, c.self.inside.text.ok.0, c.len.ensures, c.if-bytes-len.false, c.self.invariant.0) in
    let ok : is_ok c.extend_from_slice.result ≡ true =
    c.extend_from_slice.ensures.succeeds (omega (arith, c.self.inside.text.ok.0, c.self.invariant.1, fits)) in
    rw (← c.self.view_is, c.extend_from_slice.ensures.items, ok) (sym (short_grows line c.args.bytes.now c.if-self.false fits))
