use Rattle.std.proofs.Common.{◌≡◌, ◌≤◌, length, rules, arith, w64}
use Rattle.std.proofs.lemmas.Int.{to_z-of_z}
use Rattle.cip_values.specs.Types.{IsSized}
use Rattle.cip_values.specs.declared.element.Form.TheVariants as forms
use Rattle.cip_values.proofs.Spelling.{Splits, signed_front, unsigned_front, bits_front}
use Rattle.cip_values.proofs.value.Value.read.Goals as goal

pub returns-in-Signed-clause-read : goal.returns-in-Signed-clause-read
returns-in-Signed-clause-read c =
    let size : c.size-2.result ≡ c.in-Signed.size = rw c.in-Signed.is at c.size-2.ensures.value in
    let room : c.in-Signed.size ≤ length c.args.bytes.now = omega (arith, rw c.in-Signed.is at c.size.ensures.value, c.if-bytes-size.false) in
    let splits : Splits (forms.Signed c.in-Signed.size) c.args.bytes.now c.split_at.result.0.now c.split_at.result.1.now = record {
      fits = search rules;
      room = room;
      front_is = rw size at c.split_at.ensures.front;
      rest_is = rw size at c.split_at.ensures.back;
    } in
    let sized : IsSized (forms.Signed c.in-Signed.size) = rw c.in-Signed.is at c.requires in
    rw (c.in-Signed.is, to_z-of_z w64 c.read_int.result (record { sfits = c.read_int.type_inv })) (signed_front c.in-Signed.size c.args.bytes.now c.split_at.result.0.now c.split_at.result.1.now c.read_int.result splits sized.0 sized.1 c.read_int.ensures)

pub returns-in-Unsigned-clause-read : goal.returns-in-Unsigned-clause-read
returns-in-Unsigned-clause-read c =
    let size : c.size-2.result ≡ c.in-Unsigned.size = rw c.in-Unsigned.is at c.size-2.ensures.value in
    let room : c.in-Unsigned.size ≤ length c.args.bytes.now = omega (arith, rw c.in-Unsigned.is at c.size.ensures.value, c.if-bytes-size.false) in
    let splits : Splits (forms.Unsigned c.in-Unsigned.size) c.args.bytes.now c.split_at.result.0.now c.split_at.result.1.now = record {
      fits = search rules;
      room = room;
      front_is = rw size at c.split_at.ensures.front;
      rest_is = rw size at c.split_at.ensures.back;
    } in
    rw (c.in-Unsigned.is) (unsigned_front c.in-Unsigned.size c.args.bytes.now c.split_at.result.0.now c.split_at.result.1.now c.read_uint.result splits c.read_uint.ensures)

pub returns-in-Bits-clause-read : goal.returns-in-Bits-clause-read
returns-in-Bits-clause-read c =
    let size : c.size-2.result ≡ c.in-Bits.size = rw c.in-Bits.is at c.size-2.ensures.value in
    let room : c.in-Bits.size ≤ length c.args.bytes.now = omega (arith, rw c.in-Bits.is at c.size.ensures.value, c.if-bytes-size.false) in
    let splits : Splits (forms.Bits c.in-Bits.size) c.args.bytes.now c.split_at.result.0.now c.split_at.result.1.now = record {
      fits = search rules;
      room = room;
      front_is = rw size at c.split_at.ensures.front;
      rest_is = rw size at c.split_at.ensures.back;
    } in
    rw (c.in-Bits.is) (bits_front c.in-Bits.size c.args.bytes.now c.split_at.result.0.now c.split_at.result.1.now c.read_uint-in-Bits.result splits c.read_uint-in-Bits.ensures)
