use Rattle.std.proofs.Common.{◌≡◌, [], ◌∷◌, get_or, rules, ◌∙◌, refl}
use Rattle.std.proofs.Output.{has_written_append, has_written_of_eq}
use Rattle.hex.specs.Hex.{encode_lower}
use Rattle.enip_faults.proofs.DigitLemmas.{encode_lower-nil, encode_lower-more, encoded_in_room}
use Rattle.enip_faults.proofs.digits.DigitsDisplay.fmt.Goals as goal

pub loop-byte-init : goal.loop-byte-init
loop-byte-init g c = λ plain. rw encode_lower-nil (search rules)

pub loop-byte-preserved : goal.loop-byte-preserved
loop-byte-preserved g c =
    let bytes = c.args.self.now.0.now in
    let place = c.loop-byte.byte-index in
    let pair : c.encode_to_slice.new.output ≡ encode_lower (get_or bytes place 0 ∷ []) =
    encoded_in_room c.encode_to_slice.result (get_or bytes place 0 ∷ []) (0 ∷ 0 ∷ []) c.encode_to_slice.new.output
    c.encode_to_slice.ensures.fits refl c.encode_to_slice.ensures.written in
    let shown : c.in-Ok.text.now ≡ encode_lower (get_or bytes place 0 ∷ []) = c.in-Ok.ensures.cases.0 ∙ pair in
    λ plain. has_written_of_eq _ _ _ _ _ (encode_lower-more bytes place c.in-Ok.text.now c.loop-byte-test.true shown)
    (has_written_append _ _ _ _ _ _ (c.loop-byte.invariant plain) (search rules))
