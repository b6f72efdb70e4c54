use Rattle.std.proofs.Common.{◌≡◌, ℕ, ◌+◌, ◌<◌, List, [], ◌∷◌, ◌++◌, codes, length, None, Some, Ok, refl, sym, ap, ◌∙◌, arith, rules}
use Rattle.std.specs.Int.{to_be_bytes, from_be_bytes, w64}
use Rattle.std.proofs.lemmas.Nat.{be_bytes_8}
use Rattle.hex.specs.Hex.{encode_lower}
use Rattle.enip_commands.specs.CommandFiles.{line}
use Rattle.enip_commands.proofs.CommandFileLemmas.{lower_no_feed, lines_agree, number_bytes}
use Rattle.enip_commands.proofs.command_file.read_originator.Goals as goal

pub returns-in_err-digits-clause-lacking : goal.returns-in_err-digits-clause-lacking
returns-in_err-digits-clause-lacking c = λ none originator rest fits e.
    c.in_err-digits.ensures.lacking refl (encode_lower (to_be_bytes w64 originator)) rest (record { whole = e; one = lower_no_feed (to_be_bytes w64 originator) })

pub returns-then-not-decode_lower-clause-lacking : goal.returns-then-not-decode_lower-clause-lacking
returns-then-not-decode_lower-clause-lacking c = λ none originator rest fits e.
    let agree = lines_agree (codes "originator ") c.in_ok-digits.digits.now (encode_lower (to_be_bytes w64 originator)) c.in_ok-digits.rest.now rest
    c.in_ok-digits.ensures.read.one (lower_no_feed (to_be_bytes w64 originator)) (sym c.in_ok-digits.ensures.read.whole ∙ e) in
    c.decode_lower.ensures.lacking c.if-not-decode_lower.true (to_be_bytes w64 originator) (number_bytes originator) refl agree.0

pub returns-clause-read : goal.returns-clause-read
returns-clause-read c =
    let bytes : to_be_bytes w64 c.from_be_bytes.result ≡ c.decode_lower.new.bytes = be_bytes_8 c.decode_lower.new.bytes c.from_be_bytes.result c.decode_lower.auto.bytes c.decode_lower.ensures.bytes c.from_be_bytes.ensures in
    let digits : c.in_ok-digits.digits.now ≡ encode_lower (to_be_bytes w64 c.from_be_bytes.result) =
    c.if-not-decode_lower.ensures.read (search rules) ∙ ap encode_lower (sym bytes) in
    c.in_ok-digits.ensures.read.whole ∙ ap (λ (value : List ℕ). line (codes "originator ") value ++ c.in_ok-digits.rest.now) digits
