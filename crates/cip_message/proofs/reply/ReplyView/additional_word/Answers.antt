use Rattle.std.proofs.Common.{◌*◌, sym, ap, ◌∙◌, Some, ℕ}
use Rattle.byteorder.specs.Endian.{little_number}
use Rattle.cip_bytes.proofs.Bytes.{rest_slice}
use Rattle.cip_message.proofs.Replies.{word_at, no_word}
use Rattle.cip_message.proofs.reply.ReplyView.additional_word.Goals as goal

pub returns-then-words-index : goal.returns-then-words-index
returns-then-words-index c = sym (no_word c.args.self.now.additional.now c.args.index c.if-words-index.true)

pub returns : goal.returns
returns c =
    let b = c.args.self.now.additional.now in
    ap (λ (n : ℕ). Some n) (c.read_u16.ensures ∙ ap (little_number 2) (rest_slice (2 * c.args.index) b)) ∙ sym (word_at b c.args.index c.if-words-index.false)
