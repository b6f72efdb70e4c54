use Rattle.std.proofs.Common.{◌≡◌, ◌+◌, ◌*◌, ◌++◌, length, take}
use Rattle.std.specs.List.{flat_map}
use Rattle.cip_bytes.specs.Numbers.{le}
use Rattle.cip_message.proofs.reply.append_words.Given as goal

abbrev pub invariant-loop-word : goal.invariant-loop-word
invariant-loop-word g l =
    (l.out.items ≡ l.fn.out.items ++ flat_map (le 2) (take l.word-index l.words))
    × (length l.out.items ≡ length l.fn.out.items + 2 * l.word-index)
