use Rattle.std.proofs.Common.{◌≡◌, take_all, rules, sym, ap, ◌∙◌, fold}
use Rattle.std.proofs.hash.Loops.{byte_more}
use Rattle.std.proofs.lemmas.List.Sums.{fold-append}
use Rattle.saved_state.specs.Checksum.{checksum, hashed}
use Rattle.saved_state.proofs.fnv.checksum_more.Goals as goal

pub loop-byte-preserved : goal.loop-byte-preserved
loop-byte-preserved c = search (rules, byte_more)

pub returns : goal.returns
unfolding checksum
returns c others is =
    let through : c.loop-byte.hash ≡ fold hashed c.args.earlier c.args.bytes.now = search (rules, take_all) in
    through ∙ ap (λ h. fold hashed h c.args.bytes.now) is ∙ sym (fold-append hashed 0xcbf29ce484222325 others c.args.bytes.now)
