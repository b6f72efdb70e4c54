use Rattle.std.proofs.Common.{◌≡◌, ℕ, List, [], ◌++◌, length, sym, ap, ◌∙◌, arith, append-nil}
use Rattle.std.proofs.lemmas.Grind.{common_steps}
use Rattle.std.proofs.lemmas.List.{drop_all}
use Rattle.enip_wire.specs.declared.header.Header.{Header}
use Rattle.cip_bytes.specs.Numbers.{AreBytes}
use Rattle.enip_wire.specs.Headers.{header_spelling, header_at, IsHeader}
use Rattle.enip_wire.proofs.HeaderLemmas.{header_spelling-header_at, header_at-header_spelling}
use Rattle.enip_wire.proofs.header.Header.read.Goals as goal

whole : (bytes : List ℕ) → length bytes ≡ 24 → AreBytes bytes → header_spelling (header_at bytes) ≡ bytes
whole bytes e fits =
    sym (append-nil (header_spelling (header_at bytes)))
    ∙ ap (λ r. header_spelling (header_at bytes) ++ r) (sym (drop_all 24 bytes (omega arith)))
    ∙ header_spelling-header_at bytes (omega arith) fits

only : (bytes : List ℕ) (h : Header) → IsHeader h → header_spelling h ≡ bytes → h ≡ header_at bytes
only bytes h ok e =
    sym (header_at-header_spelling h [] ok) ∙ ap header_at (append-nil (header_spelling h) ∙ e)

pub returns-clause-value : goal.returns-clause-value
returns-clause-value c = grind (arith, common_steps)

pub returns-clause-spelled : goal.returns-clause-spelled
returns-clause-spelled c =
    ap header_spelling (returns-clause-value c) ∙ whole c.args.bytes.now c.told-bytes c.fits-bytes

pub returns-clause-only : goal.returns-clause-only
returns-clause-only c other ok e = only c.args.bytes.now other ok e ∙ sym (returns-clause-value c)
