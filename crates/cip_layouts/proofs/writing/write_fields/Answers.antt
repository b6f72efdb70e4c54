use Rattle.std.proofs.Common.{◌≡◌, ℕ, List, Bor, length, map, arith}
use Rattle.std.proofs.lemmas.List.{length-map}
use Rattle.cip_layouts.specs.Fields.{total}
use Rattle.cip_layouts.proofs.WriteLemmas.{all_refused}
use Rattle.cip_layouts.proofs.writing.write_fields.Goals as goal

pub returns-clause-refused : goal.returns-clause-refused
returns-clause-refused c =
    let same = length-map c.args.words.now (λ (word : Bor (List ℕ)). word.now) in
    let enough : length (map (λ (word : Bor (List ℕ)). word.now) c.args.words.now) ≡ total c.args.fields.now =
    omega (arith, same, c.if-words-wanted.false, c.total-wanted.ensures) in
    all_refused c.args.fields.now (map (λ word. word.now) c.args.words.now) c.in-Err.fault enough c.in-Err.ensures.refused
