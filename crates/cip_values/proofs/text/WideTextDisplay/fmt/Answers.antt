use Rattle.std.proofs.Common.{rules, ◌≡◌, List, ℕ, ◌++◌, ap, sym, ◌∙◌, append_assoc}
use Rattle.std.proofs.Output.{has_written_append}
use Rattle.cip_values.specs.Texts.{wide_text, wide_escape}
use Rattle.cip_values.proofs.text.WideTextDisplay.fmt.Goals as goal

pub characters-preserved : goal.characters-preserved
characters-preserved g c = λ p.
    let quoted = c.args.self.now.is_quoted in
    let (written, (has, parts)) = c.characters.invariant p in
    let one : wide_text quoted c.characters.rest.now ≡ wide_escape quoted c.in-Some.unit ++ wide_text quoted c.in-Some.behind.now =
    rw c.in-Some.ensures.first (search rules) in (
      written ++ wide_escape quoted c.in-Some.unit,
      (
        has_written_append _ _ _ _ _ _ has (search rules),
        parts ∙ ap (λ (r : List ℕ). written ++ r) one
            ∙ sym (append_assoc written (wide_escape quoted c.in-Some.unit) (wide_text quoted c.in-Some.behind.now)),
      ),
    )
