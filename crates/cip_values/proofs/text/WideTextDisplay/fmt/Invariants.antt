use Rattle.std.proofs.Common.{◌≡◌, ℕ, List, ◌++◌, length}
use Rattle.std.specs.Fmt.{HasWritten, IsPlainFormatter}
use Rattle.cip_values.specs.Texts.{wide_text}
use Rattle.cip_values.proofs.text.WideTextDisplay.fmt.Given as goal

abbrev pub invariant-characters : goal.invariant-characters
invariant-characters g l =
    IsPlainFormatter l.initial.f → (written : List ℕ)
    × (HasWritten g.W.Write.write_str_gives l.initial.f written l.f
    × (wide_text l.fn.self.is_quoted l.fn.self.text.now ≡ written ++ wide_text l.fn.self.is_quoted l.rest))

abbrev pub decreases-characters : goal.decreases-characters
decreases-characters g l = length l.rest
