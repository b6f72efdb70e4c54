use Rattle.std.proofs.Common.{◌≡◌, ℕ, ◌+◌, ◌<◌, List, [], ◌∷◌, ◌++◌, codes, length, None, Some, Ok, refl, sym, ap, ◌∙◌, arith, rules}
use Rattle.std.proofs.lemmas.Bool.Decides.{Decides-eqb}
use Rattle.std.proofs.lemmas.Slice.Eq.{strip_prefix_is}
use Rattle.enip_commands.proofs.CommandFileLemmas.{lacks_key, lacks_feed, is_line}
use Rattle.enip_commands.proofs.command_file.split_line.Goals as goal

pub returns-in_err-line-clause-lacking : goal.returns-in_err-line-clause-lacking
returns-in_err-line-clause-lacking c = λ none.
    lacks_key c.args.key.now c.args.text.now (strip_prefix_is Decides-eqb c.args.text.now c.args.key.now None c.in_err-line.ensures.cases)

pub returns-in_err-end-clause-lacking : goal.returns-in_err-end-clause-lacking
returns-in_err-end-clause-lacking c = λ none.
    lacks_feed c.args.key.now c.args.text.now c.in_ok-line.line.now
    (strip_prefix_is Decides-eqb c.args.text.now c.args.key.now (Some c.in_ok-line.line) c.in_ok-line.ensures.cases) c.in_err-end.ensures

pub returns-clause-read : goal.returns-clause-read
returns-clause-read c =
    is_line c.args.key.now c.args.text.now c.in_ok-line.line.now c.in_ok-end.end
    (strip_prefix_is Decides-eqb c.args.text.now c.args.key.now (Some c.in_ok-line.line) c.in_ok-line.ensures.cases)
    c.in_ok-end.ensures.0.high c.in_ok-end.ensures.1 c.in_ok-end.ensures.0.before
