use Rattle.std.proofs.Common.{Some, None, lit<, string_bytes}
use Rattle.std.proofs.lemmas.Result.{IfOk-weaker}
use Rattle.std.proofs.lemmas.Str.Pattern.{split_once_first}
use Rattle.enip_commands.proofs.RecordListingLemmas.{resumed_some, resumed_none}
use Rattle.enip_commands.proofs.json_text.reply.resumed_line.Goals as goal

pub returns-in-Some : goal.returns-in-Some
returns-in-Some c =
    let (inside, first, rest) = split_once_first 44 c.args.line.now (Some (c.in-Some.first, c.in-Some.rest)) c.in-Some.ensures.cases (lit< tt) in
    IfOk-weaker c.format.result _ _ (λ s e. resumed_some c.args.number c.args.line.now c.in-Some.first.now c.in-Some.rest.now (string_bytes s) inside first rest e)
    c.format.ensures.ok

pub returns-in-None : goal.returns-in-None
returns-in-None c =
    let none = split_once_first 44 c.args.line.now None c.in-None.ensures.cases (lit< tt) in
    IfOk-weaker c.from_str.result _ _ (λ s e. resumed_none c.args.number c.args.line.now _ none e) c.from_str.ensures.ok
