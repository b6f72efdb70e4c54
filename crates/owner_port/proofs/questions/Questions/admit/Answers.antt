use Rattle.std.proofs.Common.{rules, ◌≡◌, ◌<◌, true, false, length, Some, ◌∙◌}
use Rattle.std.specs.List.{position}
use Rattle.std.proofs.lemmas.Bool.{eq-eqb, ne_eqb}
use Rattle.owner_port.specs.Questions.{is_settled}
use Rattle.owner_port.proofs.QuestionLemmas.{waits_taken, waits_other, is_admitted, at_index, takes}
use Rattle.owner_port.proofs.questions.Questions.admit.Goals.{then-self-via-then-self, then-self-via-else-self+then-index-peer}
use Rattle.owner_port.proofs.questions.Questions.admit.Goals as goal

pub returns-then-self : goal.returns-then-self
returns-then-self c =
    let old = c.args.self.now in
    let first : position is_settled old.list.items ≡ Some c.in-Some.index = search rules in
    let inside : c.in-Some.index < length old.list.items = search rules in
    elim c.then-self.branch [
      | then-self-via-then-self w ↦
          let taken : old.is_taken ≡ true = search rules in
          waits_taken c.args.peer c.in-Some.index old first taken
      | then-self-via-else-self+then-index-peer w ↦
          waits_other c.args.peer c.in-Some.index old first
          (at_index c.args.peer old.list.items c.in-Some.index w.index.result.now inside w.index.ensures
          ∙ ne_eqb w.index.result.now.peer c.args.peer w.if-index-peer.true)
    ]

pub returns : goal.returns
returns c =
    let old = c.args.self.now in
    let first : position is_settled old.list.items ≡ Some c.in-Some.index = search rules in
    let inside : c.in-Some.index < length old.list.items = search rules in
    let free : old.is_taken ≡ false = search rules in
    is_admitted c.args.peer c.in-Some.index old _ first free
    (at_index c.args.peer old.list.items c.in-Some.index c.index.result.now inside c.index.ensures
    ∙ eq-eqb c.index.result.now.peer c.args.peer c.if-index-peer.false)
    (takes c.in-Some.index old c.remove-question.new.self c.remove-question.result c.reply_of.result
    c.remove-question.ensures.value c.remove-question.ensures.items c.reply_of.ensures)
