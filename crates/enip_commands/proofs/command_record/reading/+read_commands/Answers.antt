use Rattle.std.proofs.Common.{◌≡◌, ℕ, ◌<◌, List, [], ◌∷◌, ◌++◌, true, false, map, refl, sym, ap, ◌∙◌, arith}
use Rattle.std.proofs.lemmas.List.{map-append}
use Rattle.enip_commands.specs.declared.command_record.DoneCommand.{DoneCommand}
use Rattle.enip_commands.specs.CommandRecords.{done_in, has_id, AreDistinct}
use Rattle.enip_commands.proofs.CommandRecordLemmas.{no_command, known_id, more_read, distinct_more, lacks_after}
use Rattle.enip_commands.proofs.command_record.reading.+read_commands.Goals as goal

pub returns-in_default-clause-lacking : goal.returns-in_default-clause-lacking
returns-in_default-clause-lacking n c = λ none.
    no_command (map done_in c.args.done.now.items) c.args.count c.args.lines.now (omega (arith, c.if-count-eq0.false)) (c.in_default.ensures.lacking refl)

pub returns-then-has_id-clause-lacking : goal.returns-then-has_id-clause-lacking
returns-then-has_id-clause-lacking n c = λ none.
    let old = map done_in c.args.done.now.items in
    let known : has_id old c.in-Some.command.id.now ≡ true =
    ap (λ (ds : List DoneCommand). has_id (map done_in ds) c.in-Some.command.id.now) (sym c.as_slice.ensures.value) ∙ (sym c.has_id.ensures ∙ c.if-has_id.true) in
    known_id old (done_in c.in-Some.command) c.args.count c.args.lines.now c.in-Some.rest.now (omega (arith, c.if-count-eq0.false)) c.in-Some.ensures.fits c.in-Some.ensures.read known

pub returns-clause-read : goal.returns-clause-read
returns-clause-read n c =
    let pushed = ap (map done_in) c.in_ok-push.ensures.items ∙ map-append done_in c.args.done.now.items (c.in-Some.command ∷ []) in
    more_read (λ rest. rest.now) (map done_in c.args.done.now.items) (map done_in c.push.new.self.items) (map done_in c.read_commands.new.done.items) (done_in c.in-Some.command)
    c.args.count c.args.lines.now c.in-Some.rest.now c.read_commands.result (omega (arith, c.if-count-eq0.false)) c.in-Some.ensures.fits c.in-Some.ensures.read pushed c.read_commands.ensures.read

pub returns-clause-distinct : goal.returns-clause-distinct
returns-clause-distinct n c = λ before.
    let old = map done_in c.args.done.now.items in
    let new : has_id old c.in-Some.command.id.now ≡ false =
    ap (λ (ds : List DoneCommand). has_id (map done_in ds) c.in-Some.command.id.now) (sym c.as_slice.ensures.value) ∙ (sym c.has_id.ensures ∙ c.if-has_id.false) in
    let pushed = ap (map done_in) c.in_ok-push.ensures.items ∙ map-append done_in c.args.done.now.items (c.in-Some.command ∷ []) in
    let mid : AreDistinct (map done_in c.push.new.self.items) = rw pushed (distinct_more old (done_in c.in-Some.command) before new) in
    c.read_commands.ensures.distinct mid

pub returns-clause-lacking : goal.returns-clause-lacking
returns-clause-lacking n c = λ none.
    let pushed = ap (map done_in) c.in_ok-push.ensures.items ∙ map-append done_in c.args.done.now.items (c.in-Some.command ∷ []) in
    lacks_after (map done_in c.args.done.now.items) (map done_in c.push.new.self.items) (done_in c.in-Some.command) c.args.count c.args.lines.now c.in-Some.rest.now
    (omega (arith, c.if-count-eq0.false)) c.in-Some.ensures.fits c.in-Some.ensures.read pushed (c.read_commands.ensures.lacking none)
