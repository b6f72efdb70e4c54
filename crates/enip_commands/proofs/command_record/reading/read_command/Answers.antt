use Rattle.std.proofs.Common.{◌≡◌, ℕ, List, ◌++◌, codes, true, false, refl, sym, ap, ◌∙◌}
use Rattle.enip_commands.specs.CommandFiles.{line}
use Rattle.enip_commands.specs.CommandRecords.{Done, is_done}
use Rattle.enip_commands.proofs.CommandFileLemmas.{lines_agree}
use Rattle.enip_commands.proofs.CommandRecordLemmas.{fit_parts, done_lines, dones_agree, id_no_feed, digits_no_feed}
use Rattle.enip_commands.proofs.command_record.reading.read_command.Goals as goal

pub returns-in_err-id-clause-lacking : goal.returns-in_err-id-clause-lacking
returns-in_err-id-clause-lacking c = λ none d rest fits e.
    c.in_err-id.ensures.lacking refl d.id (line (codes "request ") d.request ++ (line (codes "reply ") d.reply ++ rest))
    (record { whole = e ∙ done_lines d rest; one = id_no_feed d.id (fit_parts d fits).id })

pub returns-in_err-request-clause-lacking : goal.returns-in_err-request-clause-lacking
returns-in_err-request-clause-lacking c = λ none d rest fits e.
    let id = lines_agree (codes "id ") c.in_ok-id.id.now d.id c.in_ok-id.rest.now (line (codes "request ") d.request ++ (line (codes "reply ") d.reply ++ rest))
    c.in_ok-id.ensures.read.one (id_no_feed d.id (fit_parts d fits).id) (sym c.in_ok-id.ensures.read.whole ∙ e ∙ done_lines d rest) in
    c.in_err-request.ensures.lacking refl d.request (line (codes "reply ") d.reply ++ rest)
    (record { whole = id.1; one = digits_no_feed d.request 956 (fit_parts d fits).request })

pub returns-in_err-reply-clause-lacking : goal.returns-in_err-reply-clause-lacking
returns-in_err-reply-clause-lacking c = λ none d rest fits e.
    let id = lines_agree (codes "id ") c.in_ok-id.id.now d.id c.in_ok-id.rest.now (line (codes "request ") d.request ++ (line (codes "reply ") d.reply ++ rest))
    c.in_ok-id.ensures.read.one (id_no_feed d.id (fit_parts d fits).id) (sym c.in_ok-id.ensures.read.whole ∙ e ∙ done_lines d rest) in
    let request = lines_agree (codes "request ") c.in_ok-request.request.now d.request c.in_ok-request.rest.now (line (codes "reply ") d.reply ++ rest)
    c.in_ok-request.ensures.read.one (digits_no_feed d.request 956 (fit_parts d fits).request) (sym c.in_ok-request.ensures.read.whole ∙ id.1) in
    c.in_err-reply.ensures.lacking refl d.reply rest
    (record { whole = request.1; one = digits_no_feed d.reply 8000 (fit_parts d fits).reply })

pub returns-then-not-is_done-clause-lacking : goal.returns-then-not-is_done-clause-lacking
returns-then-not-is_done-clause-lacking c = λ none d rest fits e.
    let read : Done = record { id = c.in_ok-id.id.now; request = c.in_ok-request.request.now; reply = c.in_ok-reply.reply.now } in
    let id = lines_agree (codes "id ") c.in_ok-id.id.now d.id c.in_ok-id.rest.now (line (codes "request ") d.request ++ (line (codes "reply ") d.reply ++ rest))
    c.in_ok-id.ensures.read.one (id_no_feed d.id (fit_parts d fits).id) (sym c.in_ok-id.ensures.read.whole ∙ e ∙ done_lines d rest) in
    let request = lines_agree (codes "request ") c.in_ok-request.request.now d.request c.in_ok-request.rest.now (line (codes "reply ") d.reply ++ rest)
    c.in_ok-request.ensures.read.one (digits_no_feed d.request 956 (fit_parts d fits).request) (sym c.in_ok-request.ensures.read.whole ∙ id.1) in
    let reply = lines_agree (codes "reply ") c.in_ok-reply.reply.now d.reply c.in_ok-reply.rest.now rest
    c.in_ok-reply.ensures.read.one (digits_no_feed d.reply 8000 (fit_parts d fits).reply) (sym c.in_ok-reply.ensures.read.whole ∙ request.1) in
    let no : is_done read ≡ false = sym c.is_done.ensures ∙ c.if-not-is_done.true in
    let yes : is_done read ≡ true = ap is_done (dones_agree read d id.0 request.0 reply.0) ∙ fits in
    absurd cc

pub returns-clause-read : goal.returns-clause-read
returns-clause-read c =
    let read : Done = record { id = c.in_ok-id.id.now; request = c.in_ok-request.request.now; reply = c.in_ok-reply.reply.now } in
    let last = ap (λ (xs : List ℕ). line (codes "request ") read.request ++ xs) c.in_ok-reply.ensures.read.whole in
    let more = ap (λ (xs : List ℕ). line (codes "id ") read.id ++ xs) (c.in_ok-request.ensures.read.whole ∙ last) in
    c.in_ok-id.ensures.read.whole ∙ more ∙ sym (done_lines read c.in_ok-reply.rest.now)
