use Rattle.std.proofs.Common.{◌≡◌, ℕ, List, [], ◌++◌, Option, Some, None, Result, Ok, Err, true, false, map, refl, sym, ap, ◌∙◌, inl, inr}
use Rattle.std.specs.Option.{option_copied}
use Rattle.cip_commander.specs.CommanderRule.{CommanderState}
use Rattle.enip_commands.specs.CommandRecords.{Done, done_in, pending_id_line, commander_lines, is_whole, AreDistinct}
use Rattle.enip_commands.proofs.CommandRecordLemmas.{begins_with_ids, counts_agree, all_read, after_dones, after_id, kept_id, record_read, records_agree, whole_from, whole_agree}
use Rattle.enip_commands.proofs.command_record.reading.read_with_ids.Goals as goal

pub returns-in_default-2-clause-written : goal.returns-in_default-2-clause-written
returns-in_default-2-clause-written c = λ kept is e.
    let (has, lines) = begins_with_ids kept c.args.lines.now e in
    let (counts, after) = counts_agree c.in-Some.count _ c.in-Some.lines.now _ c.in-Some.ensures.fits is.count (sym c.in-Some.ensures.read ∙ lines) in
    let distinct : AreDistinct (map done_in c.new-done.result.items ++ kept.done) = rw c.new-done.ensures.items is.distinct in
    absurd (c.in_ok-lines.ensures.lacking (ap (λ x. Ok x) c.in_default-2.is) kept.done _ (sym counts) is.done distinct after)

pub returns-in_default-read_pending_id-clause-written : goal.returns-in_default-read_pending_id-clause-written
returns-in_default-read_pending_id-clause-written c = λ kept is e.
    let (has, lines) = begins_with_ids kept c.args.lines.now e in
    let empty : map done_in c.new-done.result.items ≡ [] = ap (map done_in) c.new-done.ensures.items in
    let ds = map done_in c.read_commands.new.done.items in
    let all = all_read (map done_in c.new-done.result.items) ds c.in-Some.count c.in-Some.lines.now c.in-Some-2.lines.now empty (rw c.in-Some-2.is at c.in_ok-lines.ensures.read) in
    let (dones, then) = after_dones kept ds c.in-Some.count c.args.lines.now c.in-Some.lines.now c.in-Some-2.lines.now is lines c.in-Some.ensures.read c.in-Some.ensures.fits all in
    absurd (c.in_default-read_pending_id.ensures.lacking refl kept.pending_id (commander_lines kept.commander) (kept_id kept is) then)

pub returns-in-Err-clause-written : goal.returns-in-Err-clause-written
returns-in-Err-clause-written c = λ kept is e.
    let (has, lines) = begins_with_ids kept c.args.lines.now e in
    let empty : map done_in c.new-done.result.items ≡ [] = ap (map done_in) c.new-done.ensures.items in
    let ds = map done_in c.read_commands.new.done.items in
    let all = all_read (map done_in c.new-done.result.items) ds c.in-Some.count c.in-Some.lines.now c.in-Some-2.lines.now empty (rw c.in-Some-2.is at c.in_ok-lines.ensures.read) in
    let (dones, then) = after_dones kept ds c.in-Some.count c.args.lines.now c.in-Some.lines.now c.in-Some-2.lines.now is lines c.in-Some.ensures.read c.in-Some.ensures.fits all in
    let id = option_copied c.in-Some-read_pending_id.pending_id in
    let (ids, last) = after_id kept id c.in-Some-2.lines.now c.in-Some-read_pending_id.lines.now is then c.in-Some-read_pending_id.ensures.read c.in-Some-read_pending_id.ensures.fits in
    absurd (rw c.in-Err.is at c.in_ok-commander.ensures.written kept.commander is.commander last)

pub returns-then-not-is_whole-clause-written : goal.returns-then-not-is_whole-clause-written
returns-then-not-is_whole-clause-written c = λ kept is e.
    let (has, lines) = begins_with_ids kept c.args.lines.now e in
    let empty : map done_in c.new-done.result.items ≡ [] = ap (map done_in) c.new-done.ensures.items in
    let ds = map done_in c.read_commands.new.done.items in
    let all = all_read (map done_in c.new-done.result.items) ds c.in-Some.count c.in-Some.lines.now c.in-Some-2.lines.now empty (rw c.in-Some-2.is at c.in_ok-lines.ensures.read) in
    let (dones, then) = after_dones kept ds c.in-Some.count c.args.lines.now c.in-Some.lines.now c.in-Some-2.lines.now is lines c.in-Some.ensures.read c.in-Some.ensures.fits all in
    let id = option_copied c.in-Some-read_pending_id.pending_id in
    let (ids, last) = after_id kept id c.in-Some-2.lines.now c.in-Some-read_pending_id.lines.now is then c.in-Some-read_pending_id.ensures.read c.in-Some-read_pending_id.ensures.fits in
    let commander : c.in-Ok.commander ≡ kept.commander = rw c.in-Ok.is at c.in_ok-commander.ensures.written kept.commander is.commander last in
    let found : c.is_whole.result ≡ is_whole ds c.in-Ok.commander.pending id =
    c.is_whole.ensures ∙ whole_agree _ _ _ _ _ _ (ap (map done_in) c.as_slice.ensures.value) c.pending_request.ensures refl in
    let same : is_whole ds c.in-Ok.commander.pending id ≡ is_whole kept.done kept.commander.pending kept.pending_id =
    whole_agree ds kept.done c.in-Ok.commander.pending kept.commander.pending id kept.pending_id dones (ap (λ (x : CommanderState). x.pending) commander) ids in
    let whole = whole_from kept.done kept.commander.pending kept.pending_id is.pending_id has in
    let both : true ≡ false = sym whole ∙ sym same ∙ sym found ∙ c.if-not-is_whole.true in
    absurd cc

pub returns-clause-read : goal.returns-clause-read
returns-clause-read c =
    let empty : map done_in c.new-done.result.items ≡ [] = ap (map done_in) c.new-done.ensures.items in
    let ds = map done_in c.read_commands.new.done.items in
    let all = all_read (map done_in c.new-done.result.items) ds c.in-Some.count c.in-Some.lines.now c.in-Some-2.lines.now empty (rw c.in-Some-2.is at c.in_ok-lines.ensures.read) in
    let id = option_copied c.in-Some-read_pending_id.pending_id in
    let found : c.is_whole.result ≡ is_whole ds c.in-Ok.commander.pending id =
    c.is_whole.ensures ∙ whole_agree _ _ _ _ _ _ (ap (map done_in) c.as_slice.ensures.value) c.pending_request.ensures refl in
    let none : AreDistinct (map done_in c.new-done.result.items) = rw c.new-done.ensures.items tt in
    record_read c.in-Ok.commander id ds c.in-Some.count c.args.lines.now c.in-Some.lines.now c.in-Some-2.lines.now c.in-Some-read_pending_id.lines.now
    c.in-Some.ensures.read c.in-Some.ensures.fits all (c.in_ok-lines.ensures.distinct none) c.in-Some-read_pending_id.ensures.read
    (rw c.in-Ok.is at c.in_ok-commander.ensures.read) (sym found ∙ c.if-not-is_whole.false)

pub returns-clause-written : goal.returns-clause-written
returns-clause-written c = λ kept is e.
    let (has, lines) = begins_with_ids kept c.args.lines.now e in
    let empty : map done_in c.new-done.result.items ≡ [] = ap (map done_in) c.new-done.ensures.items in
    let ds = map done_in c.read_commands.new.done.items in
    let all = all_read (map done_in c.new-done.result.items) ds c.in-Some.count c.in-Some.lines.now c.in-Some-2.lines.now empty (rw c.in-Some-2.is at c.in_ok-lines.ensures.read) in
    let (dones, then) = after_dones kept ds c.in-Some.count c.args.lines.now c.in-Some.lines.now c.in-Some-2.lines.now is lines c.in-Some.ensures.read c.in-Some.ensures.fits all in
    let id = option_copied c.in-Some-read_pending_id.pending_id in
    let (ids, last) = after_id kept id c.in-Some-2.lines.now c.in-Some-read_pending_id.lines.now is then c.in-Some-read_pending_id.ensures.read c.in-Some-read_pending_id.ensures.fits in
    let commander : c.in-Ok.commander ≡ kept.commander = rw c.in-Ok.is at c.in_ok-commander.ensures.written kept.commander is.commander last in
    inr (records_agree c.in-Ok.commander kept.commander id kept.pending_id ds kept.done commander ids dones)
