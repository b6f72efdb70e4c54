use Rattle.std.proofs.Common.{◌≡◌, ◌-◌, ℕ, List, ◌++◌, codes, length, map, drop, take, string_bytes, refl, sym, ap, ◌∙◌, arith, rules, length-drop}
use Rattle.std.specs.Fmt.{decimal}
use Rattle.std.proofs.lemmas.Grind.{common_steps}
use Rattle.std.proofs.lemmas.List.{take_all, length-map}
use Rattle.enip_commands.specs.declared.command_record.DoneCommand.{DoneCommand}
use Rattle.enip_commands.specs.CommandFiles.{line}
use Rattle.enip_commands.specs.CommandRecords.{done_in, record_in, dones_text}
use Rattle.enip_commands.specs.RecordListing.{last_reply, reply_text}
use Rattle.enip_commands.proofs.RecordListingLemmas.{listed}
use Rattle.enip_commands.proofs.command_record.listing.record_listing.Goals as goal

pub returns : goal.returns
returns c =
    let r = record_in c.args.kept.now in
    let rest : take (length c.as_bytes.result.now - 16) (drop 16 c.as_bytes.result.now) ≡ drop 16 c.as_bytes.result.now =
    take_all _ _ (omega (arith, length-drop 16 c.as_bytes.result.now)) in
    let empty = c.new-text.ensures.items in
    let extended = c.in_ok-extend_from_slice.ensures.items in
    let bytes = c.as_bytes.ensures.value in
    let front : c.extend_from_slice.new.self.items ≡ drop 16 (string_bytes c.in_ok-whole.whole) = extended ∙ rw (empty, rest, bytes) refl in
    let count : c.len.result ≡ length r.done = first_of (search rules, grind (arith, common_steps, length-map c.args.kept.now.done.items done_in)) in
    let last = c.reply_text-last.ensures
    ∙ ap reply_text (c.last_reply.ensures ∙ ap (λ (ds : List DoneCommand). last_reply (map done_in ds)) c.as_slice.ensures.value) in
    listed r (string_bytes c.in_ok-whole.whole) c.extend_from_slice.new.self.items c.append_line.new.text.items c.append_line-2.new.text.items c.append_commands.new.text.items
    c.append_line-3.new.text.items (string_bytes c.in_ok-count.count) c.reply_text-last.result.now c.in_ok-whole.ensures.ok front
    (c.in_ok-append_line.ensures ∙ ap (λ (xs : List ℕ). c.extend_from_slice.new.self.items ++ line (codes "pending-id ") xs) c.pending_id_text.ensures)
    (c.in_ok-append_line-2.ensures ∙ ap (λ (xs : List ℕ). c.append_line.new.text.items ++ line (codes "ids ") xs) c.as_bytes-2.ensures.value)
    (c.in_ok-count.ensures.ok ∙ ap decimal count)
    (c.in_ok-append_commands.ensures ∙ ap (λ (ds : List DoneCommand). c.append_line-2.new.text.items ++ dones_text (map done_in ds)) c.as_slice-2.ensures.value)
    c.in_ok-append_line-3.ensures last
