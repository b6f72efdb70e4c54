use Rattle.std.proofs.Common.{◌≡◌, ℕ, List, Option, Some, None, Ok, Err, true, false, map, refl, sym, ap, ◌∙◌}
use Rattle.std.specs.List.{find}
use Rattle.std.specs.Str.{bytes_eq}
use Rattle.std.specs.Option.{option_copied}
use Rattle.hex.specs.Hex.{encode_lower}
use Rattle.enip_commands.specs.declared.once_refusal.OnceRefusal.TheVariants as refusals
use Rattle.enip_commands.specs.declared.command_record.DoneCommand.{DoneCommand}
use Rattle.enip_commands.specs.CommandRecords.{Done, done_in, record_in, known_plan, unknown_plan, PlanExecuted}
use Rattle.enip_commands.proofs.CommandRecordLemmas.{plan_from}
use Rattle.enip_commands.proofs.command_record.plan.plan_id.Goals as goal

pub returns-in-Some : goal.returns-in-Some
returns-in-Some c =
    let r = record_in c.args.kept.now in
    let unknown = unknown_plan r.commander.pending r.pending_id c.args.id.now c.args.request.now in
    let found : find (λ d. bytes_eq d.id c.args.id.now) r.done ≡ Some (done_in c.in-Some.command) =
    ap (λ (ds : List DoneCommand). find (λ d. bytes_eq d.id c.args.id.now) (map done_in ds)) (sym c.as_slice.ensures.value) ∙ sym c.in-Some.ensures in
    let same : bytes_eq c.in-Some.command.request.now (encode_lower c.args.request.now) ≡ true =
    ap (bytes_eq c.in-Some.command.request.now) (sym c.requires) ∙ (sym c.eq.ensures ∙ c.if-eq.true) in
    let is : known_plan (Some (done_in c.in-Some.command)) unknown (encode_lower c.args.request.now) ≡ Ok (PlanExecuted c.in-Some.command.reply.now) = rw same refl in
    sym (plan_from r c.args.id.now c.args.request.now (Some (done_in c.in-Some.command)) found ∙ is)

pub returns-in-Some-2 : goal.returns-in-Some-2
returns-in-Some-2 c =
    let r = record_in c.args.kept.now in
    let unknown = unknown_plan r.commander.pending r.pending_id c.args.id.now c.args.request.now in
    let found : find (λ d. bytes_eq d.id c.args.id.now) r.done ≡ Some (done_in c.in-Some.command) =
    ap (λ (ds : List DoneCommand). find (λ d. bytes_eq d.id c.args.id.now) (map done_in ds)) (sym c.as_slice.ensures.value) ∙ sym c.in-Some.ensures in
    let differs : bytes_eq c.in-Some.command.request.now (encode_lower c.args.request.now) ≡ false =
    ap (bytes_eq c.in-Some.command.request.now) (sym c.requires) ∙ (sym c.eq.ensures ∙ c.if-eq.false) in
    let is : known_plan (Some (done_in c.in-Some.command)) unknown (encode_lower c.args.request.now) ≡ Err refusals.OtherRequest = rw differs refl in
    sym (plan_from r c.args.id.now c.args.request.now (Some (done_in c.in-Some.command)) found ∙ is)

pub returns-in-None : goal.returns-in-None
returns-in-None c =
    let r = record_in c.args.kept.now in
    let found : find (λ d. bytes_eq d.id c.args.id.now) r.done ≡ None =
    ap (λ (ds : List DoneCommand). find (λ d. bytes_eq d.id c.args.id.now) (map done_in ds)) (sym c.as_slice.ensures.value) ∙ sym c.in-None.ensures in
    c.plan_unknown.ensures
    ∙ ap (λ (p : Option (List ℕ)). unknown_plan p (option_copied c.args.kept.now.pending_id) c.args.id.now c.args.request.now) c.pending_request.ensures
    ∙ sym (plan_from r c.args.id.now c.args.request.now None found)
