use Rattle.std.proofs.Common.{◌-◌, ◌++◌, ◌∙◌, length, take, drop, sym, ap, arith}
use Rattle.std.proofs.lemmas.List.{take_rest}
use Rattle.cip_objects.specs.ObjectRef.{path_to}
use Rattle.cip_objects.specs.ReadServices.{list_completion}
use Rattle.cip_objects.specs.SetLists.{set_all, settings_or_none, listed}
use Rattle.cip_objects.proofs.ListSets.{IsListed, list_over, list_within}
use Rattle.cip_objects.proofs.objects.Objects.set_attribute_list.Goals as goal

pub returns-then-max_size-len-clause-outcome : goal.returns-then-max_size-len-clause-outcome
returns-then-max_size-len-clause-outcome c =
    let m = c.args.self.now in
    let p = path_to m.shapes c.args.resolved in
    let list = take (length c.args.data.now - 2) (drop 2 c.args.data.now) in
    let x : IsListed m p c.args.data.now c.read_u16-count.result list = record {
      long = omega (arith, c.if-data-lt2.false);
      count_is = c.read_u16-count.ensures;
      list_is = take_rest c.args.data.now 2;
      read = sym c.in_ok-check_list.ensures;
    } in
    sym (list_over m p c.args.data.now c.read_u16-count.result c.args.max_size list c.args.reply.now.items x
    (omega (arith, c.if-max_size-len.true)))

pub returns-then-set_all-clause-outcome : goal.returns-then-set_all-clause-outcome
returns-then-set_all-clause-outcome c =
    let m = c.args.self.now in
    let p = path_to m.shapes c.args.resolved in
    let list = take (length c.args.data.now - 2) (drop 2 c.args.data.now) in
    let x : IsListed m p c.args.data.now c.read_u16-count.result list = record {
      long = omega (arith, c.if-data-lt2.false);
      count_is = c.read_u16-count.ensures;
      list_is = take_rest c.args.data.now 2;
      read = sym c.in_ok-check_list.ensures;
    } in
    list_within m p c.args.data.now c.read_u16-count.result c.args.max_size list c.args.reply.now.items _ _ _ x
    (omega (arith, c.if-max_size-len.false)) c.set_all.ensures.state
    (ap list_completion (sym c.if-set_all.true ∙ c.set_all.ensures.complete))
    (c.set_all.ensures.text
    ∙ ap (λ t. t ++ (set_all m p (settings_or_none (listed m.shapes c.args.resolved.object c.read_u16-count.result list))).entries)
    (c.in_ok-append.ensures.1 ∙ ap (λ b. c.args.reply.now.items ++ b) c.to_le_bytes.ensures))

pub returns-else-set_all-clause-outcome : goal.returns-else-set_all-clause-outcome
returns-else-set_all-clause-outcome c =
    let m = c.args.self.now in
    let p = path_to m.shapes c.args.resolved in
    let list = take (length c.args.data.now - 2) (drop 2 c.args.data.now) in
    let x : IsListed m p c.args.data.now c.read_u16-count.result list = record {
      long = omega (arith, c.if-data-lt2.false);
      count_is = c.read_u16-count.ensures;
      list_is = take_rest c.args.data.now 2;
      read = sym c.in_ok-check_list.ensures;
    } in
    list_within m p c.args.data.now c.read_u16-count.result c.args.max_size list c.args.reply.now.items _ _ _ x
    (omega (arith, c.if-max_size-len.false)) c.set_all.ensures.state
    (ap list_completion (sym c.if-set_all.false ∙ c.set_all.ensures.complete))
    (c.set_all.ensures.text
    ∙ ap (λ t. t ++ (set_all m p (settings_or_none (listed m.shapes c.args.resolved.object c.read_u16-count.result list))).entries)
    (c.in_ok-append.ensures.1 ∙ ap (λ b. c.args.reply.now.items ++ b) c.to_le_bytes.ensures))
