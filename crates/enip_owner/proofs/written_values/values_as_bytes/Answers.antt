use Rattle.std.proofs.Common.{◌≡◌, true, false, length, map, ◌∙◌, sym}
use Rattle.std.proofs.lemmas.Bool.{not-false, false≢true}
use Rattle.enip_owner.specs.Requests.{given_in}
use Rattle.enip_owner.proofs.ValueLemmas.{one_more, all_done, given_fault, length_given}
use Rattle.enip_owner.proofs.written_values.values_as_bytes.Goals as goal
use Rattle.enip_owner.proofs.written_values.values_as_bytes.Goals.{else-not-value_type-via-then-not-value_type+else-values-ne1, else-not-value_type-via-else-not-value_type}

pub loop-value-preserved : goal.loop-value-preserved
loop-value-preserved c =
    one_more c.args.value_type.element c.args.values.now c.loop-value.value-index _ c.loop-value.bytes.items c.append_value.new.out.items
    c.loop-value-test.true c.loop-value.invariant c.in-Ok.ensures.appended

pub returns-in-Err-clause-refused : goal.returns-in-Err-clause-refused
returns-in-Err-clause-refused c =
    given_fault c.args.value_type c.args.values.now c.loop-value.value-index _ c.loop-value.bytes.items c.in-Err.fault c.loop-value-test.true
    c.loop-value.invariant c.in-Err.ensures.refused

pub returns-clause-read : goal.returns-clause-read
returns-clause-read c = record {
  each = all_done c.args.value_type.element c.args.values.now c.loop-value.value-index c.loop-value.bytes.items c.loop-value-test.false
      c.loop-value.invariant;
  one = λ single.
      let one : length c.args.values.now ≡ 1 =
      elim c.else-not-value_type.branch [
        | else-not-value_type-via-then-not-value_type+else-values-ne1 w ↦ w.if-values-ne1.false
        | else-not-value_type-via-else-not-value_type w ↦
            absurd (false≢true (sym single ∙ not-false c.args.value_type.is_list w.if-not-value_type.false))
      ] in
      length_given c.args.values.now ∙ one;
}
