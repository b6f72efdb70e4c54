use Rattle.std.proofs.Common.{◌+◌, drop, length, refl, sym, ap, ◌∙◌, arith}
use Rattle.std.specs.Prelude.{bytes_eq}
use Rattle.std.proofs.lemmas.Bool.{eq-eqb, ne_eqb}
use Rattle.saved_state.specs.States.{entry_of}
use Rattle.saved_adapter.specs.Entries.{are_same}
use Rattle.saved_adapter.proofs.SameLemmas.{same_more, other_none, other_key, other_bytes, same_end}
use Rattle.saved_adapter.proofs.saving.is_same.Goals as goal

pub loop-entry-preserved : goal.loop-entry-preserved
loop-entry-preserved c =
    let es = c.args.entries.now in
    let index = c.loop-entry.index in
    let bytes = ap (λ b. bytes_eq b c.in-Some.entry.bytes.now) (sym c.as_slice.ensures.value)
    ∙ (sym c.eq.ensures ∙ c.if-eq.true) in
    record {
      same = same_more es index (index + 1) c.in-Some-entry.key c.entry.new.bytes.items (entry_of c.in-Some.entry)
          c.next.new.self refl c.in-Some-entry.ensures
          (eq-eqb c.in-Some-entry.key c.in-Some.entry.key c.if-key-entry.true) bytes
          ∙ (ap (are_same (drop index es)) (sym c.in-Some.ensures.steps) ∙ c.loop-entry.invariant.same);
      count = omega (arith, ap length c.in-Some.ensures.steps, c.loop-entry.invariant.count);
    }

pub returns-in_default : goal.returns-in_default
returns-in_default c =
    let bytes = ap (λ b. bytes_eq b c.in-Some.entry.bytes.now) (sym c.as_slice.ensures.value)
    ∙ (sym c.eq.ensures ∙ c.if-eq.false) in
    sym (other_bytes c.args.entries.now c.loop-entry.index c.in-Some-entry.key c.entry.new.bytes.items
    (entry_of c.in-Some.entry) c.next.new.self c.in-Some-entry.ensures bytes)
    ∙ (ap (are_same (drop c.loop-entry.index c.args.entries.now)) (sym c.in-Some.ensures.steps)
    ∙ c.loop-entry.invariant.same)

pub returns-in_default-2 : goal.returns-in_default-2
returns-in_default-2 c =
    sym (other_key c.args.entries.now c.loop-entry.index c.in-Some-entry.key c.entry.new.bytes.items
    (entry_of c.in-Some.entry) c.next.new.self c.in-Some-entry.ensures
    (ne_eqb c.in-Some-entry.key c.in-Some.entry.key c.if-key-entry.false))
    ∙ (ap (are_same (drop c.loop-entry.index c.args.entries.now)) (sym c.in-Some.ensures.steps)
    ∙ c.loop-entry.invariant.same)

pub returns-in_default-3 : goal.returns-in_default-3
returns-in_default-3 c =
    sym (other_none c.args.entries.now c.loop-entry.index c.entry.new.bytes.items (entry_of c.in-Some.entry)
    c.next.new.self c.in_default.ensures)
    ∙ (ap (are_same (drop c.loop-entry.index c.args.entries.now)) (sym c.in-Some.ensures.steps)
    ∙ c.loop-entry.invariant.same)

pub returns : goal.returns
returns c =
    same_end c.args.entries.now c.loop-entry.index c.entry-2.result c.entry-2.new.bytes.items c.is_none.result
    c.entry-2.ensures c.is_none.ensures
    ∙ (ap (are_same (drop c.loop-entry.index c.args.entries.now)) (sym c.in-None.ensures.steps.0)
    ∙ c.loop-entry.invariant.same)
