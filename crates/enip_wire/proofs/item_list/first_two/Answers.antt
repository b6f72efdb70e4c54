use Rattle.std.proofs.Common.{◌≡◌, ℕ, List, take, sym, ap, ◌∙◌, arith}
use Rattle.byteorder.specs.Numbers.{little_from-take}
use Rattle.cip_bytes.specs.Numbers.{number_at}
use Rattle.enip_wire.specs.Items.{two_in, after}
use Rattle.enip_wire.proofs.TwoLemmas.{err_seen, first_fault, second_fault, behind_two, ends-empty, ends-more}
use Rattle.enip_wire.proofs.item_list.first_two.Goals as goal

-- the number that is read is at the front of the bytes
counted : (text count : List ℕ) (n : ℕ) → count ≡ take 2 text → n ≡ number_at 0 2 count → n ≡ number_at 0 2 text
counted text count n front is = is ∙ ap (λ b. number_at 0 2 b) front ∙ little_from-take 0 2 2 text (omega arith)

pub returns-in_err-first : goal.returns-in_err-first
returns-in_err-first c =
    err_seen two_in c.from_residual.result c.in_err-first.field-0.0 c.from_residual.ensures.1
    ∙ sym (first_fault c.args.text.now c.in-Some.text.now c.read_u16-count.result c.in_err-first.field-0.0
    (omega (arith, c.in-Some.ensures.cases.2)) c.in-Some.ensures.cases.1
    (counted c.args.text.now c.in-Some.count.now c.read_u16-count.result c.in-Some.ensures.cases.0 c.read_u16-count.ensures)
    (sym c.in_err-first.ensures))

pub returns-in_err-second : goal.returns-in_err-second
returns-in_err-second c =
    err_seen two_in c.from_residual-in_err-second.result c.in_err-second.field-0.0 c.from_residual-in_err-second.ensures.1
    ∙ sym (second_fault c.args.text.now c.in-Some.text.now c.read_u16-count.result _ c.in_err-second.field-0.0
    (omega (arith, c.in-Some.ensures.cases.2)) c.in-Some.ensures.cases.1
    (counted c.args.text.now c.in-Some.count.now c.read_u16-count.result c.in-Some.ensures.cases.0 c.read_u16-count.ensures)
    (sym c.in_ok-first.ensures) (sym c.in_err-second.ensures))

pub returns-in_err-after_items : goal.returns-in_err-after_items
returns-in_err-after_items c =
    err_seen two_in c.from_residual-in_err-after_items.result c.in_err-after_items.field-0.0
    c.from_residual-in_err-after_items.ensures.1
    ∙ sym (behind_two c.args.text.now c.in-Some.text.now c.read_u16-count.result _ _ _
    (omega (arith, c.in-Some.ensures.cases.2)) c.in-Some.ensures.cases.1
    (counted c.args.text.now c.in-Some.count.now c.read_u16-count.result c.in-Some.ensures.cases.0 c.read_u16-count.ensures)
    (sym c.in_ok-first.ensures) (sym c.in_ok-second.ensures)
    (c.in_err-after_items.ensures ∙ ap (λ k. after k c.in_ok-second.text.now) c.saturating_sub.ensures))

pub returns-in-empty : goal.returns-in-empty
returns-in-empty c =
    sym (behind_two c.args.text.now c.in-Some.text.now c.read_u16-count.result _ _ _
    (omega (arith, c.in-Some.ensures.cases.2)) c.in-Some.ensures.cases.1
    (counted c.args.text.now c.in-Some.count.now c.read_u16-count.result c.in-Some.ensures.cases.0 c.read_u16-count.ensures)
    (sym c.in_ok-first.ensures) (sym c.in_ok-second.ensures)
    (c.in_ok-after_items.ensures ∙ ap (λ k. after k c.in_ok-second.text.now) c.saturating_sub.ensures)
    ∙ ends-empty _ c.in_ok-after_items.field-0.now c.in-empty.len_below)

pub returns-in_default-2 : goal.returns-in_default-2
returns-in_default-2 c =
    sym (behind_two c.args.text.now c.in-Some.text.now c.read_u16-count.result _ _ _
    (omega (arith, c.in-Some.ensures.cases.2)) c.in-Some.ensures.cases.1
    (counted c.args.text.now c.in-Some.count.now c.read_u16-count.result c.in-Some.ensures.cases.0 c.read_u16-count.ensures)
    (sym c.in_ok-first.ensures) (sym c.in_ok-second.ensures)
    (c.in_ok-after_items.ensures ∙ ap (λ k. after k c.in_ok-second.text.now) c.saturating_sub.ensures)
    ∙ ends-more _ c.in_ok-after_items.field-0.now c.in_default-2.len_at_least)
