use Rattle.std.proofs.Common.{◌≢◌, ℕ, List, inl, inr, ◌∙◌, arith, slice_index}
use Rattle.std.proofs.lemmas.Bool.{eqb-false}
use Rattle.cip_ledger.proofs.RequestLemmas.{BeginsBarred, is_barred-other}
use Rattle.cip_ledger.proofs.request.may_be_barred.Goals as goal

pub returns-then-request-le3 : goal.returns-then-request-le3
returns-then-request-le3 c = λ _.
    is_barred-other c.args.request.now (λ i. (c.type_inv.request i).fits)
    (λ begins. let least = begins.may.size in let most = c.if-request-le3.true in omega (arith, least, most))

-- neither a class in 16 bits, nor one of the two in 8
no_class : (text : List ℕ) → slice_index text 2 ≢ 0x21 → slice_index text 3 ≢ 0x06 → slice_index text 3 ≢ 0x65 → BeginsBarred text → ⊥
no_class text wide manager ledger begins = elim begins.may.first [
  | inl first ↦ wide first
  | inr both ↦ elim begins.class_is [
    | inl is ↦ manager (both.1 ∙ is)
    | inr is ↦ ledger (both.1 ∙ is)
  ]
]

pub returns : goal.returns
returns c = λ other.
    is_barred-other c.args.request.now (λ i. (c.type_inv.request i).fits)
    (no_class c.args.request.now (eqb-false (slice_index c.args.request.now 2) 0x21 other)
    (λ is. c.if-from-eq-CONNECTION_MANAGER.false (c.from.ensures ∙ is))
    (λ is. c.if-from-eq-LEDGER.false (c.from-2.ensures ∙ is)))
