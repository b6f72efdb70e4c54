-- What can be set, and its length.
use Rattle.std.proofs.Common.{◌≡◌, ℕ, eqb, Bool, true, false, cond, ◌&&◌, List, length, Option, Some, None, Ok, refl, sym, ap, ◌∙◌, arith}
use Rattle.std.proofs.lemmas.Bool.Decides.{nat_tests}
use Rattle.std.proofs.lemmas.Bool.{eqb-true}
use Rattle.cip_application.specs.declared.kind.AttributeKind.{AttributeKind}
use Rattle.cip_application.specs.declared.kind.AttributeKind.TheVariants.{Fixed}
use Rattle.cip_objects.specs.Check.{check_size}
use Rattle.cip_objects.specs.Tables.{Shapes, settable_kind, kind_in, object_at}

same_some : {A : Type 0} (x y : A) → ◌≡◌ {A = Option A} (Some x) (Some y) → x ≡ y
same_some x y e = cc

if_data : (t : Bool) (k : Option AttributeKind) (n : AttributeKind) → cond t k None ≡ Some n → t ≡ true
if_data true k n e = refl
if_data false k n e = absurd (cc)

-- what can be set in an assembly is its data
pub settable_data : (shapes : Shapes) (class instance attribute : ℕ) (n : AttributeKind) → settable_kind shapes class instance attribute ≡ Some n → class ≡ 4 → attribute ≡ 3
unfolding settable_kind
settable_data shapes class instance attribute n e h =
    let four : settable_kind shapes 4 instance attribute ≡ Some n = ap (λ c. settable_kind shapes c instance attribute) (sym h) ∙ e in
    eqb-true attribute 3 (if_data (eqb attribute 3) _ n four)

-- what can be set in the counter is its limit
pub record IsLimit (instance attribute : ℕ) (n : AttributeKind) : Type 0 where
  pub of_instance : instance ≡ 1
  pub is_limit : attribute ≡ 2
  pub four : n ≡ Fixed 4 None

if_limit : (a b : Bool) (k n : AttributeKind) → cond (a && b) (Some k) None ≡ Some n → (a ≡ true) × (b ≡ true) × (k ≡ n)
if_limit true true k n e = (refl, refl, same_some k n e)
if_limit true false k n e = absurd (cc)
if_limit false b k n e = absurd (cc)

pub settable_limit : (shapes : Shapes) (class instance attribute : ℕ) (n : AttributeKind) → settable_kind shapes class instance attribute ≡ Some n → class ≡ 100 → shapes.has_counter ≡ true → IsLimit instance attribute n
unfolding settable_kind
settable_limit shapes class instance attribute n e h there =
    let hundred : settable_kind shapes 100 instance attribute ≡ Some n = ap (λ c. settable_kind shapes c instance attribute) (sym h) ∙ e in
    let limit : cond (eqb instance 1 && eqb attribute 2) (Some (Fixed 4 None)) None ≡ Some n =
    sym (ap (λ t. cond t (cond (eqb instance 1 && eqb attribute 2) (Some (Fixed 4 None)) None) (kind_in attribute (object_at 100 instance shapes.objects))) there)
    ∙ hundred in
    let p = if_limit (eqb instance 1) (eqb attribute 2) (Fixed 4 None) n limit in
    record {
      of_instance = eqb-true instance 1 p.0;
      is_limit = eqb-true attribute 2 p.1;
      four = sym p.2;
    }

-- the length that was tested
pub exact_size : (n : ℕ) (content : List ℕ) → check_size n content ≡ Ok tt → length content ≡ n
exact_size n content e = grind (arith, nat_tests)
