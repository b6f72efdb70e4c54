-- Worked examples: members of 1, 2 and 1 bytes, instance numbers, services and statuses.
use Rattle.std.specs.Prelude.{◌≡◌, [], ◌∷◌, Some, None, true, false, refl}
use Rattle.cip_objects.specs.declared.service.Service.TheVariants.{SetMember}
use Rattle.cip_objects.specs.ChangeServices.{with_bytes_at}
use Rattle.cip_objects.specs.Configuration.{are_invalid_instances}
use Rattle.cip_objects.specs.Service.{service_in}
use Rattle.cip_objects.specs.Tables.{span_of, assembly_services}

-- The second member follows the first.
pub second_member : span_of (1 ∷ 2 ∷ 1 ∷ []) 2 ≡ Some (record { offset = 1; size = 2 })
second_member = refl

pub no_fourth_member : span_of (1 ∷ 2 ∷ 1 ∷ []) 4 ≡ None
no_fourth_member = refl

pub no_member_zero : span_of (1 ∷ 2 ∷ 1 ∷ []) 0 ≡ None
no_member_zero = refl

-- Setting it replaces the two bytes in the middle.
pub set_second_member : with_bytes_at (0 ∷ 0 ∷ 0 ∷ 0 ∷ []) 1 (0xaa ∷ 0xbb ∷ []) ≡ 0 ∷ 0xaa ∷ 0xbb ∷ 0 ∷ []
set_second_member = refl

-- An assembly has Set_Member, but not Add.
pub assembly_sets_members : service_in 0x19 assembly_services ≡ Some SetMember
assembly_sets_members = refl

pub assembly_adds_nothing : service_in 0x32 assembly_services ≡ None
assembly_adds_nothing = refl

-- Numbers that are used once, one that is used twice, and 0.
pub numbers_once : are_invalid_instances (100 ∷ 101 ∷ []) ≡ false
numbers_once = refl

pub number_twice : are_invalid_instances (100 ∷ 101 ∷ 100 ∷ []) ≡ true
number_twice = refl

pub number_zero : are_invalid_instances (100 ∷ 0 ∷ []) ≡ true
number_zero = refl
