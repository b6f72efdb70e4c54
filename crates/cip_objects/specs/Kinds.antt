-- How the kinds of attributes and of services are stored.
use Rattle.std.specs.Prelude.{◌≡◌, ℕ, ◌⊎◌, ◌==◌, if◌then◌else◌, Option, refl}
use Rattle.std.proofs.Common.{inl, inr}
use Rattle.std.specs.Coded.{Coded, code_by, coded×, coded⊎, coded_ℕ, coded_option}
use Rattle.cip_application.specs.declared.config.ServiceKind.{ServiceKind}
use Rattle.cip_application.specs.declared.config.ServiceKind.TheVariants as kinds
use Rattle.cip_application.specs.declared.kind.AttributeKind.{AttributeKind}
use Rattle.cip_application.specs.declared.kind.AttributeKind.TheVariants.{Fixed, ShortString}
use Rattle.cip_application.specs.declared.number.NumberRange.{NumberRange}
use Rattle.cip_application.specs.declared.number.NumberType.{NumberType}
use Rattle.cip_application.specs.declared.number.NumberType.TheVariants.{Usint, Uint, Udint, Ulint, Sint, Int, Dint}
use Rattle.cip_application.specs.declared.number.NumberType.TheVariants.{Lint, Real, Lreal}

abbrev number_of_type : NumberType → ℕ
number_of_type Usint = 0
number_of_type Uint = 1
number_of_type Udint = 2
number_of_type Ulint = 3
number_of_type Sint = 4
number_of_type Int = 5
number_of_type Dint = 6
number_of_type Lint = 7
number_of_type Real = 8
number_of_type Lreal = 9

abbrev type_of_number : ℕ → NumberType
type_of_number n =
    if n == 0 then Usint
    else (if n == 1 then Uint
    else (if n == 2 then Udint
    else (if n == 3 then Ulint
    else (if n == 4 then Sint
    else (if n == 5 then Int
    else (if n == 6 then Dint
    else (if n == 7 then Lint
    else (if n == 8 then Real
    else Lreal))))))))

pub same_type : (t : NumberType) → type_of_number (number_of_type t) ≡ t
same_type Usint = refl
same_type Uint = refl
same_type Udint = refl
same_type Ulint = refl
same_type Sint = refl
same_type Int = refl
same_type Dint = refl
same_type Lint = refl
same_type Real = refl
same_type Lreal = refl

abbrev type_code : Coded NumberType
type_code = code_by ℕ coded_ℕ number_of_type type_of_number same_type

abbrev range_code : Coded NumberRange
range_code =
    code_by (NumberType × (ℕ × ℕ)) (coded× type_code (coded× coded_ℕ coded_ℕ))
    (λ r. (r.number, (r.least, r.greatest))) (λ p. record { number = p.0; least = p.1.0; greatest = p.1.1 })
    (λ _. refl)

abbrev split : AttributeKind → (ℕ × Option NumberRange) ⊎ ℕ
split (Fixed size range) = inl (size, range)
split (ShortString room) = inr room

abbrev join : (ℕ × Option NumberRange) ⊎ ℕ → AttributeKind
join (inl p) = Fixed p.0 p.1
join (inr room) = ShortString room

pub same_kind : (k : AttributeKind) → join (split k) ≡ k
same_kind (Fixed size range) = refl
same_kind (ShortString room) = refl

abbrev pub kind_code : Coded AttributeKind
kind_code =
    code_by ((ℕ × Option NumberRange) ⊎ ℕ) (coded⊎ (coded× coded_ℕ (coded_option range_code)) coded_ℕ) split join same_kind

abbrev number_of_service_kind : ServiceKind → ℕ
number_of_service_kind kinds.Asked = 0
number_of_service_kind kinds.Queued = 1
number_of_service_kind kinds.Result = 2

abbrev service_kind_of_number : ℕ → ServiceKind
service_kind_of_number n = if n == 0 then kinds.Asked else (if n == 1 then kinds.Queued else kinds.Result)

pub same_service_kind : (k : ServiceKind) → service_kind_of_number (number_of_service_kind k) ≡ k
same_service_kind kinds.Asked = refl
same_service_kind kinds.Queued = refl
same_service_kind kinds.Result = refl

abbrev pub service_kind_code : Coded ServiceKind
service_kind_code = code_by ℕ coded_ℕ number_of_service_kind service_kind_of_number same_service_kind
