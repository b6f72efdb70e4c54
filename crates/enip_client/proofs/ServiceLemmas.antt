-- Both ways: a service that is read has this spelling, and each spelling is read.
use Rattle.std.proofs.Common.{◌≡◌, ◌↔◌, ℕ, ◌<◌, ltb, cond, Bool, true, false, List, [], ◌++◌, length, take, drop, Option, Some, None, refl, sym, ap, subst, ◌∙◌, arith, length-drop}
use Rattle.std.specs.Prelude.{◌==◌, if◌then◌else◌}
use Rattle.std.specs.Option.{option_map}
use Rattle.std.specs.List.{position_or_len}
use Rattle.std.proofs.lemmas.Bool.{eqb-true, eq-eqb, ltb-false}
use Rattle.std.proofs.lemmas.List.{take_all}
use Rattle.cip_bytes.specs.Numbers.{le, AreBytes}
use Rattle.cip_bytes.proofs.Bytes.{le2_again, at2, parts_then}
use Rattle.enip_wire.proofs.FrameLemmas.{number-two}
use Rattle.enip_client.specs.declared.service.ServiceView.{ServiceView}
use Rattle.enip_client.specs.Service.{Service, SpellsService, name_in, service_fields, service_of, service_in}

-- the index of a first byte, or none
placed : (b : Bool) (p e : ℕ) → cond b (Some p) None ≡ Some e → e ≡ p
placed true p e h = cc
placed false p e h = absurd cc

unplaced : (b : Bool) (p : ℕ) → cond b (Some p) None ≡ None → b ≡ false
unplaced true p h = absurd cc
unplaced false p h = refl

abbrev is_nul : ℕ → Bool
is_nul byte = byte == 0

pub name_before : (field : List ℕ) (r : Option ℕ) (e : ℕ) → r ≡ cond (ltb (position_or_len is_nul field) (length field)) (Some (position_or_len is_nul field)) None → r ≡ Some e
    → take e field ≡ name_in field
name_before field r e is found =
    ap (λ (n : ℕ). take n field) (placed (ltb (position_or_len is_nul field) (length field)) (position_or_len is_nul field) e (sym is ∙ found))

pub name_whole : (field : List ℕ) (r : Option ℕ) → r ≡ cond (ltb (position_or_len is_nul field) (length field)) (Some (position_or_len is_nul field)) None → r ≡ None
    → field ≡ name_in field
name_whole field r is none =
    sym (take_all (position_or_len is_nul field) field
    (ltb-false _ _ (unplaced (ltb (position_or_len is_nul field) (length field)) (position_or_len is_nul field) (sym is ∙ none))))

pub same_service : (s : Service) (v f : ℕ) (n : List ℕ) → v ≡ s.version → f ≡ s.flags → n ≡ s.name
    → ◌≡◌ {A = Service} (record { version = v; flags = f; name = n }) s
same_service s v f n ev ef en = rw (ev, ef, en) refl

service_text : (b : List ℕ) → AreBytes b → length b ≡ 20 → SpellsService (service_fields b) b
unfolding service_fields
service_text b fits h =
    record {
      version = number-two 0 b fits;
      flags = number-two 2 b fits;
      field = drop 4 b;
      sixteen = omega (arith, length-drop 4 b);
      name = refl;
      spelled = (parts_then (at2 0 b fits (omega arith)) (at2 2 b fits (omega arith))).is;
    }

guarded_some : {A : Type 0} (t : Bool) (x y : A) → (if t then Some x else None) ≡ Some y → (t ≡ true) × (x ≡ y)
guarded_some true x y e = (refl, cc)
guarded_some false x y e = absurd cc

pub service_taken : (b : List ℕ) (s : Service) → AreBytes b → service_of b ≡ Some s → SpellsService s b
unfolding service_of
service_taken b s fits e =
    let g = guarded_some (length b == 20) (service_fields b) s e in
    subst (λ (t : Service). SpellsService t b) g.1 (service_text b fits (eqb-true _ _ g.0))

fields_again : (s : Service) (field : List ℕ) → s.version < 65536 → s.flags < 65536 → s.name ≡ name_in field
    → service_fields (le 2 s.version ++ le 2 s.flags ++ field) ≡ s
unfolding service_fields
fields_again s field v f name = same_service s _ _ _ (le2_again s.version v []) (le2_again s.flags f []) (sym name)

of_fields : (b : List ℕ) (s : Service) → length b ≡ 20 → service_fields b ≡ s → service_of b ≡ Some s
unfolding service_of
of_fields b s len e = rw (eq-eqb (length b) 20 len) (ap (λ (x : Service). Some x) e)

pub service_again : (b : List ℕ) (s : Service) → SpellsService s b → service_of b ≡ Some s
service_again b s h =
    ap service_of h.spelled
    ∙ of_fields (le 2 s.version ++ le 2 s.flags ++ h.field) s (let n = h.sixteen in omega arith) (fields_again s h.field h.version h.flags h.name)

-- of what a reader returned
pub reads_service : (b : List ℕ) (r : Option ServiceView) → AreBytes b → option_map service_in r ≡ service_of b → (s : Service)
    → (option_map service_in r ≡ Some s) ↔ SpellsService s b
reads_service b r fits e s = ((λ h. service_taken b s fits (sym e ∙ h)), (λ h. e ∙ service_again b s h))
