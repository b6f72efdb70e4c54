-- What holds of an opening that no check refuses.
use Rattle.std.proofs.Common.{◌≡◌, ℕ, ◌<◌, ◌^◌, ltb-true, eqb, List, [], ◌∷◌, ◌++◌, Bool, true, false, not, ◌&&◌, Option, Some, None, Result, Ok, Err, length, refl, ap, sym, ◌∙◌, arith}
use Rattle.std.specs.Prelude.{◌==◌, nat_le, is_some}
use Rattle.std.specs.List.{list_any, AllByRecursion}
use Rattle.std.proofs.lemmas.Bool.{and_parts}
use Rattle.std.proofs.lemmas.Bool.Decides.{nat_tests}
use Rattle.cip_bytes.specs.declared.protocol.TheConstants.{LARGEST_CONNECTION_SIZE, SMALLEST_O_TO_T_SIZE, SMALLEST_T_TO_O_SIZE}
use Rattle.cip_bytes.specs.declared.protocol.ExtendedStatus.{ExtendedStatus}
use Rattle.cip_bytes.specs.declared.protocol.ExtendedStatus.TheVariants.{DoubleOpen, Transport, ConnectionParameter, ConnectionSize, Rpi, OutOfConnections, ApplicationPath, PathSegment}
use Rattle.cip_bytes.specs.Reading.{◌>>◌}
use Rattle.cip_message.specs.declared.key.Device.{Device}
use Rattle.cip_manager.specs.declared.connection.Triad.{Triad}
use Rattle.cip_manager.specs.declared.opening.Opening.{Opening}
use Rattle.cip_manager.specs.Check.{demand, refusal_by, first_failure}
use Rattle.cip_manager.specs.Connection.{has_triad}
use Rattle.cip_manager.specs.Manager.{ManagerState}
use Rattle.cip_manager.specs.Opening.{are_point_to_point, is_size, key_in, key_refusal, names_message_router, path_checks, field_checks, has_share_left, table_checks, opening_check}

-- the first failure of joined lists is that of the first list, or else that of the rest
pub first_failure-append : (checks rest : List (Result (Unit {0}) ExtendedStatus)) → first_failure (checks ++ rest) ≡ first_failure checks >> first_failure rest
first_failure-append [] rest = refl
first_failure-append (Ok passed ∷ checks) rest = first_failure-append checks rest
first_failure-append (Err extended ∷ checks) rest = refl

-- so an opening is refused by its path, or else by its other fields, or else by the open connections
pub opening_check-parts : (manager : ManagerState) (group : Option ℕ) (opening : Opening)
    → opening_check manager group opening ≡ first_failure (path_checks manager.device opening) >> first_failure (field_checks opening) >> first_failure (table_checks manager group opening.triad)
opening_check-parts manager group opening =
    first_failure-append (path_checks manager.device opening ++ field_checks opening) (table_checks manager group opening.triad)
    ∙ ap (λ (front : Result (Unit {0}) ExtendedStatus). front >> first_failure (table_checks manager group opening.triad))
    (first_failure-append (path_checks manager.device opening) (field_checks opening))

pub path-refuses : (manager : ManagerState) (group : Option ℕ) (opening : Opening) (extended : ExtendedStatus) → first_failure (path_checks manager.device opening) ≡ Err extended
    → opening_check manager group opening ≡ Err extended
path-refuses manager group opening extended e =
    opening_check-parts manager group opening
    ∙ ap (λ (path : Result (Unit {0}) ExtendedStatus). path >> first_failure (field_checks opening) >> first_failure (table_checks manager group opening.triad)) e

pub fields-refuse : (manager : ManagerState) (group : Option ℕ) (opening : Opening) (extended : ExtendedStatus) → first_failure (path_checks manager.device opening) ≡ Ok tt
    → first_failure (field_checks opening) ≡ Err extended → opening_check manager group opening ≡ Err extended
fields-refuse manager group opening extended e f =
    opening_check-parts manager group opening
    ∙ ap (λ (path : Result (Unit {0}) ExtendedStatus). path >> first_failure (field_checks opening) >> first_failure (table_checks manager group opening.triad)) e
    ∙ ap (λ (fields : Result (Unit {0}) ExtendedStatus). fields >> first_failure (table_checks manager group opening.triad)) f

-- if none of two joined lists fails, none of either does
both-pass : (a b : Result (Unit {0}) ExtendedStatus) → (a >> b) ≡ Ok tt → (a ≡ Ok tt) × (b ≡ Ok tt)
both-pass (Ok passed) b e = (refl, e)
both-pass (Err extended) b e = absurd cc

pub passed-append : (checks rest : List (Result (Unit {0}) ExtendedStatus)) → first_failure (checks ++ rest) ≡ Ok tt → (first_failure checks ≡ Ok tt) × (first_failure rest ≡ Ok tt)
passed-append checks rest e = both-pass (first_failure checks) (first_failure rest) (sym (first_failure-append checks rest) ∙ e)

-- if none fails, each check passed
all-passed : (checks : List (Result (Unit {0}) ExtendedStatus)) → first_failure checks ≡ Ok tt → AllByRecursion (λ check. check ≡ Ok tt) checks
all-passed [] e = tt
all-passed (Ok passed ∷ checks) e = (refl, all-passed checks e)
all-passed (Err extended ∷ checks) e = cc

demand-passed : (b : Bool) (extended : ExtendedStatus) → demand b extended ≡ Ok tt → b ≡ true
demand-passed true extended e = refl
demand-passed false extended e = cc

none-refuses : (o : Option ExtendedStatus) → refusal_by o ≡ Ok tt → o ≡ None
none-refuses None e = refl
none-refuses (Some extended) e = cc

not-false : (b : Bool) → not b ≡ true → b ≡ false
not-false true e = cc
not-false false e = refl

above : (n : ℕ) → not (eqb n 0) ≡ true → 0 < n
above n e = grind (arith, nat_tests)

-- the path is an optional key that accepts the device, and leads to the Message Router
pub record HasPath (device : Device) (opening : Opening) : Type 0 where
  pub path : is_some opening.path ≡ true
  pub key : key_refusal device (key_in opening.path) ≡ None
  pub message_router : names_message_router opening.path ≡ true

pub has_path : (device : Device) (opening : Opening) → first_failure (path_checks device opening) ≡ Ok tt → HasPath device opening
has_path device opening e =
    let passed = all-passed (path_checks device opening) e in
    record {
      path = demand-passed _ PathSegment passed.0;
      key = none-refuses _ passed.1.0;
      message_router = demand-passed _ ApplicationPath passed.1.1.0;
    }

-- transport, type and multiplier, sizes and O->T RPI are those of a class 3 connection
pub record HasFields (opening : Opening) : Type 0 where
  pub transport : (opening.is_server && (opening.transport_class == 3)) ≡ true
  pub parameters : (are_point_to_point opening && nat_le opening.timeout_multiplier 7) ≡ true
  pub sizes : (is_size SMALLEST_O_TO_T_SIZE LARGEST_CONNECTION_SIZE opening.o_to_t && is_size SMALLEST_T_TO_O_SIZE LARGEST_CONNECTION_SIZE opening.t_to_o) ≡ true
  pub rpi : 0 < opening.o_to_t.rpi

pub has_fields : (opening : Opening) → first_failure (field_checks opening) ≡ Ok tt → HasFields opening
has_fields opening e =
    let passed = all-passed (field_checks opening) e in
    record {
      transport = demand-passed _ Transport passed.0;
      parameters = demand-passed _ ConnectionParameter passed.1.0;
      sizes = demand-passed _ ConnectionSize passed.1.1.0;
      rpi = above opening.o_to_t.rpi (demand-passed _ Rpi passed.1.1.1.0);
    }

-- no open connection has the triad, a slot is free, an ID is left, and the group has a share left
pub record HasRoom (manager : ManagerState) (group : Option ℕ) (triad : Triad) : Type 0 where
  pub new_triad : list_any (has_triad triad) manager.connections ≡ false
  pub place_left : length manager.connections < manager.places
  pub id_left : manager.next_id < 2 ^ 32
  pub share_left : has_share_left manager group ≡ true

pub has_room : (manager : ManagerState) (group : Option ℕ) (triad : Triad) → first_failure (table_checks manager group triad) ≡ Ok tt → HasRoom manager group triad
has_room manager group triad e =
    let passed = all-passed (table_checks manager group triad) e in
    let left = and_parts _ _ (demand-passed _ OutOfConnections passed.1.0) in
    let both = and_parts _ _ left.0 in
    record {
      new_triad = not-false _ (demand-passed _ DoubleOpen passed.0);
      place_left = ltb-true _ _ both.0;
      id_left = ltb-true _ _ both.1;
      share_left = left.1;
    }

-- what each of the checks says, by its name
pub record PassesChecks (manager : ManagerState) (group : Option ℕ) (opening : Opening) : Type 0 where
  pub path : HasPath manager.device opening
  pub fields : HasFields opening
  pub room : HasRoom manager group opening.triad

pub passes_checks : (manager : ManagerState) (group : Option ℕ) (opening : Opening) → opening_check manager group opening ≡ Ok tt → PassesChecks manager group opening
passes_checks manager group opening e =
    let first = passed-append (path_checks manager.device opening ++ field_checks opening) (table_checks manager group opening.triad) e in
    let front = passed-append (path_checks manager.device opening) (field_checks opening) first.0 in
    record {
      path = has_path manager.device opening front.0;
      fields = has_fields opening front.1;
      room = has_room manager group opening.triad first.1;
    }
