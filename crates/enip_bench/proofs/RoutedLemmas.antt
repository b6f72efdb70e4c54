-- What an unconnected request changes in the state that the adapter's peers share.
use Rattle.std.proofs.Common.{arith, ◌≡◌, ℕ, ◌⊎◌, inl, inr, Bool, true, false, cond, eqb, ◌&&◌, List, Result, Ok, Err, refl, ap, sym, ◌∙◌}
use Rattle.std.proofs.lemmas.Bool.{eqb-true}
use Rattle.cip_message.specs.declared.path.Path.{Path}
use Rattle.cip_message.specs.declared.path.PathFault.{PathFault}
use Rattle.cip_message.specs.declared.request.RequestFault.{RequestFault}
use Rattle.cip_message.specs.PathReading.{path_of}
use Rattle.cip_message.specs.Request.{Request, request_of}
use Rattle.cip_bytes.specs.Reading.{◌>>=◌}
use Rattle.cip_ledger.specs.Device.{Device}
use Rattle.cip_ledger.specs.Device.{exec_device}
use Rattle.cip_ledger.proofs.Devices.{exec_device-passed, other_class}
use Rattle.cip_owner.specs.Owned.{OwnedState, exec_owned, is_reset}
use Rattle.cip_owner.specs.OwnedLaws.{exec_owned_plain, unreset}
use Rattle.cip_objects.specs.Contents.{Contents}
use Rattle.cip_objects.specs.Execution.{Outcome, outcome, exec, perform, request_or_refusal, path_or_refusal}
use Rattle.cip_objects.specs.PacketLaws.{exec_routed_plain}
use Rattle.cip_objects.specs.ReadServices.{service_at}
use Rattle.cip_objects.specs.Tables.{Shapes, services_of}
use Rattle.cip_objects.proofs.Packets.{other_path}
use Rattle.cip_objects.proofs.Refuses.{exec_left}
use Rattle.enip_adapter.specs.declared.peer.Rights.TheVariants.{Write}
use Rattle.enip_adapter.specs.declared.peer.Session.{Session}
use Rattle.enip_adapter.specs.declared.shared.Shared.{Shared}
use Rattle.enip_adapter.specs.Rights.{after_for}
use Rattle.enip_adapter.specs.SendRRData.{Route, Opens, Closes, Executes, Routed, routed, routed_to, route_by_request, route_by_path, manager_service, is_manager}
use Rattle.cip_bytes.specs.declared.protocol.TheConstants.{UNCONNECTED_LIMIT}
use Rattle.enip_bench.specs.ObjectsRun.{after_exec}
use Rattle.enip_bench.proofs.NotOwn.{manager_is_not_own}

abbrev fails : {A E : Type 0} → Result A E → Bool
fails (Ok x) = false
fails (Err e) = true

fails-then : {A B E : Type 0} (r : Result A E) (f : A → Result B E) → fails r ≡ true → fails (r >>= f) ≡ true
fails-then (Ok x) f e = absurd (cc)
fails-then (Err x) f e = refl

-- the objects offer no service at the Connection Manager
no_service : (shapes : Shapes) (code : ℕ) → fails (service_at shapes 6 1 code) ≡ true
unfolding service_at services_of
no_service shapes code = refl

both_true : (a b : Bool) → (a && b) ≡ true → (a ≡ true) × (b ≡ true)
both_true true true e = (refl, refl)
both_true true false e = absurd (cc)
both_true false b e = absurd (cc)

manager-refused : (m : Contents) (text : List ℕ) (q : Request) (path : Path) → request_of text ≡ Ok q →
    path_of q.path ≡ Ok path → is_manager path ≡ true → fails (outcome m text) ≡ true
unfolding outcome
manager-refused m text q path read found manages =
    let both = both_true (eqb path.class 6) (eqb path.instance 1) manages in
    ap (λ r. fails (request_or_refusal r >>= λ request. path_or_refusal (path_of request.path) >>= λ p.
    service_at m.shapes p.class p.instance request.service >>= λ service. perform m service p request.data)) read
    ∙ (ap (λ r. fails (path_or_refusal r >>= λ p.
    service_at m.shapes p.class p.instance q.service >>= λ service. perform m service p q.data)) found
    ∙ (ap (λ n. fails (service_at m.shapes n path.instance q.service >>= λ service. perform m service path q.data))
    (eqb-true path.class 6 both.0)
    ∙ (ap (λ n. fails (service_at m.shapes 6 n q.service >>= λ service. perform m service path q.data))
    (eqb-true path.instance 1 both.1)
    ∙ fails-then (service_at m.shapes 6 1 q.service) (λ service. perform m service path q.data)
    (no_service m.shapes q.service))))

refused-map : (m : Contents) (room : ℕ) (text : List ℕ) → fails (outcome m text) ≡ true →
    (exec m room text).after ≡ m
refused-map m room text refused = go (exec_left m room text)
  where
    go : ((exec m room text).after ≡ m) ⊎ ((o : Outcome) × (outcome m text ≡ Ok o) × ((exec m room text).after ≡ o.after))
        → (exec m room text).after ≡ m
    go (inl same) = same
    go (inr left) =
        let bad : false ≡ true = sym (ap (λ r. fails r) left.1) ∙ refused in
        absurd (cc)

-- a Reset is to Identity, class 1
manager-unreset : (w : OwnedState) (text : List ℕ) (q : Request) (path : Path) → request_of text ≡ Ok q →
    path_of q.path ≡ Ok path → is_manager path ≡ true → is_reset w text ≡ false
manager-unreset w text q path read found manages =
    unreset w text
    (λ other at e f service class instance.
    let same : other ≡ q = same-ok other q (sym e ∙ read) in
    let here : at ≡ path = same-ok at path (sym f ∙ (ap (λ (r : Request). path_of r.path) same ∙ found)) in
    let six : path.class ≡ 6 = eqb-true path.class 6 (both_true (eqb path.class 6) (eqb path.instance 1) manages).0 in
    let one : path.class ≡ 1 = ap (λ (p : Path). p.class) (sym here) ∙ class in
    absurd (omega (arith, six, one)))
  where
    same-ok : {A E : Type 0} (x y : A) → ◌≡◌ {A = Result A E} (Ok x) (Ok y) → x ≡ y
    same-ok x y e = cc

-- and so are the owner's prepared reply and the ledger before them
owned-same : (w : OwnedState) (room : ℕ) (text : List ℕ) (q : Request) (path : Path) → request_of text ≡ Ok q →
    path_of q.path ≡ Ok path → is_manager path ≡ true → (exec_owned w room text).after ≡ w
owned-same w room text q path read found manages =
    ap (λ done. done.after)
    (exec_owned_plain w room text (manager-unreset w text q path read found manages)
    (manager_is_not_own w.objects text q path read found manages))
    ∙ ap (λ m. record w { objects = m })
    (ap (λ done. done.after) (exec_routed_plain w.objects room text (other_path text q path read found
    (ap (λ n. eqb n 2 && eqb path.instance 1)
    (eqb-true path.class 6 (both_true (eqb path.class 6) (eqb path.instance 1) manages).0))))
    ∙ refused-map w.objects room text (manager-refused w.objects text q path read found manages))

refused-same : (m : Device) (room : ℕ) (text : List ℕ) (q : Request) (path : Path) → request_of text ≡ Ok q →
    path_of q.path ≡ Ok path → is_manager path ≡ true → (exec_device m room text).after ≡ m
refused-same m room text q path read found manages =
    let six = eqb-true path.class 6 (both_true (eqb path.class 6) (eqb path.instance 1) manages).0 in
    exec_device-passed m room text (other_class text q path read found (λ e. absurd (omega (arith, six, e))))
    (owned-same m.router room text q path read found manages)

-- wherever a request is routed, the objects are those after its execution, and the moment is unchanged
pub record IsRouted (shared : Shared) (request : List ℕ) (done : Routed) : Type 0 where
  pub objects : done.shared.objects ≡ after_exec shared.objects UNCONNECTED_LIMIT request
  pub moment : done.shared.moment ≡ shared.moment

pub routed-objects : (shared : Shared) (session : Session) (request : List ℕ) → session.rights ≡ Write →
    IsRouted shared request (routed shared session request)
routed-objects shared session request writes = by_request (request_of request) refl
  where
    executed : IsRouted shared request (routed_to shared session request Executes)
    executed = record {
      objects = ap (λ rights. after_for rights shared.objects UNCONNECTED_LIMIT request) writes;
      moment = refl;
    }

    unchanged : (d : Route) → (exec_device shared.objects UNCONNECTED_LIMIT request).after ≡ shared.objects →
        IsRouted shared request (routed_to shared session request d)
    unchanged (Opens layout bytes) same = record { objects = sym same; moment = refl }
    unchanged (Closes bytes) same = record { objects = sym same; moment = refl }
    unchanged Executes same = executed

    by_manager : (q : Request) (path : Path) (b : Bool) → request_of request ≡ Ok q → path_of q.path ≡ Ok path →
        is_manager path ≡ b →
        IsRouted shared request (routed_to shared session request (cond b (manager_service q.service q.data) Executes))
    by_manager q path true read found manages =
        unchanged (manager_service q.service q.data)
        (refused-same shared.objects UNCONNECTED_LIMIT request q path read found manages)
    by_manager q path false read found manages = executed

    by_path : (q : Request) (p : Result Path PathFault) → request_of request ≡ Ok q → path_of q.path ≡ p →
        IsRouted shared request (routed_to shared session request (route_by_path q p))
    by_path q (Ok path) read found = by_manager q path (is_manager path) read found refl
    by_path q (Err fault) read found = executed

    by_request : (r : Result Request RequestFault) → request_of request ≡ r →
        IsRouted shared request (routed_to shared session request (route_by_request r))
    by_request (Ok q) read = by_path q (path_of q.path) read refl
    by_request (Err fault) read = executed
