-- A request to the Connection Manager is not the owner's.
use Rattle.std.proofs.Common.{◌≡◌, ℕ, true, ◌||◌, ◌==◌, cond, eqb, eqb-true, List, None, Ok, ap, ◌∙◌}
use Rattle.std.proofs.lemmas.Bool.{and_parts}
use Rattle.cip_application.specs.Configuration.{is_taken_class}
use Rattle.cip_message.specs.declared.path.Path.{Path}
use Rattle.cip_message.specs.PathReading.{path_of}
use Rattle.cip_message.specs.Request.{Request, request_of}
use Rattle.cip_objects.specs.Contents.{Contents}
use Rattle.cip_objects.specs.OwnRequests.{own_request, own_object}
use Rattle.cip_objects.specs.Tables.{Shapes, object_at}
use Rattle.cip_objects.proofs.OwnRequests.{read_at, nothing_asked}
use Rattle.enip_adapter.specs.SendRRData.{is_manager}

no_object : (shapes : Shapes) (class instance : ℕ) → class ≡ 6 → own_object shapes class instance ≡ None
no_object shapes class instance six =
    ap (λ n. cond (is_taken_class shapes.has_counter n || (instance == 0)) None
    (object_at class instance shapes.objects)) six

pub manager_is_not_own : (m : Contents) (text : List ℕ) (q : Request) (path : Path) → request_of text ≡ Ok q →
    path_of q.path ≡ Ok path → is_manager path ≡ true → own_request m text ≡ None
manager_is_not_own m text q path read found manages =
    let is_six = and_parts (eqb path.class 6) (eqb path.instance 1) manages in
    read_at m text q path read found
    ∙ nothing_asked m q path (no_object m.shapes path.class path.instance (eqb-true path.class 6 is_six.0))
