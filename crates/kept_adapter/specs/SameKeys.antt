-- No call of an adapter changes the keys of what is kept of it: they depend on the tables of the objects, and on whether
-- there is a ledger and a queue.
use Rattle.std.specs.Prelude.{◌≡◌, ℕ, zero, suc, ◌+◌, ◌==◌, ◌&&◌, nat_lt, nat_le, if◌then◌else◌, Bool, true, false, is_some, IfSome, refl}
use Rattle.std.specs.Prelude.{List, [], ◌∷◌, ◌++◌, map, take, drop, length, slice_index, Option, Some, None, option_map, unwrap_or, Result, Ok, Err}
use Rattle.std.specs.List.{AllByRecursion, list_any}
use Rattle.std.specs.Option.{option_and_then, ok_or}
use Rattle.std.proofs.Common.{◌⊎◌, inl, inr, sym, ap, subst, ◌∙◌}
use Rattle.std.proofs.lemmas.List.{map-append}
use Rattle.cip_application.specs.declared.object.AttributeName.{AttributeName}
use Rattle.cip_bytes.specs.declared.protocol.TheConstants.{IDENTITY, ASSEMBLY, CONNECTION_MANAGER, COUNTER}
use Rattle.cip_ledger.specs.Device.{Device, owned_standing}
use Rattle.cip_ledger.specs.Doubt.{settled}
use Rattle.cip_ledger.specs.Ledger.{LedgerState}
use Rattle.cip_ledger.specs.Requests.{is_barred}
use Rattle.cip_ledger.specs.Pending.{completed}
use Rattle.cip_ledger.specs.Services.{Replies, Executes, Queues, Frees}
use Rattle.cip_ledger.specs.Turn.{Fate, Passed, Served, fate, turn_by}
use Rattle.cip_ledger.specs.Withdrawing.{found_by, withdrawal_result}
use Rattle.cip_message.specs.declared.path.Path.{Path}
use Rattle.cip_objects.specs.declared.status.Refusal.{Refusal}
use Rattle.cip_objects.specs.ChangeServices.{with_bytes_at, set_attribute_single, set_member, add, clear}
use Rattle.cip_objects.specs.Contents.{Contents, bytes_at, with_value}
use Rattle.cip_objects.specs.DeviceWrites.{device_write, object_write, with_data_of, with_attribute_by}
use Rattle.cip_objects.specs.Execution.{Outcome, outcome_of_read, outcome_of_change, outcome_of_list, perform, outcome, exec}
use Rattle.cip_objects.specs.Service.{service_code, service_in}
use Rattle.cip_objects.specs.Kept.{kept_names}
use Rattle.cip_objects.specs.OwnRequests.{Asked, own_request}
use Rattle.cip_objects.specs.PacketLaws.{exec_routed_keeps}
use Rattle.cip_objects.specs.ReadServices.{Answer, service_at, get_attribute_single, get_attributes_all}
use Rattle.cip_objects.specs.ReadServices.{get_attribute_list, get_member}
use Rattle.cip_message.specs.Router.{REPLY_TOO_LARGE}
use Rattle.cip_objects.specs.Tables.{Shape, Shapes, AttributeShape, shape_at, object_at, attribute_at}
use Rattle.cip_objects.specs.Tables.{services_of, object_services, services_of_object, object_list_services}
use Rattle.cip_objects.specs.Tables.{services_of_assembly, assembly_list_services, is_counter_class}
use Rattle.cip_objects.specs.SetLists.{set_attribute_list}
use Rattle.cip_objects.proofs.Approved.{stored_shapes}
use Rattle.cip_objects.proofs.Effects.{goes, bound, found_some, read_effect, change_effect, set_effect, add_effect, clear_effect}
use Rattle.cip_objects.proofs.ListSets.{list_effect, all_keep}
use Rattle.cip_objects.proofs.Refuses.{exec_left}
use Rattle.cip_objects.proofs.Unsettable.{splices}
use Rattle.cip_application.specs.Values.{from_offset}
use Rattle.cip_application.specs.declared.config.ServiceKind.{ServiceKind}
use Rattle.cip_application.specs.declared.config.ServiceKind.TheVariants as kinds
use Rattle.cip_bytes.specs.Numbers.{le}
use Rattle.cip_owner.specs.Owned.{OwnedState, exec_owned, by_owner, given, refused_with, answered, is_fit, of_kind, queued}
use Rattle.cip_owner.specs.Owned.{after_reply, stored_at, answer_with, by_reset, reset_by, NOT_PREPARED}
use Rattle.cip_owner.specs.Owned.{RESOURCE_UNAVAILABLE}
use Rattle.cip_owner.specs.declared.reset.ResetType.{ResetType}
use Rattle.cip_owner.specs.Reset.{ResetState, reset_data, reset_type}
use Rattle.cip_owner.specs.ResetLaws.{reset_keeps}
use Rattle.cip_owner.specs.Queue.{QueueState, takes, pushed}
use Rattle.cip_owner.specs.QueueRuns.{after_steps}
use Rattle.cip_owner.specs.Replies.{Reply}
use Rattle.device_state.specs.Keys.{key_of}
use Rattle.device_state.specs.Saved.{value_entry, needs_version_2}
use Rattle.enip_adapter.specs.Calls.{AdapterState, Call}
use Rattle.enip_adapter.specs.DeviceRuns.{DeviceStep, Requested, WrittenBy, device_after, device_after_step, steps_of_calls}
use Rattle.enip_adapter.specs.DeviceRuns.{objects_after, objects_answer}
use Rattle.enip_adapter.specs.OwnWrites.{OwnWrite, WritesData, WritesAttribute, SetsStatus, SetsState, Prepares, Settles}
use Rattle.enip_adapter.specs.OwnWrites.{Finishes, Marks, Withdraws, attribute_write, ledger_written, device_written}
use Rattle.enip_adapter.specs.QueueLaws.{queue_steps_by_step}
use Rattle.enip_adapter.specs.Runs.{after_calls}
use Rattle.enip_adapter.proofs.DeviceLemmas.{calls-end}
use Rattle.enip_adapter.proofs.QueueLemmas.{step-queue}
use Rattle.enip_adapter.proofs.SettleLemmas.{IsFinished, Unchanged, Completed, finished-ledger, finished-router}
use Rattle.enip_adapter.proofs.WithdrawalLemmas.{by-ticket, found-ledger}
use Rattle.kept_server.specs.Changes.{keys_of}
use Rattle.device_state.specs.QueueEntries.{QUEUE_ENTRIES, queue_bytes}
use Rattle.kept_adapter.specs.Keys.{ledger_key, queue_key}
use Rattle.kept_adapter.specs.Saved.{pair_of, versioned_objects, saved_ledger, saved_queue, saved_device, first_of}
use Rattle.kept_adapter.specs.Saved.{ledger_bytes, ENTRIES}
use Rattle.kept_adapter.specs.Saved.{adapter_keys}

-- ---- the objects keep their tables

-- The services of the objects.
abbrev ServiceOf : {S : Type 0} → (Contents → S → Path → List ℕ → Result Outcome Refusal) → Type 0
ServiceOf {S} how = S

abbrev Service : Type 0
Service = ServiceOf perform

-- A service keeps the tables.
abbrev Keeps : Service → Type 0
Keeps s = (m : Contents) (path : Path) (content : List ℕ) (o : Outcome) → perform m s path content ≡ Ok o
    → o.after.shapes ≡ m.shapes

abbrev KeepAll : List Service → Type 0
KeepAll services = AllByRecursion Keeps services

read_keeps : (read : Contents → Path → List ℕ → Result Answer Refusal) (m : Contents) (path : Path) (content : List ℕ)
    (o : Outcome) → outcome_of_read m (read m path content) ≡ Ok o → o.after.shapes ≡ m.shapes
read_keeps read m path content o e = ap (λ (x : Contents). x.shapes) (read_effect m (read m path content) o e)

set_keeps : (m : Contents) (path : Path) (content : List ℕ) (o : Outcome)
    → outcome_of_change (set_attribute_single m path content) ≡ Ok o → o.after.shapes ≡ m.shapes
set_keeps m path content o e =
    let c = change_effect (set_attribute_single m path content) o e in
    let x = set_effect m path content c.change c.first in
    ap (λ (y : Contents). y.shapes) (c.after ∙ x.leaves)

list_keeps : (m : Contents) (path : Path) (content : List ℕ) (o : Outcome)
    → outcome_of_list (set_attribute_list m path content) ≡ Ok o → o.after.shapes ≡ m.shapes
list_keeps m path content o e =
    let x = list_effect m path content o e in
    ap (λ (y : Contents). y.shapes) x.after
    ∙ all_keep (λ (n : Contents). n.shapes ≡ m.shapes) path m x.settings
    (λ n attribute value c set same. ap (λ (y : Contents). y.shapes) set.leaves ∙ same) refl

member_keeps : (m : Contents) (path : Path) (content : List ℕ) (o : Outcome)
    → outcome_of_change (set_member m path content) ≡ Ok o → o.after.shapes ≡ m.shapes
member_keeps m path content o e =
    let c = change_effect (set_member m path content) o e in
    let x = splices m path content c.change c.first in
    ap (λ (y : Contents). y.shapes) (c.after ∙ x.leaves)

add_keeps : (m : Contents) (path : Path) (content : List ℕ) (o : Outcome)
    → outcome_of_change (add m content) ≡ Ok o → o.after.shapes ≡ m.shapes
add_keeps m path content o e =
    let c = change_effect (add m content) o e in
    let x = add_effect m content c.change c.first in
    ap (λ (y : Contents). y.shapes) (c.after ∙ x.leaves)

clear_keeps : (m : Contents) (path : Path) (content : List ℕ) (o : Outcome)
    → outcome_of_change (clear m content) ≡ Ok o → o.after.shapes ≡ m.shapes
clear_keeps m path content o e =
    let c = change_effect (clear m content) o e in
    let x = clear_effect m content c.change c.first in
    ap (λ (y : Contents). y.shapes) (c.after ∙ x.leaves)

-- So do all of these services, if there are any.
record AllKeep (services : Option (List Service)) : Type 0 where
  all : IfSome services KeepAll

either : {x y : Option (List Service)} (t : Bool) → AllKeep x → AllKeep y → AllKeep (if t then x else y)
either true h k = h
either false h k = k

each : {A : Type 0} (services : A → List Service) (o : Option A) → ((x : A) → KeepAll (services x))
    → AllKeep (option_map services o)
each services None h = record { all = tt }
each services (Some x) h = record { all = h x }

-- those that an object may have
if_there : (there : Bool) (services : List Service) → KeepAll services → KeepAll (if there then services else [])
if_there true services h = h
if_there false services h = tt

abbrev not_there : Option (List Service)
not_there = None

abbrev without_services : Option (List Service)
without_services = Some []

-- Each service that an object offers keeps the tables.
offered_keep : (shapes : Shapes) (class instance : ℕ) → AllKeep (services_of shapes class instance)
unfolding services_of
offered_keep shapes class instance =
    let whole = read_keeps get_attributes_all in
    let list = read_keeps get_attribute_list in
    let single = read_keeps get_attribute_single in
    let member = read_keeps get_member in
    let none : AllKeep not_there = record { all = tt } in
    let empty : AllKeep without_services = record { all = tt } in
    let of_class : AllKeep (Some (take 1 (drop 2 object_services))) = record { all = (single, tt) } in
    let of_identity : AllKeep (Some (take 3 object_services)) = record { all = (whole, (list, (single, tt))) } in
    let of_counter : AllKeep (services_of (record { assemblies = []; has_counter = true; objects = [] }) COUNTER 1)
    = record { all = (add_keeps, (clear_keeps, (list, (single, (set_keeps, tt))))) } in
    either (class == IDENTITY) (either (instance == 0) of_class (either (instance == 1) of_identity none))
    (either (class == ASSEMBLY)
    (either (instance == 0) of_class
    (each services_of_assembly (shape_at instance shapes.assemblies)
    (λ s. (
      list,
      (
        single,
        (
          set_keeps,
          (
            member,
            (
              member_keeps,
              if_there s.lists assembly_list_services (list_keeps, (whole, tt)),
            ),
          ),
        ),
      ),
    ))))
    (either (class == CONNECTION_MANAGER) (either (instance == 1) empty none)
    (either (is_counter_class shapes class)
    (either (instance == 0) of_class (either (instance == 1) of_counter none))
    (either (instance == 0) (either (list_any (λ o. o.class == class) shapes.objects) of_class none)
    (each services_of_object (object_at class instance shapes.objects)
    (λ s. (whole, (list, (single, (set_keeps, if_there s.lists object_list_services (list_keeps, tt)))))))))))

same_some : {A : Type 0} (x y : A) → ◌≡◌ {A = Option A} (Some x) (Some y) → x ≡ y
same_some x y e = cc

picked : {A : Type 0} (P : A → Type 0) (t : Bool) (x s : A) (rest : Option A) → P x → (rest ≡ Some s → P s)
    → (if t then Some x else rest) ≡ Some s → P s
picked P true x s rest h later e = subst P (same_some x s e) h
picked P false x s rest h later e = later e

found_keeps : (code : ℕ) (services : List Service) (s : Service) → KeepAll services → service_in code services ≡ Some s
    → Keeps s
found_keeps code [] s all e = absurd (cc)
found_keeps code (x ∷ services) s all e =
    picked Keeps (service_code x == code) x s (service_in code services) all.0 (found_keeps code services s all.1) e

chosen_keeps : (shapes : Shapes) (class instance code : ℕ) (s : Service) → service_at shapes class instance code ≡ Ok s
    → Keeps s
unfolding service_at
chosen_keeps shapes class instance code s e =
    let offered = bound (ok_or (services_of shapes class instance) _) _ s e in
    found_keeps code offered.value s
    (subst (λ o. IfSome o KeepAll) (found_some (services_of shapes class instance) _ offered.value offered.first)
    (offered_keep shapes class instance).all)
    (found_some (service_in code offered.value) _ s offered.rest)

left_shapes : (m n : Contents) (text : List ℕ)
    → (n ≡ m) ⊎ ((o : Outcome) × (outcome m text ≡ Ok o) × (n ≡ o.after)) → n.shapes ≡ m.shapes
left_shapes m n text (inl same) = ap (λ (x : Contents). x.shapes) same
left_shapes m n text (inr x) =
    let g = goes m text x.0 x.1 in
    ap (λ (y : Contents). y.shapes) x.2
    ∙ chosen_keeps m.shapes g.path.class g.path.instance g.request.service g.service g.is_chosen m g.path
    g.request.data x.0 g.is_performed

pub executed_shapes : (m : Contents) (max_size : ℕ) (text : List ℕ) → (exec m max_size text).after.shapes ≡ m.shapes
executed_shapes m max_size text = left_shapes m (exec m max_size text).after text (exec_left m max_size text)

-- ---- and so with a reply of the owner

stored_at_shapes : (m : Contents) (asked : Asked) (attribute : Option ℕ) → (stored_at m asked attribute).shapes ≡ m.shapes
stored_at_shapes m asked None = refl
stored_at_shapes m asked (Some attribute) = stored_shapes m asked.class asked.instance attribute asked.content

reply_shapes : (m : Contents) (asked : Asked) (status : ℕ) → (after_reply m asked status).shapes ≡ m.shapes
reply_shapes m asked status =
    elim ((asked.service == 0x10) && (status == 0))
    as (λ t. (if t then stored_at m asked asked.attribute else m).shapes ≡ m.shapes) [
      | true ↦ stored_at_shapes m asked asked.attribute
      | false ↦ refl
    ]

given_shapes : (w : OwnedState) (service : ℕ) (asked : Asked) (reply : Option Reply)
    → (given w service asked reply).after.objects.shapes ≡ w.objects.shapes
given_shapes w service asked None = refl
given_shapes w service asked (Some reply) =
    elim (is_fit asked reply) as (λ t. (if t then
    answered (record w { objects = after_reply w.objects asked reply.status; prepared = None })
    (answer_with service reply.status reply.content)
    else refused_with (record w { prepared = None }) service NOT_PREPARED).after.objects.shapes ≡ w.objects.shapes) [
      | true ↦ reply_shapes w.objects asked reply.status
      | false ↦ refl
    ]

owner_shapes : (w : OwnedState) (max_size : ℕ) (text : List ℕ) (own : Option (Result Asked Refusal))
    → (by_owner w max_size text own).after.objects.shapes ≡ w.objects.shapes
owner_shapes w max_size text None =
    exec_routed_keeps {P = λ (m : Contents). m.shapes ≡ w.objects.shapes}
    (λ m max_size text h. executed_shapes m max_size text ∙ h) w.objects max_size text refl
owner_shapes w max_size text (Some (Err refusal)) = refl
owner_shapes w max_size text (Some (Ok asked)) = by_kind asked.kind (slice_index text 0)
  where
    by_size : (t : Bool) (service : ℕ) → (if t then refused_with w service REPLY_TOO_LARGE
        else given w service asked w.prepared).after.objects.shapes ≡ w.objects.shapes
    by_size true service = refl
    by_size false service = given_shapes w service asked w.prepared

    by_queue : (queue : Option QueueState) (service : ℕ)
        → (queued w service asked queue).after.objects.shapes ≡ w.objects.shapes
    by_queue None service = refl
    by_queue (Some q) service =
        elim (takes q asked) as (λ t. (if t then
        answered (record w { queue = Some (pushed q asked) }) (answer_with service 0 (le 4 q.next))
        else refused_with w service RESOURCE_UNAVAILABLE).after.objects.shapes ≡ w.objects.shapes) [
          | true ↦ refl
          | false ↦ refl
        ]

    by_kind : (kind : ServiceKind) (service : ℕ)
        → (of_kind kind w max_size service asked).after.objects.shapes ≡ w.objects.shapes
    by_kind kinds.Asked service = by_size (nat_lt max_size (4 + asked.reply_limit)) service
    by_kind kinds.Queued service = by_queue w.queue service
    by_kind kinds.Result service = refl

-- A Reset leaves the shapes.
type_shapes : (w : OwnedState) (service : ℕ) (r : ResetState) (type : Option ResetType)
    → (reset_by w service r type).after.objects.shapes ≡ w.objects.shapes
type_shapes w service r None = refl
type_shapes w service r (Some type) = (reset_keeps type r w.objects).shapes

reset_shapes : (w : OwnedState) (max_size : ℕ) (text : List ℕ) (reset : Option ResetState) (content : Option (List ℕ))
    → (by_reset w max_size text reset content).after.objects.shapes ≡ w.objects.shapes
reset_shapes w max_size text None content = owner_shapes w max_size text (own_request w.objects text)
reset_shapes w max_size text (Some r) None = owner_shapes w max_size text (own_request w.objects text)
reset_shapes w max_size text (Some r) (Some content) =
    type_shapes w (slice_index text 0) r (reset_type content)

owned_shapes : (w : OwnedState) (max_size : ℕ) (text : List ℕ)
    → (exec_owned w max_size text).after.objects.shapes ≡ w.objects.shapes
unfolding exec_owned
owned_shapes w max_size text = reset_shapes w max_size text w.reset (reset_data text)

-- ---- the ledger stays, and the queue

pub record AreAlike (old new : Device) : Type 0 where
  pub shapes : new.router.objects.shapes ≡ old.router.objects.shapes
  pub ledger : is_some new.ledger ≡ is_some old.ledger
  pub queue : is_some new.router.queue ≡ is_some old.router.queue

mapped : {A : Type 0} (f : A → A) (o : Option A) → is_some (option_map f o) ≡ is_some o
mapped f None = refl
mapped f (Some x) = refl

turn_alike : (f : Fate) (device : Device) (max_size : ℕ) (text : List ℕ)
    → let t = turn_by objects_after objects_answer f device.ledger device.router max_size text in
    (t.router.objects.shapes ≡ device.router.objects.shapes) × (is_some t.ledger ≡ is_some device.ledger)
turn_alike Passed device max_size text = (owned_shapes device.router max_size text, refl)
turn_alike (Served service (Replies reply)) device max_size text = (refl, refl)
turn_alike (Served service (Executes command)) device max_size text = (
  elim (is_barred command.request) as (λ t. (if t then device.router
      else objects_after device.router 480 command.request).objects.shapes ≡ device.router.objects.shapes) [
        | true ↦ refl
        | false ↦ owned_shapes device.router 480 command.request
      ],
  mapped _ device.ledger,
)
turn_alike (Served service (Queues command ticket)) device max_size text = (
  elim (is_barred command.request) as (λ t. (if t then device.router
      else objects_after device.router 480 command.request).objects.shapes ≡ device.router.objects.shapes) [
        | true ↦ refl
        | false ↦ owned_shapes device.router 480 command.request
      ],
  mapped _ device.ledger,
)
turn_alike (Served service (Frees originator)) device max_size text = (refl, mapped _ device.ledger)

-- ---- the device's own writes

data_shapes : (m : Contents) (instance offset : ℕ) (bytes : List ℕ)
    → (unwrap_or (device_write m instance offset bytes) m).shapes ≡ m.shapes
unfolding device_write
data_shapes m instance offset bytes = by_shape (shape_at instance m.shapes.assemblies)
  where
    by_shape : (s : Option Shape) → (unwrap_or (with_data_of m instance offset bytes s) m).shapes ≡ m.shapes
    by_shape None = refl
    by_shape (Some s) =
        elim (nat_le (offset + length bytes) (length (bytes_at m ASSEMBLY instance 3)))
        as (λ t. (unwrap_or (if t then
        Some (with_value m ASSEMBLY instance 3 (with_bytes_at (bytes_at m ASSEMBLY instance 3) offset bytes))
        else None) m).shapes ≡ m.shapes) [ true ↦ refl | false ↦ refl ]

object_shapes : (m : Contents) (class instance attribute offset : ℕ) (bytes : List ℕ)
    → (unwrap_or (object_write m class instance attribute offset bytes) m).shapes ≡ m.shapes
unfolding object_write
object_shapes m class instance attribute offset bytes =
    by_attribute (option_and_then (λ o. attribute_at attribute o.attributes) (object_at class instance m.shapes.objects))
  where
    by_value : (v : Option (List ℕ))
        → (unwrap_or (option_map (with_value m class instance attribute) v) m).shapes ≡ m.shapes
    by_value None = refl
    by_value (Some v) = refl

    by_attribute : (a : Option AttributeShape)
        → (unwrap_or (with_attribute_by (from_offset offset bytes) m class instance attribute a) m).shapes ≡ m.shapes
    by_attribute None = refl
    by_attribute (Some a) = by_value (from_offset offset bytes a.kind (bytes_at m class instance attribute))

attribute_shapes : (m : Contents) (class instance attribute offset : ℕ) (bytes : List ℕ)
    → (unwrap_or (attribute_write m class instance attribute offset bytes) m).shapes ≡ m.shapes
attribute_shapes m class instance attribute offset bytes =
    elim ((class == ASSEMBLY) && (attribute == 3)) as (λ t. (unwrap_or (if t then device_write m instance offset bytes
    else object_write m class instance attribute offset bytes) m).shapes ≡ m.shapes) [
      | true ↦ data_shapes m instance offset bytes
      | false ↦ object_shapes m class instance attribute offset bytes
    ]

-- a command that is withdrawn leaves the objects as they are
pub found-objects : (text : List ℕ) (device : Device) → (found_by text device).router.objects ≡ device.router.objects
found-objects text device =
    by-ticket (λ d ticket. d.router.objects ≡ device.router.objects) device text refl (λ ledger w is facts. refl)
    (λ ledger w ticket is facts of not_handed some.
    ap (λ (r : OwnedState). r.objects) (finished-router ticket withdrawal_result device))

write_shapes : (write : OwnWrite) (device : Device)
    → (device_written write device).router.objects.shapes ≡ device.router.objects.shapes
write_shapes (WritesData instance offset bytes) device = data_shapes device.router.objects instance offset bytes
write_shapes (WritesAttribute class instance attribute offset bytes) device =
    attribute_shapes device.router.objects class instance attribute offset bytes
write_shapes (SetsStatus status) device = refl
write_shapes (SetsState state) device = refl
write_shapes (Prepares reply) device = refl
write_shapes (Settles originator number reply) device = refl
write_shapes (Finishes ticket reply) device = refl
write_shapes (Marks ticket) device = refl
write_shapes (Withdraws request) device = ap (λ (m : Contents). m.shapes) (found-objects request device)

finished_alike : (ticket : ℕ) (old new : Option LedgerState) → IsFinished ticket old new → is_some new ≡ is_some old
finished_alike ticket old new Unchanged = refl
finished_alike ticket old new (Completed reply) = mapped (λ ledger. completed ledger ticket reply) old

write_ledger : (write : OwnWrite) (device : Device) → is_some (ledger_written write device) ≡ is_some device.ledger
write_ledger (WritesData instance offset bytes) device = refl
write_ledger (WritesAttribute class instance attribute offset bytes) device = refl
write_ledger (SetsStatus status) device = refl
write_ledger (SetsState state) device = refl
write_ledger (Prepares reply) device = refl
write_ledger (Settles originator number reply) device =
    mapped (λ ledger. settled ledger originator number reply) device.ledger
write_ledger (Finishes ticket reply) device =
    finished_alike ticket device.ledger (ledger_written (Finishes ticket reply) device)
    (finished-ledger ticket reply device)
write_ledger (Marks ticket) device = refl
write_ledger (Withdraws request) device =
    found-ledger (λ l. is_some l ≡ is_some device.ledger) device request (λ l originator number same. same)
    (λ l ticket reply same. same) refl

-- ---- all steps

step_some : (device : Device) (step : DeviceStep)
    → is_some (device_after_step device step).router.queue ≡ is_some device.router.queue
step_some device step =
    ap is_some (step-queue device step)
    ∙ mapped (λ queue. after_steps queue (queue_steps_by_step device step)) device.router.queue

pub step_alike : (device : Device) (step : DeviceStep) → AreAlike device (device_after_step device step)
step_alike device (Requested request) =
    let t = turn_alike (fate owned_standing device.ledger device.router request.0 request.1) device request.0 request.1 in
    record { shapes = t.0; ledger = t.1; queue = step_some device (Requested request) }
step_alike device (WrittenBy write) = record {
  shapes = write_shapes write device;
  ledger = write_ledger write device;
  queue = step_some device (WrittenBy write);
}

pub steps_alike : (device : Device) (steps : List DeviceStep) → AreAlike device (device_after device steps)
steps_alike device [] = record { shapes = refl; ledger = refl; queue = refl }
steps_alike device (step ∷ steps) =
    let first = step_alike device step in
    let rest = steps_alike (device_after_step device step) steps in
    record {
      shapes = rest.shapes ∙ first.shapes;
      ledger = rest.ledger ∙ first.ledger;
      queue = rest.queue ∙ first.queue;
    }

-- ---- the keys

value_keys : (m n : Contents) (names : List AttributeName)
    → keys_of (map pair_of (map (value_entry m) names)) ≡ keys_of (map pair_of (map (value_entry n) names))
value_keys m n [] = refl
value_keys m n (name ∷ names) =
    ap (λ keys. key_of name.class name.instance name.attribute ∷ keys) (value_keys m n names)

object_keys : (m n : Contents) (v w : Bool) → n.shapes ≡ m.shapes
    → keys_of (versioned_objects n w) ≡ keys_of (versioned_objects m v)
object_keys m n v w same =
    ap (λ shapes. key_of IDENTITY 1 0 ∷ keys_of (map pair_of (map (value_entry n) (kept_names shapes)))) same
    ∙ ap (λ keys. key_of IDENTITY 1 0 ∷ keys) (value_keys n m (kept_names m.shapes))

first_keys : (key : ℕ → ℕ) (one other : ℕ → List ℕ) (count : ℕ)
    → keys_of (first_of key one count) ≡ keys_of (first_of key other count)
first_keys key one other zero = refl
first_keys key one other (suc count) =
    map-append (λ (entry : ℕ × List ℕ). entry.0) (first_of key one count) ((key count, one count) ∷ [])
    ∙ ap (λ keys. keys ++ key count ∷ []) (first_keys key one other count)
    ∙ sym (map-append (λ (entry : ℕ × List ℕ). entry.0) (first_of key other count) ((key count, other count) ∷ []))

ledger_keys : (l k : Option LedgerState) → is_some k ≡ is_some l → keys_of (saved_ledger k) ≡ keys_of (saved_ledger l)
ledger_keys None None same = refl
ledger_keys None (Some k) same = absurd (cc)
ledger_keys (Some l) None same = absurd (cc)
ledger_keys (Some l) (Some k) same = first_keys ledger_key (ledger_bytes k) (ledger_bytes l) ENTRIES

queue_keys : (q r : Option QueueState) → is_some r ≡ is_some q → keys_of (saved_queue r) ≡ keys_of (saved_queue q)
queue_keys None None same = refl
queue_keys None (Some r) same = absurd (cc)
queue_keys (Some q) None same = absurd (cc)
queue_keys (Some q) (Some r) same = first_keys queue_key (queue_bytes r) (queue_bytes q) QUEUE_ENTRIES

-- the keys of all entries by those of the parts
all_keys : (m : Contents) (l : Option LedgerState) (q : Option QueueState)
    → keys_of (saved_device m l q)
    ≡ keys_of (versioned_objects m (needs_version_2 q l)) ++ (keys_of (saved_ledger l) ++ keys_of (saved_queue q))
all_keys m l q =
    let values = versioned_objects m (needs_version_2 q l) in
    map-append (λ (entry : ℕ × List ℕ). entry.0) values (saved_ledger l ++ saved_queue q)
    ∙ ap (λ keys. keys_of values ++ keys)
    (map-append (λ (entry : ℕ × List ℕ). entry.0) (saved_ledger l) (saved_queue q))

pub device_keys : (m n : Contents) (l k : Option LedgerState) (q r : Option QueueState) → n.shapes ≡ m.shapes
    → is_some k ≡ is_some l → is_some r ≡ is_some q → keys_of (saved_device n k r) ≡ keys_of (saved_device m l q)
device_keys m n l k q r shapes ledger queue =
    let old = needs_version_2 q l in
    let values = keys_of (versioned_objects m old) in
    all_keys n k r
    ∙ ap (λ keys. keys ++ (keys_of (saved_ledger k) ++ keys_of (saved_queue r)))
    (object_keys m n old (needs_version_2 r k) shapes)
    ∙ ap (λ keys. values ++ (keys ++ keys_of (saved_queue r))) (ledger_keys l k ledger)
    ∙ ap (λ keys. values ++ (keys_of (saved_ledger l) ++ keys)) (queue_keys q r queue)
    ∙ sym (all_keys m l q)

pub keys_stay : (a : AdapterState) (calls : List Call) → adapter_keys (after_calls a calls) ≡ adapter_keys a
keys_stay a calls =
    let old = a.state.shared.objects in
    let steps = steps_of_calls a calls in
    let new = device_after old steps in
    let alike = steps_alike old steps in
    ap (λ (device : Device). keys_of (saved_device device.router.objects device.ledger device.router.queue))
    (calls-end a calls)
    ∙ device_keys old.router.objects new.router.objects old.ledger new.ledger old.router.queue new.router.queue
    alike.shapes alike.ledger alike.queue
