-- A request that is not a change leaves the device as it was, and asks the owner nothing.
use Rattle.std.proofs.Common.{◌≡◌, ℕ, ◌+◌, ◌-◌, ◌*◌, List, [], ◌∷◌, ◌++◌, map, length, Bool, true, false, cond, not, ◌&&◌, ◌||◌, eqb, nat_lt, Option, Some, None, Result, Ok, Err, refl, sym, ap, subst, ◌∙◌}
use Rattle.std.proofs.lemmas.Bool.{eqb-true, false≢true}
use Rattle.std.specs.Prelude.{⊤}
use Rattle.std.specs.List.{flat_map, list_any, AllByRecursion}
use Rattle.std.specs.Option.{ok_or, option_map}
use Rattle.cip_application.specs.Configuration.{is_taken_class}
use Rattle.cip_bytes.specs.Reading.{◌>>=◌}
use Rattle.cip_bytes.specs.declared.protocol.TheConstants.{IDENTITY, ASSEMBLY, CONNECTION_MANAGER}
use Rattle.cip_ledger.specs.Device.{Device, owned_standing, exec_device}
use Rattle.cip_ledger.specs.Reaching.{listed}
use Rattle.cip_ledger.specs.Requests.{LedgerRequest, ledger_request}
use Rattle.cip_message.specs.LedgerCommand.{Command}
use Rattle.cip_ledger.specs.Runs.{Request as LimitedRequest, command_by, command_given, command_in_data, forgotten_by, forgotten, forgotten_in_data, reached_by}
use Rattle.cip_ledger.specs.Services.{Replies, Executes, Queues, Frees}
use Rattle.cip_ledger.specs.Turn.{Fate, Passed, Served, fate, turn_by}
use Rattle.cip_ledger.proofs.Fates.{Means, fate-means}
use Rattle.cip_ledger.proofs.Forms.{service_first}
use Rattle.cip_message.specs.declared.path.Path.{Path}
use Rattle.cip_message.specs.declared.path.PathFault.{PathFault}
use Rattle.cip_message.specs.declared.request.RequestFault.{RequestFault}
use Rattle.cip_message.specs.declared.request.RequestFault.TheVariants.{PathSize}
use Rattle.cip_message.specs.PathReading.{path_of}
use Rattle.cip_message.specs.Request.{Request, request_of}
use Rattle.cip_objects.specs.declared.status.Refusal.{Refusal}
use Rattle.cip_objects.specs.Contents.{Contents}
use Rattle.cip_objects.specs.Execution.{Outcome, Executed, outcome, perform, with_reply, or_refusal, exec}
use Rattle.cip_objects.specs.ExecutionLaws.{is_outcome}
use Rattle.cip_objects.specs.OwnRequests.{Asked, own_request, is_own_service}
use Rattle.cip_objects.specs.PacketLaws.{run_by, routed_if}
use Rattle.cip_objects.specs.Packets.{LEAST_ROOM, front_size, packet_of, requests_of, run_packet, run_within, has_router, routed_by, exec_routed}
use Rattle.cip_objects.proofs.Approved.{taken_not_asked}
use Rattle.cip_objects.specs.ReadServices.{service_at}
use Rattle.cip_objects.specs.Service.{service_code, service_in}
use Rattle.cip_objects.specs.Tables.{Shapes, is_counter_class, class_or_first, object_list_services, services_of_object, assembly_list_services, services_of_assembly, services_of, shape_at, object_at}
use Rattle.cip_objects.proofs.Effects.{bound, found_some, goes, chosen_code, read_effect}
use Rattle.cip_objects.proofs.OwnRequests.{unread_request, unread_path, other_request}
use Rattle.cip_owner.specs.Owned.{OwnedState, asks, asked_within, by_owner, exec_owned, is_reset}
use Rattle.cip_owner.specs.OwnedLaws.{exec_owned_unreset, unreset}
use Rattle.enip_adapter.specs.Asks.{asks_by_reached, asks_by_step}
use Rattle.enip_adapter.specs.DeviceRuns.{Requested, objects_after, objects_answer}
use Rattle.enip_adapter.proofs.ListLemmas.{both}
use Rattle.enip_adapter.specs.Rights.{service_of, is_change_service, is_path_to_ledger, is_to_ledger, is_read_service, is_ledger_read, is_single_change, any_change, are_changes, is_changing_packet, is_change}

-- A request that is not a change has another service, or is one to the command ledger that only reads.
data Reads (text : List ℕ) : Type 0 where
  Another : is_change_service (service_of text) ≡ false → Reads text
  ReadsLedger : is_ledger_read text ≡ true → Reads text

reads : (text : List ℕ) → is_single_change text ≡ false → Reads text
unfolding is_single_change
reads text e = go (is_change_service (service_of text)) (is_ledger_read text) refl refl e
  where
    go : (c g : Bool) → is_change_service (service_of text) ≡ c → is_ledger_read text ≡ g → c && not g ≡ false → Reads text
    go false g s t e = Another s
    go true true s t e = ReadsLedger t
    go true false s t e = absurd (cc)

-- And none of its requests is a change if it is a packet.
record OnlyReads (text : List ℕ) : Type 0 where
  single : Reads text
  packet : is_changing_packet (packet_of text) ≡ false

none_of_both : (a b : Bool) → a || b ≡ false → (a ≡ false) × (b ≡ false)
none_of_both false b e = (refl, e)
none_of_both true b e = absurd (cc)

only-reads : (text : List ℕ) → is_change text ≡ false → OnlyReads text
unfolding is_change
only-reads text e =
    let none = none_of_both (is_single_change text) (is_changing_packet (packet_of text)) e in
    record { single = reads text none.0; packet = none.1 }

parts : (a b : Bool) → a && b ≡ true → (a ≡ true) × (b ≡ true)
parts true true e = (refl, refl)
parts true false e = absurd (cc)
parts false b e = absurd (cc)

-- Its service is none of those that change, except the two of the ledger that only read.
not-service : (text : List ℕ) (n : ℕ) → Reads text → is_change_service n ≡ true → is_read_service n ≡ false
    → service_of text ≡ n → ⊥
not-service text n (Another s) is other e = false≢true (sym s ∙ (ap is_change_service e ∙ is))
not-service text n (ReadsLedger g) is other e =
    false≢true (sym other ∙ (ap is_read_service (sym e) ∙ (parts (is_read_service (service_of text)) _ g).0))

-- ---- what the owner executes

same_request : (x y : Request) → ◌≡◌ {A = Result Request RequestFault} (Ok x) (Ok y) → x ≡ y
same_request x y e = cc

service-read : (text : List ℕ) (q : Request) → request_of text ≡ Ok q → q.service ≡ service_of text
unfolding request_of
service-read [] q e = absurd (cc)
service-read (service ∷ []) q e = absurd (cc)
service-read (service ∷ words ∷ rest) q e = go (nat_lt (length rest) (2 * words)) _ refl e
  where
    go : (short : Bool) (x : Request) → x.service ≡ service
        → cond {A = Result Request RequestFault} short (Err PathSize) (Ok x) ≡ Ok q → q.service ≡ service
    go true x same e = absurd (cc)
    go false x same e = ap (λ (r : Request). r.service) (sym (same_request x q e)) ∙ same

own-of : (a b c d x f : Bool) → a || b || c || d || x || f ≡ false → d || f ≡ false
own-of true b c d x f e = absurd (cc)
own-of false true c d x f e = absurd (cc)
own-of false false true d x f e = absurd (cc)
own-of false false false true x f e = absurd (cc)
own-of false false false false true f e = absurd (cc)
own-of false false false false false true e = absurd (cc)
own-of false false false false false false e = refl

own-none : (m : Contents) (text : List ℕ) → Reads text → own_request m text ≡ None
own-none m text reading = by-request (request_of text) refl
  where
    by-path : (q : Request) → request_of text ≡ Ok q → (p : Result Path PathFault) → path_of q.path ≡ p → Reads text
        → own_request m text ≡ None
    by-path q e (Err fault) f r = unread_path m text q fault e f
    by-path q e (Ok p) f (Another s) =
        other_request m text q e
        (ap (λ n. eqb n 0x10 || is_own_service n) (service-read text q e)
        ∙ own-of (eqb (service_of text) 0x02) (eqb (service_of text) 0x04) (eqb (service_of text) 0x05)
        (eqb (service_of text) 0x10) (eqb (service_of text) 0x19) (is_own_service (service_of text)) s)
    by-path q e (Ok p) f (ReadsLedger g) =
        let to : is_path_to_ledger (Ok p) ≡ true
        = ap is_path_to_ledger (sym f)
        ∙ (ap is_to_ledger (sym e) ∙ (parts (is_read_service (service_of text)) (is_to_ledger (request_of text)) g).1) in
        taken_not_asked m text q p e f (ap (is_taken_class m.shapes.has_counter) (eqb-true p.class 0x65 to))

    by-request : (q : Result Request RequestFault) → request_of text ≡ q → own_request m text ≡ None
    by-request (Err fault) e = unread_request m text fault e
    by-request (Ok q) e = by-path q e (path_of q.path) refl reading

-- ---- the objects

-- The type of what a function takes. The objects' services have no name outside of their crate.
abbrev Taken : {A B : Type 0} → (A → B) → Type 0
Taken {A} f = A

abbrev Service : Type 0
Service = Taken service_code

-- The services of the objects that change something.
abbrev changes : ℕ → Bool
changes n = eqb n 0x04 || eqb n 0x10 || eqb n 0x19 || eqb n 0x32 || eqb n 0x33

-- The service leaves the objects as they are, unless it is one of these.
abbrev Stays : Service → Type 0
Stays s =
    changes (service_code s) ≡ false → (m : Contents) (path : Path) (content : List ℕ) (o : Outcome)
    → perform m s path content ≡ Ok o → o.after ≡ m

abbrev AllStay : Option (List Service) → Type 0
AllStay None = ⊤
AllStay (Some services) = AllByRecursion Stays services

first-stays : (instance : ℕ) (services : List Service) → AllByRecursion Stays services
    → AllStay (class_or_first instance services)
first-stays instance services all =
    both AllStay (eqb instance 0) _ _ ((λ h m path content o e. read_effect m _ o e), tt)
    (both AllStay (eqb instance 1) _ _ all tt)

mapped-stay : {X : Type 0} (o : Option X) (services : X → List Service) → ((x : X) → AllByRecursion Stays (services x))
    → AllStay (option_map services o)
mapped-stay None services all = tt
mapped-stay (Some x) services all = all x

-- those that an object may have
optional-stay : (there : Bool) (services : List Service) → AllByRecursion Stays services
    → AllByRecursion Stays (cond there services [])
optional-stay true services all = all
optional-stay false services all = tt

none_changes : {X : Type 0} → true ≡ false → X
none_changes e = absurd (cc)

-- Each service that an instance of any class offers.
offered-stay : (shapes : Shapes) (class instance : ℕ) → AllStay (services_of shapes class instance)
unfolding services_of
offered-stay shapes class instance =
    both AllStay (eqb class IDENTITY) _ _
    (first-stays instance _
    ((λ h m path content o e. read_effect m _ o e), ((λ h m path content o e. read_effect m _ o e), ((λ h m path content o e. read_effect m _ o e), tt))))
    (both AllStay (eqb class ASSEMBLY) _ _
    (both AllStay (eqb instance 0) _ _ ((λ h m path content o e. read_effect m _ o e), tt)
    (mapped-stay (shape_at instance shapes.assemblies) services_of_assembly
    (λ s. (
      (λ h m path content o e. read_effect m _ o e),
      (
        (λ h m path content o e. read_effect m _ o e),
        (
          (λ h. none_changes h),
          (
            (λ h m path content o e. read_effect m _ o e),
            (
              (λ h. none_changes h),
              optional-stay s.lists assembly_list_services ((λ h. none_changes h), ((λ h m path content o e. read_effect m _ o e), tt)),
            ),
          ),
        ),
      ),
    ))))
    (both AllStay (eqb class CONNECTION_MANAGER) _ _ (both AllStay (eqb instance 1) _ _ tt tt)
    (both AllStay (is_counter_class shapes class) _ _
    (first-stays instance _
    ((λ h. none_changes h), ((λ h. none_changes h), ((λ h m path content o e. read_effect m _ o e), ((λ h m path content o e. read_effect m _ o e), ((λ h. none_changes h), tt))))))
    (both AllStay (eqb instance 0) _ _
    (both AllStay (list_any (λ o. eqb o.class class) shapes.objects) _ _
    ((λ h m path content o e. read_effect m _ o e), tt) tt)
    (mapped-stay (object_at class instance shapes.objects) services_of_object
    (λ s. (
      (λ h m path content o e. read_effect m _ o e),
      (
        (λ h m path content o e. read_effect m _ o e),
        (
          (λ h m path content o e. read_effect m _ o e),
          (
            (λ h. none_changes h),
            optional-stay s.lists object_list_services ((λ h. none_changes h), tt),
          ),
        ),
      ),
    )))))))

same_service : (x y : Service) → ◌≡◌ {A = Option Service} (Some x) (Some y) → x ≡ y
same_service x y e = cc

found-stays : (b : Bool) (x s : Service) (rest : Option Service) → Stays x → (rest ≡ Some s → Stays s)
    → cond b (Some x) rest ≡ Some s → Stays s
found-stays true x s rest here later e = subst Stays (same_service x s e) here
found-stays false x s rest here later e = later e

listed-stays : (code : ℕ) (services : List Service) (s : Service) → AllByRecursion Stays services
    → service_in code services ≡ Some s → Stays s
listed-stays code [] s all e = absurd (cc)
listed-stays code (x ∷ xs) s all e =
    found-stays (eqb (service_code x) code) x s (service_in code xs) all.0 (listed-stays code xs s all.1) e

chosen-stays : (shapes : Shapes) (class instance code : ℕ) (s : Service) → service_at shapes class instance code ≡ Ok s
    → Stays s
unfolding service_at
chosen-stays shapes class instance code s e =
    let offered = bound (ok_or (services_of shapes class instance) _) _ s e in
    listed-stays code offered.value s
    (subst AllStay (found_some (services_of shapes class instance) _ offered.value offered.first)
    (offered-stay shapes class instance))
    (found_some (service_in code offered.value) _ s offered.rest)

-- A service that is none of these five.
none-of : (service : ℕ) (l a b c d : Bool) → eqb service 0x04 ≡ l → eqb service 0x10 ≡ a → eqb service 0x19 ≡ b
    → eqb service 0x32 ≡ c → eqb service 0x33 ≡ d
    → ((n : ℕ) → is_change_service n ≡ true → is_read_service n ≡ false → service ≡ n → ⊥) → l || a || b || c || d ≡ false
none-of service true a b c d k e f g h not = absurd (not 0x04 refl refl (eqb-true service 0x04 k))
none-of service false true b c d k e f g h not = absurd (not 0x10 refl refl (eqb-true service 0x10 e))
none-of service false false true c d k e f g h not = absurd (not 0x19 refl refl (eqb-true service 0x19 f))
none-of service false false false true d k e f g h not = absurd (not 0x32 refl refl (eqb-true service 0x32 g))
none-of service false false false false true k e f g h not = absurd (not 0x33 refl refl (eqb-true service 0x33 h))
none-of service false false false false false k e f g h not = refl

reads-stay : (text : List ℕ) (code : ℕ) → Reads text → code ≡ service_of text → changes code ≡ false
reads-stay text code r same =
    none-of code (eqb code 0x04) (eqb code 0x10) (eqb code 0x19) (eqb code 0x32) (eqb code 0x33) refl refl refl refl refl
    (λ n is other e. not-service text n r is other (sym same ∙ e))

exec-unchanged : (m : Contents) (max_size : ℕ) (text : List ℕ) → Reads text → (exec m max_size text).after ≡ m
unfolding exec
exec-unchanged m max_size text r = go (outcome m text >>= with_reply max_size text) refl
  where
    go : (x : Result Executed Refusal) → (outcome m text >>= with_reply max_size text) ≡ x → (or_refusal m text x).after ≡ m
    go (Err s) e = refl
    go (Ok x) e =
        let is = is_outcome max_size text (outcome m text) x e in
        let g = goes m text is.made is.is_made in
        is.after
        ∙ chosen-stays m.shapes g.path.class g.path.instance g.request.service g.service g.is_chosen
        (reads-stay text (service_code g.service) r
        (chosen_code m.shapes g.path.class g.path.instance g.request.service g.service g.is_chosen
        ∙ service-read text g.request g.is_request))
        m g.path g.request.data is.made g.is_performed

run-unchanged : (m : Contents) (room : ℕ) (requests : List (List ℕ)) → any_change requests ≡ false
    → (run_packet m room requests).after ≡ m
run-unchanged m room [] e = refl
run-unchanged m room (request ∷ requests) e =
    let none = none_of_both (is_single_change request) (any_change requests) e in
    let now = exec m (room - LEAST_ROOM * length requests) request in
    run-unchanged now.after (room - length now.answer) requests none.1
    ∙ exec-unchanged m (room - LEAST_ROOM * length requests) request (reads request none.0)

packet-unchanged : (m : Contents) (max_size : ℕ) (text : List ℕ) (r : Result (List (List ℕ)) Refusal)
    → are_changes r ≡ false → (or_refusal m text (r >>= run_within m max_size text)).after ≡ m
packet-unchanged m max_size text (Err s) e = refl
packet-unchanged m max_size text (Ok requests) e =
    by (nat_lt max_size (front_size (length requests) + LEAST_ROOM * length requests))
  where
    by : (short : Bool) → (or_refusal m text (run_by short m max_size text requests)).after ≡ m
    by true = refl
    by false = run-unchanged m (max_size - front_size (length requests)) requests e

routed-unchanged : (m : Contents) (max_size : ℕ) (text : List ℕ) → OnlyReads text
    → (exec_routed m max_size text).after ≡ m
unfolding exec_routed
routed-unchanged m max_size text r = by (packet_of text) r.packet
  where
    by_router : (content : List ℕ) (router : Bool) → are_changes (requests_of content) ≡ false
        → (routed_if router m max_size text content).after ≡ m
    by_router content true e = packet-unchanged m max_size text (requests_of content) e
    by_router content false e = exec-unchanged m max_size text r.single

    by : (packet : Option (List ℕ)) → is_changing_packet packet ≡ false → (routed_by m max_size text packet).after ≡ m
    by None e = exec-unchanged m max_size text r.single
    by (Some content) e = by_router content (has_router m.shapes) e

-- A Reset has service 0x05.
reset-none : (w : OwnedState) (text : List ℕ) → Reads text → is_reset w text ≡ false
reset-none w text r =
    unreset w text
    (λ q path e f service class instance. not-service text 0x05 r refl refl (sym (service-read text q e) ∙ service))

owned-unchanged : (w : OwnedState) (max_size : ℕ) (text : List ℕ) → OnlyReads text
    → (exec_owned w max_size text).after ≡ w
owned-unchanged w max_size text r =
    ap (λ done. done.after) (exec_owned_unreset w max_size text (reset-none w text r.single))
    ∙ ap (λ own. (by_owner w max_size text own).after) (own-none w.objects text r.single)
    ∙ ap (λ m. let o : OwnedState = record w { objects = m } in o) (routed-unchanged w.objects max_size text r)

-- ---- the ledger

ledger-service : (text : List ℕ) (asked : LedgerRequest) → ledger_request text ≡ Some asked → asked.service ≡ service_of text
unfolding ledger_request request_of
ledger-service [] asked e = absurd (cc)
ledger-service (service ∷ rest) asked e = service_first (service ∷ rest) asked e

-- Only a test that passes gives something.
only-passed : {A : Type 0} (b : Bool) (o : Option A) (x : A) → cond b o None ≡ Some x → b ≡ true
only-passed true o x e = refl
only-passed false o x e = absurd (cc)

not-executed : (request : LimitedRequest) (asked : LedgerRequest) (command : Command)
    → Reads request.1 → ledger_request request.1 ≡ Some asked → command_given request ≡ Some command → ⊥
not-executed request asked command r is given =
    let once = only-passed (eqb asked.instance 1 && eqb asked.service 0x4b) (command_in_data asked.data) command
    (ap command_by (sym is) ∙ given) in
    not-service request.1 0x4b r refl refl
    (sym (ledger-service request.1 asked is) ∙ eqb-true asked.service 0x4b (parts (eqb asked.instance 1) _ once).1)

not-freed : (request : LimitedRequest) (asked : LedgerRequest) (named : ℕ × ℕ) → Reads request.1
    → ledger_request request.1 ≡ Some asked → forgotten request ≡ Some named → ⊥
not-freed request asked named r is given =
    let forgets = only-passed (eqb asked.instance 1 && eqb asked.service 0x4d) (forgotten_in_data asked.data) named
    (ap forgotten_by (sym is) ∙ given) in
    not-service request.1 0x4d r refl refl
    (sym (ledger-service request.1 asked is) ∙ eqb-true asked.service 0x4d (parts (eqb asked.instance 1) _ forgets).1)

abbrev left : Device → LimitedRequest → Fate → Device
left device request f = record {
  ledger = (turn_by objects_after objects_answer f device.ledger device.router request.0 request.1).ledger;
  router = (turn_by objects_after objects_answer f device.ledger device.router request.0 request.1).router;
}

by-fate : (device : Device) (request : LimitedRequest) (f : Fate) → Means device.ledger request f → OnlyReads request.1
    → left device request f ≡ device
by-fate device request Passed means r =
    ap (λ o. let d : Device = record { ledger = device.ledger; router = o } in d)
    (owned-unchanged device.router request.0 request.1 r)
by-fate device request (Served service (Replies reply)) means r = refl
by-fate device request (Served service (Executes command)) means r =
    absurd (not-executed request means.asked command r.single means.asked_is means.means.given_is)
by-fate device request (Served service (Queues command ticket)) means r =
    absurd (not-executed request means.asked command r.single means.asked_is means.means.given_is)
by-fate device request (Served service (Frees originator)) means r =
    absurd (not-freed request means.asked _ r.single means.asked_is means.means.named_is)

pub unchanged : (device : Device) (max_size : ℕ) (request : List ℕ) → is_change request ≡ false
    → (exec_device device max_size request).after ≡ device
unchanged device max_size request e =
    by-fate device (max_size, request) (fate owned_standing device.ledger device.router max_size request)
    (fate-means owned_standing device.ledger device.router (max_size, request))
    (only-reads request e)

-- ---- what is asked

unasked : (m : Contents) (max_size : ℕ) (text : List ℕ) → Reads text → listed (asks m max_size text) ≡ []
unfolding asks
unasked m max_size text r = ap (λ own. listed (asked_within max_size own)) (own-none m text r)

abbrev asked_of : Device → List LimitedRequest → List Asked
asked_of device requests = flat_map (asks_by_reached device.router.objects) (map Requested requests)

asked-by-fate : (device : Device) (request : LimitedRequest) (f : Fate) → Means device.ledger request f → Reads request.1
    → asked_of device (reached_by objects_after objects_answer f request ++ []) ≡ []
asked-by-fate device request Passed means r =
    ap (λ xs. xs ++ []) (unasked device.router.objects request.0 request.1 r)
asked-by-fate device request (Served service (Replies reply)) means r = refl
asked-by-fate device request (Served service (Executes command)) means r =
    absurd (not-executed request means.asked command r means.asked_is means.means.given_is)
asked-by-fate device request (Served service (Queues command ticket)) means r =
    absurd (not-executed request means.asked command r means.asked_is means.means.given_is)
asked-by-fate device request (Served service (Frees originator)) means r = refl

pub nothing-asked : (device : Device) (max_size : ℕ) (request : List ℕ) → is_change request ≡ false
    → asks_by_step device (Requested (max_size, request)) ≡ []
nothing-asked device max_size request e =
    asked-by-fate device (max_size, request) (fate owned_standing device.ledger device.router max_size request)
    (fate-means owned_standing device.ledger device.router (max_size, request))
    (only-reads request e).single
