-- Set_Attribute_List is the run of its single sets.
use Rattle.std.proofs.Common.{◌≡◌, ℕ, suc, ◌≤◌, eqb, false, ◌&&◌, nat_lt, List, [], ◌∷◌, ◌++◌, length, map, drop}
use Rattle.std.proofs.Common.{Option, Some, Result, Ok, Err, refl, sym, ap, ◌∙◌, arith}
use Rattle.std.specs.Prelude.{is_ok}
use Rattle.std.specs.List.{list_all}
use Rattle.std.proofs.lemmas.Bool.Decides.{nat_tests}
use Rattle.byteorder.specs.Endian.{little_number}
use Rattle.cip_bytes.specs.Numbers.{le}
use Rattle.cip_bytes.specs.Reading.{◌>>=◌}
use Rattle.cip_bytes.specs.declared.protocol.GeneralStatus.TheVariants.{Success}
use Rattle.cip_message.specs.declared.path.Path.{Path}
use Rattle.cip_message.specs.declared.path.PathFault.{PathFault}
use Rattle.cip_message.specs.declared.request.RequestFault.{RequestFault}
use Rattle.cip_message.specs.PathReading.{path_of}
use Rattle.cip_message.specs.Request.{Request}
use Rattle.cip_objects.specs.declared.service.Service.{Service}
use Rattle.cip_objects.specs.declared.service.Service.TheVariants.{GetAttributesAll, GetAttributeList, SetAttributeList, GetAttributeSingle, SetAttributeSingle, GetMember, SetMember, Add, Clear}
use Rattle.cip_objects.specs.declared.status.Completion.TheVariants.{Whole}
use Rattle.cip_objects.specs.declared.status.Refusal.{Refusal}
use Rattle.cip_objects.specs.ChangeServices.{Change, set_attribute_single}
use Rattle.cip_objects.specs.Contents.{Contents}
use Rattle.cip_objects.specs.Execution.{Outcome, outcome_of_change, perform, outcome, Executed, with_reply, or_refusal, exec, reply_to, run}
use Rattle.cip_objects.specs.Laws.{IsRequestWith}
use Rattle.cip_objects.specs.Lists.{is_success}
use Rattle.cip_objects.specs.ReadServices.{service_at, list_completion}
use Rattle.cip_message.specs.Router.{general_status}
use Rattle.cip_objects.specs.Service.{service_code}
use Rattle.cip_objects.specs.SetListLaws.{IsSet, AreSets, statuses_of, set_list_law}
use Rattle.cip_objects.specs.SetLists.{Setting, set_one, contents_after, set_status, set_all}
use Rattle.cip_objects.specs.Status.{completion_status}
use Rattle.cip_objects.proofs.Effects.{goes, set_effect, chosen_code}
use Rattle.cip_objects.proofs.Executed.{answered_by}
use Rattle.cip_objects.proofs.ListSets.{SetsList, list_effect, at, read_count, single_offers, after_tables}
use Rattle.cip_objects.proofs.OwnRequests.{outcome_at}
use Rattle.cip_objects.proofs.Refuses.{exec_outcome, no_success}

-- what a single request does, as one set of a list
record Single (m : Contents) (r : Result Change Refusal) (x : Executed) : Type 0 where
  after : x.after ≡ contents_after m r
  status : general_status x.answer ≡ set_status r
  done : eqb (general_status x.answer) 0 ≡ is_ok r

exec_at : (m : Contents) (later : ℕ) (set : List ℕ) (r : Result Outcome Refusal) → outcome m set ≡ r
    → exec m later set ≡ or_refusal m set (r >>= with_reply later set)
unfolding exec
exec_at m later set r e = ap (λ x. or_refusal m set (x >>= with_reply later set)) e

bare_fits : (later : ℕ) (set content : List ℕ) → content ≡ [] → 8 ≤ later
    → nat_lt later (length (reply_to set Success content)) ≡ false
bare_fits later set content e h =
    ap (λ c. nat_lt later (length (reply_to set Success c))) e ∙ (let f : nat_lt later 4 ≡ false = grind (arith, nat_tests) in f)

one : (m : Contents) (p : Path) (s : Setting) (later : ℕ) (set : List ℕ) (r : Result Change Refusal) → set_one m p s ≡ r
    → outcome m set ≡ outcome_of_change r → 8 ≤ later → Single m r (exec m later set)
one m p s later set (Err f) e o h =
    let x = exec_at m later set (Err f) o in
    record {
      after = ap (λ z. z.after) x;
      status = ap (λ z. general_status z.answer) x;
      done = ap (λ z. eqb (general_status z.answer) 0) x ∙ no_success f;
    }
one m p s later set (Ok c) e o h =
    let made : Outcome = record { after = c.after; status = Whole; content = c.content } in
    let bare = (set_effect m (at p s.attribute) s.value c e).answers in
    let x : exec m later set ≡ or_refusal m set (answered_by false set made) =
    exec_at m later set (Ok made) o
    ∙ ap (λ t. or_refusal m set (answered_by t set made)) (bare_fits later set c.content bare h) in
    record {
      after = ap (λ z. z.after) x;
      status = ap (λ z. general_status z.answer) x;
      done = ap (λ z. eqb (general_status z.answer) 0) x;
    }

-- the member of a path does not matter to a set
same_set : (m : Contents) (p : Path) (s : Setting) (member : Option ℕ)
    → set_attribute_single m (record { class = p.class; instance = p.instance; attribute = Some s.attribute; member = member }) s.value
    ≡ set_one m p s
unfolding set_attribute_single
same_set m p s member = refl

set_makes : (m : Contents) (p : Path) (s : Setting) (set : List ℕ) → service_at m.shapes p.class p.instance 0x10 ≡ Ok SetAttributeSingle
    → IsSet p s set → outcome m set ≡ outcome_of_change (set_one m p s)
set_makes m p s set offers g =
    let named : Path = record { class = p.class; instance = p.instance; attribute = Some s.attribute; member = g.member } in
    outcome_at m set (record { service = 0x10; path = g.path; «data» = s.value }) named (Ok SetAttributeSingle) g.sets g.names offers
    ∙ ap outcome_of_change (same_set m p s g.member)

-- the single requests do what the list does
record RunsAs (m : Contents) (p : Path) (settings : List Setting) (sets : List (List ℕ)) (later : ℕ) : Type 0 where
  after : (run m (map (λ set. (later, set)) sets)).after ≡ (set_all m p settings).after
  entries : statuses_of settings (run m (map (λ set. (later, set)) sets)).answers ≡ (set_all m p settings).entries
  complete : list_all is_success (run m (map (λ set. (later, set)) sets)).answers ≡ (set_all m p settings).complete

run_sets : (m : Contents) (p : Path) (settings : List Setting) (sets : List (List ℕ)) (later : ℕ)
    → service_at m.shapes p.class p.instance 0x10 ≡ Ok SetAttributeSingle → AreSets p settings sets → 8 ≤ later
    → RunsAs m p settings sets later
run_sets m p [] [] later offers g h = record { after = refl; entries = refl; complete = refl }
run_sets m p [] (set ∷ sets) later offers g h = absurd g
run_sets m p (s ∷ settings) [] later offers g h = absurd g
run_sets m p (s ∷ settings) (set ∷ sets) later offers g h =
    let r = set_one m p s in
    let now = one m p s later set r refl (set_makes m p s set offers g.0) h in
    let n = contents_after m r in
    let rest = run_sets n p settings sets later
    (ap (λ k. service_at k p.class p.instance 0x10) (after_tables m p s r refl) ∙ offers) g.1 h in
    let requests = map (λ (x : List ℕ). (later, x)) sets in
    let all = (set_all n p settings) in
    record {
      after = ap (λ k. (run k requests).after) now.after ∙ rest.after;
      entries = ap (λ k. (le 2 s.attribute ++ le 2 (general_status (exec m later set).answer)) ++ statuses_of settings (run k requests).answers) now.after
          ∙ ap (λ x. (le 2 s.attribute ++ le 2 x) ++ statuses_of settings (run n requests).answers) now.status
          ∙ ap (λ x. (le 2 s.attribute ++ le 2 (set_status r)) ++ x) rest.entries;
      complete = ap (λ k. eqb (general_status (exec m later set).answer) 0 && list_all is_success (run k requests).answers) now.after
          ∙ ap (λ t. t && list_all is_success (run n requests).answers) now.done
          ∙ ap (λ t. is_ok r && t) rest.complete;
    }

-- a service of code 0x04 is Set_Attribute_List
is_list_service : (s : Service) → service_code s ≡ 0x04 → s ≡ SetAttributeList
is_list_service GetAttributesAll e = absurd (omega arith)
is_list_service GetAttributeList e = absurd (omega arith)
is_list_service SetAttributeList e = refl
is_list_service GetAttributeSingle e = absurd (omega arith)
is_list_service SetAttributeSingle e = absurd (omega arith)
is_list_service GetMember e = absurd (omega arith)
is_list_service SetMember e = absurd (omega arith)
is_list_service Add e = absurd (omega arith)
is_list_service Clear e = absurd (omega arith)

same_request : (q r : Request) → ◌≡◌ {A = Result Request RequestFault} (Ok q) (Ok r) → q ≡ r
same_request q r e = cc

same_path : (q r : Path) → ◌≡◌ {A = Result Path PathFault} (Ok q) (Ok r) → q ≡ r
same_path q r e = cc

same_settings : (x y : List Setting) → ◌≡◌ {A = Result (List Setting) Refusal} (Ok x) (Ok y) → x ≡ y
same_settings x y e = cc

-- what a list that was set has
record WasList (m : Contents) (p : Path) (content : List ℕ) (o : Outcome) : Type 0 where
  offers : service_at m.shapes p.class p.instance 0x04 ≡ Ok SetAttributeList
  sets : SetsList m p content o

was_list : (m : Contents) (list path content : List ℕ) (p : Path) (o : Outcome) → IsRequestWith list 0x04 path content
    → path_of path ≡ Ok p → outcome m list ≡ Ok o → WasList m p content o
was_list m list path content p o e f done =
    let g = goes m list o done in
    let q : g.request ≡ record { service = 0x04; path = path; «data» = content } = same_request g.request _
    (sym g.is_request ∙ e) in
    let here : g.path ≡ p = same_path g.path p (sym g.is_path ∙ ap (λ r. path_of r.path) q ∙ f) in
    let s : g.service ≡ SetAttributeList = is_list_service g.service
    (chosen_code m.shapes g.path.class g.path.instance g.request.service g.service g.is_chosen ∙ ap
    (λ r. r.service) q) in
    let performed : perform m SetAttributeList p content ≡ Ok o = ap (λ k. perform m k p content) (sym s)
    ∙ ap (λ r. perform m g.service p r.data) (sym q) ∙ ap (λ x. perform m g.service x g.request.data) (sym here)
    ∙ g.is_performed in
    record {
      offers = ap (λ x. service_at m.shapes x.class x.instance 0x04) (sym here)
          ∙ ap (λ r. service_at m.shapes g.path.class g.path.instance r.service) (sym q) ∙ g.is_chosen ∙ ap (λ k. Ok k) s;
      sets = list_effect m p content o performed;
    }

length-sets : (p : Path) (settings : List Setting) (sets : List (List ℕ)) → AreSets p settings sets
    → length settings ≡ length sets
length-sets p [] [] g = refl
length-sets p [] (set ∷ sets) g = absurd g
length-sets p (s ∷ settings) [] g = absurd g
length-sets p (s ∷ settings) (set ∷ sets) g = ap suc (length-sets p settings sets g.1)

pub set_list_is_sets : set_list_law
set_list_is_sets m max_size later list path content p settings sets e f r g h fine =
    let x = exec_outcome m max_size list fine in
    let w = was_list m list path content p x.made e f x.is_made in
    let same : w.sets.settings ≡ settings = same_settings w.sets.settings settings (sym w.sets.read ∙ r) in
    let t = run_sets m p settings sets later (single_offers m.shapes p.class p.instance SetAttributeList w.offers) g h in
    let answers = (run m (map (λ (set : List ℕ). (later, set)) sets)).answers in
    let count : little_number 2 content ≡ length sets =
    sym (read_count m.shapes p.class p.instance (little_number 2 content) (drop 2 content) settings r) ∙ length-sets p settings sets g in
    record {
      state = x.after ∙ w.sets.after ∙ ap (λ ss. (set_all m p ss).after) same ∙ sym t.after;
      reply = x.answer
          ∙ ap (λ s. reply_to list (completion_status s) x.made.content)
          (w.sets.status ∙ ap (λ ss. list_completion (set_all m p ss).complete) same ∙ ap list_completion (sym t.complete))
          ∙ ap (λ c. reply_to list (completion_status (list_completion (list_all is_success answers))) c)
          (w.sets.answers ∙ ap (λ ss. le 2 (little_number 2 content) ++ (set_all m p ss).entries) same
          ∙ ap (λ n. le 2 n ++ (set_all m p settings).entries) count
          ∙ ap (λ k. le 2 (length sets) ++ k) (sym t.entries));
    }
