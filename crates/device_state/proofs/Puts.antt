-- The values that are put back, one after another.
use Rattle.std.proofs.Common.{◌≡◌, ℕ, eqb, Bool, true, false, cond, ◌&&◌, List, [], ◌∷◌, ◌++◌, map, Option, Some, None, is_some, unwrap_or, refl, sym, ap, ◌∙◌, subst, arith}
use Rattle.std.specs.List.{AllByRecursion}
use Rattle.std.proofs.lemmas.Bool.{eqb-true}
use Rattle.std.proofs.lemmas.Bool.Decides.{nat_tests}
use Rattle.cip_application.specs.declared.kind.AttributeKind.{AttributeKind}
use Rattle.cip_application.specs.declared.object.AttributeName.{AttributeName}
use Rattle.cip_application.specs.Values.{is_whole}
use Rattle.cip_bytes.specs.declared.protocol.TheConstants.{IDENTITY}
use Rattle.cip_message.specs.declared.ledger_services.TheConstants.{LEDGER}
use Rattle.cip_ledger.specs.Ledger.{LedgerState}
use Rattle.cip_objects.specs.Contents.{Contents, value_at, bytes_at, with_value}
use Rattle.cip_objects.specs.Kept.{kept_kind, with_kept, restored as value_restored}
use Rattle.cip_objects.proofs.ReadAfterSet.{value_at-with_value}
use Rattle.device_state.specs.declared.restoring.Outcome.TheVariants.{Used, Unknown, Unfit}
use Rattle.device_state.specs.Keys.{key_of}
use Rattle.device_state.specs.Laws.{IsName, IsKept}
use Rattle.device_state.specs.Restored.{Done, done, by_name, if_value, with_objects, restored_entry, restored}
use Rattle.device_state.specs.Saved.{State, state_of, Entry, entry_of, value_entry, identity_bytes}
use Rattle.device_state.proofs.KeyLemmas.{name_back}

-- entries that are all used lead from one device to another
pub record Leads (s : State) (entries : List Entry) (t : State) : Type 0 where
  pub used : AllByRecursion (λ outcome. outcome ≡ Used) (restored s entries).outcomes
  pub after : (restored s entries).after ≡ t

pub leads_nowhere : (s : State) → Leads s [] s
leads_nowhere s = record { used = tt; after = refl }

pub leads_on : (s now t : State) (entry : Entry) (entries : List Entry) → restored_entry s entry ≡ done now Used → Leads now entries t → Leads s (entry ∷ entries) t
leads_on s now t entry entries e l = record {
  used = (ap (λ (d : Done State). d.outcome) e, subst (λ x. AllByRecursion (λ outcome. outcome ≡ Used) (restored x entries).outcomes) (sym (ap (λ (d : Done State). d.after) e)) l.used);
  after = ap (λ (d : Done State). (restored d.after entries).after) e ∙ l.after;
}

pub leads_further : (s : State) (entries more : List Entry) (now t : State) → Leads s entries now → Leads now more t → Leads s (entries ++ more) t
leads_further s [] more now t l k = subst (λ x. Leads x more t) (sym l.after) k
leads_further s (entry ∷ entries) more now t l k =
    let d = restored_entry s entry in
    let later = leads_further d.after entries more now t (record { used = l.used.1; after = l.after }) k in
    record { used = (l.used.0, later.used); after = later.after }

-- the contents with a value of others
abbrev pub put : Contents → Contents → AttributeName → Contents
put m f n = with_value f n.class n.instance n.attribute (bytes_at m n.class n.instance n.attribute)

abbrev pub put_all : Contents → Contents → List AttributeName → Contents
put_all m f [] = f
put_all m f (n ∷ names) = put_all m (put m f n) names

-- whether a value can be put back depends on the shapes alone
by_kind : (m f : Contents) (c i a : ℕ) (b : List ℕ) (kind : Option AttributeKind) → is_some (with_kept m c i a b kind) ≡ true → with_kept f c i a b kind ≡ Some (with_value f c i a b)
by_kind m f c i a b None e = absurd (cc)
by_kind m f c i a b (Some kind) e = by_test (is_whole kind b) e
  where
    by_test : (t : Bool) → is_some (cond t (Some (with_value m c i a b)) None) ≡ true → cond t (Some (with_value f c i a b)) None ≡ Some (with_value f c i a b)
    by_test true g = refl
    by_test false g = absurd (cc)

pub value_put : (m f : Contents) (n : AttributeName) (b : List ℕ) → f.shapes ≡ m.shapes → is_some (value_restored m n b) ≡ true → value_restored f n b ≡ Some (with_value f n.class n.instance n.attribute b)
unfolding value_restored
value_put m f n b same e =
    ap (λ s. with_kept f n.class n.instance n.attribute b (kept_kind s n.class n.instance n.attribute)) same
    ∙ by_kind m f n.class n.instance n.attribute b (kept_kind m.shapes n.class n.instance n.attribute) e

-- the entry of a value goes to the objects
entry_goes : (f : Contents) (l : Option LedgerState) (n : AttributeName) (content : List ℕ) → IsName n → restored_entry (state_of f l) (entry_of (key_of n.class n.instance n.attribute) content) ≡ with_objects l (if_value f n (value_restored f n content))
entry_goes f l n content is =
    let s = state_of f l in
    ap (by_name s content) (name_back n.class n.instance n.attribute is.class is.instance is.attribute)
    ∙ by_class (eqb n.class IDENTITY) (eqb n.class LEDGER) _ _ (with_objects l (if_value f n (value_restored f n content))) is.not_identity is.not_ledger
  where
    by_class : (t u : Bool) (x y z : Done State) → t ≡ false → u ≡ false → cond t x (cond u y z) ≡ z
    by_class t u x y z g h = ap (λ b. cond b x (cond u y z)) g ∙ ap (λ b. cond b y z) h

-- the entry of a value that the name can have is used
pub entry_put : (m f : Contents) (l : Option LedgerState) (n : AttributeName) → f.shapes ≡ m.shapes → IsKept m n → restored_entry (state_of f l) (value_entry m n) ≡ done (state_of (put m f n) l) Used
entry_put m f l n same is =
    let content = bytes_at m n.class n.instance n.attribute in
    entry_goes f l n content is.is_name
    ∙ ap (λ o. with_objects l (if_value f n o)) (value_put m f n content same is.value)

-- an entry that was used put its value back
not_used : (t : Bool) → cond t Unfit Unknown ≡ Used → ⊥
not_used true e = absurd (cc)
not_used false e = absurd (cc)

used_value : (f : Contents) (n : AttributeName) (b : List ℕ) (kind : Option AttributeKind) → (if_value f n (with_kept f n.class n.instance n.attribute b kind)).outcome ≡ Used → if_value f n (with_kept f n.class n.instance n.attribute b kind) ≡ done (with_value f n.class n.instance n.attribute b) Used
used_value f n b None e = absurd (not_used (is_some (value_at f n.class n.instance n.attribute)) e)
used_value f n b (Some kind) e = by_test (is_whole kind b) e
  where
    by_test : (t : Bool) → (if_value f n (cond t (Some (with_value f n.class n.instance n.attribute b)) None)).outcome ≡ Used → if_value f n (cond t (Some (with_value f n.class n.instance n.attribute b)) None) ≡ done (with_value f n.class n.instance n.attribute b) Used
    by_test true g = refl
    by_test false g = absurd (not_used (is_some (value_at f n.class n.instance n.attribute)) g)

used_restored : (f : Contents) (n : AttributeName) (b : List ℕ) → (if_value f n (value_restored f n b)).outcome ≡ Used → if_value f n (value_restored f n b) ≡ done (with_value f n.class n.instance n.attribute b) Used
unfolding value_restored
used_restored f n b e = used_value f n b (kept_kind f.shapes n.class n.instance n.attribute) e

pub used_entry : (m f : Contents) (l : Option LedgerState) (n : AttributeName) → IsName n → (restored_entry (state_of f l) (value_entry m n)).outcome ≡ Used → restored_entry (state_of f l) (value_entry m n) ≡ done (state_of (put m f n) l) Used
used_entry m f l n is e =
    let content = bytes_at m n.class n.instance n.attribute in
    let goes = entry_goes f l n content is in
    goes ∙ ap (with_objects l) (used_restored f n content (sym (ap (λ (d : Done State). d.outcome) goes) ∙ e))

pub shapes_stay : (m f : Contents) (names : List AttributeName) → (put_all m f names).shapes ≡ f.shapes
shapes_stay m f [] = refl
shapes_stay m f (n ∷ names) = shapes_stay m (put m f n) names

pub values_lead : (m f : Contents) (l : Option LedgerState) (names : List AttributeName) → f.shapes ≡ m.shapes → AllByRecursion (IsKept m) names → Leads (state_of f l) (map (value_entry m) names) (state_of (put_all m f names) l)
values_lead m f l [] same h = leads_nowhere (state_of f l)
values_lead m f l (n ∷ names) same h =
    leads_on (state_of f l) (state_of (put m f n) l) (state_of (put_all m f (n ∷ names)) l) (value_entry m n) (map (value_entry m) names)
    (entry_put m f l n same h.0) (values_lead m (put m f n) l names same h.1)

pub used_lead : (m f : Contents) (l : Option LedgerState) (names : List AttributeName) → AllByRecursion IsName names → AllByRecursion (λ outcome. outcome ≡ Used) (restored (state_of f l) (map (value_entry m) names)).outcomes → Leads (state_of f l) (map (value_entry m) names) (state_of (put_all m f names) l)
used_lead m f l [] h used = leads_nowhere (state_of f l)
used_lead m f l (n ∷ names) h used =
    let e = used_entry m f l n h.0 used.0 in
    leads_on (state_of f l) (state_of (put m f n) l) (state_of (put_all m f (n ∷ names)) l) (value_entry m n) (map (value_entry m) names) e
    (used_lead m (put m f n) l names h.1
    (subst (λ x. AllByRecursion (λ outcome. outcome ≡ Used) (restored x (map (value_entry m) names)).outcomes) (ap (λ (d : Done State). d.after) e) used.1))

-- the outcomes of entries that follow others
pub used_behind : (s now : State) (entries more : List Entry) → (restored s entries).after ≡ now → AllByRecursion (λ outcome. outcome ≡ Used) (restored s (entries ++ more)).outcomes → AllByRecursion (λ outcome. outcome ≡ Used) (restored now more).outcomes
used_behind s now [] more e used = subst (λ x. AllByRecursion (λ outcome. outcome ≡ Used) (restored x more).outcomes) e used
used_behind s now (entry ∷ entries) more e used = used_behind (restored_entry s entry).after now entries more e used.1

-- what is put back is read again
abbrev pub reads : Contents → AttributeName → List ℕ
reads m n = bytes_at m n.class n.instance n.attribute

tests : (c i a d j b : ℕ) → eqb d c && (eqb j i && eqb b a) ≡ true → (d ≡ c) × (j ≡ i) × (b ≡ a)
tests c i a d j b e =
    let x : eqb d c ≡ true = grind (arith, nat_tests) in
    let y : eqb j i ≡ true = grind (arith, nat_tests) in
    let z : eqb b a ≡ true = grind (arith, nat_tests) in
    (eqb-true d c x, eqb-true j i y, eqb-true b a z)

still_agrees : (m f : Contents) (n q : AttributeName) → reads f q ≡ reads m q → reads (put m f n) q ≡ reads m q
still_agrees m f n q same =
    ap (λ o. unwrap_or o []) (value_at-with_value f n.class n.instance n.attribute (reads m n) q.class q.instance q.attribute)
    ∙ go (eqb q.class n.class && (eqb q.instance n.instance && eqb q.attribute n.attribute)) refl
  where
    go : (t : Bool) → eqb q.class n.class && (eqb q.instance n.instance && eqb q.attribute n.attribute) ≡ t → unwrap_or (cond t (Some (reads m n)) (value_at f q.class q.instance q.attribute)) [] ≡ reads m q
    go true e =
        let p = tests n.class n.instance n.attribute q.class q.instance q.attribute e in
        sym (ap (λ c. bytes_at m c q.instance q.attribute) p.0 ∙ ap (λ i. bytes_at m n.class i q.attribute) p.1 ∙ ap (λ a. bytes_at m n.class n.instance a) p.2)
    go false e = same

all_same : (c i a : ℕ) → eqb c c && (eqb i i && eqb a a) ≡ true
all_same c i a = grind (arith, nat_tests)

put_agrees : (m f : Contents) (n : AttributeName) → reads (put m f n) n ≡ reads m n
put_agrees m f n =
    ap (λ o. unwrap_or o []) (value_at-with_value f n.class n.instance n.attribute (reads m n) n.class n.instance n.attribute
    ∙ ap (λ t. cond t (Some (reads m n)) (value_at f n.class n.instance n.attribute)) (all_same n.class n.instance n.attribute))

keeps_agreeing : (m f : Contents) (names : List AttributeName) (q : AttributeName) → reads f q ≡ reads m q → reads (put_all m f names) q ≡ reads m q
keeps_agreeing m f [] q same = same
keeps_agreeing m f (n ∷ names) q same = keeps_agreeing m (put m f n) names q (still_agrees m f n q same)

pub entries_same : (m f : Contents) (names : List AttributeName) → map (value_entry (put_all m f names)) names ≡ map (value_entry m) names
entries_same m f [] = refl
entries_same m f (n ∷ names) =
    ap (λ b. entry_of (key_of n.class n.instance n.attribute) b ∷ map (value_entry (put_all m (put m f n) names)) names)
    (keeps_agreeing m (put m f n) names n (put_agrees m f n))
    ∙ ap (λ es. value_entry m n ∷ es) (entries_same m (put m f n) names)

-- Identity is not touched
apart : (a n i j b c : ℕ) → eqb n a ≡ false → eqb a n && (eqb i j && eqb b c) ≡ false
apart a n i j b c e = grind (arith, nat_tests)

identity_put : (m f : Contents) (n : AttributeName) (a : ℕ) → eqb n.class IDENTITY ≡ false → bytes_at (put m f n) IDENTITY 1 a ≡ bytes_at f IDENTITY 1 a
identity_put m f n a e =
    ap (λ o. unwrap_or o []) (value_at-with_value f n.class n.instance n.attribute (reads m n) IDENTITY 1 a
    ∙ ap (λ t. cond t (Some (reads m n)) (value_at f IDENTITY 1 a)) (apart IDENTITY n.class 1 n.instance a n.attribute e))

pub identity_stays : (m f : Contents) (names : List AttributeName) → AllByRecursion IsName names → identity_bytes (put_all m f names) ≡ identity_bytes f
identity_stays m f [] h = refl
identity_stays m f (n ∷ names) h =
    let e = h.0.not_identity in
    identity_stays m (put m f n) names h.1
    ∙ ap (λ b. b ++ (bytes_at (put m f n) IDENTITY 1 3 ++ bytes_at (put m f n) IDENTITY 1 6)) (identity_put m f n 1 e)
    ∙ ap (λ b. bytes_at f IDENTITY 1 1 ++ (b ++ bytes_at (put m f n) IDENTITY 1 6)) (identity_put m f n 3 e)
    ∙ ap (λ b. bytes_at f IDENTITY 1 1 ++ (bytes_at f IDENTITY 1 3 ++ b)) (identity_put m f n 6 e)
