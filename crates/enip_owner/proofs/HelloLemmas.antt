-- The first line of the device, part by part.
use Rattle.std.proofs.Common.{◌≡◌, ℕ, ◌+◌, ◌<◌, ◌≤◌, nat_le, max, List, [], ◌∷◌, ◌++◌, length, map, Option, Some, None, Result, Ok, Err, Vec, Global, codes, decimal, Bool, true, false, refl, sym, ap, subst, ◌∙◌, append_assoc, arith, OnOk}
use Rattle.std.specs.Borrow.{Bor}
use Rattle.std.specs.List.{flat_map}
use Rattle.std.specs.declared.alloc.AllocError.{AllocError}
use Rattle.std.proofs.lemmas.Bool.{le-leb, lt-leb}
use Rattle.json.specs.Json as json
use Rattle.json.specs.Json.{Json}
use Rattle.json.specs.Print.{print}
use Rattle.json.specs.Token.{Token, begin_object, end_object, begin_array, end_array, key, string, number}
use Rattle.json.specs.Tree.{json_tokens, items_tokens, depth}
use Rattle.json.specs.Value.{items_of}
use Rattle.json.specs.Written.{Written}
use Rattle.enip_owner.specs.declared.line_buffer.TheConstants.{LINE_LIMIT}
use Rattle.enip_owner.specs.declared.event_fault.EventFault.{EventFault}
use Rattle.enip_owner.specs.declared.event_fault.EventFault.TheVariants as faults
use Rattle.enip_owner.specs.declared.hello.Detail.{Detail}
use Rattle.enip_owner.specs.declared.hello.Detail.TheVariants as details
use Rattle.enip_owner.specs.declared.hello.DescribedAttribute.{DescribedAttribute}
use Rattle.enip_owner.specs.declared.hello.DescribedObject.{DescribedObject}
use Rattle.enip_owner.specs.declared.hello.HelloEvent.{HelloEvent}
use Rattle.enip_owner.specs.Events.{IsWritten, IsLineOf}
use Rattle.enip_owner.specs.Hello.{attribute_json, object_json, hello_json, hello_detail, shorter_detail, object_head, name_tokens, hello_head, device_tokens, listed_tokens, attribute_list, fits}
use Rattle.enip_owner.specs.Parts.{Adds}
use Rattle.enip_owner.proofs.PartLemmas.{items_tokens-map, items_depth-map}

-- ---- tokens that are written one after another

-- Three writes, of which the last one may fail.
pub joined : (r : Result (Unit {0}) AllocError) (old first second new : Written) (a b c : List Token) → first.tokens ≡ old.tokens ++ a
    → first.before ≡ old.before → second.tokens ≡ first.tokens ++ b → second.before ≡ first.before → Adds r second new c
    → Adds r old new (a ++ (b ++ c))
joined (Ok done) old first second new a b c first_is first_same second_is second_same adds = record {
  ok = adds.ok ∙ ap (λ l. l ++ c) second_is ∙ ap (λ l. (l ++ b) ++ c) first_is ∙ append_assoc (old.tokens ++ a) b c
      ∙ append_assoc old.tokens a (b ++ c);
  before = adds.before ∙ second_same ∙ first_same;
}
joined (Err why) old first second new a b c first_is first_same second_is second_same adds =
    record { ok = tt; before = adds.before ∙ second_same ∙ first_same }

-- ---- an object

attributes_tokens : (f : DescribedAttribute → Json) (attributes : List DescribedAttribute)
    → key (codes "attributes") ∷ begin_array ∷ (items_tokens (items_of (map f attributes)) ++ end_object ∷ [])
    ≡ (key (codes "attributes") ∷ begin_array ∷ (flat_map (λ a. json_tokens (f a)) attributes ++ end_array ∷ [])) ++ end_object ∷ []
attributes_tokens f attributes =
    ap (λ l. key (codes "attributes") ∷ begin_array ∷ (l ++ end_object ∷ [])) (items_tokens-map f attributes)

object_named : (name : Option (Bor (List ℕ))) (detail : Detail) (o : DescribedObject) → o.name ≡ name
    → object_head o ++ (name_tokens o.name ++ (attribute_list detail o.attributes.now ++ end_object ∷ [])) ≡ json_tokens (object_json detail o)
object_named None details.Values o is =
    rw is (ap (λ l. object_head o ++ l) (sym (attributes_tokens (attribute_json details.Values) o.attributes.now)))
object_named None details.Types o is =
    rw is (ap (λ l. object_head o ++ l) (sym (attributes_tokens (attribute_json details.Types) o.attributes.now)))
object_named None details.Objects o is = rw is refl
object_named (Some name) details.Values o is =
    rw is (ap (λ l. object_head o ++ key (codes "name") ∷ string name.now ∷ l)
    (sym (attributes_tokens (attribute_json details.Values) o.attributes.now)))
object_named (Some name) details.Types o is =
    rw is (ap (λ l. object_head o ++ key (codes "name") ∷ string name.now ∷ l)
    (sym (attributes_tokens (attribute_json details.Types) o.attributes.now)))
object_named (Some name) details.Objects o is = rw is refl

pub object_tokens : (detail : Detail) (o : DescribedObject)
    → object_head o ++ (name_tokens o.name ++ (attribute_list detail o.attributes.now ++ end_object ∷ [])) ≡ json_tokens (object_json detail o)
object_tokens detail o = object_named o.name detail o refl

-- ---- the device

objects_tokens : (detail : Detail) (h : HelloEvent)
    → key (codes "objects") ∷ begin_array ∷ (flat_map (λ o. json_tokens (object_json detail o)) h.objects.now ++ end_array ∷ end_object ∷ end_object ∷ [])
    ≡ (key (codes "objects") ∷ begin_array ∷ (items_tokens (items_of (map (object_json detail) h.objects.now)) ++ end_object ∷ [])) ++ end_object ∷ []
objects_tokens detail h =
    ap (λ l. key (codes "objects") ∷ begin_array ∷ l)
    (sym (append_assoc (flat_map (λ o. json_tokens (object_json detail o)) h.objects.now) (end_array ∷ []) (end_object ∷ end_object ∷ []))
    ∙ ap (λ l. l ++ end_object ∷ end_object ∷ []) (sym (items_tokens-map (object_json detail) h.objects.now))
    ∙ sym (append_assoc (items_tokens (items_of (map (object_json detail) h.objects.now))) (end_object ∷ []) (end_object ∷ [])))

hello_of_life : (life : Option ℕ) (detail : Detail) (h : HelloEvent) → h.life ≡ life
    → hello_head h ++ (flat_map (λ o. json_tokens (object_json detail o)) h.objects.now ++ end_array ∷ end_object ∷ end_object ∷ [])
    ≡ json_tokens (hello_json detail h)
hello_of_life None detail h is =
    rw is (ap (λ l. device_tokens h ++ key (codes "ahead") ∷ number (decimal h.ahead) ∷ l) (objects_tokens detail h))
hello_of_life (Some life) detail h is =
    rw is (ap (λ l. device_tokens h ++ key (codes "life") ∷ number (decimal life) ∷ key (codes "ahead") ∷ number (decimal h.ahead) ∷ l)
    (objects_tokens detail h))

pub hello_tokens : (detail : Detail) (h : HelloEvent)
    → hello_head h ++ (flat_map (λ o. json_tokens (object_json detail o)) h.objects.now ++ end_array ∷ end_object ∷ end_object ∷ [])
    ≡ json_tokens (hello_json detail h)
hello_tokens detail h = hello_of_life h.life detail h refl

attribute_flat : (detail : Detail) (a : DescribedAttribute) (name : Option (Bor (List ℕ))) → a.name ≡ name → depth (attribute_json detail a) ≤ 1
attribute_flat details.Values a None is = rw is (omega arith)
attribute_flat details.Types a None is = rw is (omega arith)
attribute_flat details.Objects a None is = rw is (omega arith)
attribute_flat details.Values a (Some name) is = rw is (omega arith)
attribute_flat details.Types a (Some name) is = rw is (omega arith)
attribute_flat details.Objects a (Some name) is = rw is (omega arith)

object_shallow : (detail : Detail) (o : DescribedObject) (name : Option (Bor (List ℕ))) → o.name ≡ name → depth (object_json detail o) ≤ 3
object_shallow details.Values o None is =
    let inner = items_depth-map (attribute_json details.Values) o.attributes.now 1 (λ a. attribute_flat details.Values a a.name refl) in
    rw is (omega (arith, inner))
object_shallow details.Types o None is =
    let inner = items_depth-map (attribute_json details.Types) o.attributes.now 1 (λ a. attribute_flat details.Types a a.name refl) in
    rw is (omega (arith, inner))
object_shallow details.Objects o None is = rw is (omega arith)
object_shallow details.Values o (Some name) is =
    let inner = items_depth-map (attribute_json details.Values) o.attributes.now 1 (λ a. attribute_flat details.Values a a.name refl) in
    rw is (omega (arith, inner))
object_shallow details.Types o (Some name) is =
    let inner = items_depth-map (attribute_json details.Types) o.attributes.now 1 (λ a. attribute_flat details.Types a a.name refl) in
    rw is (omega (arith, inner))
object_shallow details.Objects o (Some name) is = rw is (omega arith)

hello_of_life_shallow : (life : Option ℕ) (detail : Detail) (h : HelloEvent) → h.life ≡ life → depth (hello_json detail h) ≤ 128
hello_of_life_shallow None detail h is =
    let inner = items_depth-map (object_json detail) h.objects.now 3 (λ o. object_shallow detail o o.name refl) in
    rw is (omega (arith, inner))
hello_of_life_shallow (Some life) detail h is =
    let inner = items_depth-map (object_json detail) h.objects.now 3 (λ o. object_shallow detail o o.name refl) in
    rw is (omega (arith, inner))

pub hello_shallow : (detail : Detail) (h : HelloEvent) → depth (hello_json detail h) ≤ 128
hello_shallow detail h = hello_of_life_shallow h.life detail h refl

-- ---- how much of the attributes

fits_in : (j : Json) (line : List ℕ) → IsLineOf j line → fits j ≡ true
fits_in j line is = le-leb (length (print (json_tokens j))) LINE_LIMIT is.short

too_long : (j : Json) → LINE_LIMIT < length (print (json_tokens j)) → fits j ≡ false
too_long j long = lt-leb (length (print (json_tokens j))) LINE_LIMIT long

pub whole_fits : (h : HelloEvent) (line : Vec ℕ Global) → IsLineOf (hello_json details.Values h) line.items
    → IsLineOf (hello_json (hello_detail h) h) line.items
unfolding hello_detail
whole_fits h line is = rw (fits_in (hello_json details.Values h) line.items is) is

pub whole_long : (h : HelloEvent) (r : Result (Vec ℕ Global) EventFault) → LINE_LIMIT < length (print (json_tokens (hello_json details.Values h)))
    → IsWritten (hello_json (shorter_detail h) h) r → IsWritten (hello_json (hello_detail h) h) r
unfolding hello_detail
whole_long h r long is = rw (too_long (hello_json details.Values h) long) is

pub types_fit : (h : HelloEvent) (line : Vec ℕ Global) → IsLineOf (hello_json details.Types h) line.items
    → IsLineOf (hello_json (shorter_detail h) h) line.items
unfolding shorter_detail
types_fit h line is = rw (fits_in (hello_json details.Types h) line.items is) is

pub types_long : (h : HelloEvent) (r : Result (Vec ℕ Global) EventFault) → LINE_LIMIT < length (print (json_tokens (hello_json details.Types h)))
    → IsWritten (hello_json details.Objects h) r → IsWritten (hello_json (shorter_detail h) h) r
unfolding shorter_detail
types_long h r long is = rw (too_long (hello_json details.Types h) long) is

-- Four writes, of which the last one may fail.
pub joined_four : (r : Result (Unit {0}) AllocError) (old first second third new : Written) (a b c d : List Token)
    → first.tokens ≡ old.tokens ++ a → first.before ≡ old.before → second.tokens ≡ first.tokens ++ b → second.before ≡ first.before
    → third.tokens ≡ second.tokens ++ c → third.before ≡ second.before → Adds r third new d → Adds r old new (a ++ (b ++ (c ++ d)))
joined_four r old first second third new a b c d first_is first_same second_is second_same third_is third_same adds =
    let both : second.tokens ≡ old.tokens ++ (a ++ b) =
    second_is ∙ ap (λ l. l ++ b) first_is ∙ append_assoc old.tokens a b in
    let added : Adds r old new ((a ++ b) ++ (c ++ d)) =
    joined r old second third new (a ++ b) c d both (second_same ∙ first_same) third_is third_same adds in
    subst (Adds r old new) (append_assoc a b (c ++ d)) added

-- Three writes that succeeded, from nothing.
pub joined_all : (old first second third : Written) (a b c : List Token) → old.tokens ≡ [] → first.tokens ≡ old.tokens ++ a
    → second.tokens ≡ first.tokens ++ b → third.tokens ≡ second.tokens ++ c → third.tokens ≡ a ++ (b ++ c)
joined_all old first second third a b c none first_is second_is third_is =
    third_is ∙ ap (λ l. l ++ c) second_is ∙ ap (λ l. (l ++ b) ++ c) (first_is ∙ ap (λ l. l ++ a) none) ∙ append_assoc a b c
