-- The size of each assembly's data is the sum of its member sizes: from the configuration on, over every list of
-- requests.
use Rattle.std.proofs.Common.{◌≡◌, ℕ, ◌+◌, ◌<◌, ◌⊎◌, inl, inr, eqb, Bool, true, false, cond, ◌&&◌, List, [], ◌∷◌, length, map, sum, Option, Some, None, option_map, unwrap_or, Ok, refl, sym, ap, ◌∙◌, arith, subst, ◌%◌, ◌^◌}
use Rattle.std.proofs.lemmas.Bool.{eqb-true}
use Rattle.std.proofs.lemmas.Bool.Decides.{eqb_tells}
use Rattle.std.proofs.lemmas.List.{length-replicate}
use Rattle.cip_application.specs.declared.kind.AttributeKind.{AttributeKind}
use Rattle.cip_application.specs.declared.kind.AttributeKind.TheVariants.{Fixed}
use Rattle.cip_application.specs.Values.{size_for}
use Rattle.cip_application.specs.Objects.{ObjectValues}
use Rattle.byteorder.specs.Endian.{little_number}
use Rattle.cip_message.specs.declared.path.Path.{Path}
use Rattle.cip_bytes.specs.Numbers.{le}
use Rattle.cip_objects.specs.declared.config.AssemblyConfig.{AssemblyConfig}
use Rattle.cip_objects.specs.declared.service.Service.{Service}
use Rattle.cip_objects.specs.declared.service.Service.TheVariants.{GetAttributesAll, GetAttributeList, SetAttributeList, GetAttributeSingle, SetAttributeSingle, GetMember, SetMember, Add, Clear}
use Rattle.cip_objects.specs.ChangeServices.{Change, with_bytes_at, set_attribute_single, set_member, add, clear}
use Rattle.cip_objects.specs.Configuration.{assembly_of_config}
use Rattle.cip_objects.specs.Contents.{Contents, bytes_at, udint_at, with_value, with_change}
use Rattle.cip_objects.specs.Entries.{IdentityValues, AssemblyValues, CounterValues, attribute_in, class_attributes, assembly_at, greatest_of, shape_of, contents_of, NoneIsClass, AreApart, object_shape_of}
use Rattle.cip_objects.specs.Execution.{Outcome, perform, outcome, exec}
use Rattle.cip_objects.proofs.Lookup.{block_value}
use Rattle.cip_objects.specs.Members.{AreWhole, whole_law}
use Rattle.cip_objects.specs.ReadServices.{get_attribute_single, get_attributes_all, get_attribute_list, get_member}
use Rattle.cip_objects.specs.Tables.{Shape, Shapes, shape_at, kind_if_settable, settable_kind}
use Rattle.cip_objects.proofs.Effects.{goes, Sets, set_effect, add_effect, clear_effect, read_effect, change_effect}
use Rattle.cip_objects.proofs.ReadAfterSet.{value_at-same, value_at-other}
use Rattle.cip_objects.proofs.Blocks.{eqb-other}
use Rattle.cip_objects.proofs.Lookup.{value_at-contents_of}
use Rattle.cip_objects.proofs.Members.{named, fits_in}
use Rattle.cip_objects.proofs.Settable.{settable_data}
use Rattle.cip_objects.specs.SetLists.{set_all}
use Rattle.cip_objects.proofs.ListSets.{list_effect, all_keep, at}
use Rattle.cip_objects.proofs.Refuses.{exec_left}
use Rattle.cip_objects.proofs.Shapes.{shape_at-contents}
use Rattle.cip_objects.proofs.Spans.{length-with_bytes_at}
use Rattle.cip_objects.proofs.Unsettable.{splices}

same_some : {A : Type 0} (x y : A) → ◌≡◌ {A = Option A} (Some x) (Some y) → x ≡ y
same_some x y e = cc

-- the same data at every assembly
like_whole : (m n : Contents) → n.shapes ≡ m.shapes → ((i : ℕ) → bytes_at n 4 i 3 ≡ bytes_at m 4 i 3) → AreWhole m
    → AreWhole n
like_whole m n e f h i s g = ap length (f i) ∙ h i s (ap (λ k. shape_at i k.assemblies) (sym e) ∙ g)

same_whole : (m n : Contents) → n ≡ m → AreWhole m → AreWhole n
same_whole m n e h = subst AreWhole (sym e) h

-- a value that the counter has
counter_whole : (m n : Contents) (a : ℕ) (v : List ℕ) → n ≡ with_value m 100 1 a v → AreWhole m → AreWhole n
counter_whole m n a v e h =
    like_whole m n (ap (λ k. k.shapes) e)
    (λ i. ap (λ k. bytes_at k 4 i 3) e ∙ ap (λ o. unwrap_or o []) (value_at-other m 100 1 a v 4 i 3 refl)) h

-- an attribute that is not of an assembly
other_whole : (m n : Contents) (c i a : ℕ) (v : List ℕ) → (c ≡ 4 → ⊥) → n ≡ with_change m c i a v → AreWhole m → AreWhole n
other_whole m n c i a v apart e h =
    like_whole m n (ap (λ k. k.shapes) e)
    (λ j. ap (λ k. bytes_at k 4 j 3) e ∙ ap (λ o. unwrap_or o []) (value_at-other m c i a v 4 j 3
    (ap (λ t. t && (eqb j i && eqb 3 a)) (eqb-other 4 c (λ z. apart (sym z)))))) h

at_instance : (m n : Contents) (i j : ℕ) (v : List ℕ) (s : Shape) → n ≡ with_change m 4 i 3 v
    → ((t : Shape) → shape_at i m.shapes.assemblies ≡ Some t → length v ≡ sum t.members) → AreWhole m
    → shape_at j m.shapes.assemblies ≡ Some s → ((eqb j i ≡ true) × (j ≡ i)) ⊎ ((eqb j i ≡ false) × (j ≡ i → ⊥))
    → length (bytes_at n 4 j 3) ≡ sum s.members
at_instance m n i j v s e f h g (inl same) =
    let read : bytes_at n 4 j 3 ≡ v = ap (λ k. bytes_at k 4 j 3) e
    ∙ ap (λ k. bytes_at (with_change m 4 i 3 v) 4 k 3) same.1 ∙ ap (λ o. unwrap_or o []) (value_at-same m 4 i 3 v) in
    ap length read ∙ f s (ap (λ k. shape_at k m.shapes.assemblies) (sym same.1) ∙ g)
at_instance m n i j v s e f h g (inr apart) =
    let read : bytes_at n 4 j 3 ≡ bytes_at m 4 j 3 = ap (λ k. bytes_at k 4 j 3) e
    ∙ ap (λ o. unwrap_or o []) (value_at-other m 4 i 3 v 4 j 3 (ap (λ t. t && true) apart.0)) in
    ap length read ∙ h j s g

-- data whose size is the sum of the member sizes
data_whole : (m n : Contents) (i : ℕ) (v : List ℕ) → n ≡ with_change m 4 i 3 v
    → ((t : Shape) → shape_at i m.shapes.assemblies ≡ Some t → length v ≡ sum t.members) → AreWhole m → AreWhole n
data_whole m n i v e f h j s g = at_instance m n i j v s e f h (ap (λ k. shape_at j k.shapes.assemblies) (sym e) ∙ g)
    (eqb_tells j i)

by_settable : (t : Bool) (s : Shape) (n : AttributeKind) → cond t (Some (Fixed (sum s.members) None)) None ≡ Some n → n ≡ Fixed (sum s.members) None
by_settable true s n e = sym (same_some (Fixed (sum s.members) None) n e)
by_settable false s n e = absurd (cc)

settable_whole : (shapes : Shapes) (i : ℕ) (n : AttributeKind) (s : Shape) → settable_kind shapes 4 i 3 ≡ Some n
    → shape_at i shapes.assemblies ≡ Some s → n ≡ Fixed (sum s.members) None
unfolding settable_kind
settable_whole shapes i n s e f = by_settable s.settable s n (sym (ap kind_if_settable f) ∙ e)

set_whole : (m : Contents) (p : Path) (content : List ℕ) (c : Change) (n : Contents) → AreWhole m → n ≡ c.after
    → Sets m p content c → ((eqb p.class 4 ≡ true) × (p.class ≡ 4)) ⊎ ((eqb p.class 4 ≡ false) × (p.class ≡ 4 → ⊥))
    → AreWhole n
set_whole m p content c n h e x (inl four) =
    let three = settable_data m.shapes p.class p.instance x.attribute x.kind x.can four.1 in
    let can : settable_kind m.shapes 4 p.instance 3 ≡ Some x.kind = ap (λ k. settable_kind m.shapes k p.instance 3)
    (sym four.1) ∙ ap (λ a. settable_kind m.shapes p.class p.instance a) (sym three) ∙ x.can in
    data_whole m n p.instance content
    (e ∙ x.leaves ∙ ap (λ k. with_change m k p.instance x.attribute content) four.1 ∙ ap
    (λ a. with_change m 4 p.instance a content) three)
    (λ s g. x.fits ∙ ap (λ k. size_for k content) (settable_whole m.shapes p.instance x.kind s can g)) h
set_whole m p content c n h e x (inr more) =
    other_whole m n p.class p.instance x.attribute content more.1 (e ∙ x.leaves) h

perform_whole : (m : Contents) (s : Service) (path : Path) (content : List ℕ) (o : Outcome) → AreWhole m
    → perform m s path content ≡ Ok o → AreWhole o.after
perform_whole m GetAttributesAll path content o h e = same_whole m o.after
    (read_effect m (get_attributes_all m path content) o e) h
perform_whole m GetAttributeList path content o h e = same_whole m o.after
    (read_effect m (get_attribute_list m path content) o e) h
perform_whole m SetAttributeList path content o h e =
    let x = list_effect m path content o e in
    same_whole (set_all m path x.settings).after o.after x.after
    (all_keep AreWhole path m x.settings
    (λ n a v c set whole. set_whole n (at path a) v c c.after whole refl set (eqb_tells path.class 4)) h)
perform_whole m GetAttributeSingle path content o h e = same_whole m o.after
    (read_effect m (get_attribute_single m path content) o e) h
perform_whole m SetAttributeSingle path content o h e =
    let c = change_effect (set_attribute_single m path content) o e in
    set_whole m path content c.change o.after h c.after (set_effect m path content c.change c.first)
    (eqb_tells path.class 4)
perform_whole m GetMember path content o h e = same_whole m o.after (read_effect m (get_member m path content) o e) h
perform_whole m SetMember path content o h e =
    let c = change_effect (set_member m path content) o e in
    let x = splices m path content c.change c.first in
    let old = bytes_at m 4 path.instance 3 in
    let fits = fits_in m path x.span h (named m.shapes path x.span x.names) in
    data_whole m o.after path.instance (with_bytes_at old x.span.offset content) (c.after ∙ x.leaves)
    (λ s g. length-with_bytes_at old content x.span.offset (omega (arith, x.size)) ∙ h path.instance s g) h
perform_whole m Add path content o h e =
    let c = change_effect (add m content) o e in
    let x = add_effect m content c.change c.first in
    let total = udint_at m 100 1 1 + little_number 4 content in
    let first = with_value m 100 1 1 (le 4 total) in
    counter_whole first o.after 3 (le 4 ((udint_at m 100 1 3 + 1) % 2 ^ 32)) (c.after ∙ x.leaves)
    (counter_whole m first 1 (le 4 total) refl h)
perform_whole m Clear path content o h e =
    let c = change_effect (clear m content) o e in
    counter_whole m o.after 1 (le 4 0) (c.after ∙ (clear_effect m content c.change c.first).leaves) h

either_whole : (m n : Contents) (text : List ℕ) → AreWhole m
    → (n ≡ m) ⊎ ((o : Outcome) × (outcome m text ≡ Ok o) × (n ≡ o.after)) → AreWhole n
either_whole m n text h (inl same) = same_whole m n same h
either_whole m n text h (inr x) =
    let g = goes m text x.0 x.1 in
    same_whole x.0.after n x.2 (perform_whole m g.service g.path g.request.data x.0 h g.is_performed)

pub stays_whole : whole_law
stays_whole m [] h = h
stays_whole m (r ∷ requests) h = stays_whole (exec m r.0 r.1).after requests
    (either_whole m (exec m r.0 r.1).after r.1 h (exec_left m r.0 r.1))

-- each assembly has data of its size
abbrev pub BlocksAreWhole : List AssemblyValues → Type 0
BlocksAreWhole [] = Unit {0}
BlocksAreWhole (b ∷ bs) = (length b.content ≡ sum b.members) × BlocksAreWhole bs

pub whole_blocks : (xs : List AssemblyConfig) → BlocksAreWhole (map assembly_of_config xs)
whole_blocks [] = tt
whole_blocks (x ∷ xs) = (length-replicate (sum x.members.items) 0, whole_blocks xs)

record OfBlock (i : ℕ) (b : AssemblyValues) : Type 0 where
  above : 0 < i
  whole : length b.content ≡ sum b.members

of_front : (t : Bool) (x : AssemblyValues) (xs : List AssemblyValues) (i : ℕ) (b : AssemblyValues) → eqb x.instance i ≡ t → 0 < x.instance
    → length x.content ≡ sum x.members → (assembly_at i xs ≡ Some b → OfBlock i b)
    → cond t (Some x) (assembly_at i xs) ≡ Some b → OfBlock i b
of_front true x xs i b t above whole later e =
    let here = same_some x b e in
    let same : x.instance ≡ i = eqb-true x.instance i t in
    record { above = omega arith; whole = ap (λ k. length k.content) (sym here) ∙ whole ∙ ap (λ k. sum k.members) here }
of_front false x xs i b t above whole later e = later e

of_block : (bs : List AssemblyValues) (i : ℕ) (b : AssemblyValues) → NoneIsClass bs → BlocksAreWhole bs → assembly_at i bs ≡ Some b
    → OfBlock i b
of_block [] i b h w e = absurd (cc)
of_block (x ∷ xs) i b h w e = of_front (eqb x.instance i) x xs i b refl h.0 w.0 (λ g. of_block xs i b h.1 w.1 g) e

at_block : (d : IdentityValues) (bs : List AssemblyValues) (c : CounterValues) (os : List ObjectValues) (i : ℕ) (s : Shape) (o : Option AssemblyValues)
    → NoneIsClass bs → AreApart c.enabled (map object_shape_of os) → BlocksAreWhole bs → assembly_at i bs ≡ o → option_map shape_of o ≡ Some s
    → length (bytes_at (contents_of d bs c os) 4 i 3) ≡ sum s.members
at_block d bs c os i s None h own w e f = absurd (cc)
at_block d bs c os i s (Some b) h own w e f =
    let here = of_block bs i b h w e in
    let shape : shape_of b ≡ s = same_some (shape_of b) s f in
    let above = here.above in
    let read : bytes_at (contents_of d bs c os) 4 i 3 ≡ b.content = ap (λ o. unwrap_or o [])
    (value_at-contents_of d bs c os h own 4 i 3)
    ∙ ap (λ t. unwrap_or (cond t (attribute_in 3 (class_attributes 2 (greatest_of bs) (length bs)))
    (block_value 3 (assembly_at i bs))) []) (eqb-other i 0 (λ z. omega arith))
    ∙ ap (λ o. unwrap_or (block_value 3 o) []) e in
    ap length read ∙ here.whole ∙ ap (λ k. sum k.members) shape

pub contents_whole : (d : IdentityValues) (bs : List AssemblyValues) (c : CounterValues) (os : List ObjectValues) → NoneIsClass bs
    → AreApart c.enabled (map object_shape_of os) → BlocksAreWhole bs → AreWhole (contents_of d bs c os)
contents_whole d bs c os h own w i s e = at_block d bs c os i s (assembly_at i bs) h own w refl
    (sym (shape_at-contents d bs c os (contents_of d bs c os) i refl) ∙ e)
