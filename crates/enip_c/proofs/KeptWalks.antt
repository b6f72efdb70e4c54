-- What C keeps, for any object and any struct of one pointer: its machine values, and the walks of the functions that
-- make it empty, move a box's pointer into it and move it out again. Assumes `Logic`.
use Rattle.std.proofs.Common.{◌≡◌, List, [], ◌∷◌, ◌++◌, refl, sym, ap, ◌∙◌, subst, lit<}
use lib.Dec.{T}
use seplogic.Ra.Ura.{Ura}
use mir.Syntax.{Sym, Fn, Callee, Local, local, value_local, ty_ptr, ty_struct, tcons, tnil, seq, assign, place, field, rv_opd, copy, int, w64, aggregate, return}
use mir.Raw.{raw as bare}
use mir.Val.{Val, vptr, vstruct, vcons, vnil, of_list}
use base.Logic.{SProp, ent, emp, id⊢, never, fst∗}
use base.Fml.{Fml, ftrue, fsep}
use prog.Wp.{WpFn, Closed}
use prog.Model.{Model}
use types.Logic.{Logic, sem}
use types.Kit.{Item, Goal, Seq, Step, step, ‵, raw, ◌⊛◌, ◌$◌, ◌∵◌, !, qed, by, move, keep, drop, split, fsplit, fjoin, fpick, fpack, feq_i, feq_l, rewrite, suffices, use0}
use types.Run.{stop, fld, lit, of_opd, no_more, and_then, returns, enter}
use types.ByLocal.{alloc_all, pass_all, free_all, look_at, get, get_in, sets}
use types.Part.{agg, sub, whole}
use contract.Monad.{fact, fact_i}
use contract.Running.{Running, tables}
use denote.Exit.{yes, Last, left, rest}
use denote.Builtin.{RawPtr}
use denote.Memory.{lone}
use denote.Param.{layout}
use denote.Param.Mute.{blank}
use denote.RattleType.{RattleType, Valss, owns}
use denote.RawPtr.{Ptr, block_ptr, null_ptr, ptr_val, in_a_block}
use denote.Signature.{types_at, plain}
use denote.Steps.{nothing, heard}
use denote.Struct.Struct.{Struct, Shape, within}
use denote.Triple.Clauses.{Ended, Clauses, closing}
use denote.Triple.Entry.{alive}
use denote.Triple.Spec.{Meets}
use denote.Triple.Walked.{Stays, stay_dropped, walk_of}
use Rattle.core.proofs.alloc.Calls.{Goes-blank, handle_tells}
use Rattle.core.proofs.cell.Inside.{Good}
use Rattle.std.proofs.raw_atomic.Walks.{proved_at, leaves}
use Rattle.libc.specs.Heap.{chunk}
use Rattle.std_alloc.specs.Box.Ownership.{box_owns}
use Rattle.std.specs.declared.option.Option.{Option}
use Rattle.std.specs.declared.option.Option.TheVariants.{None, Some}
use Rattle.std.specs.contracts.alloc.Global as global
use Rattle.std.proofs.alloc.Global.TheLaws as global_laws
use Rattle.std.specs.contracts.impls.GlobalAllocator.TheImpl.{ghosts}
use Rattle.enip_c.specs.Kept.{IsLive, kept_owns}
use Rattle.enip_c.proofs.LooseValues.{both, Loose, loose_good, loose_out, loose_in, al}

abbrev pub lone_val : Ptr → Val
lone_val p = vstruct (vcons (ptr_val p) vnil)

pub lone_good : (ν : Sym) (p : Ptr) → Good (ty_struct ν (tcons ty_ptr tnil)) (lone_val p)
lone_good ν (block_ptr b o) = (tt, (tt, tt))
lone_good ν null_ptr = (tt, (record { fits = lit< tt }, tt))

-- The object of a live place.
pub live_value : {A : Type 0} (v : Option A) → IsLive v → (x : A) × (v ≡ Some x)
live_value None live = absurd live
live_value (Some x) live = (x, refl)

-- What such a struct owns: its pointer, and the object at it.
module _ (ν : Sym) (R : RattleType) where
  abbrev pub pointer : Shape
  pointer = record { name = ν; args = []; types = []; fields = RawPtr ∷ [] }

  abbrev pub held : Ptr → Option R.Denot → List Val → Fml
  held p x vs = fsep ((Struct pointer).own_val (p, tt) vs) (kept_owns R p x)

  module _ {M : Type 1} {𝓤 : Ura M} {𝓛 : Logic 𝓤} {K : Type 0} {Γ : List (Item 𝓤)} {G : Goal 𝓤 𝓛.H} where
    pub held_out : K → (p : Ptr) (x : Option R.Denot) (vs : List Val)
        → (vs ≡ lone_val p ∷ [] → Seq K 𝓛 (‵ (kept_owns R p x) ∷ Γ) G) → Seq K 𝓛 (‵ (held p x vs) ∷ Γ) G
    held_out t p x vs k =
        fsplit t $ fpick t (λ vss. fsplit t $ feq_l t (λ ev. fsplit t $ feq_l t (λ ep. drop t $
        k (subst (λ (ps : List Val). vs ≡ vstruct (of_list (ps ++ [])) ∷ []) ep ev))))

    pub held_in : K → (p : Ptr) (x : Option R.Denot) → Step K 𝓛 (‵ (held p x (lone_val p ∷ [])) ∷ Γ) G (‵ (kept_owns R p x) ∷ Γ) G
    held_in t p x = step (λ s. let v : Val = lone_val p in
        nothing t $ feq_i t (List Val) (ptr_val p ∷ []) (ptr_val p ∷ []) refl $ fjoin t $ feq_i t (List Val) (v ∷ []) (v ∷ []) refl $ fjoin t $
        fpack t (Valss (RawPtr ∷ [])) (within pointer (p, tt) (v ∷ [])) (ptr_val p ∷ [], tt) $ fjoin t $ s)

-- A struct of one pointer to an object.
pub record Place : Type 2 where
  pub name : Sym
  pub object : RattleType
  pub row : RattleType
  pub at : row.Denot → Ptr
  pub value : row.Denot → Option object.Denot
  pub make : Ptr → Option object.Denot → row.Denot
  pub value_made : (p : Ptr) (x : Option object.Denot) → value (make p x) ≡ x
  pub owns_held : (d : row.Denot) (vs : List Val) → row.own_val d vs ≡ held name object (at d) (value d) vs
  pub owns_made : (p : Ptr) (x : Option object.Denot) (vs : List Val) → held name object p x vs ≡ row.own_val (make p x) vs
  pub used_up : (d : row.Denot) (f : Last (row.exit yes) d) → T (blank (left (row.exit yes) d f))

abbrev Z : RattleType
Z = global.the_row

abbrev pub LooseOf : RattleType → RattleType
LooseOf R = Loose R Z (global_laws.the_row_laws) ghosts

module _ (P : Place) where
  abbrev R : RattleType
  R = P.object

  abbrev lone_local : Local
  lone_local = local (ty_struct P.name (tcons ty_ptr tnil)) value_local

  abbrev loose_local : Local
  loose_local = local (layout (LooseOf R)) value_local

  abbrev pointer_local : Local
  pointer_local = local ty_ptr value_local

  -- ---- `empty` makes a place that owns nothing.
  abbrev pub empty_fn : Fn
  empty_fn = record { lifetimes = 0; outlives = []; ty_params = []; givens = 0; params = 0; locals = lone_local ∷ []; body = seq (assign (place 0 []) (aggregate (int w64 0 ∷ []))) return }

  abbrev pub empty_ended : Ended
  empty_ended = record { signature = record { lifetimes = 0; outlives = []; params = []; result = plain (λ _. P.row) }; kept = tt }

  module _ {M : Type 1} (𝓤 : Ura M) (𝓛 : Logic 𝓤) (𝓜 : Model 𝓤 𝓛.H) (𝓡 : Running 𝓤 𝓛.H 𝓜) (k : Callee) where
    abbrev pub empty_clauses : Clauses 𝓤 empty_ended
    empty_clauses κs a = record { ghost = Unit {0}; requires = λ _. emp 𝓤; ensures = λ _ r _. fact 𝓤 (P.value r ≡ None) }

    pub empty_meets : Closed 𝓤 𝓛.H (tables 𝓤 𝓛.H 𝓜 𝓡 𝓡.env).C (tables 𝓤 𝓛.H 𝓜 𝓡 𝓡.env).Λ k empty_fn
        → Meets 𝓛 empty_ended.signature ((tables 𝓤 𝓛.H 𝓜 𝓡 𝓡.env).C k) (closing 𝓛 empty_ended empty_clauses)
    empty_meets closed =
        let H = 𝓛.H in let 𝓣 = tables 𝓤 H 𝓜 𝓡 𝓡.env in let c = empty_clauses in let fn = empty_fn in let En = empty_ended in
        let hs : Stays En.signature.params En.kept = tt in let p : Ptr = null_ptr in let d : P.row.Denot = P.make p None in
        proved_at 𝓛 En hs c 𝓜 𝓡 tt k fn closed (λ z are. let Post : Val → SProp 𝓤 = (walk_of 𝓛 En hs c).post z in
        qed 𝓛 ((raw (alive 𝓛 En.signature z.0.0 z.0.1) ⊛ ‵ (owns (types_at En.signature.params z.0.0) z.0.3 z.0.4)) ∷ ‵ ftrue ∷ []) ∵ move ! (1 ∷ []) $ drop ! $ split ! $ keep ! (0 ∷ []) $
        enter ! 𝓣.C 𝓣.Λ fn [] Post $ alloc_all ! (λ l. pass_all ! refl tt $
        sets ! (agg ! (and_then ! (lit ! tt) (no_more !))) refl (lone_good P.name p) $
        nothing ! $ held_in P.name R ! p None $ rewrite ! 0 (λ (F : Fml). ‵ F) (P.owns_made p None (lone_val p ∷ [])) refl $
        use0 𝓛 (raw (fact 𝓤 (P.value d ≡ None))) (fact_i 𝓤 (P.value d ≡ None) (emp 𝓤) (P.value_made p None)) $ nothing ! $
        returns ! (look_at ! 0 refl) $ free_all ! refl $ keep ! (3 ∷ 0 ∷ 2 ∷ 1 ∷ []) $ by ! (leaves 𝓛 En hs c z (lone_val p) d tt tt)))

  -- ---- `of_loose` moves what the box's pointer owns into the place.
  abbrev pub of_loose_fn : Fn
  of_loose_fn = record {
    lifetimes = 0;
    outlives = [];
    ty_params = [];
    givens = 0;
    params = 1;
    locals = lone_local ∷ loose_local ∷ pointer_local ∷ pointer_local ∷ [];
    body = seq (assign (place 2 []) (rv_opd (copy (place 1 (field 0 ∷ []))))) (seq (assign (place 3 []) (rv_opd (copy (place 2 []))))
        (seq (assign (place 0 []) (aggregate (copy (place 3 []) ∷ []))) return));
  }

  abbrev pub of_loose_ended : Ended
  of_loose_ended = record { signature = record { lifetimes = 0; outlives = []; params = plain (λ _. LooseOf R) ∷ []; result = plain (λ _. P.row) }; kept = (yes, tt) }

  module _ {M : Type 1} (𝓤 : Ura M) (𝓛 : Logic 𝓤) (𝓜 : Model 𝓤 𝓛.H) (𝓡 : Running 𝓤 𝓛.H 𝓜) (k : Callee) where
    abbrev pub of_loose_clauses : Clauses 𝓤 of_loose_ended
    of_loose_clauses κs a = record { ghost = Unit {0}; requires = λ _. emp 𝓤; ensures = λ _ r _. fact 𝓤 (P.value r ≡ Some a.0.value) }

    pub of_loose_meets : Closed 𝓤 𝓛.H (tables 𝓤 𝓛.H 𝓜 𝓡 𝓡.env).C (tables 𝓤 𝓛.H 𝓜 𝓡 𝓡.env).Λ k of_loose_fn
        → Meets 𝓛 of_loose_ended.signature ((tables 𝓤 𝓛.H 𝓜 𝓡 𝓡.env).C k) (closing 𝓛 of_loose_ended of_loose_clauses)
    of_loose_meets closed =
        let H = 𝓛.H in let 𝓣 = tables 𝓤 H 𝓜 𝓡 𝓡.env in let LZ = global_laws.the_row_laws in let c = of_loose_clauses in let fn = of_loose_fn in let En = of_loose_ended in
        let hs : Stays En.signature.params En.kept = (stay_dropped (plain (λ _. LooseOf R)) yes, tt) in
        proved_at 𝓛 En hs c 𝓜 𝓡 (Goes-blank 𝓛 0 (plain (λ _. LooseOf R)) yes (λ κs x f. tt), tt) k fn closed (λ z are.
        let v = z.0.3.0 in let Post : Val → SProp 𝓤 = (walk_of 𝓛 En hs c).post z in let Run : List Val → SProp 𝓤 = λ ws. WpFn 𝓤 H 𝓣.C 𝓣.Λ fn ws Post in
        qed 𝓛 ((raw (alive 𝓛 En.signature z.0.0 z.0.1) ⊛ ‵ (owns (types_at En.signature.params z.0.0) z.0.3 z.0.4)) ∷ ‵ ftrue ∷ []) ∵ move ! (1 ∷ []) $ drop ! $ split ! $ move ! (1 ∷ []) $ fsplit ! $
        loose_out R Z LZ ghosts ! v z.0.4.0 (λ b o h e ws fits.
        let w : Val = both (vptr b o) h in let p : Ptr = block_ptr b o in let d : P.row.Denot = P.make p (Some v.value) in
        suffices ! (Run (w ∷ [])) (subst (λ (us : List Val). ent 𝓤 (Run (w ∷ [])) (Run us)) (sym (λ i. ws i ++ [])) (id⊢ 𝓤 (Run (w ∷ [])))) $
        enter ! 𝓣.C 𝓣.Λ fn (w ∷ []) Post $ alloc_all ! (λ l. pass_all ! refl (loose_good R Z LZ ghosts b o h fits, tt) $
        sets ! (of_opd ! (get_in ! (fld ! refl (stop !)) (sub ! 0 refl (whole !)))) refl (tt, tt) $ sets ! (of_opd ! (get ! refl)) refl (tt, tt) $
        sets ! (agg ! (and_then ! (get ! refl) (no_more !))) refl (lone_good P.name p) $
        held_in P.name R ! p (Some v.value) $ rewrite ! 0 (λ (F : Fml). ‵ F) (P.owns_made p (Some v.value) (lone_val p ∷ [])) refl $
        use0 𝓛 (raw (fact 𝓤 (P.value d ≡ Some v.value))) (fact_i 𝓤 (P.value d ≡ Some v.value) (emp 𝓤) (P.value_made p (Some v.value))) $ nothing ! $ nothing ! $ fjoin ! $
        returns ! (look_at ! 0 refl) $ free_all ! refl $ keep ! (5 ∷ 0 ∷ 2 ∷ 1 ∷ []) $ by ! (leaves 𝓛 En hs c z (lone_val p) d (tt, tt) (tt, tt)))))

  -- ---- `into_loose` moves what a live place owns to the box's pointer.
  abbrev pub into_loose_fn : Fn
  into_loose_fn = record {
    lifetimes = 0;
    outlives = [];
    ty_params = [];
    givens = 0;
    params = 2;
    locals = loose_local ∷ lone_local ∷ local (layout Z) value_local ∷ pointer_local ∷ pointer_local ∷ [];
    body = seq (assign (place 3 []) (rv_opd (copy (place 1 (field 0 ∷ []))))) (seq (assign (place 4 []) (rv_opd (copy (place 3 []))))
        (seq (assign (place 0 []) (aggregate (copy (place 4 []) ∷ copy (place 2 []) ∷ []))) return));
  }

  abbrev pub into_loose_ended : Ended
  into_loose_ended = record { signature = record { lifetimes = 0; outlives = []; params = plain (λ _. P.row) ∷ plain (λ _. Z) ∷ []; result = plain (λ _. LooseOf R) }; kept = (yes, (yes, tt)) }

  module _ {M : Type 1} (𝓤 : Ura M) (𝓛 : Logic 𝓤) (𝓜 : Model 𝓤 𝓛.H) (𝓡 : Running 𝓤 𝓛.H 𝓜) (k : Callee) where
    abbrev pub into_loose_clauses : Clauses 𝓤 into_loose_ended
    into_loose_clauses κs a = record { ghost = Unit {0}; requires = λ _. fact 𝓤 (IsLive (P.value a.0)); ensures = λ _ r _. fact 𝓤 (Some r.value ≡ P.value a.0) }

    pub into_loose_meets : Closed 𝓤 𝓛.H (tables 𝓤 𝓛.H 𝓜 𝓡 𝓡.env).C (tables 𝓤 𝓛.H 𝓜 𝓡 𝓡.env).Λ k into_loose_fn
        → Meets 𝓛 into_loose_ended.signature ((tables 𝓤 𝓛.H 𝓜 𝓡 𝓡.env).C k) (closing 𝓛 into_loose_ended into_loose_clauses)
    into_loose_meets closed =
        let H = 𝓛.H in let 𝓣 = tables 𝓤 H 𝓜 𝓡 𝓡.env in let LZ = global_laws.the_row_laws in let c = into_loose_clauses in let fn = into_loose_fn in let En = into_loose_ended in
        let hs : Stays En.signature.params En.kept = (stay_dropped (plain (λ _. P.row)) yes, (stay_dropped (plain (λ _. Z)) yes, tt)) in
        proved_at 𝓛 En hs c 𝓜 𝓡 (Goes-blank 𝓛 0 (plain (λ _. P.row)) yes (λ κs x f. P.used_up x f), (Goes-blank 𝓛 0 (plain (λ _. Z)) yes (λ κs x f. tt), tt)) k fn closed (λ z are.
        let v = z.0.3.0 in let a = z.0.3.1.0 in let Post : Val → SProp 𝓤 = (walk_of 𝓛 En hs c).post z in let Run : List Val → SProp 𝓤 = λ ws. WpFn 𝓤 H 𝓣.C 𝓣.Λ fn ws Post in
        qed 𝓛 ((raw (alive 𝓛 En.signature z.0.0 z.0.1) ⊛ ‵ (owns (types_at En.signature.params z.0.0) z.0.3 z.0.4)) ∷ raw (fact 𝓤 (IsLive (P.value v))) ∷ []) ∵
        move ! (1 ∷ []) $ heard ! (IsLive (P.value v)) (λ live. let x = (live_value (P.value v) live).0 in let is_x : P.value v ≡ Some x = (live_value (P.value v) live).1 in
        split ! $ move ! (1 ∷ []) $ fsplit ! $ rewrite ! 0 (λ (F : Fml). ‵ F) (P.owns_held v z.0.4.0) refl $
        held_out P.name R ! (P.at v) (P.value v) z.0.4.0 (λ ws. rewrite ! 0 (λ (q : Option R.Denot). ‵ (kept_owns R (P.at v) q)) is_x refl $
        in_a_block ! (P.at v) (λ p. box_owns chunk R p x) (fst∗ 𝓤 (never 𝓤) (sem 𝓛 (chunk (bare (lone R.mir)) null_ptr))) (λ b o e.
        move ! (1 ∷ []) $ fsplit ! $ handle_tells (al R Z LZ ghosts) ! a z.0.4.1.0 (λ h eh fits.
        -- [the handle; nothing; what the box owns; the tokens]
        let p : Ptr = block_ptr b o in let us : List Val = lone_val p ∷ h ∷ [] in
        let ew : z.0.4.0 ≡ lone_val p ∷ [] = ws ∙ ap (λ (q : Ptr). lone_val q ∷ []) e in
        suffices ! (Run us) (subst (λ (ts : List Val). ent 𝓤 (Run us) (Run ts)) (sym (λ i. ew i ++ (eh i ++ []))) (id⊢ 𝓤 (Run us))) $
        enter ! 𝓣.C 𝓣.Λ fn us Post $ alloc_all ! (λ l. pass_all ! refl (lone_good P.name p, (fits, tt)) $
        sets ! (of_opd ! (get_in ! (fld ! refl (stop !)) (sub ! 0 refl (whole !)))) refl (tt, tt) $ sets ! (of_opd ! (get ! refl)) refl (tt, tt) $
        sets ! (agg ! (and_then ! (get ! refl) (and_then ! (get ! refl) (no_more !)))) refl (loose_good R Z LZ ghosts b o h fits) $
        move ! (2 ∷ 0 ∷ []) $ loose_in R Z LZ ghosts ! b o h a x $
        use0 𝓛 (raw (fact 𝓤 (Some x ≡ P.value v))) (fact_i 𝓤 (Some x ≡ P.value v) (emp 𝓤) (sym is_x)) $ nothing ! $ nothing ! $ fjoin ! $ nothing ! $ fjoin ! $
        returns ! (look_at ! 0 refl) $ free_all ! refl $ keep ! (4 ∷ 0 ∷ 2 ∷ 1 ∷ []) $ by ! (leaves 𝓛 En hs c z (both (vptr b o) h) (record { at = p; alloc = a; value = x }) (rest (P.row.exit yes) v, (tt, tt)) (tt, (tt, tt)))))))))
