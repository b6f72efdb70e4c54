-- What a list of events leaves, with one more event.
use Rattle.std.proofs.Common.{◌≡◌, ◌⊎◌, inl, inr, Bool, true, false, IsTrue, List, [], ◌∷◌, ◌++◌, length, refl, sym, ap, subst, ◌∙◌, ◌+◌, arith, length-append}
use Rattle.enip_keep.specs.declared.lives.Event.{Event}
use Rattle.enip_keep.specs.declared.lives.Event.TheVariants.{Round, Restart}
use Rattle.enip_keep.specs.Kept.{Kept}
use Rattle.enip_keep.specs.LivesLaws.{HasItsStep}
use Rattle.enip_keep.specs.Lives.{Step, Executed, Restarted, after, IsStepOf, AreStepsOf, AreAfter, IsKeptAfter, Makes}

-- as many, with one more each
pub one_more_each : {A B : Type 0} (xs : List A) (ys : List B) (x : A) (y : B) → length xs ≡ length ys
    → length (xs ++ x ∷ []) ≡ length (ys ++ y ∷ [])
one_more_each xs ys x y n = length-append xs (x ∷ []) ∙ ap (λ k. k + 1) n ∙ sym (length-append ys (y ∷ []))

module _ {Input Requests Configuration : Type 0} (brings : Input → Requests → Type 0) where
  abbrev StepsOf : List (Event Input Configuration) → List Bool → List (Step Requests Configuration) → Type 0
  StepsOf = AreStepsOf {Input = Input} {Requests = Requests} {Configuration = Configuration} brings

  steps-append : (es fs : List (Event Input Configuration)) (ws vs : List Bool) (xs ys : List (Step Requests Configuration))
      → length es ≡ length ws → StepsOf es ws xs → StepsOf fs vs ys → StepsOf (es ++ fs) (ws ++ vs) (xs ++ ys)
  steps-append [] fs [] vs xs ys n a b = subst (λ zs. StepsOf fs vs (zs ++ ys)) (sym a) b
  steps-append [] fs (w ∷ ws) vs xs ys n a b = absurd cc
  steps-append (e ∷ es) fs [] vs xs ys n a b = absurd cc
  steps-append (e ∷ es) fs (true ∷ ws) vs xs ys n a b =
      (a.0, a.1 ++ ys, ap (λ zs. zs ++ ys) a.2, a.3, steps-append es fs ws vs a.1 ys (omega (arith, n)) a.4 b)
  steps-append (e ∷ es) fs (false ∷ ws) vs xs ys n (inl a) b = inl (steps-append es fs ws vs xs ys (omega (arith, n)) a b)
  steps-append (e ∷ es) fs (false ∷ ws) vs xs ys n (inr a) b =
      inr (a.0, a.1 ++ ys, ap (λ zs. zs ++ ys) a.2, a.3, steps-append es fs ws vs a.1 ys (omega (arith, n)) a.4 b)

  -- the step of one event, whether it went well or not
  one_step : (e : Event Input Configuration) (w : Bool) (x : Step Requests Configuration) → IsStepOf brings e x → StepsOf (e ∷ []) (w ∷ []) (x ∷ [])
  one_step e true x is = (x, [], refl, is, refl)
  one_step e false x is = inr (x, [], refl, is, refl)

module _ {Contents Requests Configuration : Type 0} (executed : Contents → Requests → Contents)
    (kept_part : Contents → Kept) (started : Configuration → Kept → Contents) where
  after-append : (xs ys : List (Step Requests Configuration)) (c : Contents)
      → after executed kept_part started (xs ++ ys) c ≡ after executed kept_part started ys (after executed kept_part started xs c)
  after-append [] ys c = refl
  after-append (Executed r ∷ xs) ys c = after-append xs ys (executed c r)
  after-append (Restarted with ∷ xs) ys c = after-append xs ys (started with (kept_part c))

module _ {Input Contents Requests Configuration : Type 0} (brings : Input → Requests → Type 0)
    (executed : Contents → Requests → Contents) (kept_part : Contents → Kept)
    (started : Configuration → Kept → Contents) where
  abbrev At : List (Event Input Configuration) → List Bool → Contents → Contents → Type 0
  At = AreAfter brings executed kept_part started

  abbrev Left : List (Event Input Configuration) → List Bool → Contents → Kept → Type 0
  Left = IsKeptAfter brings executed kept_part started

  -- what one more event makes
  pub made_after : (es : List (Event Input Configuration)) (ws : List Bool) (e : Event Input Configuration) (w : Bool)
      (IsServed : Contents → Type 0) (MayFind : Kept → Type 0) (first c : Contents) → length es ≡ length ws
      → ((d : Contents) → IsServed d → At es ws first d) → ((k : Kept) → MayFind k → Left es ws first k)
      → Makes brings executed started IsServed MayFind e c → At (es ++ e ∷ []) (ws ++ w ∷ []) first c
  made_after es ws (Round input) w IsServed MayFind first c n served found made =
      let before = served made.0 made.2 in
      let step = Executed made.1 in (
        before.0 ++ step ∷ [],
        steps-append brings es (Round input ∷ []) ws (w ∷ []) before.0 (step ∷ []) n before.1 (one_step brings (Round input) w step made.3),
        made.4 ∙ ap (λ d. executed d made.1) before.2 ∙ sym (after-append executed kept_part started before.0 (step ∷ []) first),
      )
  made_after es ws (Restart with) w IsServed MayFind first c n served found made =
      let before = found made.0 made.1 in
      let step = Restarted with in (
        before.0 ++ step ∷ [],
        steps-append brings es (Restart with ∷ []) ws (w ∷ []) before.0 (step ∷ []) n before.1 (one_step brings (Restart with) w step refl),
        made.2 ∙ ap (started with) before.2 ∙ sym (after-append executed kept_part started before.0 (step ∷ []) first),
      )

  -- what is kept of what one more event makes
  pub kept_of : (es : List (Event Input Configuration)) (ws : List Bool) (first c : Contents) (k : Kept)
      → At es ws first c → k ≡ kept_part c → Left es ws first k
  kept_of es ws first c k at is = (at.0, at.1, is ∙ ap kept_part at.2)

  -- an event that failed, and left what there was
  pub left_by_failed : (es : List (Event Input Configuration)) (ws : List Bool) (e : Event Input Configuration) (first : Contents) (k : Kept)
      → length es ≡ length ws → Left es ws first k → Left (es ++ e ∷ []) (ws ++ false ∷ []) first k
  left_by_failed es ws e first k n left = (
    left.0 ++ [],
    steps-append brings es (e ∷ []) ws (false ∷ []) left.0 [] n left.1 (inl refl),
    left.2 ∙ ap kept_part (sym (after-append executed kept_part started left.0 [] first)),
  )

  -- what a crash after one more event may leave
  pub left_after : (es : List (Event Input Configuration)) (ws : List Bool) (e : Event Input Configuration) (w : Bool)
      (IsServed : Contents → Type 0) (MayFind : Kept → Type 0) (first now : Contents) (k : Kept) → length es ≡ length ws
      → ((d : Contents) → IsServed d → At es ws first d) → ((f : Kept) → MayFind f → Left es ws first f)
      → (IsTrue w → Makes brings executed started IsServed MayFind e now) → (IsTrue w → k ≡ kept_part now)
      → MayFind k ⊎ ((c : Contents) × Makes brings executed started IsServed MayFind e c × (k ≡ kept_part c))
      → Left (es ++ e ∷ []) (ws ++ w ∷ []) first k
  left_after es ws e true IsServed MayFind first now k n served found made settled crash =
      kept_of (es ++ e ∷ []) (ws ++ true ∷ []) first now k (made_after es ws e true IsServed MayFind first now n served found (made refl)) (settled refl)
  left_after es ws e false IsServed MayFind first now k n served found made settled (inl may) =
      left_by_failed es ws e first k n (found k may)
  left_after es ws e false IsServed MayFind first now k n served found made settled (inr by) =
      kept_of (es ++ e ∷ []) (ws ++ false ∷ []) first by.0 k (made_after es ws e false IsServed MayFind first by.0 n served found by.1) by.2

module _ {Input Requests Configuration : Type 0} (brings : Input → Requests → Type 0) where
  -- an event that went well has its step
  pub has_its_step : (earlier later : List (Event Input Configuration)) (event : Event Input Configuration) (went went_later : List Bool)
      (steps : List (Step Requests Configuration)) → length earlier ≡ length went
      → AreStepsOf brings (earlier ++ event ∷ later) (went ++ true ∷ went_later) steps → HasItsStep brings earlier went event later went_later steps
  has_its_step [] later event [] went_later steps n are = ([], are.0, are.1, are.2, are.3, refl, are.4)
  has_its_step [] later event (w ∷ went) went_later steps n are = absurd cc
  has_its_step (e ∷ earlier) later event [] went_later steps n are = absurd cc
  has_its_step (e ∷ earlier) later event (true ∷ went) went_later steps n are =
      let more = has_its_step earlier later event went went_later are.1 (omega (arith, n)) are.4 in
      (are.0 ∷ more.0, more.1, more.2, are.2 ∙ ap (λ (xs : List (Step Requests Configuration)). are.0 ∷ xs) more.3, more.4, (are.0, more.0, refl, are.3, more.5), more.6)
  has_its_step (e ∷ earlier) later event (false ∷ went) went_later steps n (inl are) =
      let more = has_its_step earlier later event went went_later steps (omega (arith, n)) are in
      (more.0, more.1, more.2, more.3, more.4, inl more.5, more.6)
  has_its_step (e ∷ earlier) later event (false ∷ went) went_later steps n (inr are) =
      let more = has_its_step earlier later event went went_later are.1 (omega (arith, n)) are.4 in
      (are.0 ∷ more.0, more.1, more.2, are.2 ∙ ap (λ (xs : List (Step Requests Configuration)). are.0 ∷ xs) more.3, more.4, inr (are.0, more.0, refl, are.3, more.5), more.6)
