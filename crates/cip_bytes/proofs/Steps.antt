-- Steps of reading one after another.
use Rattle.std.proofs.Common.{◌≡◌, ◌↔◌, sym, ◌∙◌, Bool, true, false, cond, Result, Ok, Err, ◌⊎◌, inl, inr, refl}
use Rattle.cip_bytes.specs.Reading.{◌>>=◌, Gives}

-- the value of a step that did not fail
pub bind_ok : {A B E : Type 0} (r : Result A E) (f : A → Result B E) (y : B) → (r >>= f) ≡ Ok y → (x : A) × (r ≡ Ok x) × (f x ≡ Ok y)
bind_ok (Ok x) f y e = (x, refl, e)
bind_ok (Err d) f y e = absurd cc

-- the step that failed
pub bind_err : {A B E : Type 0} (r : Result A E) (f : A → Result B E) (d : E) → (r >>= f) ≡ Err d → (r ≡ Err d) ⊎ ((x : A) × (r ≡ Ok x) × (f x ≡ Err d))
bind_err (Ok x) f d e = inr (x, refl, e)
bind_err (Err c) f d e = inl cc

-- which way a test went
pub chosen : {A : Type 0} (b : Bool) (x y z : A) → cond b x y ≡ z → ((b ≡ true) × (x ≡ z)) ⊎ ((b ≡ false) × (y ≡ z))
chosen true x y z e = inl (refl, e)
chosen false x y z e = inr (refl, e)

abbrev done : {A E : Type 0} → A → Result A E
done x = Ok x

pub ok_is : {A E : Type 0} (x y : A) → done {E = E} x ≡ done y → x ≡ y
ok_is x y e = cc

abbrev failed : {A E : Type 0} → E → Result A E
failed x = Err x

pub err_is : {A E : Type 0} (x y : E) → failed {A = A} x ≡ failed y → x ≡ y
err_is x y e = cc

-- what a function returned is what reading gives
pub gives_iff : {X Y E : Type 0} (view : X → Y) (r : Result X E) (read other : Result Y E) → Gives view r read → Gives view r other ↔ (read ≡ other)
gives_iff view (Ok x) read other e = ((λ h. e ∙ sym h), (λ h. sym h ∙ e))
gives_iff view (Err x) read other e = ((λ h. e ∙ sym h), (λ h. sym h ∙ e))

pub iff_then : {A B C : Type 0} → A ↔ B → B ↔ C → A ↔ C
iff_then p q = ((λ a. q.0 (p.0 a)), (λ c. p.1 (q.1 c)))

-- a test that did not fail, and one that did
pub guarded_ok : {A E : Type 0} (b : Bool) (d : E) (x y : A) → cond b (Err d) (Ok x) ≡ Ok y → (b ≡ false) × (x ≡ y)
guarded_ok true d x y e = absurd cc
guarded_ok false d x y e = (refl, cc)

pub guarded_err : {A E : Type 0} (b : Bool) (d : E) (x : A) (k : E) → cond b (Err d) (Ok x) ≡ Err k → (b ≡ true) × (k ≡ d)
guarded_err true d x k e = (refl, cc)
guarded_err false d x k e = absurd cc
