-- The connection that a session and an ID name, if the session has one connection or none.
use Rattle.std.proofs.Common.{◌≡◌, ℕ, Bool, true, false, cond, eqb, ◌&&◌, Some, None, List, [], ◌∷◌, refl, ap, ◌∙◌}
use Rattle.std.specs.Prelude.{find}
use Rattle.std.proofs.lemmas.Bool.{eq-eqb}
use Rattle.cip_manager.specs.declared.connection.Connection.{Connection}
use Rattle.cip_manager.specs.Connection.{is_named}
use Rattle.cip_manager.specs.Items.{with_first}
use Rattle.cip_manager.specs.Runs.{of_session}

head_is : {X : Type 0} (x y : X) (xs ys : List X) → x ∷ xs ≡ y ∷ ys → x ≡ y
head_is x y xs ys e = cc

tail_is : {X : Type 0} (x y : X) (xs ys : List X) → x ∷ xs ≡ y ∷ ys → xs ≡ ys
tail_is x y xs ys e = cc

pub named-none : (session id : ℕ) (xs : List Connection) → of_session session xs ≡ [] →
    find (is_named session id) xs ≡ None
named-none session id [] e = refl
named-none session id (x ∷ xs) e = go (eqb x.session session) e (λ f. named-none session id xs f)
  where
    go : (b : Bool) → cond b (x ∷ of_session session xs) (of_session session xs) ≡ [] →
        (of_session session xs ≡ [] → find (is_named session id) xs ≡ None) →
        cond (b && eqb x.o_to_t_id id) (Some x) (find (is_named session id) xs) ≡ None
    go true f rest = absurd (cc)
    go false f rest = rest f

pub record IsNamedAlone (session id : ℕ) (xs : List Connection) (c : Connection) : Type 0 where
  pub found : find (is_named session id) xs ≡ Some c
  pub changed : (new : Connection) → new.session ≡ session →
      of_session session (with_first (is_named session id) new xs) ≡ new ∷ []

pub named-alone : (session id : ℕ) (xs : List Connection) (c : Connection) → of_session session xs ≡ c ∷ [] →
    c.o_to_t_id ≡ id → IsNamedAlone session id xs c
named-alone session id [] c e same = absurd (cc)
named-alone session id (x ∷ xs) c e same =
    go (eqb x.session session) refl e (λ f. named-alone session id xs c f same)
  where
    first : (b : Bool) → b ≡ true → x ≡ c → of_session session xs ≡ [] →
        (cond b (Some x) (find (is_named session id) xs) ≡ Some c)
        × ((new : Connection) → new.session ≡ session →
        of_session session (cond b (new ∷ xs) (x ∷ with_first (is_named session id) new xs)) ≡ new ∷ [])
    first true t is none = (
      ap (λ z. Some z) is,
      λ new own.
          ap (λ b. cond b (new ∷ of_session session xs) (of_session session xs)) (eq-eqb new.session session own)
          ∙ ap (λ zs. new ∷ zs) none,
    )
    first false t is none = absurd (cc)

    go : (b : Bool) → eqb x.session session ≡ b →
        cond b (x ∷ of_session session xs) (of_session session xs) ≡ c ∷ [] →
        (of_session session xs ≡ c ∷ [] → IsNamedAlone session id xs c) →
        IsNamedAlone session id (x ∷ xs) c
    go true t f rest =
        let is : x ≡ c = head_is x c (of_session session xs) [] f in
        let all : (eqb x.session session && eqb x.o_to_t_id id) ≡ true
        = ap (λ b. b && eqb x.o_to_t_id id) t ∙ eq-eqb x.o_to_t_id id (ap (λ (z : Connection). z.o_to_t_id) is ∙ same) in
        let pair = first (eqb x.session session && eqb x.o_to_t_id id) all is
        (tail_is x c (of_session session xs) [] f) in
        record { found = pair.0; changed = pair.1 }
    go false t f rest =
        let none : (eqb x.session session && eqb x.o_to_t_id id) ≡ false = ap (λ b. b && eqb x.o_to_t_id id) t in
        let more : IsNamedAlone session id xs c = rest f in
        record {
          found = ap (λ b. cond b (Some x) (find (is_named session id) xs)) none ∙ more.found;
          changed = λ new own.
              ap (λ b. of_session session (cond b (new ∷ xs) (x ∷ with_first (is_named session id) new xs))) none
              ∙ (ap (λ b. cond b (x ∷ of_session session (with_first (is_named session id) new xs))
              (of_session session (with_first (is_named session id) new xs))) t
              ∙ more.changed new own);
        }
