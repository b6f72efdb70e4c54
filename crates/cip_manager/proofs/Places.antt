-- The position of the first connection that passes a test.
use Rattle.std.proofs.Common.{◌≡◌, ℕ, zero, suc, ◌+◌, ◌<◌, ◌≤◌, List, [], ◌∷◌, Bool, true, false, cond, not, ltb, ltb-true, ltb-false, get_or, Some, None, length, refl, ap, subst, ◌∙◌, arith}
use Rattle.std.specs.Prelude.{slice_get, slice_set, slice_index_or, find}
use Rattle.std.specs.List.{position_or_len, position}
use Rattle.std.proofs.lemmas.List.Folds.{find_at}
use Rattle.cip_manager.specs.declared.connection.Connection.{Connection}
use Rattle.cip_manager.specs.Connection.{is_named}
use Rattle.cip_manager.specs.Items.{with_first, ConnectionTurn, answer_of, turn_of_connection, turn_of_found, item_turn}

-- a change of the first is a change at its position
with_first-position : {X : Type 0} → (test : X → Bool) (y : X) (xs : List X) → with_first test y xs ≡ slice_set xs (position_or_len test xs) y
with_first-position test y [] = refl
with_first-position {X} test y (x ∷ xs) =
    let rest : with_first test y xs ≡ slice_set xs (position_or_len test xs) y = with_first-position test y xs in
    let next : suc (position_or_len test xs) ≡ 1 + position_or_len test xs = omega arith in
    elim (test x) as (λ b. cond b (y ∷ xs) (x ∷ with_first test y xs) ≡ slice_set (x ∷ xs) (cond (not b) (1 + position_or_len test xs) 0) y) [
      | true ↦ refl
      | false ↦ subst (λ i. x ∷ with_first test y xs ≡ slice_set (x ∷ xs) i y) next (ap (λ ys. x ∷ ys) rest)
    ]

slice_get-within : {X : Type 0} → (xs : List X) (i : ℕ) (d : X) → i < length xs → slice_get xs i ≡ Some (get_or xs i d)
slice_get-within [] i d h = absurd (omega arith)
slice_get-within (x ∷ xs) zero d h = refl
slice_get-within (x ∷ xs) (suc i) d h = slice_get-within xs i d (omega arith)

slice_get-past : {X : Type 0} → (xs : List X) (i : ℕ) → length xs ≤ i → slice_get xs i ≡ None
slice_get-past [] i h = refl
slice_get-past (x ∷ xs) zero h = absurd (omega arith)
slice_get-past (x ∷ xs) (suc i) h = slice_get-past xs i (omega arith)

-- the first that passes the test is at that position
pub record IsFirst {X : Type 0} (test : X → Bool) (xs : List X) (i : ℕ) : Type 0 where
  pub within : i < length xs
  pub found : (d : X) → find test xs ≡ Some (slice_index_or xs i d)
  pub changed : (y : X) → with_first test y xs ≡ slice_set xs i y

pub first_at : {X : Type 0} → (test : X → Bool) (xs : List X) (i : ℕ) → position test xs ≡ Some i → IsFirst test xs i
first_at {X} test xs i e = go (ltb (position_or_len test xs) (length xs)) refl e
  where
    go : (b : Bool) → ltb (position_or_len test xs) (length xs) ≡ b → cond b (Some (position_or_len test xs)) None ≡ Some i → IsFirst test xs i
    go true t f =
        let here : position_or_len test xs ≡ i = cc in
        subst (λ k. IsFirst test xs k) here (record {
          within = ltb-true _ _ t;
          found = λ d. find_at test xs ∙ slice_get-within xs _ d (ltb-true _ _ t);
          changed = λ y. with_first-position test y xs;
        })
    go false t f = cc

pub none_found : {X : Type 0} → (test : X → Bool) (xs : List X) → position test xs ≡ None → find test xs ≡ None
none_found {X} test xs e = go (ltb (position_or_len test xs) (length xs)) refl e
  where
    go : (b : Bool) → ltb (position_or_len test xs) (length xs) ≡ b → cond b (Some (position_or_len test xs)) None ≡ None → find test xs ≡ None
    go true t f = cc
    go false t f = find_at test xs ∙ slice_get-past xs _ (ltb-false _ _ t)

module _ {M : Type 0} (after : M → ℕ → List ℕ → M) (answer : M → ℕ → List ℕ → List ℕ) where
  -- if no connection is named, nothing changes
  pub stays : (cs : List Connection) (now session id : ℕ) (bytes : List ℕ) (router : M) → position (is_named session id) cs ≡ None
      → item_turn after answer cs now session id bytes router ≡ record { connections = cs; router = router; reply = None }
  stays cs now session id bytes router e = ap (turn_of_found after answer cs now session id bytes router) (none_found (is_named session id) cs e)

  -- the connection at the position of the first that is named receives the item
  pub receives_at : (cs : List Connection) (now session id : ℕ) (bytes : List ℕ) (router : M) (i : ℕ) (old : Connection)
      → position (is_named session id) cs ≡ Some i → slice_index_or cs i old ≡ old
      → item_turn after answer cs now session id bytes router
      ≡ record {
        connections = slice_set cs i (turn_of_connection after answer old now bytes router).connection;
        router = (turn_of_connection after answer old now bytes router).router;
        reply = answer_of (turn_of_connection after answer old now bytes router);
      }
  receives_at cs now session id bytes router i old e here =
      let first : IsFirst (is_named session id) cs i = first_at (is_named session id) cs i e in
      let turn : ConnectionTurn M = turn_of_connection after answer old now bytes router in
      ap (turn_of_found after answer cs now session id bytes router) (first.found old ∙ ap Some here)
      ∙ ap (λ left. record { connections = left; router = turn.router; reply = answer_of turn }) (first.changed turn.connection)
