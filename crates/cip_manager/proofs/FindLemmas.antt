-- Finding a connection by its ID, in ascending order of IDs.
use Rattle.std.proofs.Common.{◌≡◌, ℕ, ◌+◌, ◌<◌, ◌≤◌, List, [], ◌∷◌, Bool, true, false, cond, not, ◌&&◌, ltb, get_or, length, map, Option, Some, None, refl, ap, subst, sym, ◌∙◌, inl, inr, arith}
use Rattle.std.specs.Prelude.{nat_lt, ◌==◌, is_some, slice_index}
use Rattle.std.specs.List.{position, position_or_len, list_any, AllByRecursion}
use Rattle.std.proofs.lemmas.Bool.{lt-ltb, le-ltb, cases_lt, cases_eq, ne_eqb, eqb-true, ltb-false}
use Rattle.std.proofs.lemmas.List.{length-map, get_or-map}
use Rattle.std.proofs.lemmas.List.Sums.{position_or_len_is, fails_before_first}
use Rattle.std.proofs.lemmas.List.Quantifiers.{position-Some}
use Rattle.std.proofs.lemmas.List.Elements.{All-from_get_or}
use Rattle.std.proofs.lemmas.List.Folds.{list_any_at, list_any_none}
use Rattle.slab.specs.Slab.{Slab, get}
use Rattle.cip_manager.specs.declared.connection.Connection.{Connection}
use Rattle.cip_manager.specs.declared.index.Entry.{Entry}
use Rattle.cip_manager.specs.Connection.{is_of_session, has_id, is_named}
use Rattle.cip_manager.specs.Index.{ids, keys, Rises}
use Rattle.cip_manager.specs.Table.{listed, Names}
use Rattle.cip_manager.proofs.IndexLemmas.{Rises-at}
use Rattle.cip_manager.proofs.Places.{first_at}
use Rattle.cip_manager.proofs.SlotLemmas.{ids-listed, listed-at}

module _ {X Y : Type 0} (f : X → Y) (p : Y → Bool) where
  position_or_len-map : (xs : List X) → position_or_len p (map f xs) ≡ position_or_len (λ x. p (f x)) xs
  position_or_len-map [] = refl
  position_or_len-map (x ∷ xs) = ap (λ n. cond (not (p (f x))) (1 + n) 0) (position_or_len-map xs)

  pub position-map : (xs : List X) → position p (map f xs) ≡ position (λ x. p (f x)) xs
  position-map xs = λ j. cond (nat_lt (position_or_len-map xs j) (length-map xs f j)) (Some (position_or_len-map xs j)) None

module _ {X : Type 0} (p : X → Bool) where
  -- none passes
  position-none_at : (xs : List X) (d : X) → ((k : ℕ) → k < length xs → p (get_or xs k d) ≡ false) → position p xs ≡ None
  position-none_at xs d h =
      let none : position_or_len p xs ≡ length xs = position_or_len_is p xs (length xs) d (omega arith) h (λ inside. absurd (omega arith)) in
      ap (λ i. cond (nat_lt i (length xs)) (Some i) None) none ∙ ap (λ b. cond b (Some (length xs)) None) (le-ltb (length xs) (length xs) (omega arith))

  position-none : (xs : List X) → ((k : ℕ) (d : X) → k < length xs → p (get_or xs k d) ≡ false) → position p xs ≡ None
  position-none [] h = refl
  position-none (x ∷ xs) h = position-none_at (x ∷ xs) x (λ k l. h k x l)

  -- one passes, and none before it
  position-some : (xs : List X) (i : ℕ) (d : X) → i < length xs → ((k : ℕ) → k < i → p (get_or xs k d) ≡ false) → p (get_or xs i d) ≡ true → position p xs ≡ Some i
  position-some xs i d h before here =
      let first : position_or_len p xs ≡ i = position_or_len_is p xs i d (omega arith) before (λ inside. here) in
      ap (λ k. cond (nat_lt k (length xs)) (Some k) None) first ∙ ap (λ b. cond b (Some i) None) (lt-ltb i (length xs) h)

  none-passes : (xs : List X) → position p xs ≡ None → (k : ℕ) (d : X) → k < length xs → p (get_or xs k d) ≡ false
  none-passes xs e k d h = go (ltb (position_or_len p xs) (length xs)) refl e
    where
      go : (b : Bool) → ltb (position_or_len p xs) (length xs) ≡ b → cond b (Some (position_or_len p xs)) None ≡ None → p (get_or xs k d) ≡ false
      go true t f = cc
      go false t f = fails_before_first p xs k d (omega (arith, h, ltb-false _ _ t))

  -- some passes if one has a position
  pub is_some-position : (xs : List X) → list_any p xs ≡ is_some (position p xs)
  is_some-position [] = refl
  is_some-position (x ∷ xs) = go (position p (x ∷ xs)) refl
    where
      go : (o : Option ℕ) → position p (x ∷ xs) ≡ o → list_any p (x ∷ xs) ≡ is_some o
      go None e = list_any_none p (x ∷ xs) (All-from_get_or (λ y. p y ≡ false) (x ∷ xs) x (λ k h. none-passes (x ∷ xs) e k x h))
      go (Some i) e =
          let there = position-Some p (x ∷ xs) i x e in
          list_any_at p (x ∷ xs) i x there.0 there.1

-- a connection that does not have the ID is not the one with it
not_named : (session id : ℕ) (connection : Connection) → has_id id connection ≡ false → is_named session id connection ≡ false
not_named session id connection e = go (is_of_session session connection)
  where
    go : (b : Bool) → (b && has_id id connection) ≡ false
    go true = e
    go false = refl

-- no connection has the ID
pub named-none : (session id : ℕ) (connections : List Connection) → position (has_id id) connections ≡ None → position (is_named session id) connections ≡ None
named-none session id connections e =
    position-none (is_named session id) connections
    (λ k d h. not_named session id (get_or connections k d) (none-passes (has_id id) connections e k d h))

-- the IDs of the connections
abbrev ids_of : List Connection → List ℕ
ids_of connections = map (λ c. c.o_to_t_id) connections

-- of two connections the later one has the greater ID
rising-ids : (connections : List Connection) (i j : ℕ) (d : Connection) → Rises (ids_of connections) → i < j → j < length connections
    → (get_or connections i d).o_to_t_id < (get_or connections j d).o_to_t_id
rising-ids connections i j d rises h k =
    let at : (n : ℕ) → n < length connections → get_or (ids_of connections) n 0 ≡ (get_or connections n d).o_to_t_id =
    λ n l. get_or-map (λ c. c.o_to_t_id) connections n d 0 l in
    omega (arith, Rises-at (ids_of connections) i j rises h (omega (arith, length-map connections (λ c. c.o_to_t_id), k)), at i (omega arith), at j k)

-- one connection has the ID: whether it belongs to the session
pub named-some : (session id i : ℕ) (connections : List Connection) (d : Connection) → Rises (ids_of connections) → position (has_id id) connections ≡ Some i
    → (b : Bool) → is_of_session session (get_or connections i d) ≡ b
    → position (is_named session id) connections ≡ cond b (Some i) None
named-some session id i connections d rises e b s =
    let there = position-Some (has_id id) connections i d e in
    let same : (get_or connections i d).o_to_t_id ≡ id = eqb-true _ _ there.1 in
    let here : is_named session id (get_or connections i d) ≡ b = both session id (get_or connections i d) b s there.1 in
    let other : (k : ℕ) → k < length connections → (k ≡ i → ⊥) → is_named session id (get_or connections k d) ≡ false =
    λ k h differ. not_named session id (get_or connections k d) (ne_eqb (get_or connections k d).o_to_t_id id (λ equal. elim (cases_lt k i) [
      | inl lower ↦ omega (arith, rising-ids connections k i d rises lower there.0, same, equal)
      | inr higher ↦ omega (arith, rising-ids connections i k d rises (above k i higher differ) h, same, equal)
    ])) in
    by_session b here other there.0
  where
    above : (k j : ℕ) → j ≤ k → (k ≡ j → ⊥) → j < k
    above k j h differ = elim (cases_lt j k) [ inl lower ↦ lower | inr higher ↦ absurd (differ (omega arith)) ]

    both : (n m : ℕ) (c : Connection) (x : Bool) → is_of_session n c ≡ x → has_id m c ≡ true → is_named n m c ≡ x
    both n m c true of has = ap (λ y. y && has_id m c) of ∙ has
    both n m c false of has = ap (λ y. y && has_id m c) of

    by_session : (x : Bool) → is_named session id (get_or connections i d) ≡ x
        → ((k : ℕ) → k < length connections → (k ≡ i → ⊥) → is_named session id (get_or connections k d) ≡ false)
        → i < length connections → position (is_named session id) connections ≡ cond x (Some i) None
    by_session true here other h =
        position-some (is_named session id) connections i d h (λ k l. other k (omega arith) (λ equal. omega arith)) here
    by_session false here other h = position-none_at (is_named session id) connections d (λ k l. elim (cases_eq k i) [
      | inl equal ↦ ap (λ n. is_named session id (get_or connections n d)) equal ∙ here
      | inr differ ↦ other k l differ
    ])

-- what a search of the index finds is the position of a connection
pub found-listed : (slab : Slab Connection) (entries : List Entry) (id : ℕ) (found : Option ℕ) → AllByRecursion (Names slab) entries
    → found ≡ position (λ other. other == id) (ids entries) → position (has_id id) (listed slab entries) ≡ found
found-listed slab entries id found named e =
    sym (position-map (λ c. c.o_to_t_id) (λ other. other == id) (listed slab entries))
    ∙ (ap (position (λ other. other == id)) (ids-listed slab entries named) ∙ sym e)

pub found-within : (entries : List Entry) (id i : ℕ) → position (λ other. other == id) (ids entries) ≡ Some i → i < length entries
found-within entries id i e =
    omega (arith, (first_at (λ other. other == id) (ids entries) i e).within, length-map entries (λ entry. entry.id))

-- and so, with a session, the position of its connection with the ID
pub found-named : (slab : Slab Connection) (entries : List Entry) (session id i key : ℕ) (connection : Connection) → AllByRecursion (Names slab) entries → Rises (ids entries)
    → position (λ other. other == id) (ids entries) ≡ Some i → key ≡ slice_index (keys entries) i → get slab key ≡ Some connection
    → (b : Bool) → is_of_session session connection ≡ b → position (is_named session id) (listed slab entries) ≡ cond b (Some i) None
found-named slab entries session id i key connection named rises e at found b s =
    let value : get_or (listed slab entries) i connection ≡ connection = listed-at slab entries i key connection connection named (found-within entries id i e) at found in
    named-some session id i (listed slab entries) connection (subst Rises (sym (ids-listed slab entries named)) rises) (found-listed slab entries id (Some i) named (sym e)) b
    (ap (is_of_session session) value ∙ s)
