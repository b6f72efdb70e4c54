-- The connections that an index names in a slab, and the effect of a change of one key.
use Rattle.std.proofs.Common.{◌≡◌, ◌≢◌, ℕ, zero, suc, ◌<◌, List, [], ◌∷◌, ◌++◌, length, get_or, set, map, Option, Some, None, refl, ap, subst, sym, ◌∙◌, arith}
use Rattle.std.specs.Prelude.{slice_index, is_some, cond}
use Rattle.std.specs.List.{AllByRecursion, remove, cons_option}
use Rattle.std.proofs.lemmas.List.{get_or-map}
use Rattle.std.proofs.lemmas.List.Sums.{sum_by-set}
use Rattle.std.proofs.lemmas.List.Elements.{recursion_from_All}
use Rattle.slab.specs.Slab.{Slab, get, ContainsKey, slab_len, with_value, Updates}
use Rattle.slab.proofs.SlabLemmas.{ContainsKey-within, Updates-with_value}
use Rattle.cip_manager.specs.declared.connection.Connection.{Connection}
use Rattle.cip_manager.specs.declared.index.Entry.{Entry}
use Rattle.cip_manager.specs.Index.{ids, keys, Rises}
use Rattle.cip_manager.specs.Table.{listed, Names, AreBelow}

same_value : (c d : Connection) → Some c ≡ Some d → c ≡ d
same_value c d e = cc

module _ (slab : Slab Connection) where
  pub length-listed : (entries : List Entry) → AllByRecursion (Names slab) entries → length (listed slab entries) ≡ length entries
  length-listed [] named = refl
  length-listed (entry ∷ entries) named =
      ap (λ o. length (cons_option o (listed slab entries))) named.0.kept ∙ ap suc (length-listed entries named.1)

  -- a position of the connections is one of the entries
  pub within : (entries : List Entry) (connections : List Connection) (i : ℕ) → AllByRecursion (Names slab) entries → listed slab entries ≡ connections
      → i < length connections → i < length entries
  within entries connections i named same h = omega (arith, length-listed entries named, ap length same, h)

  -- if there are fewer connections than slots, there are fewer entries
  pub leaves-position : (entries : List Entry) (connections : List Connection) (places : ℕ) → AllByRecursion (Names slab) entries → listed slab entries ≡ connections
      → length connections < places → length entries < places
  leaves-position entries connections places named same h = omega (arith, length-listed entries named, ap length same, h)

  -- their IDs are those of the entries
  pub ids-listed : (entries : List Entry) → AllByRecursion (Names slab) entries → map (λ c. c.o_to_t_id) (listed slab entries) ≡ ids entries
  ids-listed [] named = refl
  ids-listed (entry ∷ entries) named =
      ap (λ o. map (λ c. c.o_to_t_id) (cons_option o (listed slab entries))) named.0.kept
      ∙ (λ j. named.0.same j ∷ ids-listed entries named.1 j)

  -- the slab has the connection of a position at the key of that position
  pub get-listed : (entries : List Entry) (i : ℕ) (d : Connection) → AllByRecursion (Names slab) entries → i < length entries
      → get slab (slice_index (keys entries) i) ≡ Some (get_or (listed slab entries) i d)
  get-listed [] i d named h = absurd (omega arith)
  get-listed (entry ∷ entries) zero d named h =
      named.0.kept ∙ sym (ap (λ o. Some (get_or (cons_option o (listed slab entries)) zero d)) named.0.kept)
  get-listed (entry ∷ entries) (suc i) d named h =
      get-listed entries i d named.1 (omega arith) ∙ sym (ap (λ o. Some (get_or (cons_option o (listed slab entries)) (suc i) d)) named.0.kept)

  pub has-key : (entries : List Entry) (i : ℕ) → AllByRecursion (Names slab) entries → i < length entries → ContainsKey slab (slice_index (keys entries) i)
  has-key [] i named h = absurd (omega arith)
  has-key (entry ∷ entries) zero named h = ap is_some named.0.kept
  has-key (entry ∷ entries) (suc i) named h = has-key entries i named.1 (omega arith)

  -- what the slab has at the key of a position is the connection at that position
  pub listed-at : (entries : List Entry) (i key : ℕ) (connection d : Connection) → AllByRecursion (Names slab) entries → i < length entries
      → key ≡ slice_index (keys entries) i → get slab key ≡ Some connection → get_or (listed slab entries) i d ≡ connection
  listed-at entries i key connection d named h at found =
      same_value (get_or (listed slab entries) i d) connection (sym (get-listed entries i d named h) ∙ (ap (get slab) (sym at) ∙ found))

  pub id-listed : (entries : List Entry) (i : ℕ) (d : Connection) → AllByRecursion (Names slab) entries → i < length entries
      → (get_or (listed slab entries) i d).o_to_t_id ≡ slice_index (ids entries) i
  id-listed entries i d named h =
      sym (get_or-map (λ c. c.o_to_t_id) (listed slab entries) i d 0 (omega (arith, length-listed entries named, h)))
      ∙ ap (λ ns. slice_index ns i) (ids-listed entries named)

  -- IDs that are all below a number are also below it in the index
  pub ids-below : (n : ℕ) (entries : List Entry) → AllByRecursion (Names slab) entries → AreBelow n (listed slab entries) → AllByRecursion (λ other. other < n) (ids entries)
  ids-below n entries named below =
      subst (AllByRecursion (λ other. other < n)) (ids-listed entries named) (mapped (listed slab entries) (recursion_from_All (λ c. c.o_to_t_id < n) (listed slab entries) below))
    where
      mapped : (cs : List Connection) → AllByRecursion (λ c. c.o_to_t_id < n) cs → AllByRecursion (λ other. other < n) (map (λ c. c.o_to_t_id) cs)
      mapped [] all = tt
      mapped (c ∷ cs) all = (all.0, mapped cs all.1)

  -- a write at a key that has a connection does not change the number of connections
  pub slab_len-with_value : (key : ℕ) (connection : Connection) → ContainsKey slab key → slab_len (with_value slab key connection) ≡ slab_len slab
  slab_len-with_value key connection has =
      omega (arith, sum_by-set (λ o. cond (is_some o) 1 0) slab.slots key (Some connection) None (ContainsKey-within slab key has), ap {B = ℕ} (λ b. cond b 1 0) has)

  -- entries with other IDs have other keys
  apart : (a b : Entry) → Names slab a → Names slab b → a.id < b.id → a.key ≢ b.key
  apart a b x y h e =
      let same : x.connection ≡ y.connection = same_value x.connection y.connection (sym x.kept ∙ (ap (get slab) e ∙ y.kept)) in
      let equal : a.id ≡ b.id = sym x.same ∙ (ap (λ c. c.o_to_t_id) same ∙ y.same) in
      omega (arith, h, equal)

  keys_apart : (entry : Entry) (entries : List Entry) → Names slab entry → AllByRecursion (λ later. entry.id < later) (ids entries) → AllByRecursion (Names slab) entries
      → AllByRecursion (λ other. entry.key ≢ other.key) entries
  keys_apart entry [] x below named = tt
  keys_apart entry (other ∷ entries) x below named =
      (apart entry other x named.0 below.0, keys_apart entry entries x below.1 named.1)

  -- the key at a later position is another one
  key_apart : (entry : Entry) (entries : List Entry) (i : ℕ) → Names slab entry → AllByRecursion (λ later. entry.id < later) (ids entries) → AllByRecursion (Names slab) entries
      → i < length entries → entry.key ≢ slice_index (keys entries) i
  key_apart entry [] i x below named h = absurd (omega arith)
  key_apart entry (other ∷ entries) zero x below named h = apart entry other x named.0 below.0
  key_apart entry (other ∷ entries) (suc i) x below named h = key_apart entry entries i x below.1 named.1 (omega arith)

  -- no entry names a key that has no connection
  no_key : (key : ℕ) (entries : List Entry) → get slab key ≡ None → AllByRecursion (Names slab) entries → AllByRecursion (λ other. key ≢ other.key) entries
  no_key key [] none named = tt
  no_key key (entry ∷ entries) none named =
      (λ e. absurd (differ named.0.connection (sym none ∙ (ap (get slab) e ∙ named.0.kept))), no_key key entries none named.1)
    where
      differ : (c : Connection) → None ≡ Some c → ⊥
      differ c e = cc

-- the connections after a change are these, and each entry names one
pub record Shows (slab : Slab Connection) (entries : List Entry) (shown : List Connection) : Type 0 where
  pub connections : listed slab entries ≡ shown
  pub named : AllByRecursion (Names slab) entries

module _ (old new : Slab Connection) (key : ℕ) (slot : Option Connection) (updates : Updates old new key slot) where
  -- entries with other keys name the same connections as before
  kept : (entries : List Entry) → AllByRecursion (λ other. key ≢ other.key) entries → AllByRecursion (Names old) entries → Shows new entries (listed old entries)
  kept [] differ named = record { connections = refl; named = tt }
  kept (entry ∷ entries) differ named =
      let rest = kept entries differ.1 named.1 in
      let here : get new entry.key ≡ get old entry.key = updates.others entry.key (λ e. differ.0 (sym e)) in
      record {
        connections = λ j. cons_option (here j) (rest.connections j);
        named = (record { connection = named.0.connection; kept = here ∙ named.0.kept; same = named.0.same }, rest.named);
      }

  -- a new connection is appended
  pub Shows-push : (entries : List Entry) (connection : Connection) → get old key ≡ None → slot ≡ Some connection → AllByRecursion (Names old) entries
      → Shows new (entries ++ record { id = connection.o_to_t_id; key = key } ∷ []) (listed old entries ++ connection ∷ [])
  Shows-push entries connection none is named = go entries (no_key old key entries none named) named
    where
      here : get new key ≡ Some connection
      here = updates.changed ∙ is

      go : (es : List Entry) → AllByRecursion (λ other. key ≢ other.key) es → AllByRecursion (Names old) es
          → Shows new (es ++ record { id = connection.o_to_t_id; key = key } ∷ []) (listed old es ++ connection ∷ [])
      go [] differ names = record {
        connections = ap (λ o. cons_option o []) here;
        named = (record { connection = connection; kept = here; same = refl }, tt);
      }
      go (e ∷ es) differ names =
          let rest = go es differ.1 names.1 in
          let same : get new e.key ≡ get old e.key = updates.others e.key (λ k. differ.0 (sym k)) in
          record {
            connections =
                ap (λ o. cons_option o (listed new (es ++ record { id = connection.o_to_t_id; key = key } ∷ []))) (same ∙ names.0.kept)
                ∙ (ap (λ cs. names.0.connection ∷ cs) rest.connections
                ∙ sym (ap (λ o. cons_option o (listed old es) ++ connection ∷ []) names.0.kept));
            named = (record { connection = names.0.connection; kept = same ∙ names.0.kept; same = names.0.same }, rest.named);
          }

  -- removing an entry removes its connection
  pub Shows-remove : (entries : List Entry) (i : ℕ) → i < length entries → key ≡ slice_index (keys entries) i → Rises (ids entries) → AllByRecursion (Names old) entries
      → Shows new (remove entries i) (remove (listed old entries) i)
  Shows-remove [] i h at rises named = absurd (omega arith)
  Shows-remove (entry ∷ entries) zero h at rises named =
      let rest = kept entries (move (keys_apart old entry entries named.0 rises.0 named.1)) named.1 in
      record {
        connections = rest.connections ∙ sym (ap (λ o. remove (cons_option o (listed old entries)) zero) named.0.kept);
        named = rest.named;
      }
    where
      move : AllByRecursion (λ other. entry.key ≢ other.key) entries → AllByRecursion (λ other. key ≢ other.key) entries
      move all = subst (λ k. AllByRecursion (λ other. k ≢ other.key) entries) (sym at) all
  Shows-remove (entry ∷ entries) (suc i) h at rises named =
      let rest = Shows-remove entries i (omega arith) at rises.1 named.1 in
      let same : get new entry.key ≡ get old entry.key = updates.others entry.key (λ e. key_apart old entry entries i named.0 rises.0 named.1 (omega arith) (e ∙ at)) in
      record {
        connections =
            ap (λ o. cons_option o (listed new (remove entries i))) (same ∙ named.0.kept)
            ∙ (ap (λ cs. named.0.connection ∷ cs) rest.connections
            ∙ sym (ap (λ o. remove (cons_option o (listed old entries)) (suc i)) named.0.kept));
        named = (record { connection = named.0.connection; kept = same ∙ named.0.kept; same = named.0.same }, rest.named);
      }

  -- another connection with the same ID replaces one
  pub Shows-set : (entries : List Entry) (i : ℕ) (connection : Connection) → i < length entries → key ≡ slice_index (keys entries) i → Rises (ids entries) → AllByRecursion (Names old) entries
      → slot ≡ Some connection → connection.o_to_t_id ≡ slice_index (ids entries) i
      → Shows new entries (set (listed old entries) i connection)
  Shows-set [] i connection h at rises named is id = absurd (omega arith)
  Shows-set (entry ∷ entries) zero connection h at rises named is id =
      let rest = kept entries (move (keys_apart old entry entries named.0 rises.0 named.1)) named.1 in
      let here : get new entry.key ≡ Some connection = ap (get new) (sym at) ∙ (updates.changed ∙ is) in
      record {
        connections =
            ap (λ o. cons_option o (listed new entries)) here
            ∙ (ap (λ cs. connection ∷ cs) rest.connections
            ∙ sym (ap (λ o. set (cons_option o (listed old entries)) zero connection) named.0.kept));
        named = (record { connection = connection; kept = here; same = id }, rest.named);
      }
    where
      move : AllByRecursion (λ other. entry.key ≢ other.key) entries → AllByRecursion (λ other. key ≢ other.key) entries
      move all = subst (λ k. AllByRecursion (λ other. k ≢ other.key) entries) (sym at) all
  Shows-set (entry ∷ entries) (suc i) connection h at rises named is id =
      let rest = Shows-set entries i connection (omega arith) at rises.1 named.1 is id in
      let same : get new entry.key ≡ get old entry.key = updates.others entry.key (λ e. key_apart old entry entries i named.0 rises.0 named.1 (omega arith) (e ∙ at)) in
      record {
        connections =
            ap (λ o. cons_option o (listed new entries)) (same ∙ named.0.kept)
            ∙ (ap (λ cs. named.0.connection ∷ cs) rest.connections
            ∙ sym (ap (λ o. set (cons_option o (listed old entries)) (suc i) connection) named.0.kept));
        named = (record { connection = named.0.connection; kept = same ∙ named.0.kept; same = named.0.same }, rest.named);
      }

-- a connection that received an item replaces itself
pub Shows-received : (slab : Slab Connection) (entries : List Entry) (i key : ℕ) (old new : Connection) → i < length entries → key ≡ slice_index (keys entries) i
    → Rises (ids entries) → AllByRecursion (Names slab) entries → get slab key ≡ Some old → new.o_to_t_id ≡ old.o_to_t_id
    → Shows (with_value slab key new) entries (set (listed slab entries) i new)
Shows-received slab entries i key old new h at rises named found same =
    let has : ContainsKey slab key = ap is_some found in
    let here : (get_or (listed slab entries) i old).o_to_t_id ≡ slice_index (ids entries) i = id-listed slab entries i old named h in
    let value : get_or (listed slab entries) i old ≡ old = listed-at slab entries i key old old named h at found in
    Shows-set slab (with_value slab key new) key (Some new) (Updates-with_value slab key new has) entries i new h at rises named refl
    (same ∙ (ap (λ c. c.o_to_t_id) (sym value) ∙ here))
