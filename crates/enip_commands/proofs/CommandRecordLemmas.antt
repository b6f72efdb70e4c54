-- The lines of a file with ids are told apart.
use Rattle.std.proofs.Common.{◌≡◌, ℕ, zero, suc, ◌+◌, ◌-◌, ◌<◌, ◌≤◌, ◌==◌, ◌||◌, Bool, true, false, List, [], ◌∷◌, ◌++◌, codes, length, map, drop, take, get_or, cond}
use Rattle.std.proofs.Common.{◌*◌, ◌/◌, length-take-le, Option, Some, None, Result, Ok, Err, refl, sym, ap, ◌∙◌, arith, append_assoc, option_map, length-append}
use Rattle.std.specs.List.{list_all, list_any, find}
use Rattle.std.specs.Str.{bytes_eq}
use Rattle.std.proofs.lemmas.Slice.Eq.{bytes_eq-Decides}
use Rattle.std.proofs.lemmas.Bool.{or_parts, or_from, and_parts, false_from_ne_true}
use Rattle.std.proofs.lemmas.List.{append_cancel_left, append-nil, take_more, map-append, length-map, drop-append-le, drop-map}
use Rattle.std.specs.Prelude.{IfOk}
use Rattle.std.specs.Fmt.{decimal}
use Rattle.std.proofs.lemmas.Fmt.{decimal_injective}
use Rattle.cip_commander.specs.CommanderRule.{CommanderState}
use Rattle.std.specs.Prelude.{nat_lt, not, is_some}
use Rattle.std.specs.Prelude.{IfSome}
use Rattle.std.proofs.lemmas.Bool.Decides.{nat_tests}
use Rattle.std.proofs.lemmas.List.Folds.{list_any-append}
use Rattle.enip_commands.specs.CommandFiles.{line, file_text, IsKept}
use Rattle.enip_commands.specs.CommandRecords.{Done, is_id_byte, is_id, is_lower_digit, are_digits, is_done, has_id, AreDistinct}
use Rattle.enip_commands.specs.CommandRecords.{done_text, dones_text, AreRead, LacksCommands, commander_lines, is_id_or_none}
use Rattle.enip_commands.specs.CommandRecords.{pending_id_text, pending_id_line, ids_head, count_line, Record, record_text, has_ids, text_with_ids, text_of_both, IsKeptRecord, is_whole, is_new_id}
use Rattle.hex.specs.Hex.{encode_lower, lower_digits}
use Rattle.hex.proofs.HexLemmas.{length-encode_with}
use Rattle.enip_commands.specs.CommandRecords.{done_in, kept_after, record_after, plan_of_id, known_plan, unknown_plan}
use Rattle.enip_commands.specs.declared.command_record.DoneCommand.{DoneCommand}
use Rattle.enip_commands.proofs.CommandFileLemmas.{HasNoLineFeed, lines_agree, decimal_no_feed}

-- ---- values

-- Bytes of which each passes a test that a line feed fails.
no_feed : (p : ℕ → Bool) → p 10 ≡ false → (xs : List ℕ) → list_all p xs ≡ true → HasNoLineFeed xs
no_feed p fails [] all = refl
no_feed p fails (x ∷ xs) all =
    let (here, more) = and_parts (p x) (list_all p xs) all in
    let differs : (x == 10) ≡ false = false_from_ne_true (x == 10) (λ e. grind (arith, here, fails, e)) in
    or_from (x == 10) (list_any (λ b. b == 10) xs) differs (no_feed p fails xs more)

pub id_no_feed : (id : List ℕ) → is_id id ≡ true → HasNoLineFeed id
id_no_feed id is = no_feed is_id_byte refl id (and_parts _ _ is).1

pub digits_no_feed : (digits : List ℕ) (most : ℕ) → are_digits digits most ≡ true → HasNoLineFeed digits
digits_no_feed digits most are = no_feed is_lower_digit refl digits (and_parts _ _ are).1

-- ---- one command

pub record IsFit (d : Done) : Type 0 where
  pub id : is_id d.id ≡ true
  pub request : are_digits d.request 956 ≡ true
  pub reply : are_digits d.reply 8000 ≡ true

pub fit_parts : (d : Done) → is_done d ≡ true → IsFit d
fit_parts d is =
    let (first, reply) = and_parts _ _ is in
    let (id, request) = and_parts _ _ first in
    record { id = id; request = request; reply = reply }

-- The three lines of a command and what follows.
abbrev pub three : List ℕ → List ℕ → List ℕ → List ℕ → List ℕ
three id request reply rest =
    line (codes "id ") id ++ (line (codes "request ") request ++ (line (codes "reply ") reply ++ rest))

pub done_lines : (d : Done) (rest : List ℕ) → done_text d ++ rest ≡ three d.id d.request d.reply rest
done_lines d rest = simp append_assoc

abbrev done_of : List ℕ → List ℕ → List ℕ → Done
done_of id request reply = record { id = id; request = request; reply = reply }

pub dones_agree : (a b : Done) → a.id ≡ b.id → a.request ≡ b.request → a.reply ≡ b.reply → a ≡ b
dones_agree a b e f g =
    ap (λ (x : List ℕ). done_of x a.request a.reply) e ∙ ap (λ (x : List ℕ). done_of b.id x a.reply) f ∙ ap (λ (x : List ℕ). done_of b.id b.request x) g

-- Two texts that begin with the lines of a command have the same command, and the same follows.
pub done_texts_agree : (a b : Done) (r s : List ℕ) → is_done a ≡ true → is_done b ≡ true → done_text a ++ r ≡ done_text b ++ s → (a ≡ b) × (r ≡ s)
done_texts_agree a b r s of_a of_b e =
    let fit_a = fit_parts a of_a in
    let fit_b = fit_parts b of_b in
    let lines : three a.id a.request a.reply r ≡ three b.id b.request b.reply s = sym (done_lines a r) ∙ e ∙ done_lines b s in
    let (ids, after_id) = lines_agree (codes "id ") a.id b.id _ _ (id_no_feed a.id fit_a.id) (id_no_feed b.id fit_b.id) lines in
    let (requests, after_request) = lines_agree (codes "request ") a.request b.request _ _ (digits_no_feed a.request 956 fit_a.request) (digits_no_feed b.request 956 fit_b.request) after_id in
    let (replies, after) = lines_agree (codes "reply ") a.reply b.reply _ _ (digits_no_feed a.reply 8000 fit_a.reply) (digits_no_feed b.reply 8000 fit_b.reply) after_request in
    (dones_agree a b ids requests replies, after)

-- ---- different ids

bytes_eq-sym : (xs ys : List ℕ) → bytes_eq xs ys ≡ false → bytes_eq ys xs ≡ false
bytes_eq-sym xs ys differ = false_from_ne_true (bytes_eq ys xs) (λ same.
    let e : ys ≡ xs = (bytes_eq-Decides ys xs).0 same in
    let found : bytes_eq xs ys ≡ true = (bytes_eq-Decides xs ys).1 (sym e) in
    absurd cc)

pub has_id-append : (ds es : List Done) (id : List ℕ) → has_id ds id ≡ false → has_id es id ≡ false → has_id (ds ++ es) id ≡ false
has_id-append [] es id none others = others
has_id-append (d ∷ ds) es id none others =
    let (here, more) = or_parts (bytes_eq d.id id) (has_id ds id) none in
    or_from (bytes_eq d.id id) (has_id (ds ++ es) id) here (has_id-append ds es id more others)

-- A command more, with a new id.
pub distinct_more : (ds : List Done) (d : Done) → AreDistinct ds → has_id ds d.id ≡ false → AreDistinct (ds ++ (d ∷ []))
distinct_more [] d distinct new = (refl, tt)
distinct_more (e ∷ ds) d distinct new =
    let (here, more) = or_parts (bytes_eq e.id d.id) (has_id ds d.id) new in
    let last : has_id (d ∷ []) e.id ≡ false = or_from (bytes_eq d.id e.id) false (bytes_eq-sym e.id d.id here) refl in
    (has_id-append ds (d ∷ []) e.id distinct.0 last, distinct_more ds d distinct.1 more)

-- The ids before one of different ids are others.
has_id-end : (ds es : List Done) (id : List ℕ) → has_id (ds ++ es) id ≡ false → has_id es id ≡ false
has_id-end [] es id none = none
has_id-end (d ∷ ds) es id none = has_id-end ds es id (or_parts (bytes_eq d.id id) (has_id (ds ++ es) id) none).1

pub distinct_before : (ds es : List Done) (d : Done) → AreDistinct (ds ++ (d ∷ es)) → has_id ds d.id ≡ false
distinct_before [] es d distinct = refl
distinct_before (e ∷ ds) es d distinct =
    let after : has_id (d ∷ es) e.id ≡ false = has_id-end ds (d ∷ es) e.id distinct.0 in
    let here : bytes_eq d.id e.id ≡ false = (or_parts (bytes_eq d.id e.id) (has_id es e.id) after).0 in
    or_from (bytes_eq e.id d.id) (has_id ds d.id) (bytes_eq-sym d.id e.id here) (distinct_before ds es d distinct.1)

pub distinct_drop : (n : ℕ) (ds : List Done) → AreDistinct ds → AreDistinct (drop n ds)
distinct_drop zero ds distinct = distinct
distinct_drop (suc n) [] distinct = distinct
distinct_drop (suc n) (d ∷ ds) distinct = distinct_drop n ds distinct.1

-- ---- commands that are read

pub none_read : (old : List Done) (count : ℕ) (lines : List ℕ) → count ≡ 0 → AreRead old old count lines lines
none_read old count lines e = record {
  more = [];
  appended = sym (append-nil old);
  counted = sym e;
  whole = refl;
  fit = refl;
}

pub one_more_read : (old new : List Done) (d : Done) (count : ℕ) (lines after rest : List ℕ) → 0 < count → is_done d ≡ true
    → lines ≡ done_text d ++ after → AreRead (old ++ (d ∷ [])) new (count - 1) after rest → AreRead old new count lines rest
one_more_read old new d count lines after rest some fit whole is = record {
  more = d ∷ is.more;
  appended = is.appended ∙ append_assoc old (d ∷ []) is.more;
  counted = omega (arith, is.counted);
  whole = whole ∙ ap (λ (xs : List ℕ). done_text d ++ xs) is.whole ∙ sym (append_assoc (done_text d) (dones_text is.more) rest);
  fit = grind (arith, fit, is.fit);
}

-- A text that does not begin with a command.
pub no_command : (old : List Done) (count : ℕ) (lines : List ℕ) → 0 < count
    → ((d : Done) (rest : List ℕ) → is_done d ≡ true → lines ≡ done_text d ++ rest → ⊥) → LacksCommands old count lines
no_command old count lines some lacks [] rest counted fit distinct e = absurd (omega (arith, counted))
no_command old count lines some lacks (d ∷ more) rest counted fit distinct e =
    lacks d (dones_text more ++ rest) (and_parts (is_done d) (list_all is_done more) fit).0 (e ∙ append_assoc (done_text d) (dones_text more) rest)

-- A text that begins with a command whose id is not new.
pub known_id : (old : List Done) (d : Done) (count : ℕ) (lines after : List ℕ) → 0 < count → is_done d ≡ true → lines ≡ done_text d ++ after
    → has_id old d.id ≡ true → LacksCommands old count lines
known_id old d count lines after some of_d whole known [] rest counted fit distinct e = absurd (omega (arith, counted))
known_id old d count lines after some of_d whole known (m ∷ more) rest counted fit distinct e =
    let of_m = (and_parts (is_done m) (list_all is_done more) fit).0 in
    let (same, then) = done_texts_agree d m after (dones_text more ++ rest) of_d of_m (sym whole ∙ e ∙ append_assoc (done_text m) (dones_text more) rest) in
    let new : has_id old m.id ≡ false = distinct_before old more m distinct in
    let found : has_id old m.id ≡ true = rw same at known in
    absurd cc

-- A text that begins with a command, and goes on with none that may follow.
pub lacks_later : (old : List Done) (d : Done) (count : ℕ) (lines after : List ℕ) → 0 < count → is_done d ≡ true → lines ≡ done_text d ++ after
    → LacksCommands (old ++ (d ∷ [])) (count - 1) after → LacksCommands old count lines
lacks_later old d count lines after some of_d whole lacks [] rest counted fit distinct e = absurd (omega (arith, counted))
lacks_later old d count lines after some of_d whole lacks (m ∷ more) rest counted fit distinct e =
    let (of_m, of_more) = and_parts (is_done m) (list_all is_done more) fit in
    let (same, then) = done_texts_agree d m after (dones_text more ++ rest) of_d of_m (sym whole ∙ e ∙ append_assoc (done_text m) (dones_text more) rest) in
    let apart : AreDistinct ((old ++ (d ∷ [])) ++ more) = rw (append_assoc old (d ∷ []) more, same) distinct in
    lacks more rest (omega (arith, counted)) of_more apart then

-- ---- the last four lines

-- ---- the id of the pending command

pub id_text_no_feed : (id : Option (List ℕ)) → is_id_or_none id ≡ true → HasNoLineFeed (pending_id_text id)
id_text_no_feed None is = refl
id_text_no_feed (Some id) is = id_no_feed id is

none_not_id : (id : List ℕ) → is_id id ≡ true → codes "no id" ≡ id → ⊥
none_not_id id is e =
    let spelled : is_id (codes "no id") ≡ true = rw (sym e) at is in
    absurd cc

pub id_texts_agree : (a b : Option (List ℕ)) → is_id_or_none a ≡ true → is_id_or_none b ≡ true → pending_id_text a ≡ pending_id_text b → a ≡ b
id_texts_agree None None of_a of_b e = refl
id_texts_agree None (Some id) of_a of_b e = absurd (none_not_id id of_b e)
id_texts_agree (Some id) None of_a of_b e = absurd (none_not_id id of_a (sym e))
id_texts_agree (Some a) (Some b) of_a of_b e = ap (λ (xs : List ℕ). Some xs) e

pub pending_ids_agree : (a b : Option (List ℕ)) (r s : List ℕ) → is_id_or_none a ≡ true → is_id_or_none b ≡ true
    → pending_id_line a ++ r ≡ pending_id_line b ++ s → (a ≡ b) × (r ≡ s)
pending_ids_agree a b r s of_a of_b e =
    let (texts, after) = lines_agree (codes "pending-id ") (pending_id_text a) (pending_id_text b) r s (id_text_no_feed a of_a) (id_text_no_feed b of_b) e in
    (id_texts_agree a b of_a of_b texts, after)

-- A value that is neither an id nor what stands for none.
pub lacks_id : (text : List ℕ) (id : Option (List ℕ)) → bytes_eq text (codes "no id") ≡ false → is_id text ≡ false → is_id_or_none id ≡ true
    → text ≡ pending_id_text id → ⊥
lacks_id text None differs other is e = let found : bytes_eq text (codes "no id") ≡ true = (bytes_eq-Decides text (codes "no id")).1 e in absurd cc
lacks_id text (Some id) differs other is e = let found : is_id text ≡ true = rw e is in absurd cc

-- ---- the whole text

-- The lines after the first, and what follows.
abbrev pub lines_with_ids : Record → List ℕ
lines_with_ids r = count_line (length r.done) ++ (dones_text r.done ++ (pending_id_line r.pending_id ++ commander_lines r.commander))

-- A file that begins as one with ids has some.
pub begins_with_ids : (r : Record) (lines : List ℕ) → ids_head ++ lines ≡ record_text r → (has_ids r ≡ true) × (lines ≡ lines_with_ids r)
begins_with_ids r lines e = elim (has_ids r) as (λ b. has_ids r ≡ b → (has_ids r ≡ true) × (lines ≡ lines_with_ids r)) [
  | true ↦ λ has. (has, append_cancel_left ids_head lines (lines_with_ids r) (e ∙ rw has refl))
  | false ↦ λ has.
      let plain : ids_head ++ lines ≡ file_text r.commander = e ∙ rw has refl in
      let version : 50 ≡ 49 = ap (λ (xs : List ℕ). get_or xs 14 0) plain in
      absurd (omega (arith, version))
] refl

pub counts_agree : (m n : ℕ) (r s : List ℕ) → m ≤ 1024 → n ≤ 1024 → count_line m ++ r ≡ count_line n ++ s → (m ≡ n) × (r ≡ s)
counts_agree m n r s few_m few_n e =
    let (values, after) = lines_agree (codes "ids ") (decimal m) (decimal n) r s (decimal_no_feed m (omega arith)) (decimal_no_feed n (omega arith)) e in
    (decimal_injective m n (omega arith) (omega arith) values, after)

-- Two lists of as many commands whose lines are followed by something.
pub dones_agree_all : (ds es : List Done) (r s : List ℕ) → length ds ≡ length es → list_all is_done ds ≡ true → list_all is_done es ≡ true
    → dones_text ds ++ r ≡ dones_text es ++ s → (ds ≡ es) × (r ≡ s)
dones_agree_all [] [] r s same of_ds of_es e = (refl, e)
dones_agree_all [] (b ∷ es) r s same of_ds of_es e = absurd (omega (arith, same))
dones_agree_all (a ∷ ds) [] r s same of_ds of_es e = absurd (omega (arith, same))
dones_agree_all (a ∷ ds) (b ∷ es) r s same of_ds of_es e =
    let (of_a, more_ds) = and_parts (is_done a) (list_all is_done ds) of_ds in
    let (of_b, more_es) = and_parts (is_done b) (list_all is_done es) of_es in
    let (first, after) = done_texts_agree a b (dones_text ds ++ r) (dones_text es ++ s) of_a of_b
    (sym (append_assoc (done_text a) (dones_text ds) r) ∙ e ∙ append_assoc (done_text b) (dones_text es) s) in
    let (others, then) = dones_agree_all ds es r s (omega (arith, same)) more_ds more_es after in
    let whole : a ∷ ds ≡ b ∷ es = cc in
    (whole, then)

-- ---- lists of commands as the program has them

pub any_done : (id : List ℕ) (ds : List DoneCommand) → has_id (map done_in ds) id ≡ list_any (λ d. bytes_eq d.id.now id) ds
any_done id [] = refl
any_done id (d ∷ ds) = ap (λ (b : Bool). bytes_eq d.id.now id || b) (any_done id ds)

pub find_done : (id : List ℕ) (ds : List DoneCommand)
    → option_map done_in (find (λ d. bytes_eq d.id.now id) ds) ≡ find (λ d. bytes_eq d.id id) (map done_in ds)
find_done id [] = refl
find_done id (d ∷ ds) = elim (bytes_eq d.id.now id) as (λ b. option_map done_in (cond b (Some d) (find (λ x. bytes_eq x.id.now id) ds))
    ≡ cond b (Some (done_in d)) (find (λ x. bytes_eq x.id id) (map done_in ds))) [
      | true ↦ refl
      | false ↦ find_done id ds
    ]

pub dones_text-append : (ds es : List Done) → dones_text (ds ++ es) ≡ dones_text ds ++ dones_text es
dones_text-append [] es = refl
dones_text-append (d ∷ ds) es = ap (λ (xs : List ℕ). done_text d ++ xs) (dones_text-append ds es) ∙ sym (append_assoc (done_text d) (dones_text ds) (dones_text es))

-- The text of one command more.
pub one_more_text : (ds : List DoneCommand) (i : ℕ) (d : DoneCommand) → i < length ds
    → dones_text (map done_in (take (i + 1) ds)) ≡ dones_text (map done_in (take i ds)) ++ done_text (done_in (get_or ds i d))
one_more_text ds i d inside =
    let more : map done_in (take (i + 1) ds) ≡ map done_in (take i ds) ++ (done_in (get_or ds i d) ∷ []) =
    ap (map done_in) (take_more ds i d inside) ∙ map-append done_in (take i ds) (get_or ds i d ∷ []) in
    ap dones_text more ∙ dones_text-append (map done_in (take i ds)) (done_in (get_or ds i d) ∷ [])
    ∙ ap (λ (xs : List ℕ). dones_text (map done_in (take i ds)) ++ xs) (append-nil (done_text (done_in (get_or ds i d))))

pub command_appended : (before after one two : List ℕ) (d : Done) → one ≡ before ++ line (codes "id ") d.id → two ≡ one ++ line (codes "request ") d.request
    → after ≡ two ++ line (codes "reply ") d.reply → after ≡ before ++ done_text d
command_appended before after one two d e f g = rw (g, f, e) (simp append_assoc)

-- The last commands and one more are those that are kept.
kept_parts : (ds : List DoneCommand) (d : DoneCommand) (most n : ℕ) → 0 < most → n ≡ length ds - (most - 1)
    → map done_in (drop n ds) ++ map done_in (d ∷ []) ≡ kept_after (map done_in ds) (done_in d) most
kept_parts ds d most n some e =
    let lengths : length (map done_in ds ++ (done_in d ∷ [])) ≡ length ds + 1 = length-append (map done_in ds) (done_in d ∷ []) ∙ ap (λ (k : ℕ). k + 1) (length-map ds done_in) in
    let count : length (map done_in ds ++ (done_in d ∷ [])) - most ≡ n = omega (arith, lengths, e) in
    let inside : n ≤ length (map done_in ds) = omega (arith, e, length-map ds done_in) in
    let dropped : drop n (map done_in ds ++ (done_in d ∷ [])) ≡ map done_in (drop n ds) ++ (done_in d ∷ []) =
    drop-append-le n (map done_in ds) (done_in d ∷ []) inside ∙ ap (λ (xs : List Done). xs ++ (done_in d ∷ [])) (drop-map done_in n ds) in
    sym dropped ∙ ap (λ (k : ℕ). drop k (map done_in ds ++ (done_in d ∷ []))) (sym count)

pub if_ok : {T E : Type 0} (r : Result T E) (P Q : T → Type 0) → ((t : T) → P t → Q t) → IfOk r P → IfOk r Q
if_ok (Ok t) P Q f is = f t is
if_ok (Err e) P Q f is = is

-- The text with two lists is that with both in one.
both_text : (c : CommanderState) (p : Option (List ℕ)) (ds es : List Done)
    → text_of_both c p ds es ≡ text_with_ids (record { commander = c; pending_id = p; done = ds ++ es })
both_text c p ds es =
    let rest = pending_id_line p ++ commander_lines c in
    ap (λ (n : ℕ). ids_head ++ (count_line n ++ (dones_text ds ++ (dones_text es ++ rest)))) (sym (length-append ds es))
    ∙ ap (λ (xs : List ℕ). ids_head ++ (count_line (length (ds ++ es)) ++ xs))
    (sym (append_assoc (dones_text ds) (dones_text es) rest) ∙ ap (λ (xs : List ℕ). xs ++ rest) (sym (dones_text-append ds es)))

-- A text with them is that of the file afterwards.
pub text_kept : (text : List ℕ) (r : Record) (ds stays last : List DoneCommand) (d : DoneCommand) (most n : ℕ) → 0 < most
    → n ≡ length ds - (most - 1) → r.done ≡ map done_in ds → stays ≡ drop n ds → last ≡ d ∷ []
    → text ≡ text_of_both r.commander None (map done_in stays) (map done_in last)
    → text ≡ text_with_ids (record_after r (done_in d) most)
text_kept text r ds stays last d most n some e f g h i =
    i ∙ ap (λ (xs : List DoneCommand). text_of_both r.commander None (map done_in xs) (map done_in last)) g
    ∙ ap (λ (xs : List DoneCommand). text_of_both r.commander None (map done_in (drop n ds)) (map done_in xs)) h
    ∙ both_text r.commander None (map done_in (drop n ds)) (map done_in (d ∷ []))
    ∙ ap (λ (xs : List Done). text_with_ids (record { commander = r.commander; pending_id = None; done = xs })) (kept_parts ds d most n some e)
    ∙ ap (λ (xs : List Done). text_with_ids (record { commander = r.commander; pending_id = None; done = kept_after xs (done_in d) most })) (sym f)

pub kept_distinct : (ds : List Done) (d : Done) (most : ℕ) (kept : List Done) → AreDistinct ds → has_id ds d.id ≡ false
    → kept ≡ kept_after ds d most → AreDistinct kept
kept_distinct ds d most kept distinct new e =
    rw e (distinct_drop (length (ds ++ (d ∷ [])) - most) (ds ++ (d ∷ [])) (distinct_more ds d distinct new))

pub text_more : (ds : List DoneCommand) (i : ℕ) (d : DoneCommand) (now before initial : List ℕ) → i < length ds
    → now ≡ before ++ done_text (done_in (get_or ds i d)) → before ≡ initial ++ dones_text (map done_in (take i ds))
    → now ≡ initial ++ dones_text (map done_in (take (i + 1) ds))
text_more ds i d now before initial inside e f =
    e ∙ ap (λ (xs : List ℕ). xs ++ done_text (done_in (get_or ds i d))) f ∙ append_assoc initial _ _
    ∙ ap (λ (xs : List ℕ). initial ++ xs) (sym (one_more_text ds i d inside))

pub plan_from : (r : Record) (id request : List ℕ) (found : Option Done) → find (λ d. bytes_eq d.id id) r.done ≡ found
    → plan_of_id r id request ≡ known_plan found (unknown_plan r.commander.pending r.pending_id id request) (encode_lower request)
plan_from r id request found e = ap (λ (x : Option Done). known_plan x (unknown_plan r.commander.pending r.pending_id id request) (encode_lower request)) e

-- The bytes that a buffer has once it is cut to the length of a reply's digits.
pub cut_length : (most : ℕ) (digits given zeros bytes : List ℕ) → digits ≡ encode_lower given → length given ≤ most → length zeros ≡ most
    → bytes ≡ take (length digits / 2) zeros → length given ≡ length bytes
cut_length most digits given zeros bytes e short room cut =
    let spelled : length digits ≡ 2 * length given = ap length e ∙ length-encode_with lower_digits given in
    let half : length digits / 2 ≡ length given = omega (arith, spelled) in
    let taken : length bytes ≡ length (take (length given) zeros) = ap length cut ∙ ap (λ (n : ℕ). length (take n zeros)) half in
    sym (taken ∙ length-take-le (length given) zeros (omega arith))

abbrev pub record_of : CommanderState → Option (List ℕ) → List Done → Record
record_of c p ds = record { commander = c; pending_id = p; done = ds }

pub records_agree : (c d : CommanderState) (p q : Option (List ℕ)) (ds es : List Done) → c ≡ d → p ≡ q → ds ≡ es → record_of c p ds ≡ record_of d q es
records_agree c d p q ds es e f g = cc

-- ---- the command with an id

pub any_more : (p : DoneCommand → Bool) (ds : List DoneCommand) (i : ℕ) (d : DoneCommand) → i < length ds → list_any p (take i ds) ≡ false
    → p (get_or ds i d) ≡ false → list_any p (take (i + 1) ds) ≡ false
any_more p ds i d inside none here =
    ap (list_any p) (take_more ds i d inside) ∙ list_any-append p (take i ds) (get_or ds i d ∷ [])
    ∙ or_from (list_any p (take i ds)) (list_any p (get_or ds i d ∷ [])) none (or_from (p (get_or ds i d)) false here refl)

pub found_at : (id : List ℕ) (ds : List DoneCommand) (i : ℕ) (d : DoneCommand) → i < length ds → list_any (λ x. bytes_eq x.id.now id) (take i ds) ≡ false
    → bytes_eq (get_or ds i d).id.now id ≡ true → Some (done_in (get_or ds i d)) ≡ find (λ x. bytes_eq x.id id) (map done_in ds)
found_at id [] i d inside none here = absurd (omega (arith, inside))
found_at id (x ∷ ds) zero d inside none here = rw here refl
found_at id (x ∷ ds) (suc i) d inside none here =
    let (differs, more) = or_parts (bytes_eq x.id.now id) (list_any (λ y. bytes_eq y.id.now id) (take i ds)) none in
    found_at id ds i d (omega (arith, inside)) more here ∙ rw differs refl

pub not_found : (id : List ℕ) (ds : List DoneCommand) → list_any (λ x. bytes_eq x.id.now id) ds ≡ false → None ≡ find (λ x. bytes_eq x.id id) (map done_in ds)
not_found id [] none = refl
not_found id (x ∷ ds) none =
    let (differs, more) = or_parts (bytes_eq x.id.now id) (list_any (λ y. bytes_eq y.id.now id) ds) none in
    not_found id ds more ∙ rw differs refl

-- ---- the parts of a whole file

pub whole_new : (ds : List Done) (pending id : Option (List ℕ)) → is_whole ds pending id ≡ true → is_new_id ds pending id ≡ true
whole_new ds pending None is = refl
whole_new ds pending (Some id) is = is

pub whole_has : (ds : List Done) (pending id : Option (List ℕ)) → is_whole ds pending id ≡ true → (is_some id || nat_lt 0 (length ds)) ≡ true
whole_has ds pending None is = is
whole_has ds pending (Some id) is = refl

pub whole_from : (ds : List Done) (pending id : Option (List ℕ)) → is_new_id ds pending id ≡ true → (is_some id || nat_lt 0 (length ds)) ≡ true
    → is_whole ds pending id ≡ true
whole_from ds pending None new has = has
whole_from ds pending (Some id) new has = new

id_of_new : (ds : List Done) (pending id : Option (List ℕ)) → is_new_id ds pending id ≡ true → is_id_or_none id ≡ true
id_of_new ds pending None new = refl
id_of_new ds None (Some id) new = absurd cc
id_of_new ds (Some request) (Some id) new = (and_parts (is_id id) (not (has_id ds id)) new).0

-- All commands that are read, if there were none before.
pub record AreAllRead (ds : List Done) (count : ℕ) (lines rest : List ℕ) : Type 0 where
  pub counted : length ds ≡ count
  pub whole : lines ≡ dones_text ds ++ rest
  pub fit : list_all is_done ds ≡ true

pub all_read : (old new : List Done) (count : ℕ) (lines rest : List ℕ) → old ≡ [] → AreRead old new count lines rest → AreAllRead new count lines rest
all_read old new count lines rest none is =
    let same : new ≡ is.more = is.appended ∙ ap (λ (xs : List Done). xs ++ is.more) none in record {
      counted = ap length same ∙ is.counted;
      whole = is.whole ∙ ap (λ (xs : List Done). dones_text xs ++ rest) (sym same);
      fit = ap (list_all is_done) same ∙ is.fit;
    }

pub after_dones : (kept : Record) (ds : List Done) (count : ℕ) (lines after rest : List ℕ) → IsKeptRecord kept → lines ≡ lines_with_ids kept
    → lines ≡ count_line count ++ after → count ≤ 1024 → AreAllRead ds count after rest
    → (ds ≡ kept.done) × (rest ≡ pending_id_line kept.pending_id ++ commander_lines kept.commander)
after_dones kept ds count lines after rest is e f few all =
    let (counts, then) = counts_agree count (length kept.done) after (dones_text kept.done ++ (pending_id_line kept.pending_id ++ commander_lines kept.commander))
    few is.count (sym f ∙ e) in
    dones_agree_all ds kept.done rest (pending_id_line kept.pending_id ++ commander_lines kept.commander) (all.counted ∙ counts) all.fit is.done (sym all.whole ∙ then)

pub after_id : (kept : Record) (id : Option (List ℕ)) (lines rest : List ℕ) → IsKeptRecord kept → lines ≡ pending_id_line kept.pending_id ++ commander_lines kept.commander
    → lines ≡ pending_id_line id ++ rest → is_id_or_none id ≡ true → (id ≡ kept.pending_id) × (rest ≡ commander_lines kept.commander)
after_id kept id lines rest is e f fits =
    pending_ids_agree id kept.pending_id rest (commander_lines kept.commander) fits (id_of_new kept.done kept.commander.pending kept.pending_id is.pending_id) (sym f ∙ e)

pub kept_id : (kept : Record) → IsKeptRecord kept → is_id_or_none kept.pending_id ≡ true
kept_id kept is = id_of_new kept.done kept.commander.pending kept.pending_id is.pending_id

pub record_read : (c : CommanderState) (id : Option (List ℕ)) (ds : List Done) (count : ℕ) (lines after then last : List ℕ)
    → lines ≡ count_line count ++ after → count ≤ 1024 → AreAllRead ds count after then → AreDistinct ds → then ≡ pending_id_line id ++ last
    → IsKept c × (last ≡ commander_lines c) → is_whole ds c.pending id ≡ true
    → IsKeptRecord (record_of c id ds) × (ids_head ++ lines ≡ record_text (record_of c id ds))
record_read c id ds count lines after then last e few all distinct f (kept, g) whole =
    let has : has_ids (record_of c id ds) ≡ true = whole_has ds c.pending id whole in
    let tail : after ≡ dones_text ds ++ (pending_id_line id ++ commander_lines c) =
    all.whole ∙ ap (λ (xs : List ℕ). dones_text ds ++ xs) (f ∙ ap (λ (xs : List ℕ). pending_id_line id ++ xs) g) in
    let begun : lines ≡ lines_with_ids (record_of c id ds) = e ∙ ap (λ (xs : List ℕ). count_line count ++ xs) tail
    ∙ ap (λ (n : ℕ). count_line n ++ (dones_text ds ++ (pending_id_line id ++ commander_lines c))) (sym all.counted) in
    let text : record_text (record_of c id ds) ≡ text_with_ids (record_of c id ds) = rw has refl in (
      record { commander = kept; count = omega (arith, all.counted); done = all.fit; distinct = distinct; pending_id = whole_new ds c.pending id whole },
      ap (λ (xs : List ℕ). ids_head ++ xs) begun ∙ sym text,
    )

-- ---- a file without ids

no_ids_parts : (id : Option (List ℕ)) (ds : List Done) → (is_some id || nat_lt 0 (length ds)) ≡ false → (id ≡ None) × (ds ≡ [])
no_ids_parts None [] none = (refl, refl)
no_ids_parts None (d ∷ ds) none =
    let fact : nat_lt 0 (length (d ∷ ds)) ≡ false = none in
    absurd (grind (arith, nat_tests, fact))
no_ids_parts (Some id) ds none = absurd cc

pub plain_record : (r : Record) (text : List ℕ) → ((rest : List ℕ) → text ≡ ids_head ++ rest → ⊥) → text ≡ record_text r
    → (text ≡ file_text r.commander) × ((r.pending_id ≡ None) × (r.done ≡ []))
plain_record r text lacks e = elim (has_ids r) as (λ b. has_ids r ≡ b → (text ≡ file_text r.commander) × ((r.pending_id ≡ None) × (r.done ≡ []))) [
  | true ↦ λ has. absurd (lacks (lines_with_ids r) (e ∙ rw has refl))
  | false ↦ λ has. (e ∙ rw has refl, no_ids_parts r.pending_id r.done has)
] refl

-- ---- one command before the others

pub more_read : {B E : Type 0} (now : B → List ℕ) (old mid new : List Done) (d : Done) (count : ℕ) (lines after : List ℕ) (r : Result (Option B) E)
    → 0 < count → is_done d ≡ true → lines ≡ done_text d ++ after → mid ≡ old ++ (d ∷ [])
    → IfOk r (λ found. IfSome found (λ rest. AreRead mid new (count - 1) after (now rest)))
    → IfOk r (λ found. IfSome found (λ rest. AreRead old new count lines (now rest)))
more_read now old mid new d count lines after (Ok (Some rest)) some fit whole pushed is = one_more_read old new d count lines after (now rest) some fit whole (rw pushed at is)
more_read now old mid new d count lines after (Ok None) some fit whole pushed is = tt
more_read now old mid new d count lines after (Err why) some fit whole pushed is = tt

pub lacks_after : (old mid : List Done) (d : Done) (count : ℕ) (lines after : List ℕ) → 0 < count → is_done d ≡ true → lines ≡ done_text d ++ after
    → mid ≡ old ++ (d ∷ []) → LacksCommands mid (count - 1) after → LacksCommands old count lines
lacks_after old mid d count lines after some of_d whole pushed lacks =
    lacks_later old d count lines after some of_d whole (λ more rest counted fit distinct e. lacks more rest counted fit (rw pushed distinct) e)

pub whole_agree : (ds es : List Done) (p q i j : Option (List ℕ)) → ds ≡ es → p ≡ q → i ≡ j → is_whole ds p i ≡ is_whole es q j
whole_agree ds es p q i j e f g =
    ap (λ (x : List Done). is_whole x p i) e ∙ ap (λ (x : Option (List ℕ)). is_whole es x i) f ∙ ap (λ (x : Option (List ℕ)). is_whole es q x) g
