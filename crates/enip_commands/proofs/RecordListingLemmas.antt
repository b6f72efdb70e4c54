-- What is listed of a file, one command after the other.
use Rattle.std.proofs.Common.{◌≡◌, ℕ, zero, suc, ◌+◌, ◌-◌, ◌<◌, List, [], ◌∷◌, ◌++◌, length, map, take, drop, get_or, Option, Some, None, option_map, slice_get, refl, sym, ap, ◌∙◌}
use Rattle.std.proofs.lemmas.List.{take_more, map-append, length-map}
use Rattle.std.proofs.lemmas.Option.{slice_get-map}
use Rattle.std.proofs.Common.{true, false, nat_lt, codes, Result, Ok, Err, String, string_bytes, append_assoc, arith}
use Rattle.std.specs.Prelude.{IfOk}
use Rattle.std.specs.Fmt.{decimal}
use Rattle.std.specs.List.{position_or_len, before_first, after_first}
use Rattle.std.specs.declared.alloc.Global.{Global}
use Rattle.std.proofs.lemmas.Bool.Decides.{nat_tests}
use Rattle.serde_json.specs.Data.{Data}
use Rattle.serde_json.specs.Written.{has_float, items_have_float, compact_text}
use Rattle.enip_commands.specs.Json.{is_comma, resumed_text}
use Rattle.enip_commands.specs.declared.command_record.DoneCommand.{DoneCommand}
use Rattle.enip_commands.specs.CommandRecords.{Done, Record, done_in, dones_text, pending_id_text, commander_lines}
use Rattle.enip_commands.specs.CommandFiles.{file_text, line}
use Rattle.enip_commands.specs.RecordListing.{listing_text, reply_text, done_data, dones_data, text_data, pending_data, record_data, last_reply}

-- The object of one command more.
pub values_more : {V : Type 0} (view : V → Data) (ds : List DoneCommand) (i : ℕ) (d : DoneCommand) (before after : List V) (v : V) → i < length ds
    → after ≡ before ++ (v ∷ []) → view v ≡ done_data (done_in (get_or ds i d)) → map view before ≡ map done_data (map done_in (take i ds))
    → map view after ≡ map done_data (map done_in (take (i + 1) ds))
values_more view ds i d before after v inside e f g =
    let one = map-append done_in (take i ds) (get_or ds i d ∷ []) in
    let more : map done_data (map done_in (take (i + 1) ds)) ≡ map done_data (map done_in (take i ds)) ++ (done_data (done_in (get_or ds i d)) ∷ []) =
    ap (λ (xs : List DoneCommand). map done_data (map done_in xs)) (take_more ds i d inside) ∙ ap (map done_data) one
    ∙ map-append done_data (map done_in (take i ds)) (done_in (get_or ds i d) ∷ []) in
    ap (map view) e ∙ map-append view before (v ∷ []) ∙ ap (λ (xs : List Data). xs ++ (view v ∷ [])) g
    ∙ ap (λ (x : Data). map done_data (map done_in (take i ds)) ++ (x ∷ [])) f ∙ sym more

map_reply : (o : Option DoneCommand) → option_map (λ (d : Done). d.reply) (option_map done_in o) ≡ option_map (λ (d : DoneCommand). d.reply.now) o
map_reply None = refl
map_reply (Some d) = refl

pub last_of : (ds : List DoneCommand) → last_reply (map done_in ds) ≡ option_map (λ (d : DoneCommand). d.reply.now) (slice_get ds (length ds - 1))
last_of ds =
    ap (λ (n : ℕ). option_map (λ (d : Done). d.reply) (slice_get (map done_in ds) (n - 1))) (length-map ds done_in)
    ∙ ap (option_map (λ (d : Done). d.reply)) (slice_get-map done_in ds (length ds - 1)) ∙ map_reply (slice_get ds (length ds - 1))

-- ---- no number is a float

dones_have_none : (ds : List Done) → items_have_float (dones_data ds) ≡ false
dones_have_none [] = refl
dones_have_none (d ∷ ds) = dones_have_none ds

text_has_none : (text : Option (List ℕ)) → has_float (text_data text) ≡ false
text_has_none None = refl
text_has_none (Some text) = refl

pending_has_none : (pending id : Option (List ℕ)) → has_float (pending_data pending id) ≡ false
pending_has_none None id = refl
pending_has_none (Some request) None = refl
pending_has_none (Some request) (Some id) = refl

pub record_has_none : (r : Record) → has_float (record_data r) ≡ false
record_has_none r = rw (dones_have_none r.done, text_has_none (last_reply r.done), pending_has_none r.commander.pending r.pending_id) refl

-- What is known of the line of a record, if there is one.
pub line_from : {E : Type 0} (d wanted : Data) (r : Result (String Global) E) → d ≡ wanted → has_float wanted ≡ false
    → IfOk r (λ s. has_float d ≡ false → string_bytes s ≡ compact_text d) → IfOk r (λ s. string_bytes s ≡ compact_text wanted)
line_from d wanted (Ok s) same flat text = text (ap has_float same ∙ flat) ∙ ap compact_text same
line_from d wanted (Err why) same flat text = tt

-- ---- a command of an earlier run

pub resumed_some : (number : ℕ) (text first rest out : List ℕ) → position_or_len is_comma text < length text → first ≡ before_first is_comma text
    → rest ≡ after_first is_comma text
    → out ≡ first ++ (codes ",\"number\":" ++ (decimal number ++ (codes ",\"resumed\":true," ++ rest))) → out ≡ resumed_text number text
resumed_some number text first rest out inside f g e =
    let found : nat_lt (position_or_len is_comma text) (length text) ≡ true = grind (arith, nat_tests, inside) in
    e ∙ rw (f, g, found) (simp append_assoc)

pub resumed_none : (number : ℕ) (text out : List ℕ) → position_or_len is_comma text ≡ length text → out ≡ text → out ≡ resumed_text number text
resumed_none number text out none e =
    let missing : nat_lt (position_or_len is_comma text) (length text) ≡ false = grind (arith, nat_tests, none) in
    e ∙ rw missing refl

-- ---- the listing for people

pub listed : (r : Record) (whole front one two three four count last : List ℕ) → whole ≡ file_text r.commander → front ≡ drop 16 whole
    → one ≡ front ++ line (codes "pending-id ") (pending_id_text r.pending_id) → two ≡ one ++ line (codes "ids ") count → count ≡ decimal (length r.done)
    → three ≡ two ++ dones_text r.done → four ≡ three ++ line (codes "last reply ") last → last ≡ reply_text (last_reply r.done) → four ≡ listing_text r
listed r whole front one two three four count last e f g h i j k l =
    let begun : front ≡ commander_lines r.commander = f ∙ ap (λ (xs : List ℕ). drop 16 xs) e in
    k ∙ rw (l, j, h, i, g, begun) (simp append_assoc)
