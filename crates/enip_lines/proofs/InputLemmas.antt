-- Inputs that are taken line by line.
use Rattle.std.proofs.Common.{◌≡◌, ℕ, zero, suc, ◌+◌, ◌-◌, ◌<◌, ◌≤◌, ◌==◌, Bool, true, false, List, [], ◌∷◌, ◌++◌, length, take, drop, map}
use Rattle.std.proofs.Common.{get_or, Option, Some, None, Result, Ok, Err, OnOk, IfErr, refl, sym, ap, subst, ◌∙◌, append_assoc, append-nil, arith}
use Rattle.std.proofs.lemmas.Bool.{or_parts, eqb-true, false_from_ne_true}
use Rattle.std.proofs.lemmas.List.{map-append, length-append, length-map, length-drop, take_all}
use Rattle.std.proofs.KnownBytes.{Keeps-refl, Keeps-trans, Consumes-nil, Consumes-trans}
use Rattle.std.specs.Io.KnownBytes.{Keeps, Consumes, IsAtEnd}
use Rattle.enip_lines.specs.Lines.{without_return}
use Rattle.enip_lines.specs.InputLines.{in_first, texts_of, lines_of, IsInput, LineEffect, AreRun, AreAllRun, IsLineRefused, has_newline}
use Rattle.enip_lines.specs.InputLines.{EndsAt, AreCut, AreTaken, IsRefusedIn, IsChunkTaken, IsTakenToEnd}
use Rattle.enip_faults.specs.Statuses.{IsOfDevices}
use Rattle.enip_faults.specs.declared.fault.ProgramFault.{ProgramFault}
use Rattle.enip_faults.specs.declared.fault.ProgramFault.TheVariants.{Line, Device, Memory}

-- A device fails at a line.
pub devices_at : {T : Type 0} (refused : Type 0) (number : ℕ) (r : Result T ProgramFault) → IfErr r IsOfDevices → IfErr r (EndsAt refused number)
devices_at refused number (Ok x) so = tt
devices_at refused number (Err (Line n why)) so = absurd so
devices_at refused number (Err Device) so = tt
devices_at refused number (Err Memory) so = tt

-- ---- texts and newlines

-- A text that ends at a newline.
ended_text : (text more : List ℕ) → has_newline text ≡ false → texts_of (text ++ 10 ∷ more) ≡ text ∷ texts_of more
unfolding texts_of
ended_text [] more none = refl
ended_text (byte ∷ text) more none =
    let (here, later) = or_parts (byte == 10) (has_newline text) none in
    rw here (ap (in_first byte) (ended_text text more later))

-- A text at the end of an input.
last_text : (byte : ℕ) (text : List ℕ) → has_newline (byte ∷ text) ≡ false → texts_of (byte ∷ text) ≡ (byte ∷ text) ∷ []
unfolding texts_of
last_text byte [] none =
    let (here, later) = or_parts (byte == 10) false none in
    rw here refl
last_text byte (next ∷ text) none =
    let (here, later) = or_parts (byte == 10) (has_newline (next ∷ text)) none in
    rw here (ap (in_first byte) (last_text next text later))

no_text : texts_of [] ≡ []
unfolding texts_of
no_text = refl

none_joined : (text more : List ℕ) → has_newline text ≡ false → has_newline more ≡ false → has_newline (text ++ more) ≡ false
none_joined [] more none no_more = no_more
none_joined (byte ∷ text) more none no_more =
    let (here, later) = or_parts (byte == 10) (has_newline text) none in
    rw here (none_joined text more later no_more)

-- No byte is a newline.
pub none_found : (bytes : List ℕ) → ((k : ℕ) → 0 ≤ k → k < length bytes → (get_or bytes k 0 == 10) ≡ true → ⊥) → has_newline bytes ≡ false
none_found [] absent = refl
none_found (byte ∷ bytes) absent =
    let here = false_from_ne_true (byte == 10) (absent 0 (omega arith) (omega arith)) in
    rw here (none_found bytes (λ k from inside is. absent (suc k) (omega arith) (omega (arith, inside)) is))

-- The first byte that is a newline.
first_found : (at : ℕ) (bytes : List ℕ) → at < length bytes → ((k : ℕ) → 0 ≤ k → k < at → (get_or bytes k 0 == 10) ≡ true → ⊥)
    → (get_or bytes at 0 == 10) ≡ true → (has_newline (take at bytes) ≡ false) × (bytes ≡ take at bytes ++ 10 ∷ drop 1 (drop at bytes))
first_found at [] inside before is = absurd (omega (arith, inside))
first_found zero (byte ∷ bytes) inside before is = (refl, ap (λ (b : ℕ). b ∷ bytes) (eqb-true byte 10 is))
first_found (suc at) (byte ∷ bytes) inside before is =
    let here = false_from_ne_true (byte == 10) (before 0 (omega arith) (omega arith)) in
    let rest = first_found at bytes (omega (arith, inside)) (λ k from below so. before (suc k) (omega arith) (omega (arith, below)) so) is in
    (rw here rest.0, ap (λ (l : List ℕ). byte ∷ l) rest.1)

-- The same for what is split off before and from that byte.
pub first_line : (at : ℕ) (bytes front back : List ℕ) → front ≡ take at bytes → back ≡ drop at bytes → at < length bytes
    → ((k : ℕ) → 0 ≤ k → k < at → (get_or bytes k 0 == 10) ≡ true → ⊥) → (get_or bytes at 0 == 10) ≡ true
    → (has_newline front ≡ false) × (bytes ≡ front ++ 10 ∷ drop 1 back)
first_line at bytes front back front_is back_is inside before is = rw (front_is, back_is) (first_found at bytes inside before is)

-- `&bytes[from..]`
pub bytes_from : (from : ℕ) (bytes : List ℕ) → take (length bytes - from) (drop from bytes) ≡ drop from bytes
bytes_from from bytes = take_all (length bytes - from) (drop from bytes) (omega (arith, length-drop from bytes))

-- ---- runs

pub run_kept : {S : Type 0} (does : LineEffect S) (lines : List (List ℕ)) (old new : S) (before between after : Option (List ℕ))
    → AreRun does lines old new before between → Keeps between after → AreRun does lines old new before after
run_kept does [] old new before between after run kept = (run.0, Keeps-trans before between after run.1 kept)
run_kept does (line ∷ lines) old new before between after run kept =
    (run.0, run.1, run.2, run.3, run.4, run_kept does lines run.0 new run.2 between after run.5 kept)

run_more : {S : Type 0} (does : LineEffect S) (lines : List (List ℕ)) (line : List ℕ) (old mid new : S) (before between after : Option (List ℕ))
    → AreRun does lines old mid before between → does line mid new between after → AreRun does (lines ++ line ∷ []) old new before after
run_more {S} does [] line old mid new before between after run did =
    (new, between, after, run.1, subst (λ (s : S). does line s new between after) run.0 did, (refl, Keeps-refl after))
run_more does (first ∷ lines) line old mid new before between after run did =
    (run.0, run.1, run.2, run.3, run.4, run_more does lines line run.0 mid new run.2 between after run.5 did)

-- The same run, of a state that each state gives.
pub run_seen : {S V : Type 0} (seen : S → V) (does : LineEffect V) (lines : List (List ℕ)) (old new : S) (before after : Option (List ℕ))
    → AreRun (λ line from to. does line (seen from) (seen to)) lines old new before after → AreRun does lines (seen old) (seen new) before after
run_seen seen does [] old new before after run = (ap seen run.0, run.1)
run_seen seen does (line ∷ lines) old new before after run =
    (seen run.0, run.1, run.2, run.3, run.4, run_seen seen does lines run.0 new run.2 after run.5)

-- ---- what was taken

pub none_taken : {S : Type 0} (does : LineEffect S) (state : S) (out : Option (List ℕ)) → AreTaken does [] [] 1 state state out out
none_taken does state out = record {
  texts = [];
  cut = record { split = λ more. refl; unended = refl };
  run = (refl, Keeps-refl out);
  number_is = refl;
}

split_line : (bytes head rest more begun : List ℕ) (texts : List (List ℕ)) → AreCut bytes texts begun → has_newline head ≡ false
    → texts_of ((bytes ++ (head ++ 10 ∷ rest)) ++ more) ≡ texts ++ (begun ++ head) ∷ texts_of (rest ++ more)
split_line bytes head rest more begun texts cut none =
    ap texts_of (append_assoc bytes (head ++ 10 ∷ rest) more ∙ ap (λ (l : List ℕ). bytes ++ l) (append_assoc head (10 ∷ rest) more))
    ∙ cut.split (head ++ 10 ∷ (rest ++ more))
    ∙ ap (λ (l : List ℕ). texts ++ texts_of l) (sym (append_assoc begun head (10 ∷ (rest ++ more))))
    ∙ ap (λ (l : List (List ℕ)). texts ++ l) (ended_text (begun ++ head) (rest ++ more) (none_joined begun head cut.unended none))

pub line_taken : {S : Type 0} (does : LineEffect S) (bytes begun head : List ℕ) (number : ℕ) (old mid new : S) (before between after : Option (List ℕ))
    → AreTaken does bytes begun number old mid before between → has_newline head ≡ false → does (without_return (begun ++ head)) mid new between after
    → AreTaken does (bytes ++ (head ++ 10 ∷ [])) [] (number + 1) old new before after
line_taken does bytes begun head number old mid new before between after taken none did = record {
  texts = taken.texts ++ (begun ++ head) ∷ [];
  cut = record {
    split = λ more. split_line bytes head [] more begun taken.texts taken.cut none ∙ sym (append_assoc taken.texts ((begun ++ head) ∷ []) (texts_of more));
    unended = refl;
  };
  run = subst (λ (l : List (List ℕ)). AreRun does l old new before after) (sym (map-append without_return taken.texts ((begun ++ head) ∷ [])))
      (run_more does (map without_return taken.texts) (without_return (begun ++ head)) old mid new before between after taken.run did);
  number_is = ap (λ (n : ℕ). n + 1) (taken.number_is ∙ sym (length-append taken.texts ((begun ++ head) ∷ [])));
}

pub rest_taken : {S : Type 0} (does : LineEffect S) (bytes begun rest : List ℕ) (number : ℕ) (old new : S) (before after : Option (List ℕ))
    → AreTaken does bytes begun number old new before after → has_newline rest ≡ false
    → AreTaken does (bytes ++ rest) (begun ++ rest) number old new before after
rest_taken does bytes begun rest number old new before after taken none = record {
  texts = taken.texts;
  cut = record {
    split = λ more. ap texts_of (append_assoc bytes rest more) ∙ taken.cut.split (rest ++ more)
        ∙ ap (λ (l : List ℕ). taken.texts ++ texts_of l) (sym (append_assoc begun rest more));
    unended = none_joined begun rest taken.cut.unended none;
  };
  run = taken.run;
  number_is = taken.number_is;
}

pub line_refused : {S : Type 0} (does : LineEffect S) (refuses : List ℕ → Type 0) (bytes begun head rest : List ℕ) (number : ℕ) (old new : S)
    (before between after : Option (List ℕ)) → AreTaken does bytes begun number old new before between → has_newline head ≡ false
    → refuses (without_return (begun ++ head)) × Keeps between after
    → IsRefusedIn does refuses (bytes ++ (head ++ 10 ∷ rest)) old before after number
line_refused does refuses bytes begun head rest number old new before between after taken none refused = record {
  texts = taken.texts;
  text = begun ++ head;
  begun = rest;
  split = λ more. split_line bytes head rest more begun taken.texts taken.cut none;
  number_is = taken.number_is;
  new = new;
  run = run_kept does (map without_return taken.texts) old new before between after taken.run refused.1;
  refused = refused.0;
}

-- ---- a chunk

-- The lines that ended in a front of a chunk were run, after those before it.
pub record Taking {S : Type 0} (does : LineEffect S) (chunk begun_before : List ℕ) (number_before : ℕ) (old : S) (before : Option (List ℕ))
    (rest begun : List ℕ) (number : ℕ) (new : S) (after : Option (List ℕ)) : Type 0 where
  pub done : List ℕ
  pub parts : chunk ≡ done ++ rest
  pub taken : (bytes : List ℕ) (first : S) (from : Option (List ℕ)) → AreTaken does bytes begun_before number_before first old from before
      → AreTaken does (bytes ++ done) begun number first new from after

done_more : (done head tail : List ℕ) → done ++ (head ++ 10 ∷ tail) ≡ (done ++ (head ++ 10 ∷ [])) ++ tail
done_more done head tail =
    sym (append_assoc done (head ++ 10 ∷ []) tail ∙ ap (λ (l : List ℕ). done ++ l) (append_assoc head (10 ∷ []) tail))

-- One more line was run.
pub line_done : {S : Type 0} (does : LineEffect S) (chunk begun_before : List ℕ) (number_before : ℕ) (old mid new : S)
    (before between after : Option (List ℕ)) (rest begun head tail cleared : List ℕ) (number next : ℕ)
    → Taking does chunk begun_before number_before old before rest begun number mid between
    → rest ≡ head ++ 10 ∷ tail → has_newline head ≡ false → does (without_return (begun ++ head)) mid new between after
    → cleared ≡ [] → next ≡ number + 1 → Taking does chunk begun_before number_before old before tail cleared next new after
line_done does chunk begun_before number_before old mid new before between after rest begun head tail cleared number next t is none did empty one_more =
    rw (empty, one_more) (record {
      done = t.done ++ (head ++ 10 ∷ []);
      parts = t.parts ∙ ap (λ (l : List ℕ). t.done ++ l) is ∙ done_more t.done head tail;
      taken = λ bytes first from taken. subst (λ (l : List ℕ). AreTaken does l [] (number + 1) first new from after)
          (append_assoc bytes t.done (head ++ 10 ∷ []))
          (line_taken does (bytes ++ t.done) begun head number first mid new from between after (t.taken bytes first from taken) none did);
    })

-- The next line is refused, or a device or memory failed at it.
pub line_stops : {S : Type 0} (does : LineEffect S) (refuses : List ℕ → Type 0) (chunk begun_before : List ℕ) (number_before : ℕ) (old mid new : S)
    (before between after : Option (List ℕ)) (rest begun head tail left : List ℕ) (number : ℕ) (fault : ProgramFault)
    → Taking does chunk begun_before number_before old before rest begun number mid between
    → rest ≡ head ++ 10 ∷ tail → has_newline head ≡ false → EndsAt (refuses (without_return (begun ++ head)) × Keeps between after) number fault
    → (bytes : List ℕ) (first : S) (from : Option (List ℕ)) → AreTaken does bytes begun_before number_before first old from before
    → IsChunkTaken does refuses (bytes ++ chunk) left first new from after (Err fault)
line_stops does refuses chunk begun_before number_before old mid new before between after rest begun head tail left number (Line n why) t is none so bytes first from taken =
    rw so.0
    (subst (λ (l : List ℕ). IsRefusedIn does refuses l first from after number)
    (append_assoc bytes t.done (head ++ 10 ∷ tail) ∙ ap (λ (l : List ℕ). bytes ++ l) (sym (t.parts ∙ ap (λ (l : List ℕ). t.done ++ l) is)))
    (line_refused does refuses (bytes ++ t.done) begun head tail number first mid from between after (t.taken bytes first from taken) none so.1))
line_stops does refuses chunk begun_before number_before old mid new before between after rest begun head tail left number Device t is none so bytes first from taken = tt
line_stops does refuses chunk begun_before number_before old mid new before between after rest begun head tail left number Memory t is none so bytes first from taken = tt

-- No line ends in the rest of a chunk.
pub chunk_done : {S : Type 0} (does : LineEffect S) (chunk begun_before : List ℕ) (number_before : ℕ) (old new : S)
    (before after : Option (List ℕ)) (rest begun left : List ℕ) (number : ℕ)
    → Taking does chunk begun_before number_before old before rest begun number new after → has_newline rest ≡ false → left ≡ begun ++ rest
    → (bytes : List ℕ) (first : S) (from : Option (List ℕ)) → AreTaken does bytes begun_before number_before first old from before
    → AreTaken does (bytes ++ chunk) left number first new from after
chunk_done does chunk begun_before number_before old new before after rest begun left number t none is bytes first from taken =
    rw is
    (subst (λ (l : List ℕ). AreTaken does l (begun ++ rest) number first new from after)
    (append_assoc bytes t.done rest ∙ ap (λ (l : List ℕ). bytes ++ l) (sym t.parts))
    (rest_taken does (bytes ++ t.done) begun rest number first new from after (t.taken bytes first from taken) none))

-- ---- all chunks

pub taken_kept : {S : Type 0} (does : LineEffect S) (bytes begun : List ℕ) (number : ℕ) (old new : S) (before between after : Option (List ℕ))
    → AreTaken does bytes begun number old new before between → Keeps between after → AreTaken does bytes begun number old new before after
taken_kept does bytes begun number old new before between after t kept = record {
  texts = t.texts;
  cut = t.cut;
  run = run_kept does (map without_return t.texts) old new before between after t.run kept;
  number_is = t.number_is;
}

-- An input of which some bytes were read, and the lines that ended in them were run.
pub record Reading {S : Type 0} (does : LineEffect S) (input left : Option (List ℕ)) (begun : List ℕ) (number : ℕ) (old new : S)
    (before after : Option (List ℕ)) : Type 0 where
  pub bytes : List ℕ
  pub consumed : Consumes input left bytes
  pub taken : AreTaken does bytes begun number old new before after

pub none_read : {S : Type 0} (does : LineEffect S) (input : Option (List ℕ)) (begun : List ℕ) (state : S) (out : Option (List ℕ)) → begun ≡ []
    → Reading does input input begun 1 state state out out
none_read does input begun state out empty =
    rw empty (record { bytes = []; consumed = Consumes-nil input; taken = none_taken does state out })

-- One more chunk was read, its lines were run, and the output was flushed.
pub more_read : {S : Type 0} (does : LineEffect S) (refuses : List ℕ → Type 0) (input between left : Option (List ℕ)) (begun begun_after chunk : List ℕ)
    (number next : ℕ) (old mid new : S) (before out printed after : Option (List ℕ)) → Reading does input between begun number old mid before out
    → Consumes between left chunk
    → ((bytes : List ℕ) (first : S) (from : Option (List ℕ)) → AreTaken does bytes begun number first mid from out
    → IsChunkTaken does refuses (bytes ++ chunk) begun_after first new from printed (Ok next))
    → Keeps printed after → Reading does input left begun_after next old new before after
more_read does refuses input between left begun begun_after chunk number next old mid new before out printed after r consumed takes kept = record {
  bytes = r.bytes ++ chunk;
  consumed = Consumes-trans input between left r.bytes chunk r.consumed consumed;
  taken = taken_kept does (r.bytes ++ chunk) begun_after next old new before printed after (takes r.bytes old before r.taken) kept;
}

-- A read that gave nothing.
pub none_more : (input between left : Option (List ℕ)) (bytes chunk : List ℕ) (count : ℕ) → count ≡ 0 → Consumes input between bytes
    → Consumes between left (take count chunk) → Consumes input left bytes
none_more input between left bytes chunk count none consumed more =
    subst (Consumes input left) (append-nil bytes)
    (Consumes-trans input between left bytes [] consumed (subst (λ (n : ℕ). Consumes between left (take n chunk)) none more))

numbered : (texts : List (List ℕ)) (number : ℕ) → number ≡ length texts + 1 → number ≡ length (map without_return texts) + 1
numbered texts number is = is ∙ ap (λ (n : ℕ). n + 1) (sym (length-map texts without_return))

refused_with : {S : Type 0} (does : LineEffect S) (refuses : List ℕ → Type 0) (input : Option (List ℕ)) (bytes more : List ℕ) (old : S)
    (before after : Option (List ℕ)) (number : ℕ) → IsInput input (bytes ++ more) → IsRefusedIn does refuses bytes old before after number
    → IsLineRefused does refuses input old before after number
refused_with does refuses input bytes more old before after number is r = record {
  bytes = bytes ++ more;
  input_is = is;
  earlier = map without_return r.texts;
  line = without_return r.text;
  later = map without_return (texts_of (r.begun ++ more));
  lines_are = ap (map without_return) (r.split more) ∙ map-append without_return r.texts (r.text ∷ texts_of (r.begun ++ more));
  number_is = numbered r.texts number r.number_is;
  new = r.new;
  run = r.run;
  refused = r.refused;
}

refused_in : {S : Type 0} (does : LineEffect S) (refuses : List ℕ → Type 0) (input left : Option (List ℕ)) (bytes : List ℕ) (old : S)
    (before after : Option (List ℕ)) (number : ℕ) → Consumes input left bytes → IsRefusedIn does refuses bytes old before after number
    → IsLineRefused does refuses input old before after number
refused_in does refuses None left bytes old before after number consumed r =
    refused_with does refuses None bytes [] old before after number tt r
refused_in does refuses (Some known) None bytes old before after number consumed r = absurd consumed
refused_in does refuses (Some known) (Some rest) bytes old before after number consumed r =
    refused_with does refuses (Some known) bytes rest old before after number (sym consumed) r

stops_in : {S : Type 0} (does : LineEffect S) (refuses : List ℕ → Type 0) (input left : Option (List ℕ)) (bytes begun : List ℕ) (old new : S)
    (before after : Option (List ℕ)) (fault : ProgramFault) → Consumes input left bytes → IsChunkTaken does refuses bytes begun old new before after (Err fault)
    → IsTakenToEnd does refuses input old new before after (Err fault)
stops_in does refuses input left bytes begun old new before after (Line n why) consumed so =
    refused_in does refuses input left bytes old before after n consumed so
stops_in does refuses input left bytes begun old new before after Device consumed so = tt
stops_in does refuses input left bytes begun old new before after Memory consumed so = tt

-- A line of one more chunk is refused, or a device or memory failed at it.
pub reading_stops : {S : Type 0} (does : LineEffect S) (refuses : List ℕ → Type 0) (input between left : Option (List ℕ)) (begun begun_after chunk : List ℕ)
    (number : ℕ) (old mid new : S) (before out after : Option (List ℕ)) (fault : ProgramFault)
    → Reading does input between begun number old mid before out → Consumes between left chunk
    → ((bytes : List ℕ) (first : S) (from : Option (List ℕ)) → AreTaken does bytes begun number first mid from out
    → IsChunkTaken does refuses (bytes ++ chunk) begun_after first new from after (Err fault))
    → IsTakenToEnd does refuses input old new before after (Err fault)
reading_stops does refuses input between left begun begun_after chunk number old mid new before out after fault r consumed takes =
    stops_in does refuses input left (r.bytes ++ chunk) begun_after old new before after fault
    (Consumes-trans input between left r.bytes chunk r.consumed consumed) (takes r.bytes old before r.taken)

-- ---- the end of an input

whole_input : (input left : Option (List ℕ)) (bytes : List ℕ) → Consumes input left bytes → IsAtEnd left → IsInput input bytes
whole_input None left bytes consumed end = tt
whole_input (Some known) None bytes consumed end = absurd consumed
whole_input (Some known) (Some rest) bytes consumed end = sym (consumed ∙ ap (λ (l : List ℕ). bytes ++ l) end ∙ append-nil bytes)

texts_at_end : (bytes begun : List ℕ) (texts : List (List ℕ)) → AreCut bytes texts begun → texts_of bytes ≡ texts ++ texts_of begun
texts_at_end bytes begun texts cut =
    ap texts_of (sym (append-nil bytes)) ∙ cut.split [] ∙ ap (λ (l : List ℕ). texts ++ texts_of l) (append-nil begun)

-- The input ends with a newline, or it is empty.
pub ends_with_newline : {S : Type 0} (does : LineEffect S) (input left : Option (List ℕ)) (bytes begun : List ℕ) (number : ℕ) (old new : S)
    (before after : Option (List ℕ)) → length begun ≡ 0 → Consumes input left bytes → IsAtEnd left
    → AreTaken does bytes begun number old new before after → AreAllRun does input old new before after
ends_with_newline does input left bytes [] number old new before after empty consumed end t = record {
  bytes = bytes;
  input_is = whole_input input left bytes consumed end;
  run = subst (λ (l : List (List ℕ)). AreRun does (map without_return l) old new before after)
      (sym (texts_at_end bytes [] t.texts t.cut ∙ ap (λ (l : List (List ℕ)). t.texts ++ l) no_text ∙ append-nil t.texts)) t.run;
}
ends_with_newline does input left bytes (byte ∷ begun) number old new before after empty consumed end t = absurd (omega (arith, empty))

last_lines : (bytes : List ℕ) (byte : ℕ) (begun : List ℕ) (texts : List (List ℕ)) → AreCut bytes texts (byte ∷ begun)
    → lines_of bytes ≡ map without_return texts ++ without_return (byte ∷ begun) ∷ []
last_lines bytes byte begun texts cut =
    ap (map without_return) (texts_at_end bytes (byte ∷ begun) texts cut ∙ ap (λ (l : List (List ℕ)). texts ++ l) (last_text byte begun cut.unended))
    ∙ map-append without_return texts ((byte ∷ begun) ∷ [])

-- The last line does not end with a newline, and was run.
last_run : {S : Type 0} (does : LineEffect S) (input left : Option (List ℕ)) (bytes begun : List ℕ) (number : ℕ) (old mid new : S)
    (before between after : Option (List ℕ)) → 0 < length begun → Consumes input left bytes → IsAtEnd left
    → AreTaken does bytes begun number old mid before between → does (without_return begun) mid new between after
    → AreAllRun does input old new before after
last_run does input left bytes [] number old mid new before between after some consumed end t did = absurd (omega (arith, some))
last_run does input left bytes (byte ∷ begun) number old mid new before between after some consumed end t did = record {
  bytes = bytes;
  input_is = whole_input input left bytes consumed end;
  run = subst (λ (l : List (List ℕ)). AreRun does l old new before after) (sym (last_lines bytes byte begun t.texts t.cut))
      (run_more does (map without_return t.texts) (without_return (byte ∷ begun)) old mid new before between after t.run did);
}

last_refused : {S : Type 0} (does : LineEffect S) (refuses : List ℕ → Type 0) (input left : Option (List ℕ)) (bytes begun : List ℕ) (number : ℕ)
    (old mid : S) (before between after : Option (List ℕ)) → 0 < length begun → Consumes input left bytes → IsAtEnd left
    → AreTaken does bytes begun number old mid before between → refuses (without_return begun) × Keeps between after
    → IsLineRefused does refuses input old before after number
last_refused does refuses input left bytes [] number old mid before between after some consumed end t refused = absurd (omega (arith, some))
last_refused does refuses input left bytes (byte ∷ begun) number old mid before between after some consumed end t refused = record {
  bytes = bytes;
  input_is = whole_input input left bytes consumed end;
  earlier = map without_return t.texts;
  line = without_return (byte ∷ begun);
  later = [];
  lines_are = last_lines bytes byte begun t.texts t.cut;
  number_is = numbered t.texts number t.number_is;
  new = mid;
  run = run_kept does (map without_return t.texts) old mid before between after t.run refused.1;
  refused = refused.0;
}

-- The last line does not end with a newline.
pub ends_with_line : {S : Type 0} (does : LineEffect S) (refuses : List ℕ → Type 0) (input left : Option (List ℕ)) (bytes begun line : List ℕ) (number : ℕ)
    (old mid new : S) (before between after : Option (List ℕ)) (result : Result (Unit {0}) ProgramFault) → 0 < length begun → line ≡ without_return begun
    → Consumes input left bytes → IsAtEnd left → AreTaken does bytes begun number old mid before between
    → OnOk result (does line mid new between after) → IfErr result (EndsAt (refuses line × Keeps between after) number)
    → IsTakenToEnd does refuses input old new before after result
ends_with_line does refuses input left bytes begun line number old mid new before between after (Ok done) some is consumed end t did stops =
    last_run does input left bytes begun number old mid new before between after some consumed end t
    (subst (λ (l : List ℕ). does l mid new between after) is did)
ends_with_line does refuses input left bytes begun line number old mid new before between after (Err (Line n why)) some is consumed end t did stops =
    rw stops.0 (last_refused does refuses input left bytes begun number old mid before between after some consumed end t
    (subst refuses is stops.1.0, stops.1.1))
ends_with_line does refuses input left bytes begun line number old mid new before between after (Err Device) some is consumed end t did stops = tt
ends_with_line does refuses input left bytes begun line number old mid new before between after (Err Memory) some is consumed end t did stops = tt

-- ---- the last flush

all_kept : {S : Type 0} (does : LineEffect S) (input : Option (List ℕ)) (old new : S) (before between after : Option (List ℕ))
    → AreAllRun does input old new before between → Keeps between after → AreAllRun does input old new before after
all_kept does input old new before between after all kept = record {
  bytes = all.bytes;
  input_is = all.input_is;
  run = run_kept does (lines_of all.bytes) old new before between after all.run kept;
}

refused_kept : {S : Type 0} (does : LineEffect S) (refuses : List ℕ → Type 0) (input : Option (List ℕ)) (old : S) (before between after : Option (List ℕ))
    (number : ℕ) → IsLineRefused does refuses input old before between number → Keeps between after → IsLineRefused does refuses input old before after number
refused_kept does refuses input old before between after number r kept =
    record {
      bytes = r.bytes;
      input_is = r.input_is;
      earlier = r.earlier;
      line = r.line;
      later = r.later;
      lines_are = r.lines_are;
      number_is = r.number_is;
      new = r.new;
      run = run_kept does r.earlier old r.new before between after r.run kept;
      refused = r.refused;
    }

pub end_kept : {S : Type 0} (does : LineEffect S) (refuses : List ℕ → Type 0) (input : Option (List ℕ)) (old new : S) (before between after : Option (List ℕ))
    (result : Result (Unit {0}) ProgramFault) → IsTakenToEnd does refuses input old new before between result → Keeps between after
    → IsTakenToEnd does refuses input old new before after result
end_kept does refuses input old new before between after (Ok done) so kept = all_kept does input old new before between after so kept
end_kept does refuses input old new before between after (Err (Line n why)) so kept = refused_kept does refuses input old before between after n so kept
end_kept does refuses input old new before between after (Err Device) so kept = tt
end_kept does refuses input old new before between after (Err Memory) so kept = tt

-- If no line is refused, a device or memory failed.
pub never_refused : {S : Type 0} (does : LineEffect S) (input : Option (List ℕ)) (old new : S) (before after : Option (List ℕ))
    (result : Result (Unit {0}) ProgramFault) → IsTakenToEnd does (λ _. ⊥) input old new before after result → IfErr result IsOfDevices
never_refused does input old new before after (Ok done) so = tt
never_refused does input old new before after (Err (Line n why)) so = absurd so.refused
never_refused does input old new before after (Err Device) so = tt
never_refused does input old new before after (Err Memory) so = tt
