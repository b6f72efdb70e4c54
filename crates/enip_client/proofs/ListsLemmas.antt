-- Both ways: entries that are read are those listed, and each list is read.
use Rattle.std.proofs.Common.{◌≡◌, ◌↔◌, ℕ, inl, inr, Bool, true, false, List, [], ◌∷◌, ◌++◌, length, Option, Some, None, Result, Ok, Err, refl, sym, ap, subst, ◌∙◌}
use Rattle.std.specs.Prelude.{◌==◌, is_some, if◌then◌else◌}
use Rattle.std.specs.List.{flat_map, filter_map, list_all}
use Rattle.std.specs.Option.{option_map}
use Rattle.std.proofs.lemmas.Bool.{eqb-true, eq-eqb, ne_eqb, cases_eq, and_parts, and_from}
use Rattle.std.proofs.lemmas.List.{take_at}
use Rattle.cip_bytes.specs.Numbers.{le, number_at, AreBytes}
use Rattle.cip_bytes.specs.Protocol.{command_number}
use Rattle.cip_bytes.proofs.Bytes.{AreBytes-second, AreBytes-take}
use Rattle.enip_wire.specs.Frames.{Frame, frame, IsFrame}
use Rattle.enip_wire.specs.Headers.{header_spelling}
use Rattle.enip_wire.specs.Items.{Item, item, items_of}
use Rattle.enip_wire.specs.Stream.{Parsed, parsed}
use Rattle.enip_wire.specs.Stream.Parsed.{Incomplete, WholeFrame, TooLongHeader}
use Rattle.enip_wire.specs.declared.item_list.CpfFault.{CpfFault}
use Rattle.enip_wire.proofs.ItemLemmas.{items_iff}
use Rattle.enip_wire.proofs.WriteLemmas.{items_again}
use Rattle.enip_wire.proofs.ParsedLemmas.{seen-frame}
use Rattle.enip_wire.proofs.PieceLemmas.{parsed-written}
use Rattle.enip_client.specs.declared.fault.ClientFault.{ClientFault}
use Rattle.enip_client.specs.declared.fault.ClientFault.TheVariants as faults
use Rattle.enip_client.specs.declared.lists.ListCommand.{ListCommand}
use Rattle.enip_client.specs.declared.lists.ListCommand.TheVariants as lists
use Rattle.enip_client.specs.Identity.{identity_of}
use Rattle.enip_client.specs.Service.{service_of}
use Rattle.enip_client.specs.Lists.{Entry, A_service, An_identity, Lists, Ended, Said, Skipped, SpellsEntry, IsAnswer, list_command, item_kind, entry_of, is_of, entry_in, entries_in, is_sound, list_of, is_reply_to, answered_with, answer_in}
use Rattle.enip_client.proofs.IdentityLemmas.{identity_taken, identity_again}
use Rattle.enip_client.proofs.ServiceLemmas.{service_taken, service_again}

-- ---- one entry

mapped : {A : Type 0} (f : A → Entry) (o : Option A) (entry : Entry) → option_map f o ≡ Some entry → (x : A) × (o ≡ Some x) × (f x ≡ entry)
mapped f None entry e = absurd cc
mapped f (Some x) entry e = (x, refl, cc)

entry_taken : (command : ListCommand) (bytes : List ℕ) (entry : Entry) → AreBytes bytes → entry_of command bytes ≡ Some entry → SpellsEntry command entry bytes
entry_taken lists.Services bytes entry fits e =
    let m = mapped A_service (service_of bytes) entry e in
    subst (λ (x : Entry). SpellsEntry lists.Services x bytes) m.2 (service_taken bytes m.0 fits m.1)
entry_taken lists.Identity bytes entry fits e =
    let m = mapped An_identity (identity_of bytes) entry e in
    subst (λ (x : Entry). SpellsEntry lists.Identity x bytes) m.2 (identity_taken bytes m.0 fits m.1)

entry_again : (command : ListCommand) (bytes : List ℕ) (entry : Entry) → SpellsEntry command entry bytes → entry_of command bytes ≡ Some entry
entry_again lists.Services bytes (A_service s) h = ap (option_map A_service) (service_again bytes s h)
entry_again lists.Services bytes (An_identity i) h = absurd h
entry_again lists.Identity bytes (A_service s) h = absurd h
entry_again lists.Identity bytes (An_identity i) h = ap (option_map An_identity) (identity_again bytes i h)

-- ---- the items

AreBytes-first : (a b : List ℕ) → AreBytes (a ++ b) → AreBytes a
AreBytes-first a b fits = subst AreBytes (take_at a b (length a) refl) (AreBytes-take (length a) (a ++ b) fits)

said_in : (command : ListCommand) (i : Item) (o : Option Entry) → i.kind ≡ item_kind command → entry_of command i.bytes ≡ o
    → (is_sound command i ≡ is_some o) × (entry_in command i ≡ o)
said_in command i o same is =
    let of : is_of command i ≡ true = eq-eqb i.kind (item_kind command) same in
    (rw (of, is) refl, rw (of, is) refl)

skipped_in : (command : ListCommand) (i : Item) → (i.kind ≡ item_kind command → ⊥) → (is_sound command i ≡ true) × (entry_in command i ≡ None)
skipped_in command i differs =
    let of : is_of command i ≡ false = ne_eqb i.kind (item_kind command) differs in
    (rw of refl, rw of refl)

-- what is left of the items after one
pub more_of : (command : ListCommand) (i : Item) (more : List Item) (o : Option Entry) → entry_in command i ≡ o
    → entries_in command (i ∷ more) ≡ filter_map (λ (x : Option Entry). x) (o ∷ []) ++ entries_in command more
more_of command i more None e = rw e refl
more_of command i more (Some entry) e = rw e refl

sound_lists : (command : ListCommand) (l : List Item) → AreBytes (flat_map item l) → list_all (is_sound command) l ≡ true → Lists command l (entries_in command l)
sound_lists command [] fits all = Ended
sound_lists command (i ∷ more) fits all =
    let parts = and_parts (is_sound command i) (list_all (is_sound command) more) all in
    let rest = sound_lists command more (AreBytes-second (item i) (flat_map item more) fits) parts.1 in
    let own : AreBytes i.bytes = AreBytes-second (le 2 i.kind ++ le 2 (length i.bytes)) i.bytes (AreBytes-first (item i) (flat_map item more) fits) in
    elim (cases_eq i.kind (item_kind command)) [
      | inl same ↦ at_entry command i more own same rest (entry_of command i.bytes) refl parts.0
      | inr differs ↦
          subst (λ (es : List Entry). Lists command (i ∷ more) es) (sym (more_of command i more None (skipped_in command i differs).1)) (Skipped differs rest)
    ]
  where
    at_entry : (command : ListCommand) (i : Item) (more : List Item) → AreBytes i.bytes → i.kind ≡ item_kind command → Lists command more (entries_in command more)
        → (o : Option Entry) → entry_of command i.bytes ≡ o → is_sound command i ≡ true → Lists command (i ∷ more) (entries_in command (i ∷ more))
    at_entry command i more own same rest None is sound = let no : false ≡ true = sym (said_in command i None same is).0 ∙ sound in absurd cc
    at_entry command i more own same rest (Some entry) is sound =
        subst (λ (es : List Entry). Lists command (i ∷ more) es) (sym (more_of command i more (Some entry) (said_in command i (Some entry) same is).1))
        (Said same (entry_taken command i.bytes entry own is) rest)

lists_sound : {command : ListCommand} {l : List Item} {entries : List Entry} → Lists command l entries
    → (list_all (is_sound command) l ≡ true) × (entries_in command l ≡ entries)
lists_sound Ended = (refl, refl)
lists_sound {command} (Said {item = i} {entry = entry} {more = more} {entries = entries} same spelled rest) =
    let r = lists_sound rest in
    let s = said_in command i (Some entry) same (entry_again command i.bytes entry spelled) in (
      and_from (is_sound command i) (list_all (is_sound command) more) s.0 r.0,
      more_of command i more (Some entry) s.1 ∙ ap (λ (es : List Entry). entry ∷ es) r.1,
    )
lists_sound {command} (Skipped {item = i} {more = more} {entries = entries} differs rest) =
    let r = lists_sound rest in
    let s = skipped_in command i differs in
    (and_from (is_sound command i) (list_all (is_sound command) more) s.0 r.0, more_of command i more None s.1 ∙ r.1)

-- ---- the frame

guarded : {A E : Type 0} (t : Bool) (r : Result A E) (e : E) (x : A) → (if t then r else Err e) ≡ Ok x → (t ≡ true) × (r ≡ Ok x)
guarded true r e x h = (refl, h)
guarded false r e x h = absurd cc

listed : (command : ListCommand) (r : Result (List Item) CpfFault) (entries : List Entry) → list_of command r ≡ Ok entries
    → (l : List Item) × (r ≡ Ok l) × (list_all (is_sound command) l ≡ true) × (entries_in command l ≡ entries)
listed command (Err fault) entries e = absurd cc
listed command (Ok l) entries e =
    let g = guarded (list_all (is_sound command) l) (Ok (entries_in command l)) faults.Malformed entries e in
    let same : entries_in command l ≡ entries = let h = g.1 in cc in
    (l, refl, g.0, same)

frame_taken : (command : ListCommand) (bytes : List ℕ) (f : Frame) (entries : List Entry) → AreBytes bytes → IsFrame f → bytes ≡ frame f → answered_with command f ≡ Ok entries
    → IsAnswer command bytes entries
frame_taken command bytes f entries fits is spelled e =
    let g = guarded (is_reply_to command f.header) (if f.header.status == 0 then list_of command (items_of f.body) else Err (faults.Status f.header.status)) faults.Malformed entries e in
    let repeats = and_parts (f.header.command == command_number (list_command command)) (number_at 0 8 f.header.context == 0) g.0 in
    let h = guarded (f.header.status == 0) (list_of command (items_of f.body)) (faults.Status f.header.status) entries g.1 in
    let found = listed command (items_of f.body) entries h.1 in
    let body : AreBytes f.body = AreBytes-second (header_spelling f.header) f.body (subst AreBytes spelled fits) in
    let of = (items_iff f.body (items_of f.body) (Ok found.0) body refl).0 found.1 in
    let flat : AreBytes (flat_map item found.0) = AreBytes-second (le 2 (length found.0)) (flat_map item found.0) (subst AreBytes of.1 body) in
    record {
      answer = f;
      is_frame = is;
      spelled = spelled;
      command_repeated = eqb-true _ _ repeats.0;
      context_repeated = eqb-true _ _ repeats.1;
      success = eqb-true _ _ h.0;
      items_in = found.0;
      are_items = of.0;
      body = of.1;
      lists = subst (λ (es : List Entry). Lists command found.0 es) found.3 (sound_lists command found.0 flat found.2);
    }

answer_taken : (command : ListCommand) (bytes : List ℕ) (parsed_frame : Parsed) (entries : List Entry) → AreBytes bytes → parsed bytes ≡ parsed_frame → answer_in command parsed_frame ≡ Ok entries
    → IsAnswer command bytes entries
answer_taken command bytes Incomplete entries fits is e = absurd cc
answer_taken command bytes (TooLongHeader h) entries fits is e = absurd cc
answer_taken command bytes (WholeFrame f) entries fits is e =
    let seen = seen-frame bytes f fits is in
    frame_taken command bytes f entries fits seen.0 seen.1 e

frame_again : (command : ListCommand) (bytes : List ℕ) (entries : List Entry) (h : IsAnswer command bytes entries) → answered_with command h.answer ≡ Ok entries
frame_again command bytes entries h =
    let l = lists_sound h.lists in
    let repeats = and_from (h.answer.header.command == command_number (list_command command)) (number_at 0 8 h.answer.header.context == 0)
    (eq-eqb _ _ h.command_repeated) (eq-eqb _ _ h.context_repeated) in
    let success : h.answer.header.status == 0 ≡ true = eq-eqb _ _ h.success in
    let read : items_of h.answer.body ≡ Ok h.items_in = ap items_of h.body ∙ items_again h.items_in h.are_items in
    ap (λ (t : Bool). if t then if h.answer.header.status == 0 then list_of command (items_of h.answer.body) else Err (faults.Status h.answer.header.status) else Err faults.Malformed) repeats
    ∙ ap (λ (t : Bool). if t then list_of command (items_of h.answer.body) else Err (faults.Status h.answer.header.status)) success
    ∙ ap (list_of command) read
    ∙ ap (λ (t : Bool). if t then Ok (entries_in command h.items_in) else Err faults.Malformed) l.0
    ∙ ap (λ (es : List Entry). Ok es) l.1

answer_again : (command : ListCommand) (bytes : List ℕ) (entries : List Entry) → IsAnswer command bytes entries → answer_in command (parsed bytes) ≡ Ok entries
answer_again command bytes entries h =
    ap (λ (b : List ℕ). answer_in command (parsed b)) h.spelled
    ∙ ap (answer_in command) (parsed-written h.answer h.is_frame)
    ∙ frame_again command bytes entries h

-- of what a reader returned
pub reads_list : (command : ListCommand) (bytes : List ℕ) (r : Result (List Entry) ClientFault) → AreBytes bytes → r ≡ answer_in command (parsed bytes) → (entries : List Entry)
    → (r ≡ Ok entries) ↔ IsAnswer command bytes entries
reads_list command bytes r fits e entries =
    ((λ h. answer_taken command bytes (parsed bytes) entries fits refl (sym e ∙ h)), (λ h. e ∙ answer_again command bytes entries h))
