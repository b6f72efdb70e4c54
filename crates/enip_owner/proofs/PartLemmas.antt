-- Lines that are written part by part.
use Rattle.std.proofs.Common.{◌≡◌, ℕ, suc, ◌+◌, ◌<◌, ◌≤◌, max, List, [], ◌∷◌, ◌++◌, length, take, get_or, map, Result, Ok, Err, Option, Some, None, Vec, refl, sym, ap, subst, false, ◌∙◌, append_assoc, append-nil, arith}
use Rattle.std.specs.List.{flat_map}
use Rattle.std.specs.Option.{option_and_then}
use Rattle.std.specs.Result.{IsErr}
use Rattle.std.specs.declared.alloc.AllocError.{AllocError}
use Rattle.std.proofs.lemmas.Bool.{false≢true}
use Rattle.std.specs.declared.alloc.Global.{Global}
use Rattle.std.proofs.lemmas.List.{take_more, take_all}
use Rattle.json.specs.Json.{Json, Items, no_items, item, if_last, value, document, max_depth}
use Rattle.json.specs.Lex.{tokens}
use Rattle.json.specs.Print.{print, ArePrintableOrBad}
use Rattle.json.specs.Token.{Token, end_array}
use Rattle.json.specs.Tree.{json_tokens, items_tokens, depth, items_depth}
use Rattle.json.specs.Value.{items_of}
use Rattle.json.specs.Written.{Written}
use Rattle.json.proofs.Numbered.{ArePrintableOrBad-tokens}
use Rattle.json.proofs.Printed.Trees.{value-json_tokens}
use Rattle.enip_lines.specs.InputLines.{has_newline}
use Rattle.enip_owner.specs.declared.line_buffer.TheConstants.{LINE_LIMIT}
use Rattle.enip_owner.specs.declared.event_fault.EventFault.{EventFault}
use Rattle.enip_owner.specs.declared.event_fault.EventFault.TheVariants as faults
use Rattle.enip_owner.specs.Events.{IsLineOf, IsWritten, IsUnwritten, IsWrittenOne, IsUnwrittenOne}
use Rattle.enip_owner.specs.Parts.{Adds, IsLine, IsLineFrom, IsLineFault}
use Rattle.enip_owner.proofs.NewlineLemmas.{none_in_print}

-- ---- lists of tokens

flat_map-append : {A B : Type 0} (f : A → List B) (xs ys : List A) → flat_map f (xs ++ ys) ≡ flat_map f xs ++ flat_map f ys
flat_map-append f [] ys = refl
flat_map-append f (x ∷ xs) ys = ap (λ l. f x ++ l) (flat_map-append f xs ys) ∙ sym (append_assoc (f x) (flat_map f xs) (flat_map f ys))

-- These tokens were written after the others.
pub record AreAdded (old new : Written) (added : List Token) : Type 0 where
  pub tokens : new.tokens ≡ old.tokens ++ added
  pub before : new.before ≡ old.before

pub none_added : (w : Written) → AreAdded w w []
none_added w = record { tokens = sym (append-nil w.tokens); before = refl }

-- One more item was written.
pub more_added : {A : Type 0} (f : A → List Token) (items : List A) (index : ℕ) (default_ : A) (old mid new : Written) → index < length items
    → AreAdded old mid (flat_map f (take index items)) → new.tokens ≡ mid.tokens ++ f (get_or items index default_) → new.before ≡ mid.before
    → AreAdded old new (flat_map f (take (index + 1) items))
more_added f items index default_ old mid new inside added more before = record {
  tokens = more ∙ ap (λ l. l ++ f (get_or items index default_)) added.tokens
      ∙ append_assoc old.tokens (flat_map f (take index items)) (f (get_or items index default_))
      ∙ ap (λ l. old.tokens ++ (flat_map f (take index items) ++ l)) (sym (append-nil (f (get_or items index default_))))
      ∙ ap (λ l. old.tokens ++ l) (sym (flat_map-append f (take index items) (get_or items index default_ ∷ [])))
      ∙ ap (λ l. old.tokens ++ flat_map f l) (sym (take_more items index default_ inside));
  before = before ∙ added.before;
}

pub all_added : {A : Type 0} (f : A → List Token) (items : List A) (index : ℕ) (old new : Written) → length items ≤ index
    → AreAdded old new (flat_map f (take index items)) → AreAdded old new (flat_map f items)
all_added f items index old new done added = record {
  tokens = added.tokens ∙ ap (λ l. old.tokens ++ flat_map f l) (take_all index items done);
  before = added.before;
}

-- ---- lines

reads : (j : Json) → depth j ≤ max_depth → tokens (print (json_tokens j)) ≡ json_tokens j → document (print (json_tokens j)) ≡ Some j
reads j shallow same =
    ap (λ ts. option_and_then (λ p. if_last p.0 p.1) (value max_depth ts)) (same ∙ sym (append-nil (json_tokens j)))
    ∙ ap (option_and_then (λ p. if_last p.0 p.1)) (value-json_tokens j max_depth [] shallow)

line_is : (j : Json) (w : Written) (line : List ℕ) → w.before ≡ [] → w.tokens ≡ json_tokens j → depth j ≤ max_depth → IsLine w line
    → IsLineOf j line
line_is j w line before same shallow is =
    let text : w.before ++ print w.tokens ≡ print (json_tokens j) =
    ap (λ l. l ++ print w.tokens) before ∙ ap print same in record {
      text = is.text ∙ ap (λ l. l ++ 10 ∷ []) text;
      short = subst (λ l. length l ≤ LINE_LIMIT) text is.short;
      one_line = subst (λ ts. has_newline (print ts) ≡ false) same
          (none_in_print false w.tokens (subst ArePrintableOrBad is.reads_back (ArePrintableOrBad-tokens (print w.tokens))));
      reads_back = reads j shallow (subst (λ ts. tokens (print ts) ≡ ts) same is.reads_back);
    }

fault_is : (j : Json) (w : Written) (fault : EventFault) → w.before ≡ [] → w.tokens ≡ json_tokens j → IsLineFault w fault → IsUnwritten j fault
fault_is j w faults.TooLong before same long =
    subst (λ l. LINE_LIMIT < length l) (ap (λ l. l ++ print w.tokens) before ∙ ap print same) long
fault_is j w faults.Memory before same long = tt

-- The line of a writer that has the tokens of a JSON value.
pub written : (j : Json) (w : Written) (r : Result (Vec ℕ Global) EventFault) → w.before ≡ [] → w.tokens ≡ json_tokens j → depth j ≤ max_depth
    → IsLineFrom w r → IsWritten j r
written j w (Ok line) before same shallow is = line_is j w line.items before same shallow is
written j w (Err fault) before same shallow is = fault_is j w fault before same is

pub written_one : (Is : Json → Type 0) (j : Json) (w : Written) (r : Result (Vec ℕ Global) EventFault) → Is j → w.before ≡ []
    → w.tokens ≡ json_tokens j → depth j ≤ max_depth → IsLineFrom w r → IsWrittenOne Is r
written_one Is j w (Ok line) it before same shallow is = (j, (it, line_is j w line.items before same shallow is))
written_one Is j w (Err faults.TooLong) it before same shallow is = (j, (it, fault_is j w faults.TooLong before same is))
written_one Is j w (Err faults.Memory) it before same shallow is = tt

-- ---- lists of values

pub items_tokens-map : {A : Type 0} (f : A → Json) (xs : List A)
    → items_tokens (items_of (map f xs)) ≡ flat_map (λ x. json_tokens (f x)) xs ++ end_array ∷ []
items_tokens-map f [] = refl
items_tokens-map f (x ∷ xs) =
    ap (λ l. json_tokens (f x) ++ l) (items_tokens-map f xs)
    ∙ sym (append_assoc (json_tokens (f x)) (flat_map (λ y. json_tokens (f y)) xs) (end_array ∷ []))

pub items_depth-map : {A : Type 0} (f : A → Json) (xs : List A) (most : ℕ) → ((x : A) → depth (f x) ≤ most) → items_depth (items_of (map f xs)) ≤ most
items_depth-map f [] most each = omega arith
items_depth-map f (x ∷ xs) most each = omega (arith, each x, items_depth-map f xs most each)

-- ---- a loop that writes items

pub done_adding : {A : Type 0} (f : A → List Token) (items : List A) (index : ℕ) (old new : Written) → length items ≤ index
    → AreAdded old new (flat_map f (take index items)) → Adds {E = AllocError} (Ok tt) old new (flat_map f items)
done_adding f items index old new done added =
    let all = all_added f items index old new done added in record { ok = all.tokens; before = all.before }

pub failed_adding : (r : Result (Unit {0}) AllocError) (old mid new : Written) (so_far added : List Token) → IsErr r → AreAdded old mid so_far
    → new.before ≡ mid.before → Adds r old new added
failed_adding (Ok done) old mid new so_far added failed before same = absurd (false≢true failed)
failed_adding (Err why) old mid new so_far added failed before same = record { ok = tt; before = same ∙ before.before }
