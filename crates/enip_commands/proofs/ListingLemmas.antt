-- A list is printed entry by entry.
use Rattle.std.proofs.Common.{◌≡◌, ℕ, ◌+◌, ◌<◌, List, [], ◌∷◌, ◌++◌, length, take, get_or, Option, refl, sym, ap, subst, ◌∙◌, append-nil, append_assoc}
use Rattle.std.proofs.KnownBytes.{Appends-nil, Appends-trans}
use Rattle.std.specs.Io.KnownBytes.{Appends}
use Rattle.std.specs.List.{flat_map}
use Rattle.std.proofs.lemmas.List.{take_more}
use Rattle.std.proofs.lemmas.List.Concat.{flat_map-append}
use Rattle.enip_client.specs.Lists.{Entry}
use Rattle.enip_commands.specs.Listing.{name_byte, name_text}

-- One more byte of a name.
pub name_text-more : (name : List ℕ) (place : ℕ) → place < length name
    → name_text (take place name) ++ name_byte (get_or name place 0) ≡ name_text (take (place + 1) name)
name_text-more name place inside =
    ap (λ (t : List ℕ). name_text (take place name) ++ t) (sym (append-nil (name_byte (get_or name place 0))))
    ∙ sym (flat_map-append name_byte (take place name) (get_or name place 0 ∷ []))
    ∙ sym (ap name_text (take_more name place 0 inside))

-- Some entries are printed, the others are left.
pub record Printed (text : Entry → List ℕ) (before after : Option (List ℕ)) (whole left : List Entry) : Type 0 where
  pub done : List ℕ
  pub printed : Appends before after done
  pub parts : done ++ flat_map text left ≡ flat_map text whole

pub printed_none : (text : Entry → List ℕ) (before : Option (List ℕ)) (whole : List Entry) → Printed text before before whole whole
printed_none text before whole = record { done = []; printed = Appends-nil before; parts = refl }

pub printed_more : (text : Entry → List ℕ) (before mid after : Option (List ℕ)) (whole left more : List Entry) (entry : Entry)
    → Printed text before mid whole left → left ≡ entry ∷ more → Appends mid after (text entry) → Printed text before after whole more
printed_more text before mid after whole left more entry p is next = record {
  done = p.done ++ text entry;
  printed = Appends-trans before mid after p.done (text entry) p.printed next;
  parts = append_assoc p.done (text entry) (flat_map text more)
      ∙ ap (λ (l : List Entry). p.done ++ flat_map text l) (sym is) ∙ p.parts;
}

pub printed_all : (text : Entry → List ℕ) (before after : Option (List ℕ)) (whole left : List Entry) → Printed text before after whole left → left ≡ []
    → Appends before after (flat_map text whole)
printed_all text before after whole left p is =
    subst (Appends before after) (sym (append-nil p.done) ∙ ap (λ (l : List Entry). p.done ++ flat_map text l) (sym is) ∙ p.parts) p.printed
