-- One spelling, one cut, and the frames that a reader shows of a stream in any pieces.
use Rattle.std.proofs.Common.{◌≡◌, ℕ, ◌≤◌, inl, List, [], ◌∷◌, ◌++◌, length, take, drop, refl, sym, ap, subst, ◌∙◌, arith, append_assoc, append-nil, length-append}
use Rattle.std.proofs.lemmas.List.{take-append-drop, take_at, take_all}
use Rattle.std.specs.List.{flat_map, concat}
use Rattle.cip_bytes.specs.Numbers.{number_at}
use Rattle.cip_bytes.proofs.Joined.{same_front}
use Rattle.enip_wire.specs.Headers.{header_spelling, header_at}
use Rattle.enip_wire.specs.Frames.{Frame, frame, IsFrame, IsTooLong, IsComplete}
use Rattle.enip_wire.specs.Stream.{Cut, IsAtMostOneFrame}
use Rattle.enip_wire.specs.Pieces.{Reads}
use Rattle.enip_wire.specs.Pieces.Reads.{Ended, Waited, Showed, Stayed}
use Rattle.enip_wire.proofs.HeaderLemmas.{header_at-header_spelling}
use Rattle.enip_wire.proofs.FrameLemmas.{number_at-frame, number_at-append}
use Rattle.enip_wire.proofs.ParseFrameLemmas.{same_frame}
use Rattle.enip_wire.proofs.TakeLemmas.{IsAtMostOneFrame-after, stops-header}

-- the header at the front of a frame's spelling
header_in : (f : Frame) (x : List ℕ) → IsFrame f → header_at (frame f ++ x) ≡ f.header
header_in f x ok =
    ap header_at (append_assoc (header_spelling f.header) f.body x)
    ∙ header_at-header_spelling f.header (f.body ++ x) ok.fields

pub one_spelling_lem : (f g : Frame) (x y : List ℕ) → IsFrame f → IsFrame g → frame f ++ x ≡ frame g ++ y
    → (f ≡ g) × (x ≡ y)
one_spelling_lem f g x y p q e =
    let header : f.header ≡ g.header = sym (header_in f x p) ∙ ap header_at e ∙ header_in g y q in
    let size : length f.body ≡ length g.body = p.counted ∙ ap (λ h. h.length) header ∙ sym q.counted in
    let rest : f.body ++ x ≡ g.body ++ y
    = (same_front (header_spelling f.header) (header_spelling g.header) (f.body ++ x) (g.body ++ y)
    (ap (λ h. length (header_spelling h)) (sym header))
    (sym (append_assoc (header_spelling f.header) f.body x) ∙ e ∙ append_assoc (header_spelling g.header) g.body y)).1 in
    let both : (f.body ≡ g.body) × (x ≡ y) = same_front f.body g.body x y (sym size) rest in
    (same_frame header both.0, both.1)

pub one_cut_lem : (stream : List ℕ) (fs gs : List Frame) (r q : List ℕ) → Cut stream fs r → Cut stream gs q
    → (fs ≡ gs) × (r ≡ q)
one_cut_lem stream [] [] r q c d = (refl, sym c.parts ∙ d.parts)
one_cut_lem stream [] (g ∷ gs) r q c d =
    absurd (c.no_more g (flat_map frame gs ++ q) d.each.0 (sym c.parts ∙ d.parts ∙ append_assoc (frame g) (flat_map frame gs) q))
one_cut_lem stream (f ∷ fs) [] r q c d =
    absurd (d.no_more f (flat_map frame fs ++ r) c.each.0 (sym d.parts ∙ c.parts ∙ append_assoc (frame f) (flat_map frame fs) r))
one_cut_lem stream (f ∷ fs) (g ∷ gs) r q c d =
    let first : (f ≡ g) × (flat_map frame fs ++ r ≡ flat_map frame gs ++ q)
    = one_spelling_lem f g (flat_map frame fs ++ r) (flat_map frame gs ++ q) c.each.0 d.each.0
    (
    sym (append_assoc (frame f) (flat_map frame fs) r) ∙ sym c.parts ∙ d.parts
    ∙ append_assoc (frame g) (flat_map frame gs) q
    ) in
    let rest : (fs ≡ gs) × (r ≡ q)
    = one_cut_lem (flat_map frame fs ++ r) fs gs r q
    (record { parts = refl; each = c.each.1; no_more = c.no_more })
    (record { parts = first.1; each = d.each.1; no_more = d.no_more }) in
    (let p : f ≡ g = first.0 in let q' : fs ≡ gs = rest.0 in cc, rest.1)

-- what is held does not begin with a frame
none_held : (held : List ℕ) → IsAtMostOneFrame held → (IsComplete held → ⊥) → (f : Frame) (more : List ℕ) → IsFrame f
    → held ≡ frame f ++ more → ⊥
none_held held fresh running f [] ok e =
    running (inl (record { of = f; is_frame = ok; spelled = e ∙ append-nil (frame f) }))
none_held held fresh running f (x ∷ more) ok e =
    fresh.running (length (frame f)) (omega (arith, ap length e ∙ length-append (frame f) (x ∷ more)))
    (
    inl (
    record { of = f; is_frame = ok; spelled = ap (take (length (frame f))) e ∙ take_at (frame f) (x ∷ more) (length (frame f)) refl }
    )
    )

-- what begins with a too long header does not begin with a frame
none_long : (bytes rest : List ℕ) → IsTooLong bytes → (f : Frame) (more : List ℕ) → IsFrame f → bytes ++ rest ≡ frame f ++ more → ⊥
none_long bytes rest over f more ok e =
    let says : number_at 2 2 bytes ≡ f.header.length
    = sym (number_at-append bytes rest (omega (arith, over.header))) ∙ ap (λ b. number_at 2 2 b) e ∙ number_at-frame f more ok in
    omega (arith, says, over.over, ok.within)

pub not_empty : IsComplete [] → ⊥
not_empty stops = let header : 24 ≤ 0 = stops-header [] stops in omega arith

shown_parts : (held piece more spelled others rest : List ℕ) (n : ℕ) → held ++ take n piece ≡ spelled
    → drop n piece ++ more ≡ others ++ rest → held ++ (piece ++ more) ≡ (spelled ++ others) ++ rest
shown_parts held piece more spelled others rest n is e =
    ap (λ p. held ++ (p ++ more)) (sym (take-append-drop n piece))
    ∙ ap (λ r. held ++ r) (append_assoc (take n piece) (drop n piece) more)
    ∙ sym (append_assoc held (take n piece) (drop n piece ++ more)) ∙ ap (λ s. s ++ (drop n piece ++ more)) is
    ∙ ap (λ r. spelled ++ r) e ∙ sym (append_assoc spelled others rest)

stayed_parts : (held piece more : List ℕ) (n : ℕ)
    → (held ++ take n piece) ++ (drop n piece ++ more) ≡ (held ++ piece) ++ more
stayed_parts held piece more n =
    append_assoc held (take n piece) (drop n piece ++ more)
    ∙ ap (λ r. held ++ r) (sym (append_assoc (take n piece) (drop n piece) more))
    ∙ ap (λ p. held ++ (p ++ more)) (take-append-drop n piece) ∙ sym (append_assoc held piece more)

pub any_pieces_lem : {held : List ℕ} {pieces : List (List ℕ)} {frames : List Frame} {rest : List ℕ}
    → Reads held pieces frames rest → IsAtMostOneFrame held → (IsComplete held → ⊥) → Cut (held ++ concat pieces) frames rest
any_pieces_lem (Ended {held}) fresh running =
    record { parts = append-nil held; each = tt; no_more = none_held held fresh running }
any_pieces_lem (Waited {held} {piece} {rest} {pieces} {frames} takes waits reads) fresh running =
    let whole : take (length piece) piece ≡ piece = take_all (length piece) piece (omega arith) in
    let next : IsAtMostOneFrame (held ++ piece)
    = subst (λ p. IsAtMostOneFrame (held ++ p)) whole (IsAtMostOneFrame-after held piece (length piece) fresh takes) in
    subst (λ s. Cut s frames rest) (append_assoc held piece (concat pieces)) (any_pieces_lem reads next waits)
any_pieces_lem (Showed {held} {piece} {rest} {pieces} {frames} {f} {n} takes ok is reads) fresh running =
    let cut : Cut (drop n piece ++ concat pieces) frames rest
    = any_pieces_lem reads (record { running = λ k h. absurd (omega arith) }) not_empty in
    record {
      parts = shown_parts held piece (concat pieces) (frame f) (flat_map frame frames) rest n is cut.parts;
      each = (ok, cut.each);
      no_more = cut.no_more;
    }
any_pieces_lem (Stayed {held} {piece} {pieces} {n} takes over) fresh running =
    record {
      parts = sym (append_assoc held piece (concat pieces));
      each = tt;
      no_more = λ f more ok e. none_long (held ++ take n piece) (drop n piece ++ concat pieces) over f more ok (stayed_parts held piece (concat pieces) n ∙ e);
    }
