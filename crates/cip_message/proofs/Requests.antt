-- A request that is read is the one spelled, and what is spelled is read.
use Rattle.std.proofs.Common.{◌≡◌, ◌↔◌, ℕ, ◌+◌, ◌*◌, ◌/◌, ◌<◌, ◌≤◌, false, ltb, List, [], ◌∷◌, ◌++◌, length, slice_index, take, drop, Result, Ok, Err, refl, sym, ap, subst, ◌∙◌, arith}
use Rattle.std.proofs.lemmas.Bool.{ltb-true, ltb-false, le-ltb, lt-ltb}
use Rattle.std.proofs.lemmas.List.{take_at, drop_at, take-append-drop, length-append, length-take}
use Rattle.cip_message.specs.declared.request.RequestView.{RequestView}
use Rattle.cip_message.specs.declared.request.RequestFault.{RequestFault}
use Rattle.cip_message.specs.declared.request.RequestFault.TheVariants.{Short, PathSize}
use Rattle.cip_bytes.specs.Reading.{Gives}
use Rattle.cip_message.specs.Request.{Request, IsRequest, request, view, request_of}
use Rattle.cip_bytes.specs.Numbers.{AreBytes}
use Rattle.cip_bytes.proofs.Bytes.{AreBytes-drop, AreBytes-take, AreBytes-tail}
use Rattle.cip_bytes.proofs.Steps.{gives_iff, iff_then, guarded_ok, guarded_err}

request_taken : (b : List ℕ) (q : Request) → AreBytes b → request_of b ≡ Ok q → IsRequest q × (b ≡ request q)
unfolding request_of
request_taken [] q fits e = absurd cc
request_taken (s ∷ []) q fits e = absurd cc
request_taken (s ∷ n ∷ rest) q fits e =
    let path = take (2 * n) rest in
    let all = drop (2 * n) rest in
    let g = guarded_ok (ltb (length rest) (2 * n)) PathSize (record { service = s; path = path; «data» = all }) q e in
    let long : 2 * n ≤ length rest = ltb-false _ _ g.0 in
    let len : length path ≡ 2 * n = omega (arith, length-take (2 * n) rest) in
    let fits_rest : AreBytes rest = AreBytes-tail n rest (AreBytes-tail s (n ∷ rest) fits) in
    let below : n < 256 = fits 1 in
    let half : length path / 2 ≡ n = omega arith in
    let made : Request = record { service = s; path = path; «data» = all } in
    let is : IsRequest made = record { service = fits 0; whole_words = omega arith; counted = omega arith; path = AreBytes-take (2 * n) rest fits_rest; «data» = AreBytes-drop (2 * n) rest fits_rest } in
    let text : s ∷ n ∷ rest ≡ request made = ap (λ (t : List ℕ). s ∷ n ∷ t) (sym (take-append-drop (2 * n) rest)) ∙ ap (λ (k : ℕ). s ∷ k ∷ (path ++ all)) (sym half) in
    subst (λ (v : Request). IsRequest v × (s ∷ n ∷ rest ≡ request v)) g.1 (is, text)

request_again : (q : Request) → IsRequest q → request_of (request q) ≡ Ok q
unfolding request_of
request_again q h =
    let whole = h.whole_words in
    let size : 2 * (length q.path / 2) ≡ length q.path = omega arith in
    let long : ltb (length (q.path ++ q.data)) (2 * (length q.path / 2)) ≡ false = le-ltb _ _ (omega (arith, length-append q.path q.data)) in
    rw (long, take_at q.path q.data (2 * (length q.path / 2)) (sym size), drop_at q.path q.data (2 * (length q.path / 2)) (sym size)) refl

request_iff : (b : List ℕ) (q : Request) → AreBytes b → (request_of b ≡ Ok q) ↔ (IsRequest q × (b ≡ request q))
request_iff b q fits = (request_taken b q fits, (λ h. ap request_of h.1 ∙ request_again q h.0))

short_iff : (b : List ℕ) → (request_of b ≡ Err Short) ↔ (length b < 2)
unfolding request_of
short_iff [] = ((λ e. omega arith), (λ h. refl))
short_iff (s ∷ []) = ((λ e. omega arith), (λ h. refl))
short_iff (s ∷ n ∷ rest) =
    ((λ e. absurd (let g = guarded_err (ltb (length rest) (2 * n)) PathSize (record { service = s; path = take (2 * n) rest; «data» = drop (2 * n) rest }) Short e in let k = g.1 in cc)), (λ h. absurd (omega arith)))

path_size_iff : (b : List ℕ) → (request_of b ≡ Err PathSize) ↔ ((2 ≤ length b) × (length b < 2 + 2 * slice_index b 1))
unfolding request_of
path_size_iff [] = ((λ e. absurd cc), (λ h. absurd (omega (arith, h.0))))
path_size_iff (s ∷ []) = ((λ e. absurd cc), (λ h. absurd (omega (arith, h.0))))
path_size_iff (s ∷ n ∷ rest) = (
  (λ e. let g = guarded_err (ltb (length rest) (2 * n)) PathSize (record { service = s; path = take (2 * n) rest; «data» = drop (2 * n) rest }) PathSize e in
      let lt : length rest < 2 * n = ltb-true _ _ g.0 in (omega arith, omega arith)),
  (λ h. let lt : length rest < 2 * n = omega (arith, h.1) in rw (lt-ltb _ _ lt) refl),
)

-- ---- what a reader returned

pub reads_request : (b : List ℕ) (r : Result RequestView RequestFault) → AreBytes b → Gives view r (request_of b) → (q : Request) → Gives view r (Ok q) ↔ (IsRequest q × (b ≡ request q))
reads_request b r fits e q = iff_then (gives_iff view r (request_of b) (Ok q) e) (request_iff b q fits)

pub reads_short : (b : List ℕ) (r : Result RequestView RequestFault) → Gives view r (request_of b) → Gives view r (Err Short) ↔ (length b < 2)
reads_short b r e = iff_then (gives_iff view r (request_of b) (Err Short) e) (short_iff b)

pub reads_path_size : (b : List ℕ) (r : Result RequestView RequestFault) → Gives view r (request_of b) → Gives view r (Err PathSize) ↔ ((2 ≤ length b) × (length b < 2 + 2 * slice_index b 1))
reads_path_size b r e = iff_then (gives_iff view r (request_of b) (Err PathSize) e) (path_size_iff b)

-- ---- writing

pub length_parts : (path bytes : List ℕ) → length (path ++ bytes) ≡ length path + length bytes
length_parts path bytes = length-append path bytes
