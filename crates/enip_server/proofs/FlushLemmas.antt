-- Writing an answer, and what is left of one.
use Rattle.std.proofs.Common.{◌≡◌, ◌≢◌, ◌<◌, ◌+◌, ◌-◌, ℕ, zero, suc, List, [], ◌++◌, length, take, drop, Option, Some, None, refl, sym, ap, subst, ◌∙◌, arith}
use Rattle.std.specs.Prelude.{IfSome, IfNone}
use Rattle.std.proofs.KnownBytes.{Appends-trans}
use Rattle.std.proofs.lemmas.List.{drop-take, drop_all, length-drop, take-append-drop, take-take, take_all}
use Rattle.std.specs.Io.KnownBytes.{Appends}
use Rattle.enip_server.specs.declared.peer_io.Turn.{Turn}
use Rattle.enip_server.specs.declared.peer_io.Turn.TheVariants.{More, UntilReadable, UntilWritable, Finished}
use Rattle.enip_server.specs.declared.wire_counts.WireCounts.{WireCounts}
use Rattle.enip_server.specs.PeerStates.{PeerState, IsFlushed, GoesOn, IsCutShort, IsWaiting}
use Rattle.enip_server.specs.Wires.{after_write}

-- so many bytes are written
pub flushed_by : (old new : PeerState) (size : ℕ) → Appends old.written new.written (take size old.outbox)
    → new.outbox ≡ drop size old.outbox → new.adapter ≡ old.adapter → new.inbox ≡ old.inbox → new.closed ≡ old.closed
    → new.last_byte_at ≡ old.last_byte_at → new.left ≡ old.left → new.known ≡ old.known
    → new.counts.reads ≡ old.counts.reads → IsFlushed old new
flushed_by old new size appends rest adapter inbox closed last_byte_at left known reads = record {
  gone = take size old.outbox;
  waits = sym (take-append-drop size old.outbox) ∙ ap (λ xs. take size old.outbox ++ xs) (sym rest);
  written = appends;
  adapter = adapter;
  inbox = inbox;
  closed = closed;
  last_byte_at = last_byte_at;
  left = left;
  known = known;
  reads = reads;
}

-- the part of a slice from an index on
pub from_index : (xs : List ℕ) (n : ℕ) → take (length xs - n) (drop n xs) ≡ drop n xs
from_index xs n = take_all (length xs - n) (drop n xs) (omega (arith, length-drop n xs))

-- a front of a list, in two parts
take_two : (n m : ℕ) (xs : List ℕ) → take (n + m) xs ≡ take n xs ++ take m (drop n xs)
take_two n m xs =
    let first : take n (take (n + m) xs) ≡ take n xs = take-take n (n + m) xs (omega arith) in
    sym (take-append-drop n (take (n + m) xs)) ∙ ap (λ ys. ys ++ drop n (take (n + m) xs)) first
    ∙ ap (λ ys. take n xs ++ ys) (drop-take n m xs)

-- more of these bytes is written
pub more_written : (a b c : Option (List ℕ)) (bytes : List ℕ) (done size : ℕ) → Appends a b (take done bytes)
    → Appends b c (take size (drop done bytes)) → Appends a c (take (done + size) bytes)
more_written a b c bytes done size before more =
    subst (Appends a c) (sym (take_two done size bytes)) (Appends-trans a b c (take done bytes) (take size (drop done bytes)) before more)

-- all is written
pub all_gone : (unsent : Option Turn) (size : ℕ) (before : List ℕ) → unsent ≡ None → IfNone unsent (size ≡ length before)
    → drop size before ≡ []
all_gone None size before none all = drop_all size before (omega (arith, all))
all_gone (Some turn) size before none all = absurd (cc)

-- what is left, by how much is written
pub out_by : (unsent : Option Turn) (size : ℕ) (before after : List ℕ) → IfNone unsent (size ≡ length before)
    → after ≡ drop size before → IfNone unsent (after ≡ [])
out_by (Some turn) size before after all is = tt
out_by None size before after all is = is ∙ all_gone None size before refl all

pub waits_here : (size : ℕ) (before after : List ℕ) → size < length before → after ≡ drop size before → after ≢ []
waits_here size before after less is none =
    let gone : length (drop size before) ≡ 0 = ap length (sym is ∙ none) in
    absurd (omega (arith, length-drop size before, gone))

pub waits_by : (unsent : Option Turn) (size : ℕ) (before after : List ℕ)
    → IfSome unsent (λ turn. (size < length before) × IsWaiting turn) → after ≡ drop size before
    → IfSome unsent (λ turn. (after ≢ []) × IsWaiting turn)
waits_by None size before after some is = tt
waits_by (Some turn) size before after some is = (waits_here size before after some.0 is, some.1)

-- a turn that waits is cut short, whether the adapter closed the peer or not
cut_open : (closed : Option ℕ) (turn : Turn) (old new : WireCounts) → IsCutShort None turn old new
    → IsCutShort closed turn old new
cut_open closed More old new cut = absurd (cut.0 refl)
cut_open closed UntilReadable old new cut = absurd cut
cut_open closed UntilWritable old new cut = cut
cut_open closed Finished old new cut = cut

pub cut_by : (unsent : Option Turn) (closed : Option ℕ) (old new : WireCounts)
    → IfSome unsent (λ turn. IsCutShort None turn old new) → IfSome unsent (λ turn. IsCutShort closed turn old new)
cut_by None closed old new cut = tt
cut_by (Some turn) closed old new cut = cut_open closed turn old new cut

-- a write is not a read
pub write_reads : (taken : Option ℕ) (t : WireCounts) → (after_write taken t).reads ≡ t.reads
write_reads None t = refl
write_reads (Some zero) t = refl
write_reads (Some (suc n)) t = refl

-- a write that took something
pub told_some : (size : ℕ) (old new : WireCounts) → size ≢ 0 → new ≡ after_write (Some size) old → GoesOn old new
told_some zero old new some wrote = absurd (some refl)
told_some (suc n) old new some wrote = (ap (λ t. t.drained) wrote, ap (λ t. t.waits) wrote, ap (λ t. t.ends) wrote)
