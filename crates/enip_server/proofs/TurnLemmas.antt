-- A turn, by its parts.
use Rattle.std.proofs.Common.{◌≡◌, ◌≢◌, ℕ, List, [], Bool, true, false, Option, Some, None, refl, sym, ap, ◌∙◌, true≢false}
use Rattle.cip_objects.specs.OwnRequests.{Asked}
use Rattle.cip_owner.specs.Replies.{Reply}
use Rattle.enip_server.specs.declared.peer_io.Turn.{Turn}
use Rattle.enip_server.specs.declared.peer_io.Turn.TheVariants.{More, UntilReadable, UntilWritable, Finished}
use Rattle.enip_server.specs.PeerStates.{PeerState, IsFlushed, IsFetched, AreFed, IsDiscarded, IsTurn, FitsBuffers, FitsCounts}
use Rattle.enip_server.specs.PeerStates.{turn_after, IsByRead, IsThrough, GoesOn, IsCutShort, IsWaiting, is_closed_now}
use Rattle.enip_server.specs.declared.wire_counts.WireCounts.{WireCounts}
use Rattle.enip_server.specs.declared.wire.ReadOutcome.{ReadOutcome}
use Rattle.enip_server.specs.declared.wire.ReadOutcome.TheVariants.{Bytes, Drained, WouldBlock, End, Failed}
use Rattle.enip_server.specs.Wires.{one_more, AreReadBy, after_read}

module _ {O : Type 0} (answer : O → Asked → Option Reply) (after : O → Asked → O) (now peer : ℕ) where
  -- an answer is not written to its end
  pub turn_waits : (owner : O) (old new : PeerState) → IsFlushed old new → new.outbox ≢ []
      → IsTurn answer after now peer owner old owner new
  turn_waits owner old new flushed waits = record {
    between = new;
    flushed = flushed;
    waits = λ _. (refl, refl);
    served = λ out _. absurd (waits out);
    discarded = λ out _. absurd (waits out);
  }

  -- what is read of a closed peer is discarded
  pub turn_thrown : (owner : O) (old between new : PeerState) → IsFlushed old between → between.outbox ≡ []
      → between.closed ≢ None → IsDiscarded between new → IsTurn answer after now peer owner old owner new
  turn_thrown owner old between new flushed out closed discarded = record {
    between = between;
    flushed = flushed;
    waits = λ waits. absurd (waits out);
    served = λ _ served. absurd (closed served);
    discarded = λ _ _. (discarded, refl);
  }

  -- what was read is fed
  pub turn_served : (first last : O) (old between read new : PeerState) → IsFlushed old between → between.outbox ≡ []
      → between.closed ≡ None → IsFetched now between read → AreFed answer after now peer first read last new
      → IsTurn answer after now peer first old last new
  turn_served first last old between read new flushed out served fetched fed = record {
    between = between;
    flushed = flushed;
    waits = λ waits. absurd (waits out);
    served = λ _ _. record { between = read; fetched = fetched; fed = fed };
    discarded = λ _ closed. absurd (closed served);
  }

-- all answers are written, and all that was read is fed
pub told_fed : (d : PeerState) (turn : Turn) → d.outbox ≡ [] → d.inbox ≡ [] → IsByRead turn → FitsBuffers d turn
told_fed d More out none is = (out, λ _. none)
told_fed d UntilReadable out none is = (out, none)
told_fed d UntilWritable out none is = absurd is
told_fed d Finished out none is = tt

-- the outcome of a turn by its read
pub by_read : (received : ReadOutcome) (end_reported : Bool) → IsByRead (turn_after received end_reported)
by_read (Bytes size) end_reported = tt
by_read (Drained size) false = tt
by_read (Drained size) true = tt
by_read WouldBlock end_reported = tt
by_read End end_reported = tt
by_read Failed end_reported = tt

-- a read that gave bytes
pub read_some : (received : ReadOutcome) (bytes : List ℕ) (old new : WireCounts) → AreReadBy received bytes → bytes ≢ []
    → new ≡ after_read received old → IsThrough old new
read_some (Bytes size) bytes old new given some is = (ap (λ t. t.waits) is, ap (λ t. t.ends) is)
read_some (Drained size) bytes old new given some is = (ap (λ t. t.waits) is, ap (λ t. t.ends) is)
read_some WouldBlock bytes old new given some is = absurd (some given)
read_some End bytes old new given some is = absurd (some given)
read_some Failed bytes old new given some is = absurd (some given)

-- no call of the wire
pub still_same : (old new : WireCounts) → new ≡ old → GoesOn old new
still_same old new is = (ap (λ t. t.drained) is, ap (λ t. t.waits) is, ap (λ t. t.ends) is)

-- calls that did not block, and then these
pub still_after : (a b c : WireCounts) → GoesOn a b → GoesOn b c → GoesOn a c
still_after a b c still more = (more.0 ∙ still.0, more.1 ∙ still.1, more.2 ∙ still.2)

pub cut_after : (closed : Option ℕ) (turn : Turn) (a b c : WireCounts) → GoesOn a b → IsCutShort closed turn b c
    → IsCutShort closed turn a c
cut_after closed More a b c still cut = (cut.0, cut.1 ∙ still.1, cut.2 ∙ still.2)
cut_after closed UntilReadable a b c still cut = absurd cut
cut_after closed UntilWritable a b c still cut = (cut.0 ∙ ap one_more still.1, cut.1 ∙ still.2)
cut_after closed Finished a b c still cut = (cut.0 ∙ still.1, cut.1 ∙ ap one_more still.2)

-- a turn that ends before a read is made
pub told_unsent : (end_reported closed_now : Bool) (closed : Option ℕ) (turn : Turn) (old new : WireCounts) → IsWaiting turn
    → IsCutShort closed turn old new → FitsCounts end_reported closed_now turn old new
told_unsent end_reported closed_now closed More old new waits cut = absurd waits
told_unsent end_reported closed_now closed UntilReadable old new waits cut = absurd waits
told_unsent end_reported closed_now closed UntilWritable old new waits cut = cut
told_unsent end_reported closed_now closed Finished old new waits cut = cut

-- one that ends with a read, after writes
pub told_later : (end_reported at_read closed_now : Bool) (turn : Turn) (a b c : WireCounts) → at_read ≡ end_reported → GoesOn a b
    → FitsCounts at_read closed_now turn b c → FitsCounts end_reported closed_now turn a c
told_later end_reported at_read closed_now More a b c same still fits_buffers =
    ((fits_buffers.0.0 ∙ still.1, fits_buffers.0.1 ∙ still.2), λ not_ending served. fits_buffers.1 (same ∙ not_ending) served ∙ still.0)
told_later end_reported at_read closed_now UntilReadable a b c same still fits_buffers = (
  fits_buffers.0 ∙ ap one_more still.0,
  fits_buffers.1 ∙ still.2,
  λ ends. fits_buffers.2 (same ∙ ends) ∙ ap one_more still.1,
)
told_later end_reported at_read closed_now UntilWritable a b c same still fits_buffers = (fits_buffers.0 ∙ ap one_more still.1, fits_buffers.1 ∙ still.2)
told_later end_reported at_read closed_now Finished a b c same still fits_buffers = (fits_buffers.0 ∙ still.1, fits_buffers.1 ∙ ap one_more still.2)

-- whether the adapter closed the peer after it or not
told_open : (end_reported closed_now : Bool) (turn : Turn) (old new : WireCounts) → FitsCounts end_reported false turn old new
    → FitsCounts end_reported closed_now turn old new
told_open end_reported closed_now More old new fits_buffers = (fits_buffers.0, λ not_ending _. fits_buffers.1 not_ending refl)
told_open end_reported closed_now UntilReadable old new fits_buffers = fits_buffers
told_open end_reported closed_now UntilWritable old new fits_buffers = fits_buffers
told_open end_reported closed_now Finished old new fits_buffers = fits_buffers

-- a read, after writes
pub told_fetched : (end_reported at_read closed_now : Bool) (turn : Turn) (a b c : WireCounts) → at_read ≡ end_reported
    → GoesOn a b → FitsCounts at_read false turn b c → FitsCounts end_reported closed_now turn a c
told_fetched end_reported at_read closed_now turn a b c same still fits_buffers =
    told_later end_reported at_read closed_now turn a b c same still (told_open at_read closed_now turn b c fits_buffers)

-- and all that was read is fed
told_then : (end_reported closed_now : Bool) (turn : Turn) (a b c : WireCounts) → FitsCounts end_reported closed_now turn a b
    → GoesOn b c → FitsCounts end_reported closed_now turn a c
told_then end_reported closed_now More a b c fits_buffers still =
    ((still.1 ∙ fits_buffers.0.0, still.2 ∙ fits_buffers.0.1), λ not_ending served. still.0 ∙ fits_buffers.1 not_ending served)
told_then end_reported closed_now UntilReadable a b c fits_buffers still =
    (still.0 ∙ fits_buffers.0, still.2 ∙ fits_buffers.1, λ ends. still.1 ∙ fits_buffers.2 ends)
told_then end_reported closed_now UntilWritable a b c fits_buffers still = (still.1 ∙ fits_buffers.0, still.2 ∙ fits_buffers.1)
told_then end_reported closed_now Finished a b c fits_buffers still = (still.1 ∙ fits_buffers.0, still.2 ∙ fits_buffers.1)

pub told_all_fed : (end_reported at_read closed_now : Bool) (turn : Turn) (a b c d : WireCounts) → at_read ≡ end_reported
    → GoesOn a b → FitsCounts at_read false turn b c → GoesOn c d → FitsCounts end_reported closed_now turn a d
told_all_fed end_reported at_read closed_now turn a b c d same still fits_buffers fed =
    told_then end_reported closed_now turn a c d (told_fetched end_reported at_read closed_now turn a b c same still fits_buffers) fed

-- a peer that was open and is closed
closes_now : (closed : Option ℕ) → closed ≢ None → is_closed_now None closed ≡ true
closes_now None is = absurd (is refl)
closes_now (Some last) is = refl

-- and not all that was read is fed
pub told_cut_short : (end_reported : Bool) (before closed : Option ℕ) (turn : Turn) (a b c d : WireCounts) → before ≡ None
    → GoesOn a b → IsThrough b c → IsCutShort closed turn c d
    → FitsCounts end_reported (is_closed_now before closed) turn a d
told_cut_short end_reported before closed More a b c d was_open still read cut = (
  (cut.1 ∙ read.0 ∙ still.1, cut.2 ∙ read.1 ∙ still.2),
  λ _ not_now. absurd (true≢false
      (sym (closes_now closed cut.0) ∙ (ap (λ o. is_closed_now o closed) (sym was_open) ∙ not_now))),
)
told_cut_short end_reported before closed UntilReadable a b c d was_open still read cut = absurd cut
told_cut_short end_reported before closed UntilWritable a b c d was_open still read cut =
    (cut.0 ∙ ap one_more (read.0 ∙ still.1), cut.1 ∙ read.1 ∙ still.2)
told_cut_short end_reported before closed Finished a b c d was_open still read cut =
    (cut.0 ∙ read.0 ∙ still.1, cut.1 ∙ ap one_more (read.1 ∙ still.2))
