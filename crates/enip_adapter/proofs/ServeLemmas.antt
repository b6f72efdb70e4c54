-- Feeding a piece again and again.
use Rattle.std.proofs.Common.{◌≡◌, ℕ, suc, ◌+◌, ◌<◌, ◌≤◌, List, [], length, drop, Bool, false, Option, refl, sym, ap, subst, ◌∙◌, arith, length-drop}
use Rattle.std.proofs.lemmas.List.{drop-drop}
use Rattle.std.proofs.KnownBytes.{Appends-nil, Appends-trans}
use Rattle.std.specs.Io.KnownBytes.{Appends}
use Rattle.enip_adapter.specs.Calls.{AdapterState, call_meaning, call_answer, after_call}
use Rattle.enip_adapter.specs.Calls.Call.{Feeds}
use Rattle.enip_adapter.specs.Serving.{FeedState, feeds, fed_more, output_bytes, GoesOn, AllGoOn}

-- This many bytes of a piece were fed, each feed went on, and its answers were written.
pub record HasFed (now peer : ℕ) (a : AdapterState) (piece : List ℕ) (fed : ℕ) (new : AdapterState) (before after : Option (List ℕ)) : Type 0 where
  pub times : ℕ
  pub each : AllGoOn now peer a piece times
  pub rest : (feeds now peer a piece times).rest ≡ drop fed piece
  pub adapter : new ≡ (feeds now peer a piece times).adapter
  pub written : Appends before after (feeds now peer a piece times).sent

-- before the first feed
pub none_fed : (now peer : ℕ) (a : AdapterState) (piece : List ℕ) (before : Option (List ℕ)) → HasFed now peer a piece 0 a before before
none_fed now peer a piece before =
    record { times = 0; each = tt; rest = refl; adapter = refl; written = Appends-nil before }

-- the state of feeding, by its rest and its adapter
at_feeding : (now peer : ℕ) (a : AdapterState) (piece rest : List ℕ) (k : ℕ) (seen : AdapterState)
    → (feeds now peer a piece k).rest ≡ rest → seen ≡ (feeds now peer a piece k).adapter
    → feeds now peer a piece k ≡ record { adapter = seen; rest = rest; sent = (feeds now peer a piece k).sent }
at_feeding now peer a piece rest k seen is at =
    ap (λ r. let f : FeedState = record { adapter = (feeds now peer a piece k).adapter; rest = r; sent = (feeds now peer a piece k).sent } in f) is
    ∙ ap (λ s. let f : FeedState = record { adapter = s; rest = rest; sent = (feeds now peer a piece k).sent } in f) (sym at)

-- The bytes that one more feed answers, by the rest and the adapter that it starts from.
abbrev pub more_answer : ℕ → ℕ → AdapterState → List ℕ → List ℕ
more_answer now peer seen rest = output_bytes (call_answer seen (Feeds now peer rest)).output

-- it goes on if that call does not close
goes_on : (now peer : ℕ) (a seen : AdapterState) (piece rest : List ℕ) (k : ℕ)
    → feeds now peer a piece k ≡ record { adapter = seen; rest = rest; sent = (feeds now peer a piece k).sent }
    → 0 < length rest → (call_answer seen (Feeds now peer rest)).close ≡ false → GoesOn now peer (feeds now peer a piece k)
goes_on now peer a seen piece rest k is some going =
    subst (GoesOn now peer) (sym is) (record { some = some; open_then = going })

-- one more feed that goes on
pub more_fed : (now peer : ℕ) (a seen new : AdapterState) (piece rest : List ℕ) (fed taken : ℕ) (close : Bool) (before between after : Option (List ℕ))
    → HasFed now peer a piece fed seen before between → fed < length piece → rest ≡ drop fed piece
    → new ≡ after_call seen (Feeds now peer rest)
    → taken ≡ (call_meaning seen (Feeds now peer rest)).taken
    → close ≡ (call_answer seen (Feeds now peer rest)).close → close ≡ false
    → Appends between after (more_answer now peer seen rest)
    → HasFed now peer a piece (fed + taken) new before after
more_fed now peer a seen new piece rest fed taken close before between after h below same state number closes going written =
    let is : feeds now peer a piece h.times ≡ record { adapter = seen; rest = rest; sent = (feeds now peer a piece h.times).sent }
    = at_feeding now peer a piece rest h.times seen (h.rest ∙ sym same) h.adapter in
    let some : 0 < length rest = omega (arith, ap length same, length-drop fed piece, below) in
    record {
      times = suc h.times;
      each = (h.each, goes_on now peer a seen piece rest h.times is some (sym closes ∙ going));
      rest = ap (λ f. (fed_more now peer f).rest) is ∙ ap (λ n. drop n rest) (sym number) ∙ ap (drop taken) same ∙ drop-drop taken fed piece;
      adapter = state ∙ ap (λ f. (fed_more now peer f).adapter) (sym is);
      written = subst (Appends before after) (ap (λ f. (fed_more now peer f).sent) (sym is))
          (Appends-trans before between after (feeds now peer a piece h.times).sent (more_answer now peer seen rest) h.written written);
    }
