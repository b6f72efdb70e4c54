-- A feed that asks the owner is one feed, with the owner's reply prepared if something is asked.
use Rattle.std.proofs.Common.{◌≡◌, ℕ, List, [], ◌∷◌, Bool, Option, None, refl, ap, subst, ◌∙◌}
use Rattle.cip_objects.specs.OwnRequests.{Asked}
use Rattle.cip_owner.specs.Replies.{Reply}
use Rattle.enip_adapter.specs.Asks.{asks_of_call, prepared_feed, with_reply, calls_asking, asked_adapter, owner_after}
use Rattle.enip_adapter.specs.Calls.{AdapterState, call_meaning, call_answer, after_call}
use Rattle.enip_adapter.specs.Calls.Call.{Feeds}
use Rattle.enip_adapter.specs.Runs.{after_calls}
use Rattle.enip_adapter.specs.Turn.{Output}
use Rattle.enip_adapter.proofs.AskLemmas.{ticked, ticked_state, ticked_answer}

module _ {O : Type 0} (answer : O → Asked → Option Reply) (after : O → Asked → O) where
  -- What a feed leaves and says if these are asked.
  pub record FedBy (a : AdapterState) (owner : O) (now peer : ℕ) (piece : List ℕ) (last : AdapterState) (left : O) (took : ℕ)
      (said : Output) (closed : Bool) (asked : List Asked) : Type 0 where
    pub state : last ≡ after_calls a (calls_asking answer after owner now peer piece asked)
    pub own : left ≡ owner_after answer after owner asked
    pub taken : took ≡ (call_meaning (asked_adapter answer after a owner asked) (Feeds now peer piece)).taken
    pub output : said ≡ (call_answer (asked_adapter answer after a owner asked) (Feeds now peer piece)).output
    pub close : closed ≡ (call_answer (asked_adapter answer after a owner asked) (Feeds now peer piece)).close

  abbrev pub IsFedAsking : AdapterState → O → ℕ → ℕ → List ℕ → AdapterState → O → ℕ → Output → Bool → Type 0
  IsFedAsking a owner now peer piece last left taken output close =
      FedBy a owner now peer piece last left taken output close (asks_of_call a (Feeds now peer piece))

  pub nobody_asked : (a mid last : AdapterState) (owner : O) (now peer : ℕ) (piece : List ℕ) (taken : ℕ) (output : Output)
      (close : Bool) → [] ≡ asks_of_call a (Feeds now peer piece) → mid ≡ ticked a now
      → last ≡ after_call mid (Feeds now peer piece) → taken ≡ (call_meaning mid (Feeds now peer piece)).taken
      → output ≡ (call_answer mid (Feeds now peer piece)).output
      → close ≡ (call_answer mid (Feeds now peer piece)).close
      → IsFedAsking a owner now peer piece last owner taken output close
  nobody_asked a mid last owner now peer piece taken output close nothing at state takes outputs closes =
      subst (FedBy a owner now peer piece last owner taken output close) nothing (record {
        state = state ∙ (ap (λ x. after_call x (Feeds now peer piece)) at ∙ ticked_state a now peer piece);
        own = refl;
        taken = takes ∙ ap (λ x. (call_meaning x (Feeds now peer piece)).taken) at;
        output = outputs ∙ (ap (λ x. (call_answer x (Feeds now peer piece)).output) at
            ∙ ap (λ x. x.output) (ticked_answer a now peer piece));
        close = closes ∙ (ap (λ x. (call_answer x (Feeds now peer piece)).close) at
            ∙ ap (λ x. x.close) (ticked_answer a now peer piece));
      })

  pub owner_asked : (a mid last : AdapterState) (owner left : O) (now peer : ℕ) (piece : List ℕ) (taken : ℕ) (output : Output)
      (close : Bool) (asked lent : Asked) (reply : Option Reply) → asked ∷ [] ≡ asks_of_call a (Feeds now peer piece)
      → mid ≡ ticked a now → lent ≡ asked → reply ≡ answer owner lent → left ≡ after owner lent
      → last ≡ after_calls mid (prepared_feed now peer piece reply)
      → taken ≡ (call_meaning (with_reply mid reply) (Feeds now peer piece)).taken
      → output ≡ (call_answer (with_reply mid reply) (Feeds now peer piece)).output
      → close ≡ (call_answer (with_reply mid reply) (Feeds now peer piece)).close
      → IsFedAsking a owner now peer piece last left taken output close
  owner_asked a mid last owner left now peer piece taken output close asked lent reply something at same says leaves state
      takes outputs closes =
      let given : reply ≡ answer owner asked = says ∙ ap (answer owner) same in
      let fed_at : with_reply mid reply ≡ ticked (with_reply a (answer owner asked)) now
      = ap (λ x. with_reply x reply) at ∙ ap (λ r. with_reply (ticked a now) r) given in
      subst (FedBy a owner now peer piece last left taken output close) something (record {
        state = state ∙ (ap (λ x. with_reply (after_call x (Feeds now peer piece)) None) fed_at
            ∙ ap (λ x. with_reply x None) (ticked_state (with_reply a (answer owner asked)) now peer piece));
        own = leaves ∙ ap (after owner) same;
        taken = takes ∙ ap (λ x. (call_meaning x (Feeds now peer piece)).taken) fed_at;
        output = outputs ∙ (ap (λ x. (call_answer x (Feeds now peer piece)).output) fed_at
            ∙ ap (λ x. x.output) (ticked_answer (with_reply a (answer owner asked)) now peer piece));
        close = closes ∙ (ap (λ x. (call_answer x (Feeds now peer piece)).close) fed_at
            ∙ ap (λ x. x.close) (ticked_answer (with_reply a (answer owner asked)) now peer piece));
      })
