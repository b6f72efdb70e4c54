-- The effect of an item on a table.
use Rattle.std.proofs.Common.{◌≡◌, ℕ, ◌<◌, List, Option, Some, None, subst, sym}
use Rattle.std.specs.Prelude.{IfNone}
use Rattle.std.specs.Option.{option_map}
use Rattle.cip_manager.specs.declared.connection.Connection.{Connection}
use Rattle.cip_manager.specs.declared.manager.KeptAnswer.{KeptAnswer}
use Rattle.cip_manager.specs.Connection.{is_named}
use Rattle.cip_manager.specs.Items.{view, item_turn}
use Rattle.cip_manager.specs.Table.{AreBelow}
use Rattle.cip_manager.proofs.CallLemmas.{after_item_turn}
use Rattle.cip_manager.proofs.ItemLemmas.{unanswered_item}
use Rattle.cip_manager.proofs.ListLemmas.{All-with_first}

module _ {M : Type 0} (after : M → ℕ → List ℕ → M) (answer : M → ℕ → List ℕ → List ℕ) where
  -- the IDs do not change
  pub AreBelow-received : (n : ℕ) (cs : List Connection) (now session id : ℕ) (bytes : List ℕ) (router : M)
      → AreBelow n cs → AreBelow n (item_turn after answer cs now session id bytes router).connections
  AreBelow-received n cs now session id bytes router below =
      after_item_turn after answer (AreBelow n) cs now session id bytes router below
      (λ old new found same. All-with_first (λ c. c.o_to_t_id < n) (is_named session id) old new cs found
      (λ h. subst (λ i. i < n) (sym same.id) h) below)

  -- if no answer is lent, what follows from nothing being changed
  pub silent : (P : Type 0) (cs : List Connection) (now session id : ℕ) (bytes : List ℕ) (router : M) (lent : Option KeptAnswer)
      → option_map view lent ≡ (item_turn after answer cs now session id bytes router).reply
      → ((item_turn after answer cs now session id bytes router).connections ≡ cs → (item_turn after answer cs now session id bytes router).router ≡ router → P)
      → IfNone lent P
  silent P cs now session id bytes router None told then =
      let unchanged = unanswered_item after answer cs now session id bytes router (sym told) in
      then unchanged.0 unchanged.1
  silent P cs now session id bytes router (Some kept) told then = tt
