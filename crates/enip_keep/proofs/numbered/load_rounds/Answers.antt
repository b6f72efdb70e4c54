use Rattle.std.proofs.Common.{rules, ◌≡◌, ap, ◌∙◌, arith}
use Rattle.std.proofs.lemmas.Fn.{filter_same}
use Rattle.enip_keep.specs.Kept.{pairs_of}
use Rattle.enip_keep.specs.Rounds.{without_round, round_in, is_whole}
use Rattle.enip_keep.proofs.RoundLemmas.{pairs-without}
use Rattle.enip_keep.proofs.numbered.load_rounds.Goals as goal

pub returns-clause-loaded : goal.returns-clause-loaded
returns-clause-loaded g c sure =
    let pairs = c.in_ok-entries.ensures.pairs sure in
    let round : c.round_in-round.result ≡ round_in (g.K.Keeper.kept c.args.keeper.now)
    = c.round_in-round.ensures ∙ ap (λ es. round_in (pairs_of es)) c.deref.ensures.value ∙ ap round_in pairs in
    record {
      entries =
          ap pairs_of (filter_same _ _ _ (λ x b f' k. search rules) _ _ c.retain.ensures.filtered)
          ∙ pairs-without c.in_ok-entries.entries.items ∙ ap without_round pairs;
      round = omega (arith, round);
      whole =
          c.is_whole-is_whole.ensures ∙ ap (λ es. is_whole (pairs_of es)) c.deref-2.ensures.value ∙ ap is_whole pairs;
    }
