use Rattle.std.proofs.Common.{◌≤◌, ◌+◌, ◌-◌, ◌/◌, length, slice_index, refl, subst, sym, ◌∙◌, arith}
use Rattle.std.proofs.lemmas.List.{length-map}
use Rattle.std.proofs.lemmas.Cmp.{ranked}
use Rattle.cip_manager.specs.Index.{ids, binary_digits}
use Rattle.cip_manager.proofs.SearchLemmas.{IsSearching, IsSearching-digit, IsSearching-less, IsSearching-greater, found-at, found-nowhere, digits-seven}
use Rattle.cip_manager.proofs.search.position_of.Goals as goal

pub compare-requires-clause-counts : goal.compare-requires-clause-counts
compare-requires-clause-counts c =
    let entries = c.args.index.now in
    let one = IsSearching-digit (ids entries) c.args.id c.loop-low.low c.loop-low.high c.args.steps.now.count c.loop-low.steps.count c.loop-low.invariant c.loop-low-test.true in
    let few = digits-seven (length (ids entries)) (omega (arith, length-map entries (λ e. e.id), c.len-high.ensures.count, c.len-high.ensures.most)) in
    omega (arith, one, few, c.requires)

-- the number at the middle is below
pub loop-low-preserved-in-Less : goal.loop-low-preserved-in-Less
loop-low-preserved-in-Less c =
    let middle = c.loop-low.low + (c.loop-low.high - c.loop-low.low) / 2 in
    let less = ranked (slice_index (ids c.args.index.now) middle) c.args.id _ (sym c.in-Less.is ∙ c.compare.ensures.order) in
    subst (λ count. IsSearching (ids c.args.index.now) c.args.id (middle + 1) c.loop-low.high c.args.steps.now.count count) (sym c.compare.ensures.counted)
    (IsSearching-less (ids c.args.index.now) c.args.id c.loop-low.low c.loop-low.high c.args.steps.now.count c.loop-low.steps.count middle c.len-high.ensures.rising c.loop-low.invariant c.loop-low-test.true refl less)

-- it is above
pub loop-low-preserved : goal.loop-low-preserved
loop-low-preserved c =
    let middle = c.loop-low.low + (c.loop-low.high - c.loop-low.low) / 2 in
    let greater = ranked (slice_index (ids c.args.index.now) middle) c.args.id _ (sym c.in-Greater.is ∙ c.compare.ensures.order) in
    subst (λ count. IsSearching (ids c.args.index.now) c.args.id c.loop-low.low middle c.args.steps.now.count count) (sym c.compare.ensures.counted)
    (IsSearching-greater (ids c.args.index.now) c.args.id c.loop-low.low c.loop-low.high c.args.steps.now.count c.loop-low.steps.count middle c.len-high.ensures.rising c.loop-low.invariant c.loop-low-test.true refl greater)

-- it is the one
pub returns-in-Equal-clause-found : goal.returns-in-Equal-clause-found
returns-in-Equal-clause-found c =
    let middle = c.loop-low.low + (c.loop-low.high - c.loop-low.low) / 2 in
    let same = ranked (slice_index (ids c.args.index.now) middle) c.args.id _ (sym c.in-Equal.is ∙ c.compare.ensures.order) in
    sym (found-at (ids c.args.index.now) c.args.id middle c.len-high.ensures.rising (omega (arith, c.loop-low-test.true, c.loop-low.invariant.inside)) same)

pub returns-in-Equal-clause-bound : goal.returns-in-Equal-clause-bound
returns-in-Equal-clause-bound c =
    let entries = c.args.index.now in
    let one = IsSearching-digit (ids entries) c.args.id c.loop-low.low c.loop-low.high c.args.steps.now.count c.loop-low.steps.count c.loop-low.invariant c.loop-low-test.true in
    let counted = subst (λ n. c.loop-low.steps.count + 1 ≤ c.args.steps.now.count + binary_digits n) (length-map entries (λ e. e.id)) one in
    omega (arith, counted, c.compare.ensures.counted)

pub returns-in-Equal-clause-seven : goal.returns-in-Equal-clause-seven
returns-in-Equal-clause-seven c =
    omega (arith, returns-in-Equal-clause-bound c, digits-seven (length c.args.index.now) (omega (arith, c.len-high.ensures.count, c.len-high.ensures.most)))

-- nothing is left
pub returns-clause-found : goal.returns-clause-found
returns-clause-found c =
    sym (found-nowhere (ids c.args.index.now) c.args.id c.loop-low.low c.loop-low.high c.args.steps.now.count c.loop-low.steps.count c.loop-low.invariant c.loop-low-test.false)

pub returns-clause-bound : goal.returns-clause-bound
returns-clause-bound c =
    let entries = c.args.index.now in
    let spent = subst (λ n. c.loop-low.steps.count + binary_digits (c.loop-low.high - c.loop-low.low) ≤ c.args.steps.now.count + binary_digits n) (length-map entries (λ e. e.id)) c.loop-low.invariant.spent in
    omega (arith, spent)

pub returns-clause-seven : goal.returns-clause-seven
returns-clause-seven c =
    omega (arith, returns-clause-bound c, digits-seven (length c.args.index.now) (omega (arith, c.len-high.ensures.count, c.len-high.ensures.most)))
