use Rattle.std.proofs.Common.{◌≡◌, length, ◌<◌, ◌++◌, take, drop, arith}
use Rattle.enip_keep.specs.Kept.{pairs_of, set}
use Rattle.enip_keep.proofs.SetLemmas.{replaced}
use Rattle.enip_keep.proofs.entries.set.Goals as goal

pub returns-then-index-change : goal.returns-then-index-change
returns-then-index-change c =
    let items = c.args.entries.now.items in
    let key = c.args.change.now.key in
    let bytes = c.args.change.now.bytes.items in
    let index = c.index_of-index.result in
    let passed : set key bytes (pairs_of items)
    ≡ pairs_of (take index items) ++ set key bytes (pairs_of (drop index items))
    = rw c.deref.ensures.value at (c.index_of-index.ensures.found bytes) in
    let less : index < length items = omega (arith, c.if-index-len.true, c.len.ensures) in
    replaced key bytes items index c.index.result.now c.in_ok-copy.copy less c.index.ensures c.if-index-change.true
    c.in_ok-copy.ensures passed
