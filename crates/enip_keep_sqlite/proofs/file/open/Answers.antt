use Rattle.std.proofs.Common.{rules, ◌≡◌, inl, inr, false, cond, ℕ, Bool, List, is_err, arith, ap₂}
use Rattle.std.proofs.lemmas.Option.{IfSome_then}
use Rattle.sqlite_disk.specs.Events.{Event, replay}
use Rattle.sqlite_wal.specs.Recovery.{Image}
use Rattle.sqlite_wal.specs.Files.{image_at}
use Rattle.sqlite_trees.specs.View.{IsClean}
use Rattle.sqlite_store.specs.FileStore.{view}
use Rattle.sqlite.specs.State.{HasCleanDisk, IsUnchanged}
use Rattle.sqlite.specs.Files.{file_state}
use Rattle.enip_keep_sqlite.proofs.FoundLemmas.{committed_through, found_from, numbered_through, trees_from, undone_trees, undone_same, went_well, at_error}
use Rattle.enip_keep_sqlite.proofs.file.open.Goals as goal

abbrev image : List ℕ → List ℕ → Image
image log db = record { log = log; db = db }

abbrev seen : List ℕ → List ℕ → Bool → List Event → List ℕ
seen log db is_log history = (replay (cond is_log log db) history).seen

pub over-requires : goal.over-requires
over-requires g c = record { same = λ clean is_open. undone_same (view c.prepare.new.self.store) (view c.into_store.result) clean c.into_store.ensures.undone is_open }

pub returns-in-Err-clause-cause : goal.returns-in-Err-clause-cause
returns-in-Err-clause-cause g c =
    let refused = c.in-Err.ensures in
    inl (
      c.in-Err.error,
      inl (record {
        left = c.in-Err.field-0-1;
        named = refused.named;
        unopened = refused.unopened;
        cause = IfSome_then c.in-Err.field-0-1 refused.cause (λ left it.
            let log = it.1 in
            let db = it.2 in
            let same = ap₂ image (ap₂ (seen g.S.Start.log g.S.Start.db) log.0 log.1) (ap₂ (seen g.S.Start.log g.S.Start.db) db.0 db.1) in
            (it.0, same, it.3));
      }),
      c.fault_of.ensures,
    )

pub returns-in-Some-clause-cause : goal.returns-in-Some-clause-cause
returns-in-Some-clause-cause g c =
    inl (
      c.in-Some.error,
      inr (record {
        was = c.in-Ok.connection;
        now = c.prepare.new.self;
        found = c.in-Ok.ensures.found;
        survives = c.prepare.ensures.survives;
        cause = λ clean params. at_error c.prepare.result _ c.in-Some.error c.in-Some.ensures.value (c.prepare.ensures.err clean) params;
      }),
      c.fault_of-in-Some.ensures,
    )

pub returns-in-Err-over-clause-cause : goal.returns-in-Err-over-clause-cause
returns-in-Err-over-clause-cause g c =
    let was = c.in-Ok.connection in
    let now = c.prepare.new.self in
    let mid = c.into_store.result in
    let none : is_err c.prepare.result ≡ false = search rules in
    inr (
      c.in-Err-over.error,
      record {
        store = c.into_store.result;
        found = λ clean is_open db holds.
            let now_clean : HasCleanDisk (file_state now) = omega (arith, clean, c.into_store.ensures.quiet.clean) in
            let was_clean : HasCleanDisk (file_state was) = omega (arith, now_clean, c.prepare.ensures.survives.clean) in
            let unchanged : IsUnchanged (file_state was) (file_state now) = went_well c.prepare.result _ none (c.prepare.ensures.ok now_clean) in
            trees_from (image_at g.S.Start) (file_state was) (file_state now) (view mid).trees (c.in-Ok.ensures.found was_clean) unchanged (undone_trees (view now.store) (view mid) c.into_store.ensures.undone is_open) db holds;
        refused = c.in-Err-over.ensures.cause;
      },
      c.fault_of_rows.ensures,
    )

pub returns-in-Ok-over-clause-found : goal.returns-in-Ok-over-clause-found
returns-in-Ok-over-clause-found g c clean =
    let was = c.in-Ok.connection in
    let now = c.prepare.new.self in
    let mid = c.into_store.result in
    let last = c.in-Ok-over.rows.store in
    let store_clean : IsClean (view mid) = omega (arith, clean, c.in-Ok-over.ensures.calm.clean) in
    let now_clean : HasCleanDisk (file_state now) = omega (arith, store_clean, c.into_store.ensures.quiet.clean) in
    let was_clean : HasCleanDisk (file_state was) = omega (arith, now_clean, c.prepare.ensures.survives.clean) in
    let none : is_err c.prepare.result ≡ false = search rules in
    let unchanged : IsUnchanged (file_state was) (file_state now) = went_well c.prepare.result _ none (c.prepare.ensures.ok now_clean) in
    let same = committed_through (view now.store) (view mid) (view last) store_clean c.into_store.ensures.undone (c.in-Ok-over.ensures.looks clean) (c.in-Ok-over.ensures.up clean) in
    found_from (image_at g.S.Start) (file_state was) (file_state now) (view last).committed (c.in-Ok.ensures.found was_clean) unchanged same

pub returns-in-Ok-over-clause-databases : goal.returns-in-Ok-over-clause-databases
returns-in-Ok-over-clause-databases g c clean =
    let mid = c.into_store.result in
    let last = c.in-Ok-over.rows.store in
    let store_clean : IsClean (view mid) = omega (arith, clean, c.in-Ok-over.ensures.calm.clean) in (
      numbered_through (view mid) (view last) (c.in-Ok-over.ensures.looks clean) (c.into_store.ensures.numbered store_clean),
      λ db may. c.into_store.ensures.sound store_clean db (c.in-Ok-over.ensures.calm.outcomes db may),
    )
