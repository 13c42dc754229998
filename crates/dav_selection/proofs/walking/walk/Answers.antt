use Rattle.std.proofs.Common.{[], refl, sym, inl, ◌∙◌, arith}
use Rattle.dav_store.proofs.Staying.{reads_same, reads_then}
use Rattle.dav_selection.specs.Visits.{sought}
use Rattle.dav_selection.proofs.Queries.{walk_full, walk_more, walk_over, walk_refused}
use Rattle.dav_selection.proofs.Walks.{nothing_asked}
use Rattle.dav_selection.proofs.walking.walk.Goals as goal

pub loop-member-init : goal.loop-member-init
loop-member-init g c = record {
  walk = ([], nothing_asked g.S.GuardedFileSystem.view c.args.credentials.now (sought c.args.dir.now c.args.limit c.args.wanted) c.args.members.now c.args.fs.now, refl, c.new-records.ensures.items);
  stays = reads_same _ _;
}

pub loop-member-preserved : goal.loop-member-preserved
loop-member-preserved g c =
    let before = c.loop-member.invariant in
    let wants = rw c.as_slice.ensures.value at (c.if-not-wants_more.ensures.0 refl) in
    record {
      walk = walk_more g.S.GuardedFileSystem.view c.args.credentials.now (sought c.args.dir.now c.args.limit c.args.wanted) c.args.members.now c.args.fs.now
          c.loop-member.member-index c.loop-member.fs c.visit-visited.new.fs c.in-Ok.path c.member-item.result c.loop-member.records.items c.visit-visited.new.records.items
          c.visit-visited.result c.in_default-passed.field-0 before.walk c.loop-member-test.true c.in-Ok.ensures c.member-item.is wants c.visit-visited.ensures.table
          (sym c.passed.ensures ∙ c.in_default-passed.is);
      stays = reads_then _ _ _ _ before.stays c.visit-visited.ensures.stays;
    }

pub returns-then-not-wants_more-clause-table : goal.returns-then-not-wants_more-clause-table
returns-then-not-wants_more-clause-table g c = inl (walk_full g.S.GuardedFileSystem.view c.args.credentials.now (sought c.args.dir.now c.args.limit c.args.wanted) c.args.members.now c.args.fs.now
    c.loop-member.member-index c.loop-member.fs c.loop-member.records.items c.new.result c.as_slice.result.now c.loop-member.invariant.walk c.as_slice.ensures.value c.new.ensures
    c.if-not-wants_more.ensures.1)

pub returns-in-Err-clause-table : goal.returns-in-Err-clause-table
returns-in-Err-clause-table g c =
    let wants = rw c.as_slice.ensures.value at (c.if-not-wants_more.ensures.0 refl) in
    walk_refused g.S.GuardedFileSystem.view c.args.credentials.now (sought c.args.dir.now c.args.limit c.args.wanted) c.args.members.now c.args.fs.now
    c.loop-member.member-index c.loop-member.fs c.visit-visited.new.fs c.in-Ok.path c.member-item.result c.loop-member.records.items c.visit-visited.new.records.items
    c.visit-visited.result c.in-Err.error c.loop-member.invariant.walk c.loop-member-test.true c.in-Ok.ensures c.member-item.is wants c.visit-visited.ensures.table
    (sym c.passed.ensures ∙ c.in-Err.is)

pub returns-in-Err-clause-stays : goal.returns-in-Err-clause-stays
returns-in-Err-clause-stays g c = reads_then _ _ _ _ c.loop-member.invariant.stays c.visit-visited.ensures.stays

pub returns-clause-table : goal.returns-clause-table
returns-clause-table g c = inl (walk_over g.S.GuardedFileSystem.view c.args.credentials.now (sought c.args.dir.now c.args.limit c.args.wanted) c.args.members.now c.args.fs.now
    c.loop-member.member-index c.loop-member.fs c.loop-member.records.items c.new-2.result c.loop-member.invariant.walk c.new-2.ensures
    (omega (arith, c.loop-member.auto.member-index-end, c.loop-member-test.false)))
