use Rattle.std.proofs.Common.{◌≡◌, List, length}
use Rattle.dav_store.specs.View.{Stays}
use Rattle.dav_selection.specs.Answered.{Answer, records}
use Rattle.dav_selection.specs.Reports.{Walks}
use Rattle.dav_selection.specs.Taken.{taken}
use Rattle.dav_selection.specs.Visits.{sought}
use Rattle.dav_selection.proofs.walking.walk.Given as goal

abbrev pub invariant-loop-member : goal.invariant-loop-member
invariant-loop-member g l = record {
  walk : (answers : List Answer) × Walks g.S.GuardedFileSystem.view l.credentials (sought l.dir l.limit l.wanted) l.members l.initial.fs answers l.fs
      × (length answers ≡ l.member-index) × (l.records.items ≡ records (taken l.wanted) answers);
  stays : Stays g.S.GuardedFileSystem.view l.initial.fs l.fs;
}
