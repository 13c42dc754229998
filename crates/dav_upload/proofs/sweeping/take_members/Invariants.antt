use Rattle.std.proofs.Common.{◌≤◌, drop}
use Rattle.dav_store.specs.View.{StaysOpen}
use Rattle.dav_walks.specs.Walking.{members_at}
use Rattle.dav_upload.specs.Uploading.{hidden_files}
use Rattle.dav_upload.proofs.MembersTaken.{Far}
use Rattle.dav_upload.proofs.sweeping.take_members.Given as goal

abbrev pub invariant-members : goal.invariant-members
invariant-members g l = record {
  far : Far g.S.GuardedFileSystem.view g.S.GuardedFileSystem.listings l.credentials l.dir (hidden_files l.dir (members_at l.dir l.members)) l.initial.fs
      (drop l.member-index l.members) l.count l.fs;
  few : l.count ≤ l.member-index;
  stays : StaysOpen g.S.GuardedFileSystem.view l.initial.fs l.fs;
}
