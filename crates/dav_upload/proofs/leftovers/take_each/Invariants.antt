use Rattle.std.proofs.Common.{◌≤◌, drop}
use Rattle.dav_store.specs.View.{StaysOpen}
use Rattle.dav_upload.proofs.PathsTaken.{FarOn}
use Rattle.dav_upload.proofs.leftovers.take_each.Given as goal

abbrev pub invariant-paths : goal.invariant-paths
invariant-paths g l = record {
  far : FarOn g.S.GuardedFileSystem.view l.credentials l.paths l.initial.fs (drop l.path-index l.paths) l.count l.fs;
  few : l.count ≤ l.path-index;
  stays : StaysOpen g.S.GuardedFileSystem.view l.initial.fs l.fs;
}
