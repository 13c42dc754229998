use Rattle.std.proofs.Common.{◌≡◌, ◌++◌, drop}
use Rattle.dav_upload.specs.Sweeping.{left_before}
use Rattle.dav_upload.proofs.leftovers.paths_before.Given as goal

abbrev pub invariant-members : goal.invariant-members
invariant-members l = record {
  rest : l.paths.items ++ left_before l.limit l.dir (drop l.member-index l.members) ≡ left_before l.limit l.dir l.members;
}
