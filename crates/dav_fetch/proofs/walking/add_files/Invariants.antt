use Rattle.std.proofs.Common.{◌≡◌, ◌++◌, drop}
use Rattle.dav_fetch.specs.Walk.{files_on}
use Rattle.dav_fetch.proofs.walking.add_files.Given as goal

abbrev pub invariant-loop-one : goal.invariant-loop-one
invariant-loop-one l = l.files.items ++ files_on l.dir (drop l.one-index l.found) ≡ l.fn.files.items ++ files_on l.dir l.found
