use Rattle.std.proofs.Common.{◌≡◌, drop}
use Rattle.dav_fetch.specs.Naming.{AreNamed}
use Rattle.dav_fetch.specs.Walk.{dirs_on, each_once, with_each}
use Rattle.dav_fetch.proofs.walking.new_dirs.Given as goal

abbrev pub invariant-loop-one : goal.invariant-loop-one
invariant-loop-one l = (with_each l.dirs.items (dirs_on l.dir (drop l.one-index l.found)) ≡ each_once (dirs_on l.dir l.found))
    × AreNamed l.dir l.dirs.items l.names
