use Rattle.std.proofs.Common.{◌≡◌, ◌++◌, take}
use Rattle.dav_disk.proofs.paths.moved_path.Given as goal

abbrev pub invariant-loop-name : goal.invariant-loop-name
invariant-loop-name l = l.names.items ≡ take l.name-index l.to

abbrev pub invariant-loop-name-2 : goal.invariant-loop-name-2
invariant-loop-name-2 l = l.names.items ≡ l.to ++ take l.name-index l.rest
