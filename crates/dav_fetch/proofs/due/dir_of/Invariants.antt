use Rattle.std.proofs.Common.{◌≡◌, [], take}
use Rattle.dav_core.specs.DavPath.{IsPath}
use Rattle.dav_fetch.proofs.due.dir_of.Given as goal

abbrev pub invariant-loop-name : goal.invariant-loop-name
invariant-loop-name l = (l.path.prefix ≡ []) × (l.path.names ≡ take l.name-index l.name-items) × IsPath l.path
