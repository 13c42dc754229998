-- Local stores that find paths in simple ways.
use Rattle.std.specs.Prelude.{false, None, Result, Err, if◌then◌else◌}
use Rattle.dav_core.specs.declared.error.FsError.{FsError}
use Rattle.dav_core.specs.declared.error.FsError.TheVariants.{Forbidden}
use Rattle.dav_core.specs.DavPath.{WebPath}
use Rattle.dav_core.specs.Tree.{look}
use Rattle.dav_core.specs.World.{World}
use Rattle.dav_store.specs.Standing.{Standing}
use Rattle.dav_local.specs.declared.ways.Ways.{Ways}
use Rattle.dav_local.specs.Standing.{found}

-- The disk's root is served, and each path is meant as it is written.
abbrev pub plain_ways : Ways
plain_ways = record { alone = None; folds = false; macos = false }

-- what is opened for reading at a path that is meant as it is written: nothing where a slash ends it
abbrev pub opened : World → WebPath → Result Standing FsError
opened w path = if path.slash then Err Forbidden else found w false (look w.tree path.names)
