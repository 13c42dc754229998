-- A tree without links, over a store that means each path as it is written.
use Rattle.std.specs.Prelude.{◌≡◌, false, List, Result}
use Rattle.dav_core.specs.declared.error.FsError.{FsError}
use Rattle.dav_core.specs.declared.member.Member.{Member}
use Rattle.dav_core.specs.DavPath.{WebPath}
use Rattle.dav_core.specs.Path.{Names}
use Rattle.dav_core.specs.Tree.{is_linked, look}
use Rattle.dav_core.specs.World.{World}
use Rattle.dav_store.specs.Standing.{Standing}
use Rattle.dav_model.specs.Finding.{listed_in}
use Rattle.dav_local.specs.Standing.{found}

-- No link stands on the way to a place.
abbrev pub HasNoLink : World → Type 0
HasNoLink w = (names : Names) → is_linked w.tree names ≡ false

-- what a look at a path finds: a final slash is for directories alone
abbrev pub looked : World → WebPath → Result Standing FsError
looked w path = found w path.slash (look w.tree path.names)

-- the members of the directory at a path
abbrev pub listed : World → WebPath → Result (List Member) FsError
listed w path = listed_in w path.names
