-- Lines of tables: the error of one that fits. The directory above a path.
use Rattle.std.specs.Prelude.{ℕ, Bool, true, false, Result, Ok, Err}
use Rattle.dav_core.specs.declared.dav_error.DavError.{DavError}
use Rattle.dav_core.specs.declared.dav_error.DavError.TheVariants.{Status}
use Rattle.dav_core.specs.DavPath.{WebPath}
use Rattle.dav_core.specs.Path.{parent_of}

abbrev pub Line : Type 0
Line = Result Unit DavError

abbrev pub fails_when : Bool → ℕ → Line
fails_when true status = Err (Status status)
fails_when false status = Ok tt

-- the directory above a path
abbrev pub above : WebPath → WebPath
above path = record path { names = parent_of path.names; slash = true }
