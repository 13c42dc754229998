-- What a store answers where its disk refuses.
use Rattle.std.specs.Prelude.{◌≡◌, ◌⊎◌}
use Rattle.dav_core.specs.declared.error.FsError.{FsError}
use Rattle.dav_core.specs.declared.error.FsError.TheVariants as fs
use Rattle.dav_core.specs.declared.handle.DiskError.{DiskError}
use Rattle.dav_core.specs.declared.handle.DiskError.TheVariants.{NotFound, Exists, NotDir, IsDir, NotEmpty, Failed, NoMemory}

abbrev pub fs_error_of : DiskError → FsError
fs_error_of NotFound = fs.NotFound
fs_error_of NotDir = fs.Forbidden
fs_error_of IsDir = fs.Forbidden
fs_error_of Exists = fs.Exists
fs_error_of NotEmpty = fs.Exists
fs_error_of Failed = fs.GeneralFailure
fs_error_of NoMemory = fs.NoMemory

-- what a store refuses a look or an opening with, where nothing failed
abbrev pub CouldRefuse : FsError → Type 0
CouldRefuse e = (e ≡ fs.NotFound) ⊎ (e ≡ fs.Forbidden)
