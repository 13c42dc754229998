-- What a local store's file answers, by what its disk answers.
use Rattle.std.specs.Prelude.{◌≡◌, ℕ, List, Bool, Option, Result, Ok, Err}
use Rattle.dav_core.specs.declared.error.FsError.{FsError}
use Rattle.dav_core.specs.declared.handle.DiskError.{DiskError}
use Rattle.dav_core.specs.declared.handle.Handle.{Handle}
use Rattle.dav_core.specs.declared.handle.Meta.{Meta}
use Rattle.dav_core.specs.Disk.{DiskState, FileMetas, Reads, Seeks}
use Rattle.dav_core.specs.Errors.{fs_error_of}
use Rattle.dav_core.specs.Info.{Info, info_of}
use Rattle.dav_store.specs.Standing.{Seen}
use Rattle.dav_store.specs.Void.{empty_info}
use Rattle.dav_local.specs.declared.file.LocalFsFile.{LocalFsFile}
use Rattle.dav_local.specs.declared.meta.LocalFsMetaData.{LocalFsMetaData}
use Rattle.dav_local.specs.declared.meta.LocalFsMetaData.TheVariants.{Found, Empty}
use Rattle.dav_local.specs.Standing.{seen_at, under_slash}

-- what metadata says: the disk's by its rule
abbrev pub local_info : LocalFsMetaData → Info
local_info (Found meta) = info_of meta
local_info Empty = empty_info

abbrev pub said_by : Result Meta DiskError → Result LocalFsMetaData FsError
said_by (Ok m) = Ok (Found m)
said_by (Err e) = Err (fs_error_of e)

-- what metadata is, where the path ends with a slash that is looked at, or doesn't
abbrev pub looked_as : Bool → Result Meta DiskError → Result Info FsError
looked_as slash (Ok m) = under_slash slash m.kind (info_of m)
looked_as slash (Err e) = Err (fs_error_of e)

-- what a call that changes what stands is answered
abbrev pub done_by : Result Unit DiskError → Result Unit FsError
done_by (Ok x) = Ok x
done_by (Err e) = Err (fs_error_of e)

abbrev pub filed : Result Handle DiskError → Result LocalFsFile FsError
filed (Ok h) = Ok (record { handle = h })
filed (Err e) = Err (fs_error_of e)

-- The metadata of an open file is what the disk says of its handle.
abbrev pub AsksMeta : DiskState → ℕ → Result LocalFsMetaData FsError → DiskState → Type 0
AsksMeta s h result t = (answer : Result Meta DiskError) × FileMetas s h answer t × (result ≡ said_by answer)

-- A seek and a read are those of the disk, each one call.
abbrev pub sought : ℕ → Result Unit DiskError → Result ℕ FsError
sought place (Ok x) = Ok place
sought place (Err e) = Err (fs_error_of e)

abbrev pub AsksSeek : DiskState → ℕ → ℕ → Result ℕ FsError → DiskState → Type 0
AsksSeek s h place result t = (answer : Result Unit DiskError) × Seeks s h place answer t
    × (result ≡ sought place answer)

abbrev pub counted : Result ℕ DiskError → Result ℕ FsError
counted (Ok n) = Ok n
counted (Err e) = Err (fs_error_of e)

abbrev pub AsksRead : DiskState → ℕ → List ℕ → Result ℕ FsError → DiskState → Type 0
AsksRead s h buffer result t = (answer : Result ℕ DiskError) × Reads s h buffer answer t × (result ≡ counted answer)

abbrev pub seen_by : LocalFsFile → DiskState → Option Seen
seen_by f s = seen_at s f.handle.0
