-- What an entry of a listing answers: what the listing read, without the disk, or what the disk says now.
use Rattle.std.specs.Prelude.{◌≡◌, Result}
use Rattle.dav_core.specs.declared.error.FsError.{FsError}
use Rattle.dav_core.specs.declared.handle.DiskError.{DiskError}
use Rattle.dav_core.specs.declared.handle.Meta.{Meta}
use Rattle.dav_core.specs.Disk.{DiskState, Metas}
use Rattle.dav_core.specs.Info.{Info}
use Rattle.dav_store.specs.Standing.{info_in}
use Rattle.dav_local.specs.declared.entry.EntryMeta.{EntryMeta}
use Rattle.dav_local.specs.declared.entry.EntryMeta.TheVariants.{Read, At}
use Rattle.dav_local.specs.declared.meta.LocalFsMetaData.{LocalFsMetaData}
use Rattle.dav_local.specs.Files.{local_info, said_by}

-- what an answer of the store says
abbrev pub said_info : Result LocalFsMetaData FsError → Result Info FsError
said_info answer = info_in local_info answer

abbrev pub Says : EntryMeta → DiskState → Result Info FsError → DiskState → Type 0
Says (Read answer) s result t = (result ≡ said_info answer) × (t ≡ s)
Says (At path) s result t = (answer : Result Meta DiskError) × Metas s path answer t
    × (result ≡ said_info (said_by answer))
