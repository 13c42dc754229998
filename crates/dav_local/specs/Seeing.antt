-- Calls at paths that are found by folding, where the call by which a path is found may be the one that is asked for.
use Rattle.std.specs.Prelude.{◌≡◌, Bool, true, false, Option, Some, Result, Ok}
use Rattle.dav_core.specs.declared.error.FsError.{FsError}
use Rattle.dav_core.specs.declared.handle.Handle.{Handle}
use Rattle.dav_core.specs.declared.handle.Meta.{Meta}
use Rattle.dav_core.specs.declared.handle.OpenOptions.{OpenOptions}
use Rattle.dav_core.specs.Disk.{DiskState, Opens}
use Rattle.dav_core.specs.Info.{Info}
use Rattle.dav_core.specs.Writing.{reading}
use Rattle.dav_core.specs.Path.{Names}
use Rattle.dav_core.specs.Unchanged.{Keeps}
use Rattle.dav_store.specs.Frames.{IsOpened}
use Rattle.dav_local.specs.declared.file.LocalFsFile.{LocalFsFile}
use Rattle.dav_local.specs.Calls.{AfterFound, Asks, LooksAt}
use Rattle.dav_local.specs.Files.{filed, looked_as}
use Rattle.dav_local.specs.Places.{Place}
use Rattle.dav_local.specs.Standing.{seen_at}
use Rattle.dav_local.specs.Walking.{Walks}
use Rattle.dav_local.specs.Ways.{is_judged}

-- A path is found by folding, and a call follows at the place found.
abbrev pub FindsAlike : {T : Type 0} → Place → Names → (Names → Place → Result T FsError → Place → Type 0)
    → Result T FsError → Place → Type 0
FindsAlike p names call result q = (found : Result Names FsError) × (m : Place) × Walks p names found m
    × AfterFound found m call result q

-- an opening at the place found, as a store answers it
abbrev pub OpensAt : OpenOptions → Names → Place → Result LocalFsFile FsError → Place → Type 0
OpensAt how at p result q = Asks (λ s answer t. Opens s at how answer t) filed p result q

-- What was found was opened for reading. Where nothing was found, nothing changed.
abbrev pub OpensThere : DiskState → Result (Option (Names × Handle)) FsError → DiskState → Type 0
OpensThere s (Ok (Some f)) t = IsOpened reading s f.1.0 (seen_at t f.1.0) t
OpensThere s found t = Keeps s t

-- What a look answers after something was seen at a place: that, with nothing asked, or what those rules say.
pub record AnswersSeen (at : Names) (meta : Meta) (slash : Bool) (p : Place) (result : Result Info FsError) (q : Place)
    : Type 0 where
  pub judged : is_judged p.ways at ≡ true → LooksAt true slash at p result q
  pub seen : is_judged p.ways at ≡ false → (result ≡ looked_as slash (Ok meta)) × (q ≡ p)
