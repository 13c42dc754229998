-- What a disk of the machine keeps.
use Rattle.std.specs.Prelude.{◌≡◌, ◌⊎◌, ℕ, zero, suc, List, [], ◌∷◌, ◌++◌, false, Option, None, Some}
use Rattle.std.specs.Option.{option_map}
use Rattle.std.specs.declared.io.ErrorKind.{ErrorKind}
use Rattle.std.specs.declared.io.ErrorKind.TheVariants as kind
use Rattle.dav_core.specs.declared.handle.DiskError.{DiskError}
use Rattle.dav_core.specs.declared.handle.DiskError.TheVariants.{NotFound, NotDir, NoMemory}
use Rattle.dav_core.specs.Path.{Names}
use Rattle.dav_core.specs.World.{World, IsWorld, at_key}
use Rattle.dav_core.specs.Disk.{Live, DiskState}
use Rattle.dav_host.specs.declared.opens.HostFile.{HostFile}
use Rattle.dav_host.specs.declared.opens.Opens.{Opens}
use Rattle.dav_io.specs.Outside.{Stream}

-- the most bytes of a path's text
abbrev pub room : ℕ
room = 8192

-- each name after a slash
abbrev pub below : Names → List ℕ
below [] = []
below (name ∷ names) = (47 ∷ name) ++ below names

-- the text of a path below a root
abbrev pub host_path : List ℕ → Names → List ℕ
host_path root names = root ++ below names

abbrev pub live_of : {F : Type 0} → HostFile F → Live
live_of f = record { kind = f.kind; how = f.how }

-- a table whose value at 0 stands beside the others
abbrev pub beside : {X : Type 0} → Option X → (ℕ → Option X) → ℕ → Option X
beside first others zero = first
beside first others (suc n) = others (suc n)

-- what is known of a live handle
unfoldable pub live_at : {F : Type 0} → Opens F → ℕ → Option Live
live_at opens = beside (option_map live_of opens.first) (λ h. option_map live_of (at_key opens.others h))

-- A disk that tells nothing keeps its counts, its live handles and its live listers.
abbrev pub untold : ℕ → ℕ → (ℕ → Option Live) → (ℕ → Option ℕ) → DiskState
untold faults asked live listers =
    record { told = None; faults = faults; asked = asked; whole = false; live = live; listers = listers }

-- what the machine's error is where a path is looked at or opened: one of two refusals of the walk, and else a fault
abbrev pub refusal_of : ErrorKind → Option DiskError
refusal_of kind.NotFound = Some NotFound
refusal_of kind.NotADirectory = Some NotDir
refusal_of _ = None

-- what it is where a directory is listed
abbrev pub list_refusal_of : ErrorKind → Option DiskError
list_refusal_of kind.OutOfMemory = Some NoMemory
list_refusal_of error = refusal_of error

-- the refusals of a walk
abbrev pub IsWalkRefusal : DiskError → Type 0
IsWalkRefusal e = (e ≡ NotFound) ⊎ (e ≡ NotDir)

-- the refusals of a listing of the machine
abbrev pub IsListRefusal : DiskError → Type 0
IsListRefusal e = IsWalkRefusal e ⊎ (e ≡ NoMemory)

-- nothing is told
pub never_told : (w : World) → None ≡ Some w → IsWorld w
never_told w e = cc

-- ---- streams of the machine

-- a stream that tells its counts alone
abbrev pub untold_stream : ℕ → ℕ → Stream
untold_stream faults asked = record { bytes = None; faults = faults; asked = asked }
