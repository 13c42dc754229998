-- What calls of a store make of a told world, by what the tree allows.
use Rattle.std.specs.Prelude.{◌≡◌, ◌+◌, ℕ, List, length, take, Bool, true, false, Option, Some, Result, Ok, Err}
use Rattle.dav_core.specs.declared.error.FsError.{FsError}
use Rattle.dav_core.specs.declared.error.FsError.TheVariants.{GeneralFailure, NoMemory}
use Rattle.dav_core.specs.declared.tree.Row.{Row}
use Rattle.dav_core.specs.Allowed.{Allowed, opening}
use Rattle.dav_core.specs.Disk.{Live, at_start}
use Rattle.dav_core.specs.Edits.{Edit, Edited, EditedBy, fills}
use Rattle.dav_core.specs.Path.{Names}
use Rattle.dav_core.specs.Tree.{row_at}
use Rattle.dav_core.specs.World.{OpenFile, SameBesidesOpens, World, bytes_of}
use Rattle.dav_core.specs.Writing.{LeftBy, written}
use Rattle.dav_upload.specs.Pieces.{upload_options}

-- a fault, or want of memory
abbrev pub is_spoiled : FsError → Bool
is_spoiled GeneralFailure = true
is_spoiled NoMemory = true
is_spoiled e = false

-- A call does what is allowed. Refused for a fault or want of memory it may leave a part of it, and else nothing.
abbrev pub EndsAs : Allowed → Result Unit FsError → World → World → Type 0
EndsAs allowed (Ok x) v w = (edit : Option Edit) × (allowed ≡ Ok edit) × EditedBy edit v w
EndsAs allowed (Err e) v w = LeftBy (is_spoiled e) allowed v w

-- A file to be uploaded to is opened at its first byte, where it may be, and its handle is of what stands there; a
-- refused opening changes nothing.
abbrev pub MakesFile : {F : Type 0} → (F → ℕ) → (ℕ → Option Live) → Names → Result F FsError → World → World → Type 0
MakesFile handle live path (Ok f) v w = (edit : Option Edit) × (row : Row)
    × (opening v.tree path upload_options ≡ Ok edit) × EditedBy edit v w × (row_at w.tree path ≡ Some row)
    × (w.opens (handle f) ≡ Some (at_start row.number)) × ((l : Live) → live (handle f) ≡ Some l → l.kind ≡ row.kind)
MakesFile handle live path (Err e) v w = SameBesidesOpens v w

-- Bytes were written from the file's place on, which is behind them now; or a front of them.
abbrev pub WritesAt : ℕ → List ℕ → Result Unit FsError → OpenFile → World → World → Type 0
WritesAt h bytes (Ok x) o v w = Edited (fills o.number (written o.place bytes (bytes_of v o.number))) v w
    × (w.opens h ≡ Some (record o { place = o.place + length bytes }))
WritesAt h bytes (Err e) o v w = (n : ℕ) × (now : OpenFile)
    × Edited (fills o.number (written o.place (take n bytes) (bytes_of v o.number))) v w
    × (w.opens h ≡ Some now) × (now.number ≡ o.number)
