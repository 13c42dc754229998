-- What a hold of a lock does to what it keeps, and what a call asks of a disk between its holds.
use Rattle.std.specs.Prelude.{◌≡◌, ◌⊎◌, Bool, true, false, List, Result}
use Rattle.dav_io.specs.declared.clock.Moment.{Moment}
use Rattle.dav_core.specs.declared.handle.Handle.{Handle}
use Rattle.dav_core.specs.declared.handle.Meta.{Meta}
use Rattle.dav_core.specs.declared.handle.DiskError.{DiskError}
use Rattle.dav_core.specs.Disk.{DiskState, Metas, Opens}
use Rattle.dav_core.specs.Writing.{reading}
use Rattle.dav_memory.specs.declared.sealed.Sealed.{Sealed}
use Rattle.dav_memory.specs.declared.sealed.Sealed.TheVariants.{Done}
use Rattle.dav_memory.specs.declared.key.DuKey.{DuKey}
use Rattle.dav_memory.specs.Trees.{Name, Names, FileTime, fold_path}
use Rattle.dav_memory.specs.Entries.{DotCache}
use Rattle.dav_memory.specs.Calls.{Seals}

-- A listing is sealed where it is of the folder of the cache, and else nothing is done.
abbrev pub SealsFor : Bool → DotCache → DuKey → FileTime → Moment → List Name → Sealed → DotCache → Type 0
SealsFor true old dir time now names result new = Seals old dir time now names result new
SealsFor false old dir time now names result new = (result ≡ Done) × (new ≡ old)

-- an opening of a path for reading
abbrev pub OpensToRead : DiskState → Names → Result Handle DiskError → DiskState → Type 0
OpensToRead before path answer after = Opens before path reading answer after

-- The disk was asked nothing, or one such call at a path that folds like this one.
abbrev pub AsksFor : {A : Type 0} → (DiskState → Names → Result A DiskError → DiskState → Type 0) → Names → DiskState
    → DiskState → Type 0
AsksFor call path before after = (after ≡ before)
    ⊎ ((at : Names) × (answer : Result _ DiskError) × (fold_path at ≡ fold_path path) × call before at answer after)

-- The disk was asked nothing, or one look at the directory.
abbrev pub LooksAt : Names → DiskState → DiskState → Type 0
LooksAt dir before after = (after ≡ before) ⊎ ((answer : Result Meta DiskError) × Metas before dir answer after)
