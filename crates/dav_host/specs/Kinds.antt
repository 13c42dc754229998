-- What the machine's metadata says to a disk.
use Rattle.std.specs.Prelude.{◌≡◌, ◌==◌, not, bit_and, Option, None, Some, Result, Ok, Err}
use Rattle.std.specs.declared.fs.attrs.FileType.{FileType}
use Rattle.std.specs.declared.fs.attrs.Metadata.{Metadata}
use Rattle.std.specs.Fs.{IsDir, IsFile, IsSymlink, file_type, metadata_len, metadata_mode}
use Rattle.dav_core.specs.declared.tree.Kind.{Kind}
use Rattle.dav_core.specs.declared.tree.Kind.TheVariants.{Dir, File, Link}
use Rattle.dav_core.specs.declared.handle.DiskError.{DiskError}
use Rattle.dav_core.specs.declared.handle.DiskError.TheVariants.{Failed}
use Rattle.dav_core.specs.declared.handle.Meta.{Meta}

-- the kind of what has this type; none where a disk has no kind for it
abbrev pub IsKind : FileType → Option Kind → Type 0
IsKind type None = (IsDir type → ⊥) × (IsSymlink type → ⊥) × (IsFile type → ⊥)
IsKind type (Some Dir) = IsDir type
IsKind type (Some Link) = IsSymlink type
IsKind type (Some File) = IsFile type

-- Metadata is told where a disk has a kind for it. The owner may run what has bit 0o100 of its mode set.
pub record IsToldOf (found : Metadata) (meta : Meta) : Type 0 where
  pub kind : IsKind (file_type found) (Some meta.kind)
  pub len : meta.len ≡ metadata_len found
  pub exec : meta.exec ≡ not (bit_and (metadata_mode found) 64 == 0)

abbrev pub Tells : Metadata → Result Meta DiskError → Type 0
Tells found (Err e) = IsKind (file_type found) None × (e ≡ Failed)
Tells found (Ok meta) = IsToldOf found meta
