-- What metadata says of what stands at a path, and the rule by which a disk's metadata says it.
use Rattle.std.specs.Prelude.{◌≡◌, true, refl, ℕ, ◌+◌, ◌*◌, ◌/◌, nat_lt, Bool, false, List, ◌++◌, codes, ℤ, pos, negsuc, Option, None, Some, Result, Ok, Err, if◌then◌else◌}
use Rattle.std.proofs.Common.{sym, ap, ◌∙◌}
use Rattle.std.specs.Fmt.{digits}
use Rattle.dav_core.specs.declared.error.FsError.{FsError}
use Rattle.dav_core.specs.declared.error.FsError.TheVariants.{NotImplemented}
use Rattle.dav_core.specs.declared.handle.Meta.{Meta}
use Rattle.dav_core.specs.declared.time.FileTime.{FileTime}
use Rattle.dav_core.specs.declared.tree.Kind.{Kind}
use Rattle.dav_core.specs.declared.tree.Kind.TheVariants.{Dir, File, Link}

-- A length in bytes; each time where it is known; whether it may be run, where that is asked of a file; the text of its
-- entity tag, where it has one.
pub record Info : Type 0 where
  pub kind : Kind
  pub len : ℕ
  pub modified : Option FileTime
  pub created : Option FileTime
  pub accessed : Option FileTime
  pub changed : Option FileTime
  pub exec : Option Bool
  pub tag : Option (List ℕ)

-- what is said, or that it isn't
abbrev pub said : {A : Type 0} → Option A → Result A FsError
said None = Err NotImplemented
said (Some a) = Ok a

-- whole seconds from 1970 to the end of the year 9999
abbrev pub is_in_years : ℤ → Bool
is_in_years (pos secs) = nat_lt secs 253402300800
is_in_years (negsuc n) = false

-- A time before 1970 or after 9999 is unknown.
abbrev pub known_time : FileTime → Option FileTime
known_time time = if is_in_years time.secs then Some time else None

abbrev pub known : Option FileTime → Option FileTime
known None = None
known (Some time) = known_time time

-- in whole seconds
abbrev pub whole_secs : Option FileTime → Option FileTime
whole_secs None = None
whole_secs (Some time) = Some (record time { nanos = 0 })

abbrev pub natural : ℤ → ℕ
natural (pos n) = n
natural (negsuc n) = 0

-- whole microseconds since 1970
abbrev pub micros : FileTime → ℕ
micros time = natural time.secs * 1000000 + time.nanos / 1000

-- lower-case hexadecimal without leading zeros
abbrev pub hex : ℕ → List ℕ
hex n = digits 16 false n

-- The text of the entity tag: number, length and time of a file, number and time of all else.
abbrev pub tag_at : Kind → ℕ → ℕ → FileTime → List ℕ
tag_at Dir number len time = hex number ++ (codes "-" ++ hex (micros time))
tag_at File number len time = hex number ++ (codes "-" ++ (hex len ++ (codes "-" ++ hex (micros time))))
tag_at Link number len time = hex number ++ (codes "-" ++ hex (micros time))

abbrev pub tag_of : Kind → ℕ → ℕ → Option FileTime → Option (List ℕ)
tag_of kind number len None = None
tag_of kind number len (Some time) = Some (tag_at kind number len time)

-- Whether it may be run is asked of files alone.
abbrev pub runs : Kind → Bool → Option Bool
runs Dir exec = None
runs File exec = Some exec
runs Link exec = None

abbrev pub info_of : Meta → Info
info_of m = record {
  kind = m.kind;
  len = m.len;
  modified = known m.modified;
  created = known m.created;
  accessed = known m.accessed;
  changed = whole_secs (known m.changed);
  exec = runs m.kind m.exec;
  tag = tag_of m.kind m.number m.len (known m.modified);
}

-- a time, where it is known, lies in the years that can be shown
abbrev pub IsInYears : Option FileTime → Type 0
IsInYears known = (time : FileTime) → known ≡ Some time → is_in_years time.secs ≡ true

-- Every time that metadata says lies in the years that can be shown.
pub record AreInYears (info : Info) : Type 0 where
  pub modified : IsInYears info.modified
  pub created : IsInYears info.created
  pub accessed : IsInYears info.accessed
  pub changed : IsInYears info.changed
