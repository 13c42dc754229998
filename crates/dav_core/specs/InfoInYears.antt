-- Every time of metadata lies in the years that can be shown: a law that the types of metadata cite.
use Rattle.std.specs.Prelude.{◌≡◌, true, refl, ℕ, ◌+◌, ◌*◌, ◌/◌, nat_lt, Bool, false, List, ◌++◌, codes, ℤ, pos, negsuc, Option, None, Some, Result, Ok, Err, if◌then◌else◌}
use Rattle.std.proofs.Common.{sym, ap, ◌∙◌}
use Rattle.std.specs.Fmt.{digits}
use Rattle.dav_core.specs.declared.error.FsError.{FsError}
use Rattle.dav_core.specs.declared.error.FsError.TheVariants.{NotImplemented}
use Rattle.dav_core.specs.declared.handle.Meta.{Meta}
use Rattle.dav_core.specs.declared.time.FileTime.{FileTime}
use Rattle.dav_core.specs.declared.tree.Kind.{Kind}
use Rattle.dav_core.specs.declared.tree.Kind.TheVariants.{Dir, File, Link}
use Rattle.dav_core.specs.Info.{Info, said, is_in_years, known_time, known, whole_secs, natural, micros, hex, tag_at, tag_of, runs, info_of, IsInYears, AreInYears}

or_unknown : (b : Bool) (time shown : FileTime) → is_in_years time.secs ≡ b → (if b then Some time else None)
    ≡ Some shown → is_in_years shown.secs ≡ true
or_unknown true time shown in_years e = let same : time ≡ shown = cc in ap (λ (t : FileTime). is_in_years t.secs)
    (sym same) ∙ in_years
or_unknown false time shown in_years e = cc

known_in_years : (time : Option FileTime) → IsInYears (known time)
known_in_years None shown e = cc
known_in_years (Some time) shown e = or_unknown (is_in_years time.secs) time shown refl e

whole_in_years : (time : Option FileTime) → IsInYears time → IsInYears (whole_secs time)
whole_in_years None known shown e = cc
whole_in_years (Some time) known shown e = let same : record time { nanos = 0 } ≡ shown = cc
    in ap (λ (t : FileTime). is_in_years t.secs) (sym same) ∙ known time refl

-- those of a disk's metadata do
pub info_in_years : (m : Meta) → AreInYears (info_of m)
info_in_years m = record {
  modified = known_in_years m.modified;
  created = known_in_years m.created;
  accessed = known_in_years m.accessed;
  changed = whole_in_years (known m.changed) (known_in_years m.changed);
}
