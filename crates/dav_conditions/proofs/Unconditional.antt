-- Where no name begins as those of preconditions do, there is no precondition.
use Rattle.std.proofs.Common.{◌≡◌, Bool, false, codes, Option, None, Some, refl}
use Rattle.std.specs.List.{list_any}
use Rattle.http_header.specs.HeaderMap.{keys}
use Rattle.dav_core.specs.Info.{Info}
use Rattle.dav_core.specs.declared.etag.ETag.{ETag}
use Rattle.dav_core.specs.declared.method.DavMethod.{DavMethod}
use Rattle.dav_core.specs.declared.time.FileTime.{FileTime}
use Rattle.dav_model.specs.Conditions.{Fields, condition_of, date_in, is_refused, list_in}
use Rattle.dav_model.proofs.NoneUnder.{none_under}
use Rattle.dav_conditions.specs.Names.{begins_with_if, has_refusing_name}

-- where none is as those that refuse, nothing is refused
pub unrefused : (fields : Fields) (stands : Bool) (tag : Option ETag) (time : Option FileTime) → list_any has_refusing_name (keys fields) ≡ false
    → is_refused (list_in fields (codes "if-match")) (date_in fields (codes "if-unmodified-since")) stands tag time ≡ false
unrefused fields stands tag time free =
    rw (
      none_under has_refusing_name fields (codes "if-match") free refl,
      none_under has_refusing_name fields (codes "if-unmodified-since") free refl,
    ) refl

pub unconditional : (method : DavMethod) (fields : Fields) (info : Option Info) → list_any begins_with_if (keys fields) ≡ false → condition_of method fields info ≡ None
unconditional method fields None free =
    rw (
      none_under begins_with_if fields (codes "if-match") free refl,
      none_under begins_with_if fields (codes "if-unmodified-since") free refl,
      none_under begins_with_if fields (codes "if-none-match") free refl,
      none_under begins_with_if fields (codes "if-modified-since") free refl,
    ) refl
unconditional method fields (Some info) free =
    rw (
      none_under begins_with_if fields (codes "if-match") free refl,
      none_under begins_with_if fields (codes "if-unmodified-since") free refl,
      none_under begins_with_if fields (codes "if-none-match") free refl,
      none_under begins_with_if fields (codes "if-modified-since") free refl,
    ) refl
