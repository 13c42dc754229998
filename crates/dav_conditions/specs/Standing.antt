-- What stands at a path, from what metadata says.
use Rattle.std.specs.Prelude.{Bool, true, false, Option, None, Some}
use Rattle.dav_core.specs.Info.{Info}
use Rattle.dav_core.specs.declared.etag.ETag.{ETag}
use Rattle.dav_core.specs.declared.time.FileTime.{FileTime}
use Rattle.dav_model.specs.Conditions.{strong}

-- whether anything stands there
abbrev pub stands : Option Info → Bool
stands None = false
stands (Some info) = true

-- its entity tag
abbrev pub tag_of : Option Info → Option ETag
tag_of None = None
tag_of (Some info) = strong info.tag

-- the time of its last change
abbrev pub time_of : Option Info → Option FileTime
time_of None = None
time_of (Some info) = info.modified

-- whether a tag, where there is one, equals another
abbrev pub is_equal : (ETag → ETag → Bool) → Option ETag → ETag → Bool
is_equal equal None other = false
is_equal equal (Some tag) other = equal tag other
