-- The bytes of a text.
use Rattle.std.specs.Prelude.{ℕ, List, string_bytes, codes}
use Rattle.dav_io.specs.declared.text.Characters.{Characters}
use Rattle.dav_io.specs.declared.text.Characters.TheVariants.{Own, Known}
use Rattle.dav_io.specs.declared.field_name.FieldName.{FieldName}
use Rattle.dav_io.specs.declared.field_name.FieldName.TheVariants.{AcceptRanges, Connection, ContentLength, ContentRange, ContentType, Etag, LastModified, Location}

abbrev pub spelled : FieldName → List ℕ
spelled AcceptRanges = codes "accept-ranges"
spelled Connection = codes "connection"
spelled ContentLength = codes "content-length"
spelled ContentRange = codes "content-range"
spelled ContentType = codes "content-type"
spelled Etag = codes "etag"
spelled LastModified = codes "last-modified"
spelled Location = codes "location"

abbrev pub bytes_of : Characters → List ℕ
bytes_of (Own text) = string_bytes text
bytes_of (Known name) = spelled name
