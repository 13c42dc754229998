-- Which body the head of a request announces (RFC 9112, section 6.3), by its version and its fields. The values of
-- fields are those that a head's reader keeps, without blanks at their ends.
use Rattle.std.specs.Prelude.{ℕ, Bool, ◌&&◌, nat_lt, if◌then◌else◌, List, [], ◌∷◌, length, map, codes, bytes_eq}
use Rattle.std.specs.Char.{is_ascii_digit}
use Rattle.std.specs.List.{list_all}
use Rattle.std.specs.Str.Parse.{digits_value}
use Rattle.http.specs.declared.request.Parts.{Parts}
use Rattle.http.specs.declared.version.Version.{Version}
use Rattle.http_header.specs.FieldValue.{FieldValue}
use Rattle.http_header.specs.HeaderMap.{Entries, append_all}
use Rattle.http_header.specs.Token.{lowercase}
use Rattle.httparse.specs.Grammar.{RequestHead}
use Rattle.dav_wire.specs.Fields.{values_of}
use Rattle.dav_wire.specs.Framing.{is_eleven}
use Rattle.dav_wire.specs.Heads.{kept_field, version_of}
use Rattle.dav_wire.specs.declared.announcing.Announced.{Announced}
use Rattle.dav_wire.specs.declared.announcing.Announced.TheVariants.{Nothing, Sized, InChunks, Unclear}

-- 1 to 19 decimal digits
abbrev pub is_length : List ℕ → Bool
is_length text = (nat_lt 0 (length text) && nat_lt (length text) 20) && list_all is_ascii_digit text

-- `chunked`, in any case
abbrev pub is_chunked : List ℕ → Bool
is_chunked text = bytes_eq (lowercase text) (codes "chunked")

-- The body by the values of the fields `transfer-encoding` and `content-length`, in this order. Several lengths are the
-- same text. A transfer encoding stands alone, without a length beside it, and in version 1.1.
abbrev pub body_by : Bool → List (List ℕ) → List (List ℕ) → Announced
body_by eleven [] [] = Nothing
body_by eleven [] (size ∷ sizes) =
    if is_length size && list_all (bytes_eq size) sizes then Sized (digits_value 10 size) else Unclear
body_by eleven (coding ∷ []) [] = if eleven && is_chunked coding then InChunks else Unclear
body_by eleven (coding ∷ []) (size ∷ sizes) = Unclear
body_by eleven (coding ∷ other ∷ codings) sizes = Unclear

-- the body by a version and fields
abbrev pub announced_in : Version → Entries FieldValue → Announced
announced_in version fields =
    body_by (is_eleven version) (values_of fields (codes "transfer-encoding"))
    (values_of fields (codes "content-length"))

-- the body that the parts of a head announce
abbrev pub announced_by : Parts → Announced
announced_by parts = announced_in parts.version parts.headers

-- the body that a head of the grammar announces
abbrev pub announces : RequestHead → Announced
announces head = announced_in (version_of head.minor) (append_all [] (map kept_field head.fields))
