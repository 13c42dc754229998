-- How the body of an answer is written (RFC 9112, section 6).
use Rattle.std.specs.Prelude.{ℕ, Bool, true, false, ◌&&◌, ◌||◌, not, ◌==◌, if◌then◌else◌, List, bytes_eq, codes}
use Rattle.std.specs.List.{list_any}
use Rattle.http.specs.declared.request.Parts.{Parts}
use Rattle.http.specs.declared.version.Version.{Version}
use Rattle.http.specs.declared.version.Http.TheVariants.{Http11}
use Rattle.dav_io.specs.declared.fields.Field.{Field}
use Rattle.dav_wire.specs.declared.chunks.Framing.{Framing}
use Rattle.dav_wire.specs.declared.chunks.Framing.TheVariants.{Raw, Chunked}

-- HTTP/1.1
abbrev pub is_eleven : Version → Bool
is_eleven version = elim version.0 [ Http11 ↦ true | _ ↦ false ]

-- Whether the answer to a request may be written in chunks: a client of version 1.0 knows none, and the answer to a
-- HEAD has no body.
abbrev pub takes_chunks : Parts → Bool
takes_chunks parts = is_eleven parts.version && not (bytes_eq parts.method (codes "HEAD"))

abbrev pub has_length : List Field → Bool
has_length fields = list_any (λ field. bytes_eq field.name (codes "content-length")) fields

-- an answer of this status has no body
abbrev pub is_bodiless : ℕ → Bool
is_bodiless status = status == 204 || status == 304

-- How the body of an answer is written: in chunks where the request takes them, there is a body, and no field gives its
-- length.
abbrev pub framing : Bool → ℕ → List Field → Framing
framing chunks status fields = if chunks && (not (is_bodiless status) && not (has_length fields)) then Chunked else Raw
