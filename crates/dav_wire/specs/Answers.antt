-- The bytes of answers: HTTP/1.1, a status and its phrase, the fields, an empty line (RFC 9112, sections 4 and 5).
use Rattle.std.specs.Prelude.{ℕ, ◌+◌, ◌/◌, ◌%◌, Bool, ◌&&◌, not, if◌then◌else◌, ◌==◌, List, [], ◌∷◌, ◌++◌, codes, bytes_eq, take, drop}
use Rattle.std.specs.List.{flat_map, list_any}
use Rattle.std.specs.Ordering.{nat_cmp, is_gt}
use Rattle.std.specs.Cmp.Lexicographic.{slice_cmp}
use Rattle.dav_io.specs.declared.fields.Field.{Field}
use Rattle.dav_wire.specs.declared.chunks.Framing.{Framing}
use Rattle.dav_wire.specs.declared.chunks.Framing.TheVariants.{Raw, Chunked}
use Rattle.dav_wire.specs.declared.next.Flaw.{Flaw}
use Rattle.dav_wire.specs.declared.next.Flaw.TheVariants.{Malformed, TooLarge}

-- the phrase of a status; another number has none
unfoldable pub phrase : ℕ → List ℕ
phrase n =
    if n == 200 then codes "OK" else (
    if n == 201 then codes "Created" else (
    if n == 204 then codes "No Content" else (
    if n == 206 then codes "Partial Content" else (
    if n == 302 then codes "Found" else (
    if n == 304 then codes "Not Modified" else (
    if n == 400 then codes "Bad Request" else (
    if n == 403 then codes "Forbidden" else (
    if n == 404 then codes "Not Found" else (
    if n == 405 then codes "Method Not Allowed" else (
    if n == 409 then codes "Conflict" else (
    if n == 412 then codes "Precondition Failed" else (
    if n == 413 then codes "Payload Too Large" else (
    if n == 414 then codes "URI Too Long" else (
    if n == 415 then codes "Unsupported Media Type" else (
    if n == 416 then codes "Range Not Satisfiable" else (
    if n == 500 then codes "Internal Server Error" else (
    if n == 501 then codes "Not Implemented" else (
    if n == 502 then codes "Bad Gateway" else (
    if n == 507 then codes "Insufficient Storage" else (
    if n == 508 then codes "Loop Detected" else []))))))))))))))))))))

-- a decimal digit, as ASCII
abbrev pub digit : ℕ → ℕ
digit n = 48 + n % 10

-- the three digits of a status; of a longer number the last three
abbrev pub three_digits : ℕ → List ℕ
three_digits n = digit (n / 100) ∷ digit (n / 10) ∷ digit n ∷ []

abbrev pub status_line : ℕ → List ℕ
status_line status = codes "HTTP/1.1 " ++ (three_digits status ++ (codes " " ++ (phrase status ++ codes "\r\n")))

abbrev pub field_line : Field → List ℕ
field_line field = field.name ++ (codes ": " ++ (field.value ++ codes "\r\n"))

abbrev pub field_lines : List Field → List ℕ
field_lines fields = flat_map field_line fields

-- the field `connection: close`
abbrev pub close_field : Field
close_field = record { name = codes "connection"; value = codes "close" }

abbrev pub is_close_field : Field → Bool
is_close_field field = bytes_eq field.name (codes "connection") && bytes_eq field.value (codes "close")

abbrev pub has_close_field : List Field → Bool
has_close_field fields = list_any is_close_field fields

-- the field `transfer-encoding: chunked`
abbrev pub chunked_field : Field
chunked_field = record { name = codes "transfer-encoding"; value = codes "chunked" }

-- How many fields stand before the first whose name comes after this one. Names are in the order of their bytes.
abbrev pub place : List ℕ → List Field → ℕ
place name [] = 0
place name (field ∷ fields) = if is_gt (slice_cmp nat_cmp field.name name) then 0 else place name fields + 1

-- the fields and one more, where its name belongs
abbrev pub with_field : Field → List Field → List Field
with_field added fields = take (place added.name fields) fields ++ added ∷ drop (place added.name fields) fields

-- Where the answer closes and doesn't say so, that is added.
abbrev pub with_close : Bool → List Field → List Field
with_close closing fields = if closing && not (has_close_field fields) then with_field close_field fields else fields

-- Where the body is written in chunks, that is said.
abbrev pub with_framing : Framing → List Field → List Field
with_framing Raw fields = fields
with_framing Chunked fields = with_field chunked_field fields

-- the fields of an answer as they are written
abbrev pub written_fields : Bool → Framing → List Field → List Field
written_fields closing framing fields = with_framing framing (with_close closing fields)

-- the head of an answer
abbrev pub head_text : ℕ → List Field → Bool → Framing → List ℕ
head_text status fields closing framing =
    status_line status ++ (field_lines (written_fields closing framing fields) ++ codes "\r\n")

-- what answers a request that can't be read
abbrev pub bad_request_text : List ℕ
bad_request_text = codes "HTTP/1.1 400 Bad Request\r\nconnection: close\r\ncontent-length: 0\r\n\r\n"

-- what answers a request whose body is too long
abbrev pub too_large_text : List ℕ
too_large_text = codes "HTTP/1.1 413 Payload Too Large\r\nconnection: close\r\ncontent-length: 0\r\n\r\n"

-- what answers a request that can't be one
abbrev pub refusal_text : Flaw → List ℕ
refusal_text Malformed = bad_request_text
refusal_text TooLarge = too_large_text
